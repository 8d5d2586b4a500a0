use Rattle.std.proofs.Common.{length}
use Rattle.pp_step.specs.Step.{pp_pairs}
use Rattle.pp_step.proofs.Exchanged.{few_exchanged}
use Rattle.pp_step.proofs.package.exchange_into.Goals as goal

pub returns-clause-old_values : goal.returns-clause-old_values
unfolding pp_pairs
returns-clause-old_values c = λ cells channels. c.write_old_values.ensures.old_values cells channels c.args.next

pub returns-clause-at_most : goal.returns-clause-at_most
unfolding pp_pairs
returns-clause-at_most c = few_exchanged (length c.args.central.now) c.write_old_values.new.back c.write_old_values.ensures.fits
