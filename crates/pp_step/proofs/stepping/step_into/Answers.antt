use Rattle.std.proofs.Common.{rules, ◌≡◌}
use Rattle.pp_step.proofs.Store.{leads_back}
use Rattle.pp_step.specs.{Step.pp_pairs, Step.pp_writes, View.old_values, View.over, View.pp_view}
use Rattle.pp_step.proofs.stepping.step_into.Goals as goal

pub returns-then-is_exchange : goal.returns-then-is_exchange
unfolding pp_writes
returns-then-is_exchange c =
    let old = pp_view c.args.pp.now c.args.memory.now c.args.channels.now c.args.central.now c.args.frame.now in
    let e = c.exchange_into.new in
    let new = pp_view e.pp c.args.memory.now c.args.channels.now e.central e.frame in
    let writes : new ≡ over old (pp_writes old) = search rules in
    let kept : pp_pairs e.back ≡ old_values old (pp_writes old) = search rules in
    search (rules, leads_back)
