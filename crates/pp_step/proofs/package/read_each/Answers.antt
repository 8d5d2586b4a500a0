use Rattle.std.proofs.{Common.arith, lemmas.List.get_or_default}
use Rattle.pp_step.proofs.package.read_each.Goals as goal

pub returns-clause-value : goal.returns-clause-value
returns-clause-value c = λ k h. let (size, value, in_range) = c.loop-i.invariant in value k (omega arith)

pub returns-clause-in_range : goal.returns-clause-in_range
returns-clause-in_range c = λ k d h. let (size, value, in_range) = c.loop-i.invariant in
    rw (get_or_default c.loop-i.words k d 0 h) (in_range k (omega arith))
