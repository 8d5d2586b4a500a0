use Rattle.std.proofs.Common.{◌≡◌, drop, fold, Some}
use Rattle.pp_meaning.specs.Meaning.{follow}
use Rattle.pp_meaning.specs.Standing.{standing}
use Rattle.pp_encoder.proofs.assembled.follow_all.Given as goal

abbrev pub invariant-loop-statement : goal.invariant-loop-statement
invariant-loop-statement l =
    fold (follow l.symbols l.literals l.blocks) (Some (standing l.state)) (drop l.statement-index l.statements)
    ≡ fold (follow l.symbols l.literals l.blocks) (Some (standing l.fn.state)) l.statements
