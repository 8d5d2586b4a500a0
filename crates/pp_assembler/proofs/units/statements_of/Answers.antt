use Rattle.std.proofs.Common.{rules}
use Rattle.pp_assembler.specs.Meaning.{IsPerformed}
use Rattle.pp_assembler.proofs.Pairs.{performed_of_row, push_one}
use Rattle.pp_assembler.proofs.units.statements_of.Goals as goal
use Rattle.pp_assembler.proofs.units.statements_of.Goals.{in-Some+in_ok-push-in-Some, in-None}

pub loop-at-preserved : goal.loop-at-preserved
loop-at-preserved c =
    elim c.match-made.branch [
      | in-Some+in_ok-push-in-Some w ↦
          rw (w.statements-is, w.in_ok-push-in-Some.ensures.items)
          (push_one (IsPerformed c.args.lines.now c.args.rows.now) c.loop-at.statements.items w.in-Some.statement
          c.loop-at.invariant
          (performed_of_row c.args.lines.now c.args.rows.now c.loop-at.at _ c.in_ok-made.made w.in-Some.statement
          c.in_ok-made.ensures w.in-Some.is (search rules) (search rules)))
      | in-None w ↦ rw w.statements-is c.loop-at.invariant
    ]
