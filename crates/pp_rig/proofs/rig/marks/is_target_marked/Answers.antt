use Rattle.pp_rig.proofs.Names.{arith, nat_tests}
use Rattle.pp_rig.proofs.Marks.{cells_unmarked}
use Rattle.pp_rig.proofs.rig.marks.is_target_marked.Goals as goal

pub returns-in-Cell : goal.returns-in-Cell
returns-in-Cell c = λ none.
    grind (arith, nat_tests, none, c.in-Cell.is, cells_unmarked c.args.marks.now c.args.slot c.args.step.now)
