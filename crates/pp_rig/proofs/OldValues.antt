-- Undo records as lists, part by part.
use Rattle.pp_actions.proofs.WriteLists.{pair_lists}
use Rattle.pp_machine.proofs.PushedLists.{pushed_lists}

-- what lists of old values need
pub ruleset old_value_lists = (pair_lists, pushed_lists)
