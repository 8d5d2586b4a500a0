use Rattle.pp_rig.proofs.Names.{◌∙◌, sym, whole_turn}
use Rattle.pp_rig.proofs.Marks.{not_in_turn, step_unmarked, third_unset}
use Rattle.pp_rig.proofs.rig.ShortTurn.may_be_marked.Goals as goal

pub returns-else-must_search : goal.returns-else-must_search
returns-else-must_search c = λ none p covered.
    let s = c.args.self.now in
    let m = c.args.marks.now in
    let impossible = sym c.must_search.ensures ∙ c.if-must_search.false in
    not_in_turn m (whole_turn s) impossible (step_unmarked m s.rest.slot s.pp (third_unset _ _ _ impossible)
    (c.is_target_marked.ensures none)) p covered
