use Rattle.pp_history.proofs.Names.{arith, refl}
use Rattle.pp_history.proofs.Repeats.{unmarked_without_places}
use Rattle.pp_history.proofs.repeatable.repeat_into.Goals as goal

pub returns : goal.returns
returns g c =
    let done = c.repeat_all.ensures in
    let unmarked = rw done.same_length at (unmarked_without_places g.T.Reversible g.T.Marked.marks_of c.args.marks.now
    c.if-marks.false
    g.T.Repeatable.repeated c.repeat_all.new.heads _ _ _ _ done.acted) in
    record {
      some = omega (arith, c.requires.some);
      same_length = done.same_length;
      left = refl;
      acted = done.acted;
      before = λ k less. unmarked k (omega (arith, less));
      all = λ none. (refl, unmarked);
    }
