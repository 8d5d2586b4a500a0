use Rattle.std.proofs.Common.{refl}
use Rattle.pp_history.specs.SessionValue.{after_back}
use Rattle.pp_search.proofs.Steps.{size_at}
use Rattle.pp_search.proofs.search.back_once.Goals as goal

pub comes_newest-requires-clause-has : goal.comes_newest-requires-clause-has
comes_newest-requires-clause-has c =
    let (v, at) = c.has_session_value.ensures in
    rw (size_at c.args.session.now c.back.new.self v (after_back v 1) at (c.in-Ok.ensures.moves v at) refl) c.requires.has

pub returns-clause-has : goal.returns-clause-has
returns-clause-has c =
    let (v, at) = c.has_session_value.ensures in
    rw (size_at c.args.session.now c.back.new.self v (after_back v 1) at (c.in-Ok.ensures.moves v at) refl) c.requires.has

pub returns-clause-came : goal.returns-clause-came
returns-clause-came c = λ v at. c.comes_newest.ensures (after_back v 1) (c.in-Ok.ensures.moves v at)
