use Rattle.pp_search.proofs.plan.Looked.add_test.Goals as goal

pub returns-in-Changes-clause-added : goal.returns-in-Changes-clause-added
returns-in-Changes-clause-added c = rw c.in-Changes.is c.add_places.ensures.added

pub returns-in-Performs-clause-added : goal.returns-in-Performs-clause-added
returns-in-Performs-clause-added c =
    let second = c.add_place-in-Performs-2.ensures in
    rw c.in-Performs.is (second.grows.0 _ c.add_place-in-Performs.ensures.added, second.added)

pub returns-in-Performs-clause-grows : goal.returns-in-Performs-clause-grows
returns-in-Performs-clause-grows c =
    let first = c.add_place-in-Performs.ensures.grows in
    let second = c.add_place-in-Performs-2.ensures.grows in
    (λ p is. second.0 p (first.0 p is), λ is. second.1 (first.1 is))
