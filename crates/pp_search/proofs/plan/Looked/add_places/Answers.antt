use Rattle.std.proofs.Common.{arith}
use Rattle.pp_search.proofs.Listed.{places_more}
use Rattle.pp_search.proofs.plan.Looked.add_places.Goals as goal

pub loop-k-preserved : goal.loop-k-preserved
loop-k-preserved c =
    let grows = c.add_place.ensures.grows in
    record {
      added = places_more c.add_place.new.self c.args.first c.loop-k.k c.place_at.result
          (λ k less. grows.0 _ (c.loop-k.invariant.added k less)) c.place_at.ensures.place c.add_place.ensures.added;
      grows = (λ p is. grows.0 p (c.loop-k.invariant.grows.0 p is), λ is. grows.1 (c.loop-k.invariant.grows.1 is));
    }

pub returns-clause-added : goal.returns-clause-added
returns-clause-added c = λ k less. c.loop-k.invariant.added k (omega (arith, less, c.loop-k-test.false))
