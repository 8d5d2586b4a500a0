use Rattle.pp_search.proofs.Owned.{memory_place}
use Rattle.pp_search.proofs.plan.owner_of_places.Goals as goal

pub returns-then-count-first : goal.returns-then-count-first
returns-then-count-first c = λ k less. memory_place c.args.first c.args.count k c.if-pp-lt10.true c.if-count-first.true less
