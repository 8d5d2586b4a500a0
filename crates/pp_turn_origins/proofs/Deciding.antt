-- Which numbers rows name as deciding, and turns that write nothing.
use Rattle.std.proofs.Common.{◌≡◌, ℕ, ◌+◌, ◌≤◌, ◌==◌, true, false, List, [], ◌∷◌, ◌++◌, ap, ◌∙◌, arith, length, refl, take}
use Rattle.std.proofs.lemmas.List.{length-append, length-take-le}
use Rattle.pp_machine.specs.declared.place.Place.{Place}
use Rattle.pp_step.specs.{Codes.number_of, declared.code.Code.Code}
use Rattle.pp_step.specs.declared.code.Code.TheVariants as code
use Rattle.pp_origins.specs.{Links.links_of, Links.links_of_one, Rows.row_of, Step.decided}
use Rattle.pp_origins.specs.Origin.{Origins}
use Rattle.pp_origins.specs.declared.origin.{Link.Link, Operation.Operation, Read.Read}
use Rattle.pp_turn_origins.specs.Turn.{writes_nothing}

-- Q decides for no instruction
pub no_q : (k : Code) (n : ℕ) → decided (row_of (number_of k)).deciding.q n ≡ 0
no_q code.Psn n = refl
no_q _ n = refl

-- a place that is written has a link
some_link : (place : Place) (operation : Operation) (reads : List Read) → 1 ≤ length (links_of_one place operation reads)
some_link place operation [] = omega arith
some_link place operation (r ∷ rs) = omega arith

adds_none : (n k : ℕ) → k ≡ 0 → (n + k == n) ≡ true
adds_none n k h = grind (arith, h)

adds_some : (n k : ℕ) → 1 ≤ k → (n + k == n) ≡ false
adds_some n k h = grind (arith, h)

-- a turn without links writes nothing
without_links : (origins : Origins) (used : ℕ) → (used + length (links_of origins) == used) ≡ writes_nothing origins
without_links [] used = adds_none used 0 refl
without_links (w ∷ ws) used = adds_some used (length (links_of (w ∷ ws))) (omega (
  arith,
  length-append (links_of_one w.0 w.1.operation w.1.reads) (links_of ws),
  some_link w.0 w.1.operation w.1.reads,
))

pub waits : (links front : List Link) (origins : Origins) (used end : ℕ) → end ≤ length links →
    take end links ≡ front ++ links_of origins → length front ≡ used → (end == used) ≡ writes_nothing origins
waits links front origins used end within is count =
    let reached : end ≡ used + length (links_of origins) =
    omega (arith, length-take-le end links within, ap length is, length-append front (links_of origins), count) in
    ap (λ k. k == used) reached ∙ without_links origins used
