-- What the marks of places say of a turn's undo record.
use Rattle.pp_rig.proofs.Names.{Bool, ℕ, true, false, ◌≡◌, ◌≤◌, ◌||◌, ◌+◌, [], ◌∷◌, List, None, length, refl, arith, nat_tests}
use Rattle.pp_rig.proofs.Names.{covers, Marks, Place, Writes, lookup, words_of, AllPlaces-append, marks_of, rest_pairs}
use Rattle.pp_rig.proofs.Names.{turn_pairs, TurnRecord, frame_pairs, pp_pairs, pp_place, Step}
use Rattle.pp_history.specs.Marks.{is_marked, is_set}
use Rattle.pp_machine.specs.{Writes.AllPlaces, WriteLaws.AllPlaces-renamed, Prelude.same_place}
use Rattle.pp_step.specs.{Exchange.word_pairs, Pairs.pairs_as, Pairs.target_pairs, declared.record.StepRecord.StepRecord}
use Rattle.pp_step.specs.{declared.record.ExchangeRecord.ExchangeRecord, declared.record.PpRecord.TheVariants.Exchange}
use Rattle.pp_rig.specs.Inner.Marks.{cell_mark, central_mark, register_mark, AreUnmarked}
use Rattle.pp_step.specs.declared.record.Target.TheVariants as target

-- an unmarked place is no marked place
lookup_unmarked : (m : Marks) (ws : Writes Place) (p : Place) → AllPlaces (λ q. is_marked m (marks_of q) ≡ false) ws →
    is_marked m (marks_of p) ≡ true → lookup ws p ≡ None
lookup_unmarked m [] p unmarked marked = refl
lookup_unmarked m (w ∷ ws) p unmarked marked = let other : same_place w.0 p ≡ false = grind (arith, nat_tests, unmarked.0) in
    rw other (lookup_unmarked m ws p unmarked.1 marked)

-- ---- cells and central words, by blocks

module _ (m : Marks) (n : ℕ) where
  pub cells_unmarked : (r : StepRecord) → is_set m (cell_mark n r.address) ≡ false → AreUnmarked m n (pairs_as target.Cells r)
  cells_unmarked r first = grind (arith, nat_tests)

  -- a central word at most fifteen behind another has that one's mark among its two
  pub words_unmarked : (size a i : ℕ) (ws : List ℕ) → i + length ws ≤ 16 → is_set m (central_mark a) ≡ false →
      AreUnmarked m n (word_pairs size a i ws)
  words_unmarked size a i [] at_most first = tt
  words_unmarked size a i (w ∷ ws) at_most first = grind (arith, nat_tests, words_unmarked size a (i + 1) ws)

  -- ---- a step: the registers of a processor have one mark, and frame words have none

  pub step_unmarked : (r : StepRecord) → is_set m (register_mark n) ≡ false → AreUnmarked m n (target_pairs r) →
      AreUnmarked m n (pp_pairs (Step r))
  unfolding pp_pairs
  step_unmarked r registers target = grind (arith, registers)

  frame_unmarked : (i : ℕ) (ws : List ℕ) → AreUnmarked m n (frame_pairs i ws)
  frame_unmarked i [] = tt
  frame_unmarked i (w ∷ ws) = (refl, frame_unmarked (i + 1) ws)

  pub exchange_unmarked : (x : ExchangeRecord) → is_set m (register_mark n) ≡ false →
      AreUnmarked m n (word_pairs (words_of x.size) x.central 0 x.words) → AreUnmarked m n (pp_pairs (Exchange x))
  unfolding pp_pairs
  exchange_unmarked x registers words =
      grind (arith, registers, AllPlaces-append (λ y. is_marked m (marks_of (pp_place n y)) ≡ false), frame_unmarked 0 x.registers)

-- ---- a turn

turn_unmarked : (m : Marks) (r : TurnRecord) → r.rest.are_devices_called ≡ false → AreUnmarked m r.rest.slot (pp_pairs r.pp) →
    AllPlaces (λ p. is_marked m (marks_of p) ≡ false) (turn_pairs r)
unfolding turn_pairs rest_pairs
turn_unmarked m r idle step = let U = λ (p : Place). is_marked m (marks_of p) ≡ false in
    grind (arith, nat_tests, AllPlaces-append U, AllPlaces-renamed (pp_place r.rest.slot) U (pp_pairs r.pp) step)

-- a record without a marked place has none that the marks cover
pub not_in_turn : (m : Marks) (r : TurnRecord) →
    (r.rest.are_devices_called || (m.has_unmarked || is_set m (register_mark r.rest.slot))) ≡ false →
    AreUnmarked m r.rest.slot (pp_pairs r.pp) → (p : Place) → covers marks_of m p ≡ true → lookup (turn_pairs r) p ≡ None
not_in_turn m r impossible step p covered = lookup_unmarked m (turn_pairs r) p (turn_unmarked m r (grind arith) step) (grind arith)

pub third_unset : (a b c : Bool) → (a || (b || c)) ≡ false → c ≡ false
third_unset true b c is = absurd (cc)
third_unset false true c is = absurd (cc)
third_unset false false c is = is
