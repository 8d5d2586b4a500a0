-- No action other than a turn writes a place twice.
use Rattle.pp_rig.proofs.Names.{◌≡◌, ◌≢◌, ℕ, ◌+◌, ◌<◌, ◌≤◌, ◌==◌, List, [], ◌∷◌, drop, length, true, refl, arith, Option, Some}
use Rattle.pp_rig.proofs.Names.{None, position, replicate, sym, ◌∙◌, All, Machine, Writes, places, Place, WatchEntry}
use Rattle.pp_rig.proofs.Names.{most_places, writes, without_entry, moved_up, watch_code, Action, deadstart_place_count}
use Rattle.pp_rig.proofs.Names.{deadstart_writes, deadstart_write_list, cell_writes, writes_from}
use Rattle.std.proofs.{Common.◌%◌, Common.zero-add, lemmas.List.Kept.AllPairs-cons}
use Rattle.std.proofs.{lemmas.List.FromFn.get_or-map-range_with_len, lemmas.List.get_or-replicate, lemmas.List.length-replicate}
use Rattle.std.proofs.{lemmas.List.Elements.All-nil, lemmas.List.Elements.All-cons}
use Rattle.std.specs.List.{AllPairs}
use Rattle.pp_machine.specs.{Prelude.same_place, declared.place.Place.TheVariants.Cell}
use Rattle.pp_machine.proofs.{DeviceLaws.same-self, Once.once, Once.each-once}
use Rattle.pp_rig.proofs.Deadstart.{places-deadstart, length-cell_writes, length-deadstart_write_list}
use Rattle.pp_actions.specs.declared.action.Action.TheVariants as action

abbrev EachOnce : Writes Place → Type 0
EachOnce w = AllPairs (λ one other. one ≢ other) (places w)

-- ---- consecutive places

-- a family of places in which any `room` consecutive ones differ
module _ (name : ℕ → Place) (room : ℕ) (apart : (i j : ℕ) → i < j → j < i + room → name i ≢ name j) where
  behind : (i j : ℕ) (vs : List ℕ) → i < j → j + length vs ≤ i + room →
      All (λ other. name i ≢ other) (places (writes_from name j vs))
  behind i j [] less at_most = All-nil (λ other. name i ≢ other)
  behind i j (v ∷ vs) less at_most = All-cons (λ other. name i ≢ other) (name j) (places (writes_from name (j + 1) vs))
      (apart i j less (omega arith)) (behind i (j + 1) vs (omega arith) (omega arith))

  listed-once : (i : ℕ) (vs : List ℕ) → length vs ≤ room → EachOnce (writes_from name i vs)
  listed-once i [] at_most = λ k l d less within. absurd (omega (arith, within))
  listed-once i (v ∷ vs) at_most = AllPairs-cons (λ one other. one ≢ other) (name i) (places (writes_from name (i + 1) vs))
      (behind i (i + 1) vs (omega arith) (omega arith))
      (listed-once (i + 1) vs (omega arith))

-- 4096 cells from any address on; cell 0 follows the last
cells-once : (n a : ℕ) (vs : List ℕ) → length vs ≤ 4096 → EachOnce (cell_writes n a vs)
cells-once n a vs at_most = listed-once (λ i. Cell n (i % 4096)) 4096 (λ i j less near. grind arith) a vs at_most

without_entry-once : (entries : List ℕ) (found : Option ℕ) → EachOnce (without_entry entries found)
without_entry-once entries None = λ i j d less within. absurd (omega (arith, within))
without_entry-once entries (Some i) = let codes = moved_up (drop (i + 1) entries) in
    listed-once WatchEntry (length codes) (λ k l less near. grind arith) i codes (omega arith)

-- ---- lists of known places

each : (w : Writes Place) → once same_place w ≡ true → EachOnce w
each = each-once same_place same-self

-- the panel does not reach the cell behind it
panel-once : (n : ℕ) → n < 13 → once same_place (deadstart_write_list (replicate n 0)) ≡ true
unfolding deadstart_write_list
panel-once n few = let test = λ (k : ℕ). once same_place (deadstart_write_list (replicate k 0)) in
    sym (get_or-map-range_with_len test 0 13 n n true few (zero-add n)) ∙ get_or-replicate 13 n true true few

deadstart-once : (panel : Option (List ℕ)) →
    length (deadstart_writes panel) ≤ deadstart_place_count → EachOnce (deadstart_writes panel)
deadstart-once None at_most = λ i j d less within. absurd (omega (arith, within))
deadstart-once (Some panel) at_most = let n = length panel in
    rw (places-deadstart panel (replicate n 0) (sym (length-replicate n 0)))
    (each (deadstart_write_list (replicate n 0)) (panel-once n (omega (arith, at_most, length-deadstart_write_list panel))))

-- ---- every action

pub written_once : (s : Machine) (done : Action) → done ≢ action.Turn →
    length (writes s done) ≤ most_places done → EachOnce (writes s done)
written_once s action.Turn other at_most = absurd (other refl)
written_once s (action.SetCells n a values) other at_most =
    cells-once n a values (omega (arith, at_most, length-cell_writes n a values))
written_once s (action.SetChannel c state None) other at_most = each (writes s (action.SetChannel c state None)) refl
written_once s (action.SetChannel c state (Some w)) other at_most = each (writes s (action.SetChannel c state (Some w))) refl
written_once s (action.Unwatch w) other at_most = without_entry-once s.watches (position (λ code. code == watch_code w) s.watches)
written_once s action.Deadstart other at_most = deadstart-once s.setup.panel at_most
written_once s done other at_most = each (writes s done) refl
