-- Places and numbers of write lists.
use Rattle.std.specs.List.{flat_map, range_with_len}
use Rattle.std.proofs.Common.{arith, zero, suc, ap, ℕ, ◌≡◌, ◌+◌, ◌-◌, ◌<◌, ◌≤◌, false, List, [], ◌∷◌, ◌++◌, drop, take, get_or}
use Rattle.std.proofs.Common.{length, map, refl}
use Rattle.std.proofs.lemmas.{Grind.common_steps, List.drop_more}
use Rattle.pp_machine.specs.{NumberLaws.setup-over, Prelude.same_place, Prelude.old_values-append, declared.place.Write.Write}
use Rattle.pp_machine.specs.Prelude.{Machine, over, old_values, Has, number, Writes, places, write_list, write_list-append, lookup}
use Rattle.pp_machine.specs.{declared.place.Place.TheVariants.Cell, declared.place.Place.TheVariants.WatchEntry, Ranges.IsInRange}
use Rattle.pp_actions.specs.{Deadstart.waiting, WatchCodes.watch_code, declared.watched.Watched.Watched}
use Rattle.pp_actions.specs.Settings.{AreSettings, IsSetting, IsSetting-at, AreSettings-append, HasAll-settings}
use Rattle.pp_actions.specs.{declared.watched.Watched.TheVariants.RegA, RecordLists.numbers, RecordLists.with_new_numbers}
use Rattle.pp_machine.specs.declared.place.Place.{Place}
use Rattle.pp_actions.specs.WriteLists.{cell_writes, writes_from}

pub length-old_values : (m : Machine) (w : Writes Place) → length (old_values m w) ≡ length w
length-old_values m [] = refl
length-old_values m (pair ∷ w) = ap suc (length-old_values m w)

-- the places of a list, with the numbers of another list of the same places, are that other list
pub with_new_numbers-numbers : (w old_values : Writes Place) →
    places w ≡ places old_values → with_new_numbers w (numbers old_values) ≡ old_values
with_new_numbers-numbers [] [] e = refl
with_new_numbers-numbers (pair ∷ w) (old ∷ old_values) e = grind (arith, with_new_numbers-numbers w old_values cc)
with_new_numbers-numbers w old_values e = absurd (cc)

-- the places of cells from a on do not depend on the values
pub places-cell_writes : (n a : ℕ) (vs us : List ℕ) → length vs ≡ length us →
    places (cell_writes n a vs) ≡ places (cell_writes n a us)
places-cell_writes n a [] [] e = refl
places-cell_writes n a (v ∷ vs) (u ∷ us) e =
    ap (λ ps. places (cell_writes n a (v ∷ [])) ++ ps) (places-cell_writes n (a + 1) vs us (omega arith))
places-cell_writes n a vs us e = absurd (omega arith)

pub length-write_list : (ks : List Write) → length (write_list ks) ≡ length ks
length-write_list [] = refl
length-write_list (k ∷ ks) = ap suc (length-write_list ks)

pub numbers-append : (a b : Writes Place) → numbers (a ++ b) ≡ numbers a ++ numbers b
numbers-append [] b = refl
numbers-append (pair ∷ a) b = ap (λ ns. pair.1 ∷ ns) (numbers-append a b)

-- ---- lists that are made pair by pair

pub waiting-next : (n count : ℕ) → 0 < count →
    flat_map waiting (range_with_len n count) ≡ waiting n ++ flat_map waiting (range_with_len (n + 1) (count - 1))
waiting-next n zero h = absurd (omega arith)
waiting-next n (suc count) h = let e : suc count - 1 ≡ count = omega arith in rw e refl

pub waiting-none : (n : ℕ) → flat_map waiting (range_with_len n 0) ≡ []
waiting-none n = refl

pub with_new_numbers-none : (w : Writes Place) → with_new_numbers w [] ≡ []
with_new_numbers-none [] = refl
with_new_numbers-none (pair ∷ w) = refl

-- what lists that are made pair by pair need
pub ruleset pair_lists =
    (common_steps, write_list-append, numbers-append, with_new_numbers-none, waiting-next, waiting-none)

-- the first of the watch entries is not at the place
pub lookup_entry : (i k : ℕ) (ws : List Watched) (p : Place) → k < length ws → same_place (WatchEntry (i + k)) p ≡ false →
    lookup (writes_from WatchEntry (i + k) (map watch_code (drop k ws))) p
    ≡ lookup (writes_from WatchEntry (i + (k + 1)) (map watch_code (drop (k + 1) ws))) p
lookup_entry i k ws p h other = let here : i + k + 1 ≡ i + (k + 1) = omega arith in rw (drop_more ws k (RegA 0) h, other, here) refl

-- ---- settings that are read, and written to the machine: the first part of each conclusion is there for `grind` to look for

-- the write that an index past a list reads
abbrev no_write : Write
no_write = record { place = Cell 0 0; number = 0 }

pub setting_read : (m : Machine) (ks : List Write) (i : ℕ) → AreSettings m.setup.central_words (write_list ks) → i < length ks →
    (old_values m (write_list (take i ks)) ≡ old_values m (write_list (take i ks)))
    × Has m.setup.central_words (get_or ks i no_write).place
setting_read m ks i settings h = (refl, (IsSetting-at m.setup.central_words ks i no_write settings h).has)

pub setting_kept : (m : Machine) (ks list : List Write) (i : ℕ) (d : Write) →
    AreSettings m.setup.central_words (write_list ks) → i < length ks →
    AreSettings m.setup.central_words (write_list list) → IsInRange (get_or ks i d).place (number m (get_or ks i d).place) →
    let pushed = list ++ record { place = (get_or ks i d).place; number = number m (get_or ks i d).place } ∷ [] in
    (write_list pushed ≡ write_list pushed) × AreSettings m.setup.central_words (write_list pushed)
setting_kept m ks list i d settings h so_far in_range = let here = IsSetting-at m.setup.central_words ks i d settings h in (
  refl,
  rw write_list-append (AreSettings-append m.setup.central_words _ _ so_far
      (record { has = here.has; settable = here.settable; in_range = in_range }, tt)),
)

pub setting_put : (m : Machine) (ks : List Write) (i : ℕ) →
    AreSettings m.setup.central_words (write_list ks) → 0 < i → i ≤ length ks → let now = over m (write_list (drop i ks)) in
    (now ≡ now) × IsSetting now.setup.central_words (get_or ks (i - 1) no_write).place (get_or ks (i - 1) no_write).number
setting_put m ks i settings some within =
    (refl, rw setup-over (IsSetting-at m.setup.central_words ks (i - 1) no_write settings (omega arith)))

-- settings that are read and put
pub ruleset settings = (setting_read, setting_kept, setting_put, HasAll-settings)

-- what old values of settings need
pub ruleset overwritten_lists = (common_steps, settings, write_list-append, old_values-append, length-write_list, setup-over)
