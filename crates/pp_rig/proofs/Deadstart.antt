-- What a dead start writes fits the machine, and has a known length.
use Rattle.pp_rig.proofs.Names.{arith, zero, suc, ap, sym, ◌∙◌, ℕ, ◌≡◌, ◌+◌, ◌<◌, ◌≤◌, Bool, true, false, All, List, [], ◌∷◌}
use Rattle.pp_rig.proofs.Names.{length, replicate, refl, None, common_steps, length-append, Machine, old_values, number, Writes}
use Rattle.pp_rig.proofs.Names.{places, write_list, lookup, places-old_values, Place, AreSettings-cell_writes}
use Rattle.pp_rig.proofs.Names.{deadstart_write_list, AreSettings, HasAll-settings, cell_writes}
use Rattle.std.specs.List.{flat_map, list_all, range_with_len}
use Rattle.std.proofs.Common.{lit<, ◌++◌, ◌^◌, not}
use Rattle.pp_machine.specs.{Prelude.same_place, Prelude.places-append, declared.place.Write.Write}
use Rattle.pp_machine.specs.{Ranges.IsInRange, Ranges.twelve_bits}
use Rattle.pp_machine.specs.declared.place.Place.TheVariants.{Central, ChannelMode, Slot}
use Rattle.pp_actions.proofs.WriteLists.{length-old_values, places-cell_writes, with_new_numbers-numbers}
use Rattle.pp_actions.specs.{RecordLists.numbers, RecordLists.with_new_numbers, Deadstart.deadstart_places, Settings.IsSettable}
use Rattle.pp_actions.specs.{Settings.AreSettings-append, WriteLists.register_writes, WriteLists.writes_from}
use Rattle.pp_actions.specs.Deadstart.{loading, states, waiting}

pub AreSettings-deadstart : (size : ℕ) (panel : List ℕ) →
    All (λ word. word ≤ twelve_bits) panel → AreSettings size (deadstart_write_list panel)
unfolding deadstart_write_list
AreSettings-deadstart size panel small =
    let words = AreSettings-cell_writes size 0 1 panel (lit< tt) small in
    grind (arith, AreSettings-append size, words)

-- ---- its places

places-before : (a b c : Writes Place) → places a ≡ places b → places (a ++ c) ≡ places (b ++ c)
places-before a b c same = places-append a c ∙ ap (λ ps. ps ++ places c) same ∙ sym (places-append b c)

pub places-deadstart : (p q : List ℕ) → length p ≡ length q → places (deadstart_write_list p) ≡ places (deadstart_write_list q)
unfolding deadstart_write_list
places-deadstart p q e =
    let front = λ (words : List ℕ). cell_writes 0 0 (0 ∷ []) ++ cell_writes 0 1 words in
    let back = cell_writes 0 0o15 (0 ∷ []) in
    let others = flat_map waiting (range_with_len 1 9) in
    let modes = writes_from ChannelMode 0 states in
    let cells = ap (λ ps. places (cell_writes 0 0 (0 ∷ [])) ++ ps) (places-cell_writes 0 1 p q e) in
    places-before (loading p ++ others ++ modes) (loading q ++ others ++ modes) ((Slot, 0) ∷ [])
    (places-before (loading p ++ others) (loading q ++ others) modes
    (places-before (loading p) (loading q) others
    (places-before (front p ++ back) (front q ++ back) (register_writes 0 0 1 0 0)
    (places-before (front p) (front q) back cells))))

pub length-cell_writes : (n a : ℕ) (vs : List ℕ) → length (cell_writes n a vs) ≡ length vs
length-cell_writes n a [] = refl
length-cell_writes n a (v ∷ vs) = ap suc (length-cell_writes n (a + 1) vs)

pub length-deadstart_write_list : (panel : List ℕ) → length (deadstart_write_list panel) ≡ length panel + 64
unfolding deadstart_write_list
length-deadstart_write_list panel = simp (length-append, length-cell_writes) (omega arith)

pub places-old : (m : Machine) (panel : List ℕ) → length panel ≡ 12 →
    places (old_values m (deadstart_write_list panel)) ≡ places deadstart_places
places-old m panel e = places-old_values number m (deadstart_write_list panel) ∙ places-deadstart panel (replicate 12 0) e

-- the old numbers of a dead start, at its places, are its old values
pub with_new_numbers-old : (m : Machine) (panel : List ℕ) → length panel ≡ 12 → with_new_numbers deadstart_places
    (numbers (old_values m (deadstart_write_list panel))) ≡ old_values m (deadstart_write_list panel)
with_new_numbers-old m panel e =
    with_new_numbers-numbers deadstart_places (old_values m (deadstart_write_list panel)) (sym (places-old m panel e))

-- ---- its numbers are short: it writes no central word

abbrev is_short : Place → Bool
is_short (Central a) = false
is_short _ = true

short-number : (p : Place) (v : ℕ) → is_short p ≡ true → IsSettable p → IsInRange p v → v < 2 ^ 32
short-number p v s can h = grind arith

short-places : list_all is_short (places deadstart_places) ≡ true
unfolding deadstart_write_list
short-places = refl

short-at : (size : ℕ) (ks : List Write) → list_all is_short (places (write_list ks)) ≡ true →
    AreSettings size (write_list ks) → All (λ k. k.number < 2 ^ 32) ks
short-at size [] a s i d l = absurd (omega arith)
short-at size (k ∷ ks) a s zero d l = grind (arith, short-number k.place k.number)
short-at size (k ∷ ks) a s (suc i) d l = grind (arith, short-at size ks)

-- the first part of the conclusion is there for `grind`, which looks for it
pub short-old : (size : ℕ) (ks : List Write) → AreSettings size (write_list ks) → places (write_list ks) ≡ places deadstart_places →
    AreSettings size (write_list ks) × All (λ k. k.number < 2 ^ 32) ks
short-old size ks s same = (s, short-at size ks (rw same short-places) s)

-- what the undo record of a dead start needs
pub ruleset deadstarts =
    (common_steps, places-old, with_new_numbers-old, short-old, length-deadstart_write_list, length-old_values, HasAll-settings)

-- ---- what a dead start does not write

not_restarted : (w : Writes Place) (ns : List ℕ) (p : Place) →
    list_all (λ pair. not (same_place pair.0 p)) w ≡ true → lookup (with_new_numbers w ns) p ≡ None
not_restarted [] ns p other = refl
not_restarted (pair ∷ w) [] p other = refl
not_restarted (pair ∷ w) (n ∷ ns) p other = grind (arith, not_restarted w ns p)

pub no_word_restarted : (ns : List ℕ) (a : ℕ) → lookup (with_new_numbers deadstart_places ns) (Central a) ≡ None
unfolding deadstart_write_list
no_word_restarted ns a = not_restarted deadstart_places ns (Central a) refl
