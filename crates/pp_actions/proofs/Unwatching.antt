-- Watched places that are removed and restored.
use Rattle.std.specs.List.{remove}
use Rattle.std.proofs.Common.{arith, zero, suc, ap, sym, append_assoc, add-one, ◌∙◌, ⊎_elim, ℕ, ◌≡◌, ◌+◌, ◌-◌, ◌<◌, ◌≤◌, ◌≢◌, List}
use Rattle.std.proofs.Common.{[], ◌∷◌, ◌++◌, drop, take, get_or, length, map, replicate, refl}
use Rattle.std.proofs.lemmas.{Grind.common_steps, Bool.Decides.eqb_tells, List.take-append-drop, List.set_at, List.length_push}
use Rattle.std.proofs.{Math.Seq.get_or-append_seam, Math.Seq.drop-append-add, lemmas.List.Edits.length-remove}
use Rattle.std.proofs.lemmas.List.{map-append, length-map, length-append, length-drop, length-set, length-take-le, drop_more}
use Rattle.std.proofs.lemmas.List.{Elements.All-take, Elements.All-drop, Elements.All-append, Quantifiers.all_pairs_remove}
use Rattle.pp_machine.specs.Prelude.{Machine, over, old_values, put, Has, HasAll}
use Rattle.pp_machine.specs.declared.place.Place.TheVariants.{WatchEntry}
use Rattle.pp_actions.specs.{Unwatching.moved_up, WatchCodes.watch_code, WatchCodes.watch_entries, WatchCodes.first_zero}
use Rattle.pp_actions.specs.Watches.{AreWatches, HaveCodes, watched_at, watched_in, watched_place}
use Rattle.pp_actions.specs.{RecordLists.with_entries, RecordLists.entries_at, WriteLists.writes_from}
use Rattle.pp_actions.specs.declared.watched.Watched.{Watched, TheVariants.RegA}
use Rattle.pp_actions.proofs.WatchCodes.{code-no_zero, first_zero-at, watched_at-code, words_of-at_most, AreWatches-entries}
use Rattle.pp_actions.proofs.WatchCodes.{entries, length-watched_in}

pub over-entries : (m : Machine) (i : ℕ) (codes : List ℕ) →
    over m (writes_from WatchEntry i codes) ≡ record m { watches = with_entries m.watches i codes }
over-entries m i [] = refl
over-entries m i (code ∷ codes) = ap (λ (n : Machine). put n (WatchEntry i) code) (over-entries m (i + 1) codes)

pub old_values-entries : (m : Machine) (i : ℕ) (codes : List ℕ) →
    old_values m (writes_from WatchEntry i codes) ≡ writes_from WatchEntry i (entries_at m.watches i codes)
old_values-entries m i [] = refl
old_values-entries m i (code ∷ codes) = ap (λ w. (WatchEntry i, get_or m.watches i 0) ∷ w) (old_values-entries m (i + 1) codes)

pub length-entry_writes : (i : ℕ) (codes : List ℕ) → length (writes_from WatchEntry i codes) ≡ length codes
length-entry_writes i [] = refl
length-entry_writes i (code ∷ codes) = ap suc (length-entry_writes (i + 1) codes)

pub HasAll-entries : (size i : ℕ) (codes : List ℕ) → i + length codes ≤ 8 → HasAll size (writes_from WatchEntry i codes)
HasAll-entries size i [] h = tt
HasAll-entries size i (code ∷ codes) h = (omega arith, HasAll-entries size (i + 1) codes (omega arith))

-- codes that replace those after the first i
with_entries-split : (front old_values codes back : List ℕ) (i : ℕ) → length front ≡ i →
    length old_values ≡ length codes → with_entries (front ++ (old_values ++ back)) i codes ≡ front ++ (codes ++ back)
with_entries-split front [] [] back i e l = refl
with_entries-split front (old ∷ old_values) (code ∷ codes) back i e l =
    grind (arith, append_assoc, length_push, set_at, with_entries-split (front ++ old ∷ []) old_values codes back (i + 1))
with_entries-split front old_values codes back i e l = absurd (omega arith)

entries_at-split : (front old_values codes back : List ℕ) (i : ℕ) → length front ≡ i →
    length old_values ≡ length codes → entries_at (front ++ (old_values ++ back)) i codes ≡ old_values
entries_at-split front [] [] back i e l = refl
entries_at-split front (old ∷ old_values) (code ∷ codes) back i e l =
    let rest = entries_at-split (front ++ old ∷ []) old_values codes back (i + 1) in
    grind (arith, append_assoc, length_push, get_or-append_seam front old (old_values ++ back) 0, rest)
entries_at-split front old_values codes back i e l = absurd (omega arith)

moved_up-codes : (ws : List Watched) (k : ℕ) → moved_up (map watch_code ws ++ replicate k 0) ≡ map watch_code ws ++ 0 ∷ []
moved_up-codes [] zero = refl
moved_up-codes [] (suc k) = refl
moved_up-codes (w ∷ ws) k = rw (code-no_zero, moved_up-codes ws k)

-- the place w is the one at i
module _ (ws front rest : List Watched) (w : Watched) (i : ℕ)
    (whole : front ++ w ∷ rest ≡ ws) (at_i : length front ≡ i) (at_most : length ws ≤ 8) where
  abbrev zeros : List ℕ
  zeros = replicate (8 - length ws) 0

  abbrev before : List ℕ
  before = map watch_code front

  abbrev after : List ℕ
  after = map watch_code rest

  full : watch_entries ws ≡ before ++ ((watch_code w ∷ after) ++ zeros)
  full = ap (λ codes. codes ++ zeros) (ap (map watch_code) (sym whole) ∙ map-append watch_code front (w ∷ rest))
      ∙ append_assoc before (watch_code w ∷ after) zeros

  fewer : watch_entries (front ++ rest) ≡ before ++ ((after ++ 0 ∷ []) ++ zeros)
  fewer =
      let count : 8 - length (front ++ rest) ≡ suc (8 - length ws) =
      omega (arith, length-append front rest, length-append front (w ∷ rest), ap length whole) in
      rw (map-append, count, append_assoc, append_assoc)

  length-before : length before ≡ i
  length-before = length-map front watch_code ∙ at_i

  closing : moved_up (drop (i + 1) (watch_entries ws)) ≡ after ++ 0 ∷ []
  closing = rw (full, ← length-before, drop-append-add before ((watch_code w ∷ after) ++ zeros) 1)
      (moved_up-codes rest (8 - length ws))

  -- the entries without the place w
  pub entries-removed : watch_entries (front ++ rest)
      ≡ with_entries (watch_entries ws) i (moved_up (drop (i + 1) (watch_entries ws)))
  entries-removed = fewer ∙ sym (rw (closing, full)
      (with_entries-split before (watch_code w ∷ after)
      (after ++ 0 ∷ []) zeros i length-before (omega (arith, length_push after 0))))

  -- the old codes in the entries that change
  pub entries-old : entries_at (watch_entries ws) i (moved_up (drop (i + 1) (watch_entries ws))) ≡ map watch_code (w ∷ rest)
  entries-old = rw (closing, full)
      (entries_at-split before (watch_code w ∷ after) (after ++ 0 ∷ []) zeros i length-before (omega (arith, length_push after 0)))

-- places that are put back behind the first i ones
entries-restored : (front rest places : List Watched) (i : ℕ) → length front ≡ i → length places ≡ length rest + 1 →
    i + length places ≤ 8 → watch_entries (front ++ places) ≡ with_entries (watch_entries (front ++ rest)) i (map watch_code places)
entries-restored front rest places i at_i more room =
    let zeros = replicate {A = ℕ} (8 - length (front ++ places)) 0 in
    let count : 8 - length (front ++ rest) ≡ suc (8 - length (front ++ places)) =
    omega (arith, length-append front rest, length-append front places) in
    let now : watch_entries (front ++ rest) ≡ map watch_code front ++ ((map watch_code rest ++ 0 ∷ []) ++ zeros) =
    rw (map-append, count, append_assoc, append_assoc) in
    let then : watch_entries (front ++ places) ≡ map watch_code front ++ (map watch_code places ++ zeros) =
    rw (map-append, append_assoc) in
    let split = with_entries-split (map watch_code front) (map watch_code rest ++ 0 ∷ []) (map watch_code places) zeros i in
    grind (arith, now, then, split, length-map, length_push)

-- ---- the same, for the place at i

split : (ws : List Watched) (i : ℕ) → i < length ws → take i ws ++ (get_or ws i (RegA 0) ∷ drop (i + 1) ws) ≡ ws
split ws i h = ap (λ rest. take i ws ++ rest) (sym (drop_more ws i (RegA 0) h)) ∙ take-append-drop i ws

removed : (ws : List Watched) (i : ℕ) → remove ws i ≡ take i ws ++ drop (i + 1) ws
removed ws i = rw add-one refl

pub removed-at : (ws : List Watched) (i : ℕ) → i < length ws → length ws ≤ 8 →
    watch_entries (remove ws i) ≡ with_entries (watch_entries ws) i (moved_up (drop (i + 1) (watch_entries ws)))
removed-at ws i h at_most = ap watch_entries (removed ws i) ∙ entries-removed ws (take i ws)
    (drop (i + 1) ws) (get_or ws i (RegA 0)) i (split ws i h) (length-take-le i ws (omega arith)) at_most

pub old-at : (ws : List Watched) (i : ℕ) → i < length ws → length ws ≤ 8 →
    map watch_code (drop i ws) ≡ entries_at (watch_entries ws) i (moved_up (drop (i + 1) (watch_entries ws)))
old-at ws i h at_most = ap (map watch_code) (drop_more ws i (RegA 0) h) ∙ sym (entries-old ws (take i ws)
    (drop (i + 1) ws) (get_or ws i (RegA 0)) i (split ws i h) (length-take-le i ws (omega arith)) at_most)

-- places from i on replace those there, of which there is one fewer
pub restored-at : (ws places : List Watched) (i : ℕ) → i ≤ length ws → length ws + 1 ≡ i + length places →
    i + length places ≤ 8 → watch_entries (take i ws ++ places) ≡ with_entries (watch_entries ws) i (map watch_code places)
restored-at ws places i h more room =
    entries-restored (take i ws) (drop i ws) places i (length-take-le i ws h) (omega (arith, length-drop i ws)) room
    ∙ ap (λ vs. with_entries (watch_entries vs) i (map watch_code places)) (take-append-drop i ws)

pub back-at : (ws : List Watched) (i : ℕ) → i < length ws → length ws ≤ 8 →
    with_entries (watch_entries (remove ws i)) i (map watch_code (drop i ws)) ≡ watch_entries ws
back-at ws i h at_most =
    let restored = entries-restored (take i ws) (drop (i + 1) ws) (drop i ws) i (length-take-le i ws (omega arith))
    (omega (arith, length-drop i ws, length-drop (i + 1) ws)) (omega (arith, length-drop i ws)) in
    rw removed (sym restored ∙ ap watch_entries (take-append-drop i ws))

-- the places left have codes
pub HaveCodes-remove : (ws : List Watched) (i : ℕ) → i < length ws → HaveCodes ws → HaveCodes (remove ws i)
HaveCodes-remove ws i h codes =
    let reads_back : Watched → Type 0 = λ w. watched_at (watch_code w) ≡ w in
    let kept = All-take reads_back i ws codes.read_back in
    let later = All-drop reads_back (suc i) ws codes.read_back in
    record {
      at_most = omega (arith, length-remove ws i h, codes.at_most);
      read_back = All-append reads_back (take i ws) (drop (suc i) ws) kept later;
    }

-- what removing and restoring a place needs
pub ruleset removals = (common_steps, entries, removed-at, old-at, restored-at, back-at, HaveCodes-remove)

-- ---- on the machine

pub length-with_entries : (entries : List ℕ) (i : ℕ) (codes : List ℕ) → length (with_entries entries i codes) ≡ length entries
length-with_entries entries i [] = refl
length-with_entries entries i (code ∷ codes) = grind (arith, length-set, length-with_entries entries (i + 1) codes)

-- behind the last place there is nothing to move up
pub moved_up-last : (entries : List ℕ) → moved_up (drop (first_zero entries) entries) ≡ 0 ∷ []
moved_up-last [] = refl
moved_up-last (code ∷ codes) = ⊎_elim (λ t. rw (t.0, t.0) refl) (λ t. rw (t.0, add-one) (moved_up-last codes)) (eqb_tells code 0)

-- without the place at i the entries are still well formed
pub AreWatches-removed : (size : ℕ) (entries : List ℕ) (i : ℕ) → size ≤ 2097152 → AreWatches size entries →
    i < first_zero entries → AreWatches size (watch_entries (remove (watched_in entries) i))
AreWatches-removed size entries i at_most ok h = let ws = watched_in entries in
    AreWatches-entries size (remove ws i) at_most (All-append (λ w. Has size (watched_place w)) (take i ws) (drop (suc i) ws)
    (All-take (λ w. Has size (watched_place w)) i ws ok.present) (All-drop (λ w. Has size (watched_place w)) (suc i) ws ok.present))
    (all_pairs_remove (λ v w. watch_code v ≢ watch_code w) ws i (omega (arith, length-watched_in entries)) ok.distinct)

-- what other entries are to the machine
pub ruleset entry_changes = (over-entries, old_values-entries, length-entry_writes, length-with_entries, moved_up-last)

-- what a machine with other watched places needs
pub ruleset watch_changes = (entry_changes, length-map, length-set, first_zero-at, watched_at-code, words_of-at_most)
