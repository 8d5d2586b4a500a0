-- Watched places and their codes.
use Rattle.std.specs.List.{list_any, position_from, AllPairs}
use Rattle.std.proofs.Common.{arith, zero, suc, sym, ap, append_assoc, ◌∙◌, ℕ, ◌+◌, ◌-◌, ◌<◌, ◌==◌, ◌≢◌, All, ◌≤◌, ◌≡◌, Bool}
use Rattle.std.proofs.Common.{false, eqb, cond, position, Some, get_or, set, List, [], ◌∷◌, ◌++◌, length, map, replicate, refl}
use Rattle.std.proofs.lemmas.{Bool.Decides.nat_tests, Iterator.Adapters.position_from-zero, Bool.false≢true, Bool.eq-eqb}
use Rattle.std.proofs.lemmas.List.{Elements.All-tail, Elements.All-push, Folds.list_any_at, Quantifiers.all_pairs_push}
use Rattle.std.proofs.lemmas.List.{map_push, set_at, length-map, length_push as length-push}
use Rattle.pp_machine.specs.{Prelude.Has, Prelude.words_of, declared.central.CentralSize.CentralSize}
use Rattle.pp_machine.proofs.Sizes.{most_words}
use Rattle.pp_actions.specs.Watches.{watched_in, watched_at, watched_place, AreWatches, HaveCodes}
use Rattle.pp_actions.specs.WatchCodes.{watch_code, watch_entries, first_zero}
use Rattle.pp_actions.specs.declared.watched.Watched.{Watched}

code-below : (w : Watched) → 0 < watch_code w
code-below w = grind arith

pub code-no_zero : (w : Watched) → eqb (watch_code w) 0 ≡ false
code-no_zero w = grind (arith, nat_tests, code-below w)

first_zero-codes : (ws : List Watched) (k : ℕ) → first_zero (map watch_code ws ++ replicate k 0) ≡ length ws
first_zero-codes [] zero = refl
first_zero-codes [] (suc k) = refl
first_zero-codes (w ∷ ws) k = rw code-no_zero (omega (arith, first_zero-codes ws k))

-- the first zero is past the watched places
pub first_zero-entries : (ws : List Watched) → first_zero (watch_entries ws) ≡ length ws
first_zero-entries ws = first_zero-codes ws (8 - length ws)

-- one more place, after the others
pub watch_entries-push : (ws : List Watched) (w : Watched) → length ws < 8 →
    watch_entries (ws ++ w ∷ []) ≡ set (watch_entries ws) (length ws) (watch_code w)
watch_entries-push ws w h = let room : 8 - length ws ≡ suc (8 - length (ws ++ w ∷ [])) = omega (arith, length-push ws w) in
    rw (map_push, append_assoc, room)
    (sym (set_at (map watch_code ws) 0 (replicate (8 - length (ws ++ w ∷ [])) 0)
    (watch_code w) (length ws) (length-map ws watch_code)))

-- the entry at the first zero reads zero
pub first_zero-at : (xs : List ℕ) → get_or xs (first_zero xs) 0 ≡ 0
first_zero-at [] = refl
first_zero-at (x ∷ xs) = grind (arith, nat_tests, first_zero-at xs)

-- no place has the code zero
pub zero-no_code : (w : Watched) → eqb 0 (watch_code w) ≡ false
zero-no_code w = grind (arith, nat_tests, code-below w)

-- as many places are watched as there are entries before the first zero
pub length-watched_in : (entries : List ℕ) → length (watched_in entries) ≡ first_zero entries
length-watched_in [] = refl
length-watched_in (code ∷ codes) = grind (arith, nat_tests, length-watched_in codes)

any-codes : (test : ℕ → Bool) (ws : List Watched) (k : ℕ) → test 0 ≡ false →
    list_any test (map watch_code ws ++ replicate k 0) ≡ list_any (λ w. test (watch_code w)) ws
any-codes test [] zero e = refl
any-codes test [] (suc k) e = grind (arith, any-codes test [] k e)
any-codes test (w ∷ ws) k e = grind (arith, any-codes test ws k e)

-- the entries past the watched places pass no test that rejects zero
pub any-entries : (test : ℕ → Bool) (ws : List Watched) → test 0 ≡ false →
    list_any test (watch_entries ws) ≡ list_any (λ w. test (watch_code w)) ws
any-entries test ws e = any-codes test ws (8 - length ws) e

from-codes : (test : ℕ → Bool) (i : ℕ) (ws : List Watched) (k : ℕ) → test 0 ≡ false →
    position_from test i (map watch_code ws ++ replicate k 0) ≡ position_from (λ w. test (watch_code w)) i ws
from-codes test i [] zero e = refl
from-codes test i [] (suc k) e = rw e (from-codes test (i + 1) [] k e)
from-codes test i (w ∷ ws) k e = ap (λ o. cond (test (watch_code w)) (Some i) o) (from-codes test (i + 1) ws k e)

-- the same for the position of the first one that passes
pub position-entries : (test : ℕ → Bool) (ws : List Watched) → test 0 ≡ false →
    position test (watch_entries ws) ≡ position (λ w. test (watch_code w)) ws
position-entries test ws e = position_from-zero test (watch_entries ws)
    ∙ (from-codes test 0 ws (8 - length ws) e ∙ sym (position_from-zero (λ w. test (watch_code w)) ws))

-- ---- from a code back to its place

-- central memory has no more words than this
pub words_of-at_most : (size : CentralSize) → words_of size ≤ 2097152
words_of-at_most size = omega (arith, most_words size)

-- in a machine of at most this many central words, each place is determined by its code
pub watched_at-code : (size : ℕ) (w : Watched) → size ≤ 2097152 → Has size (watched_place w) → watched_at (watch_code w) ≡ w
unfolding watched_at
watched_at-code size w at_most has = grind (arith, nat_tests)

in-codes : (ws : List Watched) (k : ℕ) → All (λ w. watched_at (watch_code w) ≡ w) ws →
    watched_in (map watch_code ws ++ replicate k 0) ≡ ws
in-codes [] zero read_back = refl
in-codes [] (suc k) read_back = refl
in-codes (w ∷ ws) k read_back =
    rw (code-no_zero, read_back 0 w (omega arith), in-codes ws k (All-tail (λ v. watched_at (watch_code v) ≡ v) w ws read_back))
    refl

-- the entries of places that are determined by their codes
pub watched_in-entries : (ws : List Watched) → All (λ w. watched_at (watch_code w) ≡ w) ws → watched_in (watch_entries ws) ≡ ws
watched_in-entries ws read_back = in-codes ws (8 - length ws) read_back

-- ---- well formed entries

-- the entries of places that the machine has, no place twice
pub AreWatches-entries : (size : ℕ) (ws : List Watched) → size ≤ 2097152 → All (λ w. Has size (watched_place w)) ws →
    AllPairs (λ v w. watch_code v ≢ watch_code w) ws → AreWatches size (watch_entries ws)
AreWatches-entries size ws at_most has apart =
    let same = watched_in-entries ws (λ k d l. watched_at-code size (get_or ws k d) at_most (has k d l)) in
    record { closed_up = ap watch_entries same; present = rw same has; distinct = rw same apart }

other-code : (ws : List Watched) (w : Watched) (k : ℕ) (d : Watched) →
    list_any (λ v. watch_code v == watch_code w) ws ≡ false → k < length ws → watch_code (get_or ws k d) ≢ watch_code w
other-code ws w k d none l =
    λ same. absurd (false≢true (sym none ∙ list_any_at (λ v. watch_code v == watch_code w) ws k d l (eq-eqb _ _ same)))

-- one more place, which was not watched
pub AreWatches-push : (size : ℕ) (entries : List ℕ) (w : Watched) → size ≤ 2097152 →
    AreWatches size entries → first_zero entries < 8 → Has size (watched_place w) →
    list_any (λ code. code == watch_code w) entries ≡ false → AreWatches size (set entries (first_zero entries) (watch_code w))
AreWatches-push size entries w at_most ok room has new =
    let ws = watched_in entries in
    let count : length ws ≡ first_zero entries = length-watched_in entries in
    let none : list_any (λ v. watch_code v == watch_code w) ws ≡ false = sym (any-entries (λ code. code == watch_code w) ws
    (zero-no_code w)) ∙ (ap (list_any (λ code. code == watch_code w)) ok.closed_up ∙ new) in
    let more = AreWatches-entries size (ws ++ w ∷ []) at_most (All-push (λ v. Has size (watched_place v)) ws w ok.present has)
    (all_pairs_push (λ v u. watch_code v ≢ watch_code u) ws w ok.distinct (λ k d l. other-code ws w k d none l)) in
    rw (watch_entries-push ws w (omega arith), ok.closed_up, count) at more

-- with one more place each has its code
pub HaveCodes-push : (ws : List Watched) (w : Watched) → HaveCodes ws →
    length ws < 8 → watched_at (watch_code w) ≡ w → HaveCodes (ws ++ w ∷ [])
HaveCodes-push ws w codes room code = let read_back = All-push (λ w. watched_at (watch_code w) ≡ w) ws w codes.read_back code in
    record { at_most = omega (arith, length-push ws w); read_back = read_back }

-- what a test of the entries finds
pub ruleset entry_tests = (first_zero-entries, any-entries, position-entries, zero-no_code)

-- what the entries of a list of places say of it
pub ruleset entries = (entry_tests, length-watched_in, watched_in-entries, watch_entries-push, HaveCodes-push)
