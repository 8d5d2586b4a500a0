-- Two tables of symbols that have the same numbers so far.
use Rattle.std.proofs.Common.{◌≡◌, ◌+◌, ◌<◌, ◌≤◌, ◌⊎◌, ℕ, zero, suc, List, [], ◌∷◌, None, ap, arith, inl}
use Rattle.std.proofs.Common.{inr, length, map, refl, take}
use Rattle.std.proofs.Common.{slice_get}
use Rattle.std.proofs.lemmas.Bool.{cases_lt}
use Rattle.pp_meaning.specs.declared.expressions.Symbol.{Symbol}
use Rattle.pp_meaning_laws.proofs.Both.{Both}

abbrev pub SameValue : Symbol → Symbol → Type 0
SameValue s t = s.value ≡ t.value

-- The first symbols of two tables, so many of them, have the same numbers.
abbrev pub AreKnown : List Symbol → List Symbol → ℕ → Type 0
AreKnown a b count = (i : ℕ) → i < count → Both SameValue (slice_get a i) (slice_get b i)

-- All symbols that are in both have the same numbers.
abbrev pub AreAlike : List Symbol → List Symbol → Type 0
AreAlike a b = (i : ℕ) → Both SameValue (slice_get a i) (slice_get b i)

-- ---- the first ones of a list

pub get_taken : {X : Type 0} (count i : ℕ) (xs : List X) → i < count → slice_get (take count xs) i ≡ slice_get xs i
get_taken zero i xs below = absurd (omega (arith, below))
get_taken (suc count) i [] below = refl
get_taken (suc count) zero (x ∷ xs) below = refl
get_taken (suc count) (suc i) (x ∷ xs) below = get_taken count i xs (omega (arith, below))

get_behind : {X : Type 0} (count i : ℕ) (xs : List X) → count ≤ i → slice_get (take count xs) i ≡ None
get_behind zero i xs behind = refl
get_behind (suc count) i [] behind = refl
get_behind (suc count) zero (x ∷ xs) behind = absurd (omega (arith, behind))
get_behind (suc count) (suc i) (x ∷ xs) behind = get_behind count i xs (omega (arith, behind))

taken_at : (a b : List Symbol) (count i : ℕ) → AreKnown a b count → (i < count) ⊎ (count ≤ i) →
    Both SameValue (slice_get (take count a) i) (slice_get (take count b) i)
taken_at a b count i known (inl below) = rw (get_taken count i a below, get_taken count i b below) (known i below)
taken_at a b count i known (inr behind) = rw (get_behind count i a behind) tt

-- Of the symbols above each has its number.
pub alike_above : (a b : List Symbol) (count : ℕ) → AreKnown a b count → AreAlike (take count a) (take count b)
alike_above a b count known i = taken_at a b count i known (cases_lt i count)

-- ---- one more symbol

pub known_more : (a b : List Symbol) (count : ℕ) → AreKnown a b count → Both SameValue (slice_get a count) (slice_get b count) →
    AreKnown a b (count + 1)
known_more a b count known next i below = elim (cases_lt i count) [
  | inl before ↦ known i before
  | inr behind ↦ let last : i ≡ count = omega (arith, below, behind) in rw last next
]

-- ---- all symbols

pub values_same : (a b : List Symbol) (count : ℕ) → AreKnown a b count → count ≡ length a → count ≡ length b →
    map (λ (symbol : Symbol). symbol.value) a ≡ map (λ (symbol : Symbol). symbol.value) b
values_same [] [] count known one other = refl
values_same [] (y ∷ b) count known one other = absurd (omega (arith, one, other))
values_same (x ∷ a) [] count known one other = absurd (omega (arith, one, other))
values_same (x ∷ a) (y ∷ b) count known one other =
    let first : x.value ≡ y.value = known 0 (omega (arith, one)) in
    rw first (ap (λ l. y.value ∷ l) (values_same a b (length a) (λ i below. known (suc i) (omega (arith, below, one))) refl
    (omega (arith, one, other))))
