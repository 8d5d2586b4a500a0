-- The last symbol of each name, with one more.
use Rattle.std.proofs.Common.{◌≡◌, ◌≢◌, ◌⊎◌, inl, inr, ⊎_elim, ◌∙◌, ◌<◌, ◌+◌, ℕ, List, Option, Some, None, true, ap, sym}
use Rattle.std.proofs.Common.{subst, refl, arith, bytes_eq}
use Rattle.std.specs.Cmp.Lexicographic.{bytes_decides}
use Rattle.std.specs.Map.{update}
use Rattle.std.specs.Prelude.{nat_le, not, slice_get}
use Rattle.std.proofs.lemmas.Bool.{and_from, and_parts, cases_Bool, cases_order, cond-false, cond-true, false≢true}
use Rattle.std.proofs.lemmas.Bool.{le-leb, leb-true}
use Rattle.pp_meaning.specs.Lines.{symbol_name}
use Rattle.pp_meaning.specs.Names.{IsBehind, IsLast, is_fixed, is_renamed}
use Rattle.pp_meaning.specs.declared.expressions.Symbol.{Symbol}

-- What is renamed is so later.
renamed-later : (symbol : Option Symbol) (last count : ℕ) → last < count → is_renamed last symbol ≡ true →
    is_renamed count symbol ≡ true
renamed-later None last count below is = is
renamed-later (Some symbol) last count below is =
    let parts = and_parts (not (is_fixed symbol.validity)) (nat_le symbol.next last) is in
    and_from (not (is_fixed symbol.validity)) (nat_le symbol.next count) parts.0
    (le-leb symbol.next count (omega (arith, leb-true symbol.next last parts.1, below)))

behind-more : (symbols : List Symbol) (count i : ℕ) (o : Option ℕ) → IsBehind symbols count i o → IsBehind symbols (count + 1) i o
behind-more symbols count i None ne = ne
behind-more symbols count i (Some last) (below, same) = (omega (arith, below), same)

renamed-by : (symbols : List Symbol) (count i : ℕ) (o : Option ℕ) → IsBehind symbols count i o →
    ((j : ℕ) → o ≡ Some j → is_renamed count (slice_get symbols j) ≡ true) → is_renamed count (slice_get symbols i) ≡ true
renamed-by symbols count i None ne here = absurd ne
renamed-by symbols count i (Some last) (below, same) here =
    ⊎_elim (λ e. subst (λ j. is_renamed count (slice_get symbols j) ≡ true) (sym e) (here last refl))
    (λ is. renamed-later (slice_get symbols i) last count below is) same

-- One before is renamed, if it has the name of the next one.
renamed-here : (symbols : List Symbol) (last : List ℕ → Option ℕ) (count : ℕ) (name : List ℕ) (old : Option ℕ) →
    IsLast symbols last count → old ≡ last name →
    ((j : ℕ) → old ≡ Some j → is_renamed count (slice_get symbols j) ≡ true) →
    (i : ℕ) → i < count → name ≡ symbol_name (slice_get symbols i) → is_renamed count (slice_get symbols i) ≡ true
renamed-here symbols last count name old behind was here i below same =
    renamed-by symbols count i old (subst (λ o. IsBehind symbols count i o) (sym (was ∙ ap last same)) (behind i below)) here

pub is-different : (symbols : List Symbol) (last : List ℕ → Option ℕ) (count : ℕ) (name : List ℕ) (old : Option ℕ) →
    IsLast symbols last count → name ≡ symbol_name (slice_get symbols count) → old ≡ last name →
    ((j : ℕ) → old ≡ Some j → is_renamed count (slice_get symbols j) ≡ true) →
    (i : ℕ) → i < count →
    (symbol_name (slice_get symbols i) ≢ symbol_name (slice_get symbols count)) ⊎ (is_renamed count (slice_get symbols i) ≡ true)
is-different symbols last count name old behind is was here i below =
    let other = symbol_name (slice_get symbols i) in
    ⊎_elim
    (λ yes. inr (renamed-here symbols last count name old behind was here i below ((bytes_decides name other).0 yes)))
    (λ no. inl (λ same. false≢true (sym no ∙ (bytes_decides name other).1 (is ∙ sym same))))
    (cases_Bool (bytes_eq name other))

last-at : (symbols : List Symbol) (last : List ℕ → Option ℕ) (count : ℕ) (name : List ℕ) (old : Option ℕ) →
    IsLast symbols last count → old ≡ last name →
    ((j : ℕ) → old ≡ Some j → is_renamed count (slice_get symbols j) ≡ true) →
    (i : ℕ) → (i < count) ⊎ (i ≡ count) → name ≡ symbol_name (slice_get symbols i) → IsBehind symbols (count + 1) i (Some count)
last-at symbols last count name old behind was here i (inl below) same =
    (omega arith, inr (renamed-here symbols last count name old behind was here i below same))
last-at symbols last count name old behind was here i (inr e) same = (omega arith, inl e)

-- The next symbol is the last one of its name, and the others stay.
pub last-stays : (symbols : List Symbol) (last later : List ℕ → Option ℕ) (count : ℕ) (name : List ℕ) (old : Option ℕ) →
    IsLast symbols last count → name ≡ symbol_name (slice_get symbols count) → old ≡ last name →
    ((other : List ℕ) → later other ≡ update bytes_eq last name (Some count) other) →
    ((j : ℕ) → old ≡ Some j → is_renamed count (slice_get symbols j) ≡ true) → IsLast symbols later (count + 1)
last-stays symbols last later count name old behind is was updates here i within =
    let other = symbol_name (slice_get symbols i) in
    let place : (i < count) ⊎ (i ≡ count) =
    ⊎_elim (λ e. inr e) (λ o. ⊎_elim (λ less. inl less) (λ more. absurd (omega (arith, within, more))) o) (cases_order i count) in
    ⊎_elim
    (λ yes. subst (λ o. IsBehind symbols (count + 1) i o)
    (sym (updates other ∙ cond-true (bytes_eq name other) (Some count) (last other) yes))
    (last-at symbols last count name old behind was here i place ((bytes_decides name other).0 yes)))
    (λ no. subst (λ o. IsBehind symbols (count + 1) i o)
    (sym (updates other ∙ cond-false (bytes_eq name other) (Some count) (last other) no))
    (behind-more symbols count i (last other)
    (behind i (⊎_elim (λ less. less)
    (λ e. absurd (false≢true
    (sym no ∙ (bytes_decides name other).1 (is ∙ ap (λ k. symbol_name (slice_get symbols k)) (sym e))))) place))))
    (cases_Bool (bytes_eq name other))

pub none-is-some : (count : ℕ) (symbols : List Symbol) (old : Option ℕ) → old ≡ None →
    (j : ℕ) → old ≡ Some j → is_renamed count (slice_get symbols j) ≡ true
none-is-some count symbols old is j some = absurd (grind (arith, is, some))

pub some-is : (count : ℕ) (symbols : List Symbol) (old : Option ℕ) (last : ℕ) → old ≡ Some last →
    is_renamed count (slice_get symbols last) ≡ true → (j : ℕ) → old ≡ Some j → is_renamed count (slice_get symbols j) ≡ true
some-is count symbols old last is renamed j some =
    let same : last ≡ j = grind (arith, is, some) in subst (λ q. is_renamed count (slice_get symbols q) ≡ true) same renamed
