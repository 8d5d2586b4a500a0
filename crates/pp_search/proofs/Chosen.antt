-- A condition, some of whose alternatives are judged.
use Rattle.std.proofs.Common.{◌≡◌, ◌∙◌, ◌⊎◌, ◌<◌, ◌≤◌, ◌++◌, ◌∷◌, [], ℕ, zero, suc, All, Bool, Contains, List, ap, arith, false}
use Rattle.std.proofs.Common.{get_or, inl, inr, length, refl, subst, sym, take, ◌+◌}
use Rattle.std.proofs.lemmas.List.{get_or_append_left, get_or_default, get_or_push}
use Rattle.std.proofs.lemmas.List.Elements.{All-contains, All-push, Contains-append_left, Contains-push}
use Rattle.std.proofs.lemmas.List.Folds.{list_any_none}
use Rattle.std.specs.List.{list_any}
use Rattle.pp_history.proofs.Names.{cases_lt}
use Rattle.pp_search.specs.Plan.{AreCandidates, IsCandidate, IsOfAnother, KeepsFlags}
use Rattle.pp_search.specs.declared.condition.Alternative.{Alternative}
use Rattle.pp_search.specs.declared.plan.Candidates.{Candidates}

pub take_whole : {X : Type 0} (xs : List X) (i : ℕ) → length xs ≤ i → take i xs ≡ xs
take_whole [] zero le = refl
take_whole [] (suc i) le = refl
take_whole (x ∷ xs) zero le = absurd (omega (arith, le))
take_whole (x ∷ xs) (suc i) le = ap (λ ys. x ∷ ys) (take_whole xs i (omega (arith, le)))

-- ---- the candidates of a processor, one after another

pub chosen_here : (xs : List ℕ) (x : ℕ) → Contains (xs ++ (x ∷ [])) x
chosen_here xs x = Contains-push xs x

pub chosen_still : (xs : List ℕ) (x y : ℕ) → Contains xs y → Contains (xs ++ (x ∷ [])) y
chosen_still xs x y is = Contains-append_left xs (x ∷ []) y is

pub chosen_within : (xs : List ℕ) (x n : ℕ) → x < n → All (λ (j : ℕ). j < n) xs → All (λ (j : ℕ). j < n) (xs ++ (x ∷ []))
chosen_within xs x n less all = All-push (λ (j : ℕ). j < n) xs x all less

pub ruleset chosen = (chosen_here, chosen_still, chosen_within)

-- an alternative is a candidate, or of another processor
abbrev pub IsChosen : ℕ → List Alternative → Candidates → ℕ → Type 0
IsChosen pp alternatives candidates i =
    (d : Alternative) → IsCandidate pp candidates i (get_or alternatives i d) ⊎ IsOfAnother pp (get_or alternatives i d)

pub chosen_more : (old new : Candidates) (alternatives : List Alternative) (pp n : ℕ) (here : Alternative) →
    n < length alternatives → ((j : ℕ) → Contains old.alternatives.items j → Contains new.alternatives.items j) →
    KeepsFlags old new → ((i : ℕ) → i < n → IsChosen pp alternatives old i) → here ≡ get_or alternatives n here →
    IsCandidate pp new n here ⊎ IsOfAnother pp here → (i : ℕ) → i < n + 1 → IsChosen pp alternatives new i
chosen_more old new alternatives pp n here within keeps flags earlier is added i less d = elim (cases_lt i n) [
  | inl before ↦ elim (earlier i before d) [
    | inl chosen ↦ let (has, address, tests, awaited) = chosen in inl (keeps i has, address, tests, flags address awaited)
    | inr other ↦ inr other
  ]
  | inr past ↦
      let last : n ≡ i = omega (arith, less, past) in
      let same : here ≡ get_or alternatives n d = is ∙ get_or_default alternatives n here d within in
      subst (λ (j : ℕ). IsCandidate pp new j (get_or alternatives j d) ⊎ IsOfAnother pp (get_or alternatives j d)) last
      (subst (λ (a : Alternative). IsCandidate pp new n a ⊎ IsOfAnother pp a) same added)
]

-- ---- the candidates of each processor

pub candidates_more : (found : List Candidates) (x : Candidates) (alternatives : List Alternative) (pp : ℕ) → length found ≡ pp →
    ((n : ℕ) (d : Candidates) → n < pp → AreCandidates n alternatives (get_or found n d)) → AreCandidates pp alternatives x →
    (n : ℕ) (d : Candidates) → n < pp + 1 → AreCandidates n alternatives (get_or (found ++ (x ∷ [])) n d)
candidates_more found x alternatives pp count earlier last n d less = elim (cases_lt n pp) [
  | inl before ↦
      subst (AreCandidates n alternatives) (sym (get_or_append_left found (x ∷ []) d n (omega (arith, before, count))))
      (earlier n d before)
  | inr past ↦
      let here : pp ≡ n = omega (arith, less, past) in
      subst (AreCandidates n alternatives) (sym (get_or_push found x d n (count ∙ here)))
      (subst (λ (k : ℕ). AreCandidates k alternatives x) here last)
]

-- ---- none of the candidates comes, and no other alternative

pub none_chosen : (does : Alternative → Bool) (alternatives : List Alternative) (candidates : Candidates) (pp : ℕ) →
    AreCandidates pp alternatives candidates →
    ((alternative : Alternative) → IsOfAnother pp alternative → does alternative ≡ false) →
    All (λ (i : ℕ). (d : Alternative) → does (get_or alternatives i d) ≡ false) candidates.alternatives.items →
    list_any does alternatives ≡ false
none_chosen does alternatives candidates pp are another none =
    list_any_none does alternatives (λ i d less. elim (are.others i d less) [
      | inl is ↦ All-contains (λ (i : ℕ). (d : Alternative) → does (get_or alternatives i d) ≡ false) candidates.alternatives.items
          i none is.0 d
      | inr of ↦ another _ of
    ])
