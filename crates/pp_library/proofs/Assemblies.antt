-- The same text and the same cells under another name, and addresses that are there once.
use Rattle.std.proofs.Common.{◌≡◌, ◌≢◌, ℕ, ◌+◌, ◌<◌, ◌≤◌, List, ◌++◌, Bool, true, false, Option, AllPairs, Any, length, take}
use Rattle.std.proofs.Common.{get_or, subst, sym, ◌∙◌, ap, inl, inr, arith, get_or-take, length-take-le}
use Rattle.std.proofs.lemmas.Bool.{cases_lt}
use Rattle.std.proofs.lemmas.List.{get_or_default}
use Rattle.pp_notation.specs.declared.program.Cell.{Cell}
use Rattle.pp_library.specs.Outcomes.{PutsText}
use Rattle.pp_loading.specs.LoadLines.{Loads, cell_list, start_list}

pub puts_same : (text same before after : List ℕ) (count result : ℕ) → text ≡ same → PutsText text before after count result →
    PutsText same before after count result
puts_same text same before after count result e puts =
    let P : List ℕ → Type 0 = λ t. PutsText t before after count result in subst P e puts

pub loads_same : (text : List ℕ) (n : ℕ) (cells same : List Cell) (start at : Option ℕ) → cells ≡ same → start ≡ at
    → Loads text (start_list n start ++ cell_list n cells) → Loads text (start_list n at ++ cell_list n same)
loads_same text n cells same start at e f loads =
    let P : List Cell → Type 0 = λ c. Loads text (start_list n start ++ cell_list n c) in
    let Q : Option ℕ → Type 0 = λ s. Loads text (start_list n s ++ cell_list n same) in subst Q f (subst P e loads)

pub not_both : (b : Bool) → b ≡ true → b ≡ false → ⊥
not_both b at_true at_false = cc

-- If an earlier cell has the address of cell k, an address is there twice.
pub twice : (cells earlier : List Cell) (k : ℕ) (d : Cell) → k < length cells → earlier ≡ take k cells
    → Any (λ cell. cell.address ≡ (get_or cells k d).address) earlier → AllPairs (λ one other. one.address ≢ other.address) cells →
    ⊥
twice cells earlier k d below e (m, x, m_below, at, same) each =
    let k_le : k ≤ length cells = omega arith in
    let long : length earlier ≡ k = ap length e ∙ length-take-le k cells k_le in
    let m_k : m < k = omega arith in
    let moved : get_or earlier m x ≡ get_or cells m x = ap (λ (l : List Cell). get_or l m x) e ∙ get_or-take k cells m x m_k in
    let here : (get_or cells k d).address ≡ (get_or cells k x).address = ap (λ (cell : Cell). cell.address)
    (get_or_default cells k d x below) in
    each m k x m_k below (ap (λ (cell : Cell). cell.address) (sym moved ∙ at) ∙ same ∙ here)

-- If no earlier cell has the address of cell k, the addresses up to k are there once.
pub one_more : (cells earlier : List Cell) (k : ℕ) (d : Cell) → k < length cells → earlier ≡ take k cells
    → (Any (λ cell. cell.address ≡ (get_or cells k d).address) earlier → ⊥)
    → ((i j : ℕ) (e : Cell) → i < j → j < k → (get_or cells i e).address ≢ (get_or cells j e).address)
    → (i j : ℕ) (e : Cell) → i < j → j < k + 1 → (get_or cells i e).address ≢ (get_or cells j e).address
one_more cells earlier k d below e none each i j o i_j j_k same = elim (cases_lt j k) [
  | inl before ↦ each i j o i_j before same
  | inr after ↦
      let j_at : j ≡ k = omega arith in
      let i_k : i < k = omega arith in
      let k_le : k ≤ length cells = omega arith in
      let long : length earlier ≡ k = ap length e ∙ length-take-le k cells k_le in
      let i_below : i < length earlier = omega arith in
      let i_in : i < length cells = omega arith in
      let x : Cell = get_or cells i o in
      let moved : get_or earlier i x ≡ get_or cells i x = ap (λ (l : List Cell). get_or l i x) e ∙ get_or-take k cells i x i_k in
      let here : (get_or cells k o).address ≡ (get_or cells k d).address = ap (λ (cell : Cell). cell.address)
      (get_or_default cells k o d below) in
      let there : (get_or cells j o).address ≡ (get_or cells k o).address = ap (λ (n : ℕ). (get_or cells n o).address) j_at in
      none (i, x, i_below, moved ∙ get_or_default cells i x o i_in, same ∙ there ∙ here)
]
