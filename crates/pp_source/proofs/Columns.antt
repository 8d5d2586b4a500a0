-- Columns of a line, and what is from them on.
use Rattle.std.proofs.Common.{◌≡◌, ◌≢◌, ◌∙◌, ℕ, ◌+◌, ◌==◌, ◌≤◌, false, List, ◌∷◌, Some, ap, arith, drop, length, min, refl, sym, take}
use Rattle.std.proofs.lemmas.Bool.Decides.{nat_tests}
use Rattle.std.proofs.lemmas.List.{drop-drop, drop_min}
use Rattle.pp_source.specs.Scan.{cut_at, index_of, is_alphanumeric}
use Rattle.pp_source.specs.Texts.{marked, text_in}
use Rattle.pp_source.specs.declared.texts.DisplayText.{DisplayText}

next_column : (line : List ℕ) (at size : ℕ) → drop (at + size) line ≡ drop size (drop at line)
next_column line at size = sym (drop-drop size at line)

pub from_column : (line : List ℕ) (first size : ℕ) → drop (min (first + size) (length line)) line ≡ drop size (drop first line)
from_column line first size = drop_min (first + size) line ∙ next_column line first size

-- A column that is the greatest number is behind the line.
pub far_column : (line : List ℕ) (at size most : ℕ) → length line ≤ most → drop (min (at + size) most) line ≡ drop size (drop at line)
far_column line at size most within =
    let same : min (min (at + size) most) (length line) ≡ min (at + size) (length line) = omega arith in
    sym (drop_min (min (at + size) most) line) ∙ (ap (λ (k : ℕ). drop k line) same ∙ from_column line at size)

pub cut_found : (text : List ℕ) (symbol at : ℕ) (before behind : List ℕ) → Some at ≡ index_of symbol text → before ≡ take at text →
    behind ≡ drop (at + 1) text → (before, Some behind) ≡ cut_at text (index_of symbol text)
cut_found text symbol at before behind found one other = rw (← found, one, other) refl

-- A text between two marks, which ends at a column.
pub between_marks : (line whole rest : List ℕ) (kind mark size : ℕ) (text : DisplayText) → whole ≡ mark ∷ rest →
    is_alphanumeric mark ≡ false → mark ≢ 32 → Some size ≡ index_of mark rest → text.kind ≡ kind → text.symbols.now ≡ take size rest →
    text.count ≡ size → drop text.end line ≡ drop (size + 2) whole → Some (Some (text_in line text)) ≡ marked kind whole
between_marks line whole rest kind mark size text e letter blank found same symbols count ends =
    let no_blank : (mark == 32) ≡ false = grind (arith, nat_tests) in
    let sum : size + 2 ≡ 1 + (size + 1) = omega arith in
    let one : drop (size + 2) (mark ∷ rest) ≡ drop (1 + (size + 1)) (mark ∷ rest) = ap (λ (k : ℕ). drop k (mark ∷ rest)) sum in
    let two : drop (1 + (size + 1)) (mark ∷ rest) ≡ drop (size + 1) rest = next_column (mark ∷ rest) 1 (size + 1) in
    let behind : drop text.end line ≡ drop (size + 1) rest = ends ∙ (ap (drop (size + 2)) e ∙ (one ∙ two)) in
    rw (e, letter, no_blank, ← found, same, symbols, count, behind) refl
