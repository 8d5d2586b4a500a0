-- The five parts of a word: joined, and split again.
use Rattle.std.proofs.Common.{◌≡◌, ◌∙◌, ℕ, ◌+◌, ◌*◌, ◌^◌, ◌<◌, ◌≤◌, List, [], ◌∷◌, length, slice_index_or, refl, sym, arith}
use Rattle.pp_arith.specs.Words60.{split60}

-- a part of a word
abbrev pub part : List ℕ → ℕ → ℕ
part parts k = slice_index_or parts k 0

five : (parts : List ℕ) → length parts ≡ 5 → parts ≡ part parts 0 ∷ part parts 1 ∷ part parts 2 ∷ part parts 3 ∷ part parts 4 ∷ []
five (a ∷ b ∷ c ∷ d ∷ e ∷ []) h = refl
five parts h = absurd (omega (arith, h))

word_of : ℕ → ℕ → ℕ → ℕ → ℕ → ℕ
word_of a b c d e = a * 2 ^ 48 + b * 2 ^ 36 + c * 2 ^ 24 + d * 2 ^ 12 + e

taken_apart : (a b c d e : ℕ) → a ≤ 0o7777 → b ≤ 0o7777 → c ≤ 0o7777 →
    d ≤ 0o7777 → e ≤ 0o7777 → split60 (word_of a b c d e) ≡ a ∷ b ∷ c ∷ d ∷ e ∷ []
unfolding word_of
taken_apart a b c d e ha hb hc hd he = grind arith

pub parts_back : (parts : List ℕ) → length parts ≡ 5 → ((k : ℕ) → k < 5 → part parts k ≤ 0o7777) →
    split60 (part parts 0 * 2 ^ 48 + part parts 1 * 2 ^ 36 + part parts 2 * 2 ^ 24 + part parts 3 * 2 ^ 12 + part parts 4) ≡ parts
unfolding word_of
parts_back parts h small = taken_apart (part parts 0) (part parts 1) (part parts 2) (part parts 3) (part parts 4)
    (small 0 (omega arith)) (small 1 (omega arith)) (small 2 (omega arith)) (small 3 (omega arith)) (small 4 (omega arith))
    ∙ sym (five parts h)
