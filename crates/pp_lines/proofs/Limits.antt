-- Lines within a limit of lines and of bytes, and lines of which a prefix is kept.
use Rattle.std.proofs.{lemmas.Grind.common_steps, Math.Seq.take-append_seam, Math.Seq.take-append-add}
use Rattle.std.proofs.Common.{◌≡◌, ℕ, zero, suc, ◌+◌, ◌-◌, ◌<◌, ◌≤◌, ◌⊎◌, List, [], ◌∷◌, ◌++◌, length, take}
use Rattle.std.proofs.Common.{refl, ap, arith, length-append, length-take}
use Rattle.pp_lines.specs.LineCutter.{IsPrefixOf}
use Rattle.pp_lines.specs.Lines.{lines, finished, unfinished, last_line, finished_within, IsWithin}
use Rattle.pp_lines.proofs.LineCuts.{lines_first, finished-more}

-- at most one line is unfinished
pub last_line-one : (rest : List ℕ) → length (last_line rest) ≤ 1
last_line-one rest = grind arith

-- if a line was begun, at least one byte of it is kept
pub kept-begun : (most : ℕ) (rest : List ℕ) → 0 < most → length (last_line rest) ≤ length (take most rest)
kept-begun most rest h = grind (arith, length-take most rest)

-- the lines, if the last one ends with a line feed
pub lines-whole : (kept : ℕ) (front bytes : List ℕ) → 0 < kept →
    IsPrefixOf kept front bytes → length front ≡ 0 → lines bytes ≡ finished bytes
unfolding lines
lines-whole kept front bytes some is_front empty = grind (arith, common_steps, length-take kept (unfinished bytes))

-- the lines, if the last one does not end with a line feed
pub lines-last : (kept : ℕ) (front bytes : List ℕ) → IsPrefixOf kept front bytes →
    0 < length front → lines bytes ≡ finished bytes ++ unfinished bytes ∷ []
unfolding lines
lines-last kept front bytes is_front begun = grind (arith, length-take kept (unfinished bytes))

-- there are as many lines as finished lines, or one more
pub lines-count : (bytes : List ℕ) → length (lines bytes) ≡ length (finished bytes) + length (last_line (unfinished bytes))
unfolding lines
lines-count bytes = grind (arith, common_steps)

-- within the limits all finished lines count
pub finished_within-all : (line_limit byte_limit : ℕ) (bytes : List ℕ) →
    IsWithin line_limit byte_limit bytes → finished_within line_limit byte_limit bytes ≡ finished bytes
unfolding finished_within lines
finished_within-all line_limit byte_limit bytes within = grind (arith, common_steps)

pub finished_within-whole : (line_limit byte_limit : ℕ) (bytes : List ℕ) → length bytes ≤ byte_limit →
    length (finished bytes) ≤ line_limit → finished_within line_limit byte_limit bytes ≡ finished bytes
unfolding finished_within
finished_within-whole line_limit byte_limit bytes bytes_within lines_within = grind (arith, common_steps)

-- the first n elements of a longer list begin with the first n of the shorter one
take_more : {X : Type 0} (n : ℕ) (xs more : List X) → (extra : List X) × (take n (xs ++ more) ≡ take n xs ++ extra)
take_more zero xs more = ([], refl)
take_more (suc n) [] more = (take (suc n) more, refl)
take_more (suc n) (x ∷ xs) more = let rest = take_more n xs more in (rest.0, ap (λ ys. x ∷ ys) rest.1)

-- more bytes do not change the finished lines within the limits
pub finished_within-more : (line_limit byte_limit : ℕ) (bytes more : List ℕ) → (extra : List (List ℕ))
    × (finished_within line_limit byte_limit (bytes ++ more) ≡ finished_within line_limit byte_limit bytes ++ extra)
unfolding finished_within
finished_within-more line_limit byte_limit bytes more =
    let front = take_more byte_limit bytes more in
    let further = finished-more (take byte_limit bytes) front.0 in
    let all = take_more line_limit (finished (take byte_limit bytes)) further.0 in
    (all.0, rw (front.1, further.1) all.1)

-- bytes after a line feed add at least one line
pub lines-further : (kept more : List ℕ) → 0 < length more → length (finished kept) < length (lines (kept ++ more))
lines-further [] [] h = absurd (omega arith)
lines-further [] (byte ∷ more) h = grind (arith, lines_first byte more)
lines-further (byte ∷ kept) more h = grind (arith, lines_first byte (kept ++ more), lines-further kept more h)

-- a prefix that is longer than the first part
pub take-front : (most : ℕ) (kept more : List ℕ) → length kept ≤ most →
    take most (kept ++ more) ≡ kept ++ take (most - length kept) more
take-front most kept more h = grind (arith, common_steps, take-append-add kept more (most - length kept))

-- the finished lines within the limits, once a limit is reached
pub finished_within-kept : (line_limit byte_limit : ℕ) (kept more : List ℕ) → IsWithin line_limit byte_limit kept →
    (length kept ≡ byte_limit) ⊎ (length (finished kept) ≡ line_limit) →
    finished_within line_limit byte_limit (kept ++ more) ≡ finished kept
unfolding finished_within
finished_within-kept line_limit byte_limit kept more within full =
    let further = finished-more kept (take (byte_limit - length kept) more) in
    grind (
      arith,
      common_steps,
      take-append_seam kept more,
      take-append_seam (finished kept) further.0,
      take-front byte_limit kept more,
      lines-count kept,
    )

-- which limit was passed
pub passed : (line_limit byte_limit : ℕ) (kept more : List ℕ) → 0 < length more →
    (length kept ≡ byte_limit) ⊎ (length (finished kept) ≡ line_limit) →
    (byte_limit < length (kept ++ more)) ⊎ (line_limit < length (lines (kept ++ more)))
passed line_limit byte_limit kept more h full = grind (arith, length-append kept more, lines-further kept more)
