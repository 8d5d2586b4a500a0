-- The first line of a text, and the lines after it.
use Rattle.std.proofs.Common.{◌≡◌, ℕ, ◌+◌, ◌<◌, List, [], ◌∷◌, ◌++◌, append_assoc, arith, length, length-append, refl, take}
use Rattle.std.proofs.Common.{take_all}
use Rattle.std.proofs.Math.Seq.{take-append_seam}
use Rattle.pp_lines.proofs.LineCuts.{finished-feed, finished-more, lines_first, lines_split, unfinished-feed}
use Rattle.pp_lines.proofs.{OpenTexts.unfinished-text, Writing.slice_from}
use Rattle.pp_lines.specs.Lines.{finished, lines, unfinished}

-- after bytes that end with a line feed the lines are apart
pub lines_apart : (bytes more : List ℕ) → unfinished bytes ≡ [] → lines (bytes ++ more) ≡ lines bytes ++ lines more
unfolding lines
lines_apart [] more none = refl
lines_apart (byte ∷ bytes) more none =
    grind (arith, lines_first byte (bytes ++ more), lines_first byte bytes, lines_split bytes, lines_apart bytes more)

pub unfinished_apart : (bytes more : List ℕ) → unfinished bytes ≡ [] → unfinished (bytes ++ more) ≡ unfinished more
unfinished_apart [] more none = refl
unfinished_apart (byte ∷ bytes) more none =
    let (extra, grown) = finished-more bytes more in grind (arith, grown, unfinished_apart bytes more)

-- a text without a line feed is one line
open_line : (line : List ℕ) → finished line ≡ [] → unfinished line ≡ line
open_line line none = unfinished-text [] line none

taken_feed : (line later : List ℕ) → take (length line + 1) (line ++ 10 ∷ later) ≡ line ++ 10 ∷ []
taken_feed line later =
    rw (length-append, append_assoc) at (take-append_seam (line ++ 10 ∷ []) later)

-- a line with its line feed
pub fed_line : (line later text : List ℕ) → finished line ≡ [] → text ≡ line ++ 10 ∷ later →
    lines (take (length line + 1) text) ≡ line ∷ []
fed_line line later text none is =
    rw (is, taken_feed, lines_split, finished-feed, unfinished-feed, none, open_line line none) refl

pub fed_ends : (line later text : List ℕ) → text ≡ line ++ 10 ∷ later → unfinished (take (length line + 1) text) ≡ []
fed_ends line later text is = rw (is, taken_feed) (unfinished-feed line)

-- a last line without a line feed
pub last_taken : (line : List ℕ) → finished line ≡ [] → 0 < length line → lines (take (length line) line) ≡ line ∷ []
last_taken line none some = grind (arith, take_all (length line) line, lines_split line, open_line line none)

pub ruleset first_lines = (fed_line, fed_ends, last_taken, slice_from)
