-- The words of a line.
use Rattle.std.specs.Prelude.{ℕ, ◌==◌, Bool, true, false, not, ◌||◌, if◌then◌else◌, List, [], ◌∷◌, slice_index}
use Rattle.pp_lines.specs.Lines.{extend_first}

-- A blank or a tab, bytes 32 and 9 (decimal).
abbrev pub is_blank : ℕ → Bool
is_blank byte = byte == 32 || byte == 9

-- Whether a word goes on here: the first byte, if there is one, is no blank and no tab.
abbrev pub goes_on : List ℕ → Bool
goes_on [] = false
goes_on (byte ∷ bytes) = not (is_blank byte)

-- The words of a line are its longest parts without a blank or a tab.
unfoldable pub words : List ℕ → List (List ℕ)
words [] = []
words (byte ∷ bytes) = if is_blank byte then words bytes
    else (if goes_on bytes then extend_first byte (words bytes) else (byte ∷ []) ∷ words bytes)

-- A line is ignored if it has no words, or if its first word begins with a star, byte 42 (decimal).
abbrev pub is_ignored : List (List ℕ) → Bool
is_ignored [] = true
is_ignored (first ∷ others) = slice_index first 0 == 42
