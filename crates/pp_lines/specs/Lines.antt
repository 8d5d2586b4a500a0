-- The lines of a list of bytes, finished and unfinished. The byte 10 (decimal) is the line feed, and 13 is the carriage return.
use Rattle.std.specs.Prelude.{ℕ, ◌-◌, ◌≤◌, ◌==◌, if◌then◌else◌, List, [], ◌∷◌, ◌++◌, length, take, slice_index}

-- The lines with a byte added to the start of the first line, if there is one.
abbrev pub extend_first : ℕ → List (List ℕ) → List (List ℕ)
extend_first byte [] = []
extend_first byte (line ∷ lines) = (byte ∷ line) ∷ lines

-- The lines that end with a line feed, each without it.
abbrev pub finished : List ℕ → List (List ℕ)
finished [] = []
finished (byte ∷ bytes) = if byte == 10 then [] ∷ finished bytes else extend_first byte (finished bytes)

-- One more byte in front of the bytes after the last line feed, unless a line feed comes in between, so that a line is finished.
abbrev pub extend_unfinished : ℕ → List (List ℕ) → List ℕ → List ℕ
extend_unfinished byte [] rest = byte ∷ rest
extend_unfinished byte (line ∷ lines) rest = rest

-- The bytes after the last line feed.
abbrev pub unfinished : List ℕ → List ℕ
unfinished [] = []
unfinished (byte ∷ bytes) = if byte == 10 then unfinished bytes else extend_unfinished byte (finished bytes) (unfinished bytes)

-- The bytes after the last line feed are a line if there are any.
abbrev pub last_line : List ℕ → List (List ℕ)
last_line [] = []
last_line (byte ∷ bytes) = (byte ∷ bytes) ∷ []

-- The lines of a text: those that end with a line feed, and the bytes after the last line feed, if there are any.
unfoldable pub lines : List ℕ → List (List ℕ)
lines bytes = finished bytes ++ last_line (unfinished bytes)

-- The lines that end with a line feed within the first `byte_limit` bytes, at most `line_limit` lines.
unfoldable pub finished_within : ℕ → ℕ → List ℕ → List (List ℕ)
finished_within line_limit byte_limit bytes = take line_limit (finished (take byte_limit bytes))

-- The text has no more lines and no more bytes than the limits.
pub record IsWithin (line_limit byte_limit : ℕ) (bytes : List ℕ) : Type 0 where
  pub lines_within : length (lines bytes) ≤ line_limit
  pub bytes_within : length bytes ≤ byte_limit

-- The line without one carriage return at its end.
abbrev pub without_return : List ℕ → List ℕ
without_return line = if slice_index line (length line - 1) == 13 then take (length line - 1) line else line
