-- The places of a source: its lines, each from 1, and their columns, each from 1.
use Rattle.std.specs.Prelude.{ℕ, ◌+◌, ◌-◌, ◌<◌, ◌≤◌, List, length, map, slice_index}
use Rattle.pp_notation.specs.Columns.{between}
use Rattle.pp_lines.specs.Lines.{lines}
use Rattle.pp_decks.specs.declared.spans.Span.{Span}
use Rattle.pp_decks.specs.declared.places.Complaint.{Complaint}

-- how many bytes a line has
abbrev pub length_of : Span → ℕ
length_of span = span.end - span.first

-- the bytes of a source that a line has
abbrev pub text_in : List ℕ → Span → List ℕ
text_in source span = between source span.first span.end

-- The lengths of the lines of a source, in bytes.
abbrev pub line_lengths : List ℕ → List ℕ
line_lengths source = map length (lines source)

-- A complaint is about a line of a source whose lines have these lengths, and about a column of that line or the one after its last
-- byte.
pub record IsOfLine (lengths : List ℕ) (complaint : Complaint) : Type 0 where
  pub line_from_1 : 0 < complaint.line
  pub line : complaint.line ≤ length lengths
  pub column_from_1 : 0 < complaint.column
  pub column : complaint.column ≤ slice_index lengths (complaint.line - 1) + 1
