-- All that is known of a source's rows and programs, for tools.
use Rattle.std.specs.Prelude.{ℕ, ℤ, Bool, if◌then◌else◌, is_none, List, [], ◌∷◌, ◌++◌, Option, Some, None, codes, slice_get}
use Rattle.std.specs.List.{flat_map}
use Rattle.pp_arith.specs.Octal.{octal_text}
use Rattle.pp_notation.specs.Columns.{signed_octal}
use Rattle.pp_listing.specs.Listing.{text_of}
use Rattle.pp_listing.specs.Texts.{addresses, row_words, start_line}
use Rattle.pp_decks.specs.declared.lines.Line.{Line}
use Rattle.pp_statements.specs.declared.scope.Row.{Row}
use Rattle.pp_assembler.specs.declared.program.Assembly.{Assembly}
use Rattle.pp_notation.specs.declared.program.Cell.{Cell}
use Rattle.pp_notation.specs.declared.program.Program.{Program}
use Rattle.pp_statements.specs.declared.units.Unit.{Unit}

-- S for a line of the source, M for one that the call of a macro made.
abbrev pub kind : Line → ℕ
kind line = if is_none line.call then 83 else 77

-- What the line of a row is: its number in the source, where its text begins among those of all lines, and its kind; or that the
-- row is of a literal.
abbrev pub line_fields : Option Line → List ℕ
line_fields None = codes "0 0 L"
line_fields (Some line) = octal_text line.number 1 ++ codes " " ++ octal_text line.text.first 1 ++ codes " " ++ kind line ∷ []

-- A letter, or else a minus.
abbrev pub flag : Bool → ℕ → ℕ
flag is letter = if is then letter else 45

-- A if a row has an address, and P if its line was performed, not only listed.
abbrev pub letters : Row → List ℕ
letters row = codes " " ++ flag row.has_address 65 ∷ flag row.is_performed 80 ∷ []

-- ~ before a number that SET may change, = before another one.
abbrev pub mark : Bool → ℕ
mark is_set = if is_set then 126 else 61

-- The number that a row names.
abbrev pub value_text : Bool → Option ℤ → List ℕ
value_text is_set None = []
value_text is_set (Some value) = codes " " ++ mark is_set ∷ [] ++ signed_octal value 1

-- What a row is, of a line: its line, its location and origin, and what is known of it.
abbrev pub row_fields : Option Line → Row → List ℕ
row_fields line row = line_fields line ++ addresses row ++ letters row

-- The number that a row names, and its words.
abbrev pub row_numbers : Assembly → Row → List ℕ
row_numbers made row = value_text row.is_set row.value ++ flat_map (λ word. codes " " ++ octal_text word 4) (row_words made row)

-- A row: what it is, its numbers, and behind a tab the text of its line.
abbrev pub known_row : Assembly → Row → List ℕ
known_row made row =
    row_fields (slice_get made.lines.all.items row.statement) row ++ row_numbers made row
    ++ 9 ∷ [] ++ text_of made (slice_get made.lines.all.items row.statement) ++ 10 ∷ []

-- A cell: its address, its word, and the number of the line that put it there.
abbrev pub numbered_cell : Cell → List ℕ
numbered_cell cell = octal_text cell.address 4 ++ codes " " ++ octal_text cell.word 4 ++ codes " " ++ octal_text cell.line 1 ++ 10
    ∷ []

-- A program: a line for each cell, and one for where it begins.
abbrev pub program_lines : Program → List ℕ
program_lines program = flat_map numbered_cell program.cells.items ++ start_line program.start

-- A further program of a source, after its name.
abbrev pub unit_lines : Unit → List ℕ
unit_lines unit = codes "IDENT " ++ unit.name.items ++ 10 ∷ [] ++ program_lines unit.program
