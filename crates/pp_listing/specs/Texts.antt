-- What is written of a source.
use Rattle.std.specs.Prelude.{ℕ, ℤ, pos, negsuc, ◌&&◌, ◌==◌, nat_lt, Bool, if◌then◌else◌, List, [], ◌∷◌, ◌++◌, Option, Some, None}
use Rattle.std.specs.Prelude.{codes, decimal, length, slice_get}
use Rattle.std.specs.List.{flat_map, list_any}
use Rattle.pp_arith.specs.Octal.{octal_text}
use Rattle.pp_notation.specs.Columns.{between, signed_octal}
use Rattle.pp_decks.specs.declared.lines.Line.{Line}
use Rattle.pp_decks.specs.declared.places.Complaint.{Complaint}
use Rattle.pp_statements.specs.declared.scope.Row.{Row}
use Rattle.pp_assembler.specs.declared.program.Assembly.{Assembly}
use Rattle.pp_notation.specs.declared.program.Cell.{Cell}
use Rattle.pp_source.specs.declared.symbols.Definition.{Definition}
use Rattle.pp_source.specs.declared.symbols.Symbol.{Symbol}

-- The line of a complaint: its line and its column, decimal, and its text.
abbrev pub complaint_line : Complaint → List ℕ
complaint_line complaint =
    decimal complaint.line ++ codes ":" ++ decimal complaint.column ++ codes ": " ++ complaint.text.items ++ 10 ∷ []

-- A line for each complaint.
abbrev pub complaint_lines : List Complaint → List ℕ
complaint_lines = flat_map complaint_line

-- The line of a cell: its address and its word, each in four octal digits.
abbrev pub cell_line : Cell → List ℕ
cell_line cell = octal_text cell.address 4 ++ codes " " ++ octal_text cell.word 4 ++ 10 ∷ []

-- A line for each cell.
abbrev pub cell_lines : List Cell → List ℕ
cell_lines = flat_map cell_line

-- The line of the address at which a program begins, if it names one.
abbrev pub start_line : Option ℕ → List ℕ
start_line None = []
start_line (Some address) = codes "P " ++ octal_text address 4 ++ 10 ∷ []

-- The words of a row of the listing.
abbrev pub row_words : Assembly → Row → List ℕ
row_words made row = between made.words.items row.first row.end

-- The location and the origin of a row.
abbrev pub addresses : Row → List ℕ
addresses row = codes " " ++ signed_octal row.location 4 ++ codes " " ++ signed_octal row.origin 4

-- The number of a line, its addresses and its words, if it has words.
abbrev pub numbers_line : ℕ → Row → List ℕ → List ℕ
numbers_line number row words = if length words == 0 then []
    else octal_text number 1 ++ addresses row ++ flat_map (λ word. codes " " ++ octal_text word 4) words ++ 10 ∷ []

-- The line of a row whose line is one of the source.
abbrev pub numbers_of : Option Line → Row → List ℕ → List ℕ
numbers_of None row words = []
numbers_of (Some line) row words = numbers_line line.number row words

abbrev pub row_line : Assembly → Row → List ℕ
row_line made row = numbers_of (slice_get made.lines.all.items row.statement) row (row_words made row)

-- What is after the last / of a name.
unfoldable pub unqualified : List ℕ → List ℕ
unqualified [] = []
unqualified (symbol ∷ name) = if list_any (λ one. one == 47) (symbol ∷ name) then unqualified name else symbol ∷ name

-- The line of a name that stands for a number, if that is not minus: a cell of the memory, or another number.
abbrev pub value_line : List ℕ → ℤ → Bool → List ℕ
value_line name (negsuc less) is_address = []
value_line name (pos value) is_address =
    name ++ (if is_address && nat_lt value 0o10000 then codes " " ++ octal_text value 4 else codes " = " ++ octal_text value 1)
    ++ 10 ∷ []

-- The same of a name that may have no number, or several in turn.
abbrev pub numbered_line : List ℕ → Option ℤ → Definition → List ℕ
numbered_line name None definition = []
numbered_line name (Some value) definition = if definition.is_set then [] else value_line name value definition.is_address

abbrev pub defined_line : List ℕ → Option Definition → List ℕ
defined_line name None = []
defined_line name (Some definition) = numbered_line name definition.value definition

-- The line of a name, whose key is in a text, by what it stands for.
abbrev pub name_line : List ℕ → Symbol → List ℕ
name_line text symbol = defined_line (unqualified (between text symbol.key.first symbol.key.end)) symbol.seen
