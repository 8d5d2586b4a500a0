-- The listing: for each row its addresses, its words, and the text of its line.
use Rattle.std.specs.Prelude.{ℕ, ℤ, pos, ◌+◌, ◌-◌, ◌%◌, ◌+ℤ◌, ◌==◌, ◌&&◌, Bool, false, not, nat_lt, if◌then◌else◌, bit_and}
use Rattle.std.specs.Prelude.{Option, Some, None, is_none, List, [], ◌∷◌, ◌++◌, codes, replicate, slice_get, take}
use mir.Syntax.{w64}
use Rattle.std.specs.Int.{int_wrap}
use Rattle.std.specs.List.{flat_map}
use Rattle.std.specs.Ordering.{int_eq}
use Rattle.pp_arith.specs.Octal.{octal_text}
use Rattle.pp_notation.specs.Columns.{between, ended, in_columns, optional, signed_octal}
use Rattle.pp_listing.specs.Texts.{row_words}
use Rattle.pp_decks.specs.declared.lines.Line.{Line}
use Rattle.pp_statements.specs.declared.scope.Row.{Row}
use Rattle.pp_assembler.specs.declared.program.Assembly.{Assembly}

-- The address that a row names, if it is one of the memory and does not change.
abbrev pub named : Bool → Option ℤ → Option ℤ
named false (Some (pos address)) = if nat_lt address 0o10000 then Some (pos address) else None
named _ _ = None

-- The address of a row, or the one that it names.
abbrev pub address : Row → Option ℤ
address row = if row.has_address then Some row.location else named row.is_set row.value

-- The address to which a row is loaded, if that is another one.
abbrev pub load_address : Row → Option ℤ
load_address row = if row.has_address && not (int_eq row.origin row.location) then Some row.origin else None

-- The addresses of a row: four columns, and five with > before the number.
abbrev pub address_fields : Row → List ℕ
address_fields row = in_columns 4 (optional (λ number. signed_octal number 4) (address row)) ++ codes " "
    ++ in_columns 5 (optional (λ number. codes ">" ++ signed_octal number 4) (load_address row)) ++ codes " "

-- The first two words.
abbrev pub words_field : List ℕ → List ℕ
words_field words = in_columns 11 (flat_map (λ word. octal_text word 4 ++ codes " ") (take 2 words))

-- The number that a row names, if it is no address, or else its first words.
abbrev pub value_field : Row → List ℕ → Option ℤ → List ℕ
value_field row words None = words_field words
value_field row words (Some value) =
    if not row.has_address && is_none (named row.is_set row.value) then in_columns 11 (signed_octal value 1) else words_field words

-- A text from a column, modulo 8, on: a tab goes to the next column that 8 divides. A character of UTF-8 is in one column.
unfoldable pub without_tabs : ℕ → List ℕ → List ℕ
without_tabs column [] = []
without_tabs column (byte ∷ text) =
    if byte == 9 then replicate (8 - column) 32 ++ without_tabs 0 text
    else byte ∷ without_tabs (if bit_and byte 0o300 == 0o200 then column else (column + 1) % 8) text

-- The text of a line, or that of a literal.
abbrev pub text_of : Assembly → Option Line → List ℕ
text_of made None = codes "*         LITERAL"
text_of made (Some line) = between made.lines.text.items line.text.first line.text.end

-- The address two words on, as 64 bits.
abbrev pub next_address : ℤ → ℤ
next_address address = int_wrap w64 (address +ℤ pos 2)

-- A row two words on.
abbrev pub two_on : Row → Row
two_on row = record row { location = next_address row.location; origin = next_address row.origin }

-- The lines of the words after the first two, with their addresses.
unfoldable pub further_lines : Row → List ℕ → List ℕ
further_lines row (first ∷ second ∷ word ∷ words) =
    ended (address_fields (two_on row) ++ words_field (word ∷ words)) ++ further_lines (two_on row) (word ∷ words)
further_lines row words = []

-- The lines of a row.
abbrev pub listed_row : Assembly → Row → List ℕ
listed_row made row =
    ended (address_fields row ++ value_field row (row_words made row) row.value
    ++ without_tabs 0 (text_of made (slice_get made.lines.all.items row.statement))) ++ further_lines row (row_words made row)
