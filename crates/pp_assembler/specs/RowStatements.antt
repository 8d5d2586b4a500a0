-- The statements of programs are those of the rows of the listing: each once, in their order, and none is left out.
use Rattle.std.specs.Prelude.{ℕ, ◌≡◌, ◌==◌, ◌+◌, ◌*◌, ◌/◌, ◌&&◌, ◌||◌, Bool, true, false, not, if◌then◌else◌, nat_le, Option, Some, None}
use Rattle.std.specs.Prelude.{List, [], ◌∷◌, codes, drop, fold, length, position, slice_get, take}
use Rattle.std.specs.List.{AllZip, list_all, starts_with}
use Rattle.std.specs.Cmp.Lexicographic.{pointwise}
use Rattle.pp_decks.specs.Blanks.{BLANKS, is_among}
use Rattle.pp_decks.specs.declared.lines.Lines.{Lines}
use Rattle.pp_meaning.specs.declared.statements.Statement.{Statement}
use Rattle.pp_meaning.specs.declared.statements.SystemText.{SystemText}
use Rattle.pp_meaning.specs.declared.statements.Unit.{Unit as Statements}
use Rattle.pp_source.specs.declared.vocabulary.Vocabulary.{Vocabulary}
use Rattle.pp_statements.specs.declared.scope.Row.{Row}
use Rattle.pp_statements.specs.declared.scope.SystemRows.{SystemRows}
use Rattle.pp_assembler.specs.Meaning.{read_at}
use Rattle.pp_assembler.specs.Naming.{is_one_of, is_sign, operation_in, up_to_place}
use Rattle.pp_assembler.specs.Order.{NO_LINE, turns}

-- The column on paper behind a symbol: a tab goes to the next multiple of 8. Beyond the last column of a statement none counts.
abbrev pub column_behind : ℕ → ℕ → ℕ
column_behind column symbol = if nat_le 72 column then column else (if symbol == 9 then column / 8 * 8 + 8 else column + 1)

-- The column of the first symbol that is no blank.
abbrev pub first_column : List ℕ → ℕ
first_column line = fold column_behind 0 (up_to_place line (position is_sign line))

-- A note, an empty line, or one with a sequence number alone.
abbrev pub is_note : List ℕ → Bool
is_note line = starts_with ◌==◌ line (codes "*") || (list_all (is_among BLANKS) line || nat_le 72 (first_column line))

-- The operations that make no words and define no symbol, beside those that choose, repeat, make or move lines.
abbrev pub SILENT : List (List ℕ)
SILENT = codes "IDENT" ∷ codes "ABS" ∷ codes "SST" ∷ codes "ENTRY" ∷ codes "TITLE" ∷ codes "TTL" ∷ codes "COMMENT" ∷ codes "SPACE"
    ∷ codes "EJECT" ∷ codes "LIST" ∷ codes "NOREF" ∷ codes "XREF" ∷ codes "CTEXT" ∷ codes "ENDX" ∷ codes "NOLABEL" ∷ codes "NIL"
    ∷ codes "SEG" ∷ codes "LCC" ∷ codes "STEXT" ∷ codes "CODE" ∷ codes "COL" ∷ codes "MICRO" ∷ codes "DECMIC" ∷ codes "OCTMIC"
    ∷ codes "PURGMAC" ∷ codes "ERR" ∷ codes "ERRNZ" ∷ codes "ERRZR" ∷ codes "ERRPL" ∷ codes "ERRMI" ∷ codes "ERRNG" ∷ []

-- A line that may be without a statement.
unfoldable pub is_silent : Vocabulary → List ℕ → Bool
is_silent words line = is_note line || (is_one_of SILENT (operation_in line) || turns words (operation_in line))

-- A row that may be without a statement: it has not been performed, it is of no line, or its line is silent.
unfoldable pub may_be_without : Lines → Vocabulary → Row → Bool
may_be_without lines words row =
    not row.is_performed || (row.statement == NO_LINE || is_silent words (read_at lines row.statement))

-- A row has a statement: it has been performed, and its line is that of the statement.
abbrev pub has_statement : Lines → Row → Option Statement → Bool
has_statement lines row None = false
has_statement lines row (Some statement) = row.is_performed && pointwise ◌==◌ statement.line.items (read_at lines row.statement)

-- The statements from an index on are those of rows, one after another.
abbrev pub follow : Lines → Vocabulary → List Statement → ℕ → List Row → Bool
follow lines words statements next [] = next == length statements
follow lines words statements next (row ∷ rows) =
    if has_statement lines row (slice_get statements next) then follow lines words statements (next + 1) rows
    else may_be_without lines words row && follow lines words statements next rows

-- Programs have parts of the rows, one behind another and all of them.
abbrev pub AreOfRows : Lines → Vocabulary → List Statements → List Row → Type 0
AreOfRows lines words [] rows = rows ≡ []
AreOfRows lines words (unit ∷ units) rows =
    (end : ℕ) × (follow lines words unit.statements.items 0 (take end rows) ≡ true) × AreOfRows lines words units (drop end rows)

-- So have those of system texts.
abbrev pub AreOfSystemRows : Lines → Vocabulary → List SystemText → List SystemRows → Type 0
AreOfSystemRows lines words systems rows = AllZip (λ text own. AreOfRows lines words text.units.items own.rows.items) systems rows
