-- Which lines are performed: those of the source, one by one in their order, up to the first that may make, repeat, choose or move lines.
use Rattle.std.specs.Prelude.{ℕ, ◌==◌, ◌+◌, ◌-◌, ◌^◌, ◌||◌, ◌&&◌, Bool, false, if◌then◌else◌, List, [], ◌∷◌, codes, nat_le}
use Rattle.std.specs.List.{list_any, starts_with}
use Rattle.std.specs.Cmp.Lexicographic.{pointwise}
use Rattle.pp_decks.specs.declared.lines.Lines.{Lines}
use Rattle.pp_source.specs.declared.vocabulary.Vocabulary.{Vocabulary}
use Rattle.pp_statements.specs.declared.scope.Row.{Row}
use Rattle.pp_assembler.specs.Meaning.{read_at}
use Rattle.pp_assembler.specs.Naming.{is_macro, is_one_of, is_synonym, operation_in}

-- The row of a literal is of no line.
abbrev pub NO_LINE : ℕ
NO_LINE = 2 ^ 64 - 1

-- The operations that choose, repeat, make or move lines, beside those whose names begin with IF.
abbrev pub TURNING : List (List ℕ)
TURNING = codes "SKIP" ∷ codes "ELSE" ∷ codes "DUP" ∷ codes "ECHO" ∷ codes "STOPDUP" ∷ codes "MACRO" ∷ codes "MACROE" ∷ codes "OPSYN"
    ∷ codes "RMT" ∷ codes "HERE" ∷ codes "XTEXT" ∷ []

-- An operation that may make, repeat, choose or move lines: so may a macro, and what OPSYN has named.
abbrev pub turns : Vocabulary → List ℕ → Bool
turns words word =
    starts_with ◌==◌ word (codes "IF") || (is_one_of TURNING word || (is_macro words word || is_synonym words word))

-- Micros are between two marks.
abbrev pub has_mark : List ℕ → Bool
has_mark line = list_any (λ symbol. symbol == 34) line

-- A line that may make, repeat, choose or move lines: by its operation, by a micro, or as *CALL. Any other note makes nothing.
abbrev pub is_turn : Vocabulary → List ℕ → Bool
is_turn words line =
    if starts_with ◌==◌ line (codes "*") then starts_with ◌==◌ line (codes "*CALL ")
    else has_mark line || turns words (operation_in line)

-- The row is of the line with an index, which has been performed.
abbrev pub is_row_of : ℕ → Row → Bool
is_row_of index row = row.is_performed && row.statement == index

-- An ELSE that counts lines, by this name or by one of OPSYN, is passed over with them.
abbrev pub may_be_else : Vocabulary → List ℕ → Bool
may_be_else words word = pointwise ◌==◌ word (codes "ELSE") || is_synonym words word

-- The row is of the line with an index; or, for one with a micro or a name of OPSYN, of a line made from others. It has been performed,
-- or is an ELSE.
abbrev pub is_begun : Lines → Vocabulary → ℕ → Row → Bool
is_begun lines words index row =
    (row.is_performed || may_be_else words (operation_in (read_at lines row.statement)))
    && (row.statement == index || nat_le lines.own row.statement)

-- The rows are of the lines from one to before an end, each once and in their order, up to the first of these that turns. Rows of literals
-- are passed over.
abbrev pub in_order : Lines → Vocabulary → ℕ → ℕ → List Row → Bool
in_order lines words next end [] = next == end
in_order lines words next end (row ∷ rows) =
    if row.statement == NO_LINE then in_order lines words next end rows
    else if next == end then false
    else if is_turn words (read_at lines next) then is_begun lines words next row
    else if is_row_of next row then in_order lines words (next + 1) end rows
    else false

-- The rows are of the lines of the source.
abbrev pub begins_in_order : Lines → Vocabulary → List Row → Bool
begins_in_order lines words rows = in_order lines words lines.source.first lines.source.end rows
