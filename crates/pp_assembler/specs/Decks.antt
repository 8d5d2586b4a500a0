-- The common decks that a source reads.
use Rattle.std.specs.Prelude.{ℕ, ◌≡◌, ◌<◌, ◌||◌, Bool, true, false, Any, List, [], Option}
use Rattle.std.specs.Prelude.{Some, None, codes, length, drop, slice_get}
use Rattle.std.specs.List.{AllByRecursion}
use Rattle.std.specs.Option.{is_some}
use Rattle.pp_notation.specs.Columns.{between}
use Rattle.pp_decks.specs.Decks.{AreOf, first_named}
use Rattle.pp_decks.specs.declared.decks.Deck.{Deck}
use Rattle.pp_decks.specs.declared.decks.Text.{Text}
use Rattle.pp_decks.specs.declared.lines.Line.{Line}
use Rattle.pp_decks.specs.declared.lines.Lines.{Lines}
use Rattle.pp_source.specs.declared.vocabulary.Vocabulary.{Vocabulary}
use Rattle.pp_statements.specs.declared.scope.Row.{Row}
use Rattle.pp_assembler.specs.Meaning.{read_at}
use Rattle.pp_assembler.specs.Naming.{deck_name, is_macro, is_synonym}
use Rattle.pp_assembler.specs.declared.program.Assembly.{Assembly}
use Rattle.pp_expansion.specs.declared.reading.Reading.{Reading}

-- There is one, and it is so.
abbrev pub HasOne : {X : Type 0} → Option X → (X → Type 0) → Type 0
HasOne None P = ⊥
HasOne (Some one) P = P one

-- Two lines have the same text, as the listing has it and in capitals.
abbrev pub IsCopy : Line → Line → Type 0
IsCopy own copy = (own.text ≡ copy.text) × (own.read ≡ copy.read)

-- The lines at a place of two lists have the same text.
abbrev pub IsCopied : List Line → List Line → ℕ → Type 0
IsCopied own copies at = HasOne (slice_get own at) (λ one. HasOne (slice_get copies at) (IsCopy one))

-- Lines begin with copies of others, each of them in its place.
abbrev pub AreCopies : List Line → List Line → Type 0
AreCopies own copies = (at : ℕ) → at < length own → IsCopied own copies at

-- The name of a deck, as it is in the line that reads it.
abbrev pub name_read : Lines → Reading → List ℕ
name_read lines reading = between (read_at lines reading.statement) reading.name.first reading.name.end

-- The lines of a deck, if there is one.
abbrev pub lines_of : Lines → Option Deck → List Line
lines_of lines None = []
lines_of lines (Some deck) = between lines.all.items deck.lines.first deck.lines.end

-- The lines of the deck with an index.
abbrev pub deck_lines : Lines → List Deck → ℕ → List Line
deck_lines lines decks index = lines_of lines (slice_get decks index)

-- What a line took from a deck are the lines, all of them and in their order, of the first deck with the name that it has.
unfoldable pub IsReading : Lines → List Deck → Reading → Type 0
IsReading lines decks reading =
    HasOne (first_named (name_read lines reading) decks)
    (λ index. AreCopies (deck_lines lines decks index) (drop reading.first lines.all.items))

-- Whether a macro, or OPSYN, has given another meaning to XTEXT.
abbrev pub is_taken : Vocabulary → Bool
is_taken words = is_macro words (codes "XTEXT") || is_synonym words (codes "XTEXT")

-- Whether there is a deck with a name. None is without a name.
abbrev pub is_deck : List Deck → List ℕ → Bool
is_deck decks [] = false
is_deck decks name = is_some (first_named name decks)

-- A line that is performed, and reads a deck, has taken its lines.
unfoldable pub IsRead : Lines → List Deck → Vocabulary → List Reading → Row → Type 0
IsRead lines decks words readings row =
    row.is_performed ≡ true → is_deck decks (deck_name (is_taken words) (read_at lines row.statement)) ≡ true →
    Any (λ reading. reading.statement ≡ row.statement) readings

-- The decks are those of the texts that were given, the lines that the source took from them are theirs, and each line that reads a
-- deck has taken lines.
abbrev pub AreRead : List Text → Assembly → Type 0
AreRead texts made =
    AreOf texts made.decks.all.items × AllByRecursion (IsReading made.lines made.decks.all.items) made.readings.items
    × AllByRecursion (IsRead made.lines made.decks.all.items made.vocabulary made.readings.items) made.rows.items
