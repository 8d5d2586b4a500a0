-- The lines of a text, cut at its line feeds, each with those that continue it.
use Rattle.std.specs.Prelude.{ℕ, ◌≡◌, ◌==◌, ◌+◌, ◌-◌, ◌<◌, if◌then◌else◌, List, [], ◌∷◌, ◌++◌, Option, Some, None}
use Rattle.std.specs.Prelude.{drop, length, map, slice_get}
use Rattle.std.specs.Char.{to_ascii_uppercase}
use Rattle.std.specs.List.{flat_map, starts_with}
use Rattle.pp_notation.specs.Columns.{between}
use Rattle.pp_decks.specs.Blanks.{BLANKS, in_columns, without_end}
use Rattle.pp_decks.specs.declared.lines.Line.{Line}
use Rattle.pp_decks.specs.declared.lines.Lines.{Lines}

-- The mark EF BB BF, which some editors put before a text.
abbrev pub MARK : List ℕ
MARK = 239 ∷ 187 ∷ 191 ∷ []

abbrev pub without_mark : List ℕ → List ℕ
without_mark text = if starts_with ◌==◌ text MARK then drop 3 text else text

-- A line without the carriage returns at its end.
abbrev pub without_returns : List ℕ → List ℕ
without_returns line = without_end (13 ∷ []) line

-- A line as it is read, which has a number in its text, from 1: the first one may have the mark.
abbrev pub read_text : ℕ → List ℕ → List ℕ
read_text number line = if number == 1 then without_mark (without_returns line) else without_returns line

-- What a statement has of its first line, if others continue it, and of each of these, which has a comma in column 1.
abbrev pub first_part : List ℕ → List ℕ
first_part line = without_end BLANKS (in_columns line)

abbrev pub continued : List ℕ → List ℕ
continued line = without_end BLANKS (drop 1 (in_columns (without_returns line)))

-- The text of a line with those that continue it. The first of them has a number in its text.
abbrev pub joined : ℕ → List (List ℕ) → List ℕ
joined number [] = []
joined number (line ∷ []) = read_text number line
joined number (line ∷ others) = first_part (read_text number line) ++ flat_map continued others

-- The number of a line. Behind the last one it is that of the line of the text that would be next.
abbrev pub number_of : List (List ℕ) → Option Line → ℕ
number_of texts (Some line) = line.number
number_of texts None = length texts + 1

abbrev pub number_at : List (List ℕ) → List Line → ℕ → ℕ
number_at texts own at = number_of texts (slice_get own at)

-- The text of a line, as the listing has it and as it is read.
abbrev pub listed_text : Lines → Line → List ℕ
listed_text lines line = between lines.text.items line.text.first line.text.end

abbrev pub capitals_of : Lines → Line → List ℕ
capitals_of lines line = between lines.capitals.items line.read.first line.read.end

-- A line has the text of those from its number on to before the number of the next one, and is read in capitals.
pub record IsJoined (lines : Lines) (texts : List (List ℕ)) (line : Line) (next : ℕ) : Type 0 where
  pub some : line.number < next
  pub text : listed_text lines line ≡ joined line.number (between texts (line.number - 1) (next - 1))
  pub read : capitals_of lines line ≡ map to_ascii_uppercase (listed_text lines line)

pub record IsCut (lines : Lines) (texts : List (List ℕ)) (own : List Line) (at : ℕ) : Type 0 where
  pub line : Line
  pub is : slice_get own at ≡ Some line
  pub joined : IsJoined lines texts line (number_at texts own (at + 1))

-- Some lines are those of a text from an index on, all of them and in their order, each with those that continue it.
pub record AreCut (lines : Lines) (texts : List (List ℕ)) (first : ℕ) (own : List Line) : Type 0 where
  pub first_number : number_at texts own 0 ≡ first + 1
  pub each : (at : ℕ) → at < length own → IsCut lines texts own at
