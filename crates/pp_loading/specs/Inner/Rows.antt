-- The lines that set a row of cells and P, as the contracts of inner functions see them.
use Rattle.std.specs.Prelude.{◌≡◌, ℕ, List, [], ◌∷◌, ◌++◌, codes}
use Rattle.std.specs.List.{flat_map}
use Rattle.pp_arith.specs.Octal.{octal_text}
use Rattle.pp_lines.specs.Lines.{unfinished}
use Rattle.pp_machine.specs.Writes.{Writes}
use Rattle.pp_machine.specs.declared.place.Place.{Place}
use Rattle.pp_notation.specs.Rows.{first_address}
use Rattle.pp_notation.specs.declared.program.Cell.{Cell}
use Rattle.pp_loading.specs.LoadLines.{Loads}

-- A number of a line: a blank, and the number in octal.
abbrev pub word_text : ℕ → List ℕ
word_text number = 32 ∷ octal_text number 1

-- The words of cells, each after a blank.
abbrev pub words_text : List Cell → List ℕ
words_text = flat_map (λ cell. word_text cell.word)

-- The line that sets a row of cells in processor n.
abbrev pub cells_line : ℕ → List Cell → List ℕ
cells_line n row = codes "SET M" ++ word_text n ++ word_text (first_address row) ++ words_text row

-- The line that sets P of processor n.
abbrev pub start_line : ℕ → ℕ → List ℕ
start_line n address = codes "SET P" ++ word_text n ++ word_text address

-- The text ends with a line feed, and loads this.
pub record LoadsWhole (text : List ℕ) (list : Writes Place) : Type 0 where
  pub whole : unfinished text ≡ []
  pub loads : Loads text list
