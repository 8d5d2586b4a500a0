-- What a source makes is of its lines.
use Rattle.std.specs.Prelude.{ℕ, ◌≡◌, true, List, IfSome}
use Rattle.pp_lines.specs.Lines.{lines}
use Rattle.pp_notation.specs.Columns.{between}
use Rattle.pp_decks.specs.Cuts.{AreCut}
use Rattle.pp_decks.specs.declared.decks.Text.{Text}
use Rattle.pp_decks.specs.declared.lines.Line.{Line}
use Rattle.pp_decks.specs.declared.lines.Lines.{Lines}
use Rattle.pp_assembler.specs.DeckLines.{AreDecksOf}
use Rattle.pp_assembler.specs.Order.{begins_in_order}
use Rattle.pp_assembler.specs.RowStatements.{AreOfRows, AreOfSystemRows}
use Rattle.pp_assembler.specs.declared.program.Assembly.{Assembly}
use Rattle.pp_assembler.specs.declared.program.Performed.{Performed}

-- The lines of the source.
abbrev pub own_lines : Lines → List Line
own_lines lines = between lines.all.items lines.source.first lines.source.end

-- The lines are those of a source, cut at its line feeds: all of them, in their order; and those of each text that it may read. The rows
-- are of the lines of the source, each once and in their order, up to the first that may make, repeat, choose or move lines. The statements
-- of the source are those of its rows, each once and in their order, and none is left out; and so are those of its system texts.
pub record AreOfSource (own : List (List ℕ)) (texts : List Text) (made : Assembly) (performed : Performed) : Type 0 where
  pub cut : AreCut made.lines own 0 (own_lines made.lines)
  pub of_texts : AreDecksOf made.lines texts made.decks.all.items
  pub order : begins_in_order made.lines made.vocabulary made.rows.items ≡ true
  pub statements : AreOfRows made.lines made.vocabulary performed.units.items made.rows.items
  pub of_systems : AreOfSystemRows made.lines made.vocabulary performed.systems.items made.systems.items

-- If the statements have a meaning, they are of the source.
abbrev pub IsOfLines : List (List ℕ) → List Text → Assembly → Type 0
IsOfLines own texts made = IfSome made.meaning (AreOfSource own texts made)

abbrev pub IsOfSource : List ℕ → List Text → Assembly → Type 0
IsOfSource source texts made = IsOfLines (lines source) texts made
