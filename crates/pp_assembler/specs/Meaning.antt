-- The words of a program are those of its statements.
use Rattle.std.specs.Prelude.{◌≡◌, ◌<◌, ℕ, true, List, [], ◌∷◌, Option, Some, None, IfSome, length, map, slice_get}
use Rattle.std.specs.List.{AllByRecursion, AllZip, flat_map}
use Rattle.pp_notation.specs.Columns.{between}
use Rattle.pp_notation.specs.declared.program.Program.{Program}
use Rattle.pp_meaning.specs.Cells.{addressed, filled}
use Rattle.pp_meaning.specs.Lines.{AreAllWritten, AreWritten}
use Rattle.pp_meaning.specs.Names.{AreNames}
use Rattle.pp_meaning.specs.Units.{IsAssembled}
use Rattle.pp_meaning.specs.declared.expressions.Symbol.{Symbol}
use Rattle.pp_meaning.specs.declared.statements.Image.{Image}
use Rattle.pp_meaning.specs.declared.statements.Statement.{Statement}
use Rattle.pp_meaning.specs.declared.statements.SystemText.{SystemText}
use Rattle.pp_meaning.specs.declared.statements.Unit.{Unit as Statements}
use Rattle.pp_decks.specs.declared.lines.Line.{Line}
use Rattle.pp_decks.specs.declared.lines.Lines.{Lines}
use Rattle.pp_decks.specs.declared.places.Complaint.{Complaint}
use Rattle.pp_assembler.specs.declared.meaning.Found.{Found}
use Rattle.pp_assembler.specs.declared.meaning.Found.TheVariants.{Words}
use Rattle.pp_statements.specs.declared.scope.Row.{Row}
use Rattle.pp_statements.specs.declared.scope.SystemRows.{SystemRows}
use Rattle.pp_statements.specs.declared.units.Unit.{Unit as Named}
use Rattle.pp_assembler.specs.declared.program.Assembly.{Assembly}
use Rattle.pp_assembler.specs.declared.program.Performed.{Performed}

-- A program has the words of an image, by cell, and its start.
abbrev pub IsProgramOf : Program → Image → Type 0
IsProgramOf program image = (addressed program.cells.items ≡ filled 0 image.memory.items) × (program.start ≡ image.start)

-- The words of programs, by cell and in the order of the listing, are those that statements mean. The line of each statement is
-- its label, operation, operands and comment, and no two names are one.
pub record AreWordsOf (symbols : List Symbol) (systems : List SystemText) (units : List Statements) (programs : List Program)
    (words : List ℕ) : Type 0 where
  pub images : List Image
  pub assembled : IsAssembled symbols systems units images
  pub written : AllByRecursion (AreWritten symbols) units
  pub systems_written : AllByRecursion (AreAllWritten symbols) systems
  pub names : AreNames symbols
  pub programs_are : AllZip IsProgramOf programs images
  pub in_order : words ≡ flat_map (λ image. image.words.items) images

abbrev pub read_of : Lines → Option Line → List ℕ
read_of lines None = []
read_of lines (Some line) = between lines.capitals.items line.read.first line.read.end

-- The line at an index as it is read: in capitals, and with the texts of micros.
abbrev pub read_at : Lines → ℕ → List ℕ
read_at lines index = read_of lines (slice_get lines.all.items index)

-- A statement is that of a line that a row has, and that has been performed.
pub record IsPerformed (lines : Lines) (rows : List Row) (statement : Statement) : Type 0 where
  pub at : ℕ
  pub row : Row
  pub listed : slice_get rows at ≡ Some row
  pub is_performed : row.is_performed ≡ true
  pub line : statement.line.items ≡ read_at lines row.statement

abbrev pub ArePerformed : Lines → List Row → Statements → Type 0
ArePerformed lines rows unit = AllByRecursion (IsPerformed lines rows) unit.statements.items

-- The statements of a system text are those of its lines.
abbrev pub AreOfSystem : Lines → SystemText → SystemRows → Type 0
AreOfSystem lines text rows = AllByRecursion (ArePerformed lines rows.rows.items) text.units.items

abbrev pub AreOfSystems : Lines → List SystemRows → Performed → Type 0
AreOfSystems lines systems performed = AllZip (AreOfSystem lines) performed.systems.items systems

abbrev pub ArePerformedAll : Lines → List Row → List SystemRows → Performed → Type 0
ArePerformedAll lines rows systems performed =
    AllByRecursion (ArePerformed lines rows) performed.units.items × AreOfSystems lines systems performed

-- Programs and their words are those of statements that have been performed.
abbrev pub AreMeant : Lines → List Row → List SystemRows → List Program → List ℕ → Performed → Type 0
AreMeant lines rows systems programs words performed =
    AreWordsOf performed.symbols.items performed.systems.items performed.units.items programs words
    × ArePerformedAll lines rows systems performed

abbrev pub unit_programs : List Named → List Program
unit_programs units = map (λ unit. unit.program) units

-- What a pass has found has words only if they are those of its statements.
abbrev pub IsFound : Lines → List Row → List SystemRows → Found → Type 0
IsFound lines rows systems (Words made) =
    AreMeant lines rows systems (made.program ∷ unit_programs made.others.items) made.words.items made.performed
IsFound lines rows systems _ = Unit {0}

-- The first program of a source, and the others.
abbrev pub programs_of : Assembly → List Program
programs_of made = made.program ∷ unit_programs made.others.items

-- Nothing is wrong with a source of which each statement has a meaning.
abbrev pub IsMeantBy : Assembly → Performed → Type 0
IsMeantBy made performed =
    AreMeant made.lines made.rows.items made.systems.items (programs_of made) made.words.items performed × (made.messages.items ≡ [])

-- No program has a word. What the rows of the listing have is of no program.
pub record IsNothing (program : Program) (others : List Named) : Type 0 where
  pub cells : program.cells.items ≡ []
  pub start : program.start ≡ None
  pub no_others : others ≡ []

abbrev pub IsNothingWithout : Option Performed → Program → List Named → Type 0
IsNothingWithout None program others = IsNothing program others
IsNothingWithout (Some performed) program others = Unit {0}

-- There is no message if the statements have a meaning, and else there is one if the source has a line.
abbrev pub AreMessages : Option Performed → List ℕ → List Complaint → Type 0
AreMessages None lengths messages = 0 < length lengths → 0 < length messages
AreMessages (Some performed) lengths messages = messages ≡ []

abbrev pub IsSaid : List ℕ → Assembly → Type 0
IsSaid lengths made = AreMessages made.meaning lengths made.messages.items

-- The programs of a source have the words that its statements mean, and no others.
abbrev pub IsMeant : Assembly → Type 0
IsMeant made =
    IfSome made.meaning (IsMeantBy made) × IsNothingWithout made.meaning made.program made.others.items
