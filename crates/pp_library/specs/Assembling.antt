-- What the assembler writes for C.
use Rattle.std.specs.Prelude.{◌≡◌, ◌≢◌, ℕ, ◌<◌, ◌≤◌, ◌==◌, ◌⊎◌, All, AllPairs, List, []}
use Rattle.std.specs.Prelude.{Some, ◌++◌, flat_map, map, if◌then◌else◌, length}
use Rattle.pp_notation.specs.Cells.{IsCell, IsProgram, IsStart}
use Rattle.pp_listing.specs.Listing.{listed_row}
use Rattle.pp_decks.specs.Places.{IsOfLine, line_lengths}
use Rattle.pp_decks.specs.declared.decks.Text.{Text}
use Rattle.pp_assembler.specs.Decks.{AreRead}
use Rattle.pp_assembler.specs.Meaning.{IsMeant, IsSaid}
use Rattle.pp_assembler.specs.Sources.{IsOfSource}
use Rattle.pp_library.specs.declared.assembling.CommonDeck.{CommonDeck}
use Rattle.pp_disassembly.specs.SourceText.{source_text}
use Rattle.pp_disassembly.specs.Statements.{addressed, assembled, cells_of}
use Rattle.pp_listing.specs.Rows.{known_row, program_lines, unit_lines}
use Rattle.pp_listing.specs.Texts.{cell_lines, complaint_lines, name_line, row_line, start_line}
use Rattle.pp_assembler.specs.declared.program.Assembly.{Assembly}
use Rattle.pp_notation.specs.declared.program.Cell.{Cell}
use Rattle.pp_disassembly.specs.declared.statement.Statement.{Statement}
use Rattle.pp_library.specs.Outcomes.{OnlyReturns, PutsText, TextOuts}
use Rattle.pp_library.specs.declared.assembling.TheConstants.{PROCESSORS, UNITS}
use Rattle.pp_library.specs.declared.status.TheConstants.{NO_MEMORY, REFUSED}
use Rattle.pp_loading.specs.LoadLines.{Loads, cell_list, start_list}

-- ---- pp6600_assemble and pp6600_load_lines

pub record AssembleOuts : Type 0 where
  pub into : List ℕ
  pub count : ℕ
  pub messages : ℕ

-- A text of C as the assembler has it.
abbrev pub text_of : CommonDeck → Text
text_of deck = record { name = deck.name; lines = deck.lines }

-- What the assembler promises of a source: the program's cells and its start are those of a memory, the programs have the words that
-- the statements mean and no others, there is a message if the statements have no meaning, what has a meaning is of the lines of the
-- source, each message and warning is about a place of it, and each line that reads a common deck has taken the lines of the first one
-- with its name.
pub record IsAssembly (source : List ℕ) (given : List CommonDeck) (made : Assembly) : Type 0 where
  pub program : IsProgram made.program.cells.items
  pub start : IsStart made.program.start
  pub meaning : IsMeant made
  pub said : IsSaid (line_lengths source) made
  pub source_lines : IsOfSource source (map text_of given) made
  pub messages : All (IsOfLine (line_lengths source)) made.messages.items
  pub warnings : All (IsOfLine (line_lengths source)) made.warnings.items
  pub decks : AreRead (map text_of given) made

-- What is written of an assembled source in a form: what is wrong with it, its words, its listing, the numbers of its lines, its
-- names, all that is known of its rows, or the words of each of its programs.
abbrev pub form_text : ℕ → Assembly → List ℕ
form_text form made =
    if form == 0 then complaint_lines made.messages.items ++ complaint_lines made.warnings.items
    else (if form == 1 then cell_lines made.program.cells.items ++ start_line made.program.start
    else (if form == 2 then flat_map (listed_row made) made.rows.items
    else (if form == 3 then flat_map (row_line made) made.rows.items
    else (if form == 4 then flat_map (name_line made.symbols.text.items) made.symbols.all.items
    else (if form == 5 then flat_map (known_row made) made.rows.items
    else program_lines made.program ++ flat_map unit_lines made.others.items)))))

-- The source was assembled. The text, its length and the number of faults are those of one assembly.
pub record IsWritten (source : List ℕ) (given : List CommonDeck) (form : ℕ) (before after : AssembleOuts)
    (result : ℕ) : Type 0 where
  pub made : Assembly
  pub assembly : IsAssembly source given made
  pub text : PutsText (form_text form made) before.into after.into after.count result
  pub messages : after.messages ≡ length made.messages.items

-- The text is written (DONE), or there is no room for it (ROOM), or there is no such form (REFUSED), or memory ran out.
abbrev pub Assembles : List ℕ → List CommonDeck → ℕ → AssembleOuts → AssembleOuts → ℕ → Type 0
Assembles source given form before after result =
    ((form ≤ UNITS) × IsWritten source given form before after result)
    ⊎ (((UNITS < form) × OnlyReturns REFUSED before after result)
    ⊎ ((form ≤ UNITS) × OnlyReturns NO_MEMORY before after result))

-- The source was assembled without a fault, and the text loads its program into a processor: the console accepts the lines in any
-- session, and then each cell has its word, P is where the program begins, if it says so, and nothing else is changed.
pub record IsLoading (source : List ℕ) (processor : ℕ) (before after : AssembleOuts) (result : ℕ) : Type 0 where
  pub made : Assembly
  pub assembly : IsAssembly source [] made
  pub no_faults : length made.messages.items ≡ 0
  pub text : List ℕ
  pub loads : Loads text (start_list processor made.program.start ++ cell_list processor made.program.cells.items)
  pub puts : PutsText text before.into after.into after.count result
  pub messages : after.messages ≡ 0

-- The source was assembled, and has faults: only their number is written.
pub record HasFaults (source : List ℕ) (before after : AssembleOuts) (result : ℕ) : Type 0 where
  pub made : Assembly
  pub assembly : IsAssembly source [] made
  pub faults : 0 < length made.messages.items
  pub refused : result ≡ REFUSED
  pub outs : after ≡ record before { messages = length made.messages.items }

-- The lines are written (DONE), or there is no room for them (ROOM), or the source has faults or there is no such processor
-- (REFUSED), or memory ran out.
abbrev pub LoadsLines : List ℕ → ℕ → AssembleOuts → AssembleOuts → ℕ → Type 0
LoadsLines source processor before after result =
    ((processor < PROCESSORS) × IsLoading source processor before after result)
    ⊎ (((processor < PROCESSORS) × HasFaults source before after result)
    ⊎ (((PROCESSORS ≤ processor) × OnlyReturns REFUSED before after result)
    ⊎ ((processor < PROCESSORS) × OnlyReturns NO_MEMORY before after result)))

-- ---- pp6600_disassemble

-- Each address and each word has twelve bits, and no address is there twice.
pub record AreCells (cells : List Cell) : Type 0 where
  pub in_range : All IsCell cells
  pub once : AllPairs (λ a b. a.address ≢ b.address) cells

-- The text has a line for each of some statements, which assemble to the words of the cells at their addresses.
pub record IsSource (cells : List Cell) (before after : TextOuts) (result : ℕ) : Type 0 where
  pub statements : List Statement
  pub words : cells_of (assembled statements) ≡ Some (addressed cells)
  pub text : PutsText (source_text statements) before.into after.into after.count result

-- The source is written (DONE), or there is no room for it (ROOM), or these are no cells (REFUSED), or memory ran out.
abbrev pub Disassembles : List Cell → TextOuts → TextOuts → ℕ → Type 0
Disassembles cells before after result =
    (AreCells cells × IsSource cells before after result)
    ⊎ (((AreCells cells → ⊥) × OnlyReturns REFUSED before after result)
    ⊎ (AreCells cells × OnlyReturns NO_MEMORY before after result))
