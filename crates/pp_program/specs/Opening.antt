-- Opening a session with options and the bytes of files, where no command line names them.
use Rattle.std.specs.Prelude.{◌≡◌, ℕ, ◌==◌, ◌&&◌, nat_le, if◌then◌else◌, List, [], ◌∷◌, Option, Some, None, Result, Ok, Err}
use Rattle.std.specs.Result.{result_map_both}
use Rattle.pp_console.specs.Commands.{Value}
use Rattle.pp_files.specs.{Files.deck_of_file, Files.panel_of_file, Rows.Row}
use Rattle.pp_host.specs.Options.{Asked}
use Rattle.pp_lines.specs.Results.{◌>>=◌}
use Rattle.pp_machine.specs.declared.central.CentralSize.{CentralSize}
use Rattle.pp_machine.specs.declared.central.CentralSize.TheVariants.{K32, K64, K128}
use Rattle.pp_program.specs.{Program.session_with, declared.opening.OpenOptions.OpenOptions}
use Rattle.pp_trouble.specs.{Trouble.of_load, declared.trouble.Trouble.Trouble}
use Rattle.pp_trouble.specs.declared.trouble.FileKind.TheVariants.{Deck, Panel}
use Rattle.pp_trouble.specs.declared.trouble.Trouble.TheVariants.{BadArguments, BadChannel}

-- What a session is opened with: how many actions the undo history holds, the words of central memory, the channels of the
-- reader and of the printer, and the bytes of the deck and of the panel. No bytes are no file.
pub record Wanted : Type 0 where
  pub history : ℕ
  pub central : ℕ
  pub reader : ℕ
  pub printer : ℕ
  pub deck : List ℕ
  pub panel : List ℕ

abbrev pub wanted_of : OpenOptions → Wanted
wanted_of options = record {
  history = options.history;
  central = options.central;
  reader = options.reader;
  printer = options.printer;
  deck = options.deck.now;
  panel = options.panel.now;
}

-- The size of a central memory of so many words, if there is one.
abbrev pub size_of : ℕ → Option CentralSize
size_of words =
    if words == 0o100000 then Some K32
    else (if words == 0o200000 then Some K64 else (if words == 0o400000 then Some K128 else None))

-- The options of this size, if the other numbers are in range.
abbrev pub options_with : Wanted → Option CentralSize → Result Asked Trouble
options_with wanted None = Err BadArguments
options_with wanted (Some size) =
    if nat_le wanted.reader 0o13 && nat_le wanted.printer 0o13 then Ok (record {
      history = wanted.history;
      central = size;
      deck = None;
      reader = wanted.reader;
      printer = wanted.printer;
      panel = None;
      script = None;
    })
    else Err BadChannel

-- The options, or the first fault among their numbers, in the order in which the command line is read.
abbrev pub options_of : Wanted → Result Asked Trouble
options_of wanted =
    if nat_le 1 wanted.history && nat_le wanted.history 10000 then options_with wanted (size_of wanted.central)
    else Err BadArguments

-- The cards of a deck file with these bytes, or its first fault.
abbrev pub cards_in : List ℕ → Result (List Row) Trouble
cards_in bytes = result_map_both (λ cards. cards) (of_load Deck) (deck_of_file bytes)

-- The words of a panel file with these bytes, or its first fault. No bytes are no panel.
abbrev pub words_in : List ℕ → Result (Option Row) Trouble
words_in [] = Ok None
words_in (byte ∷ bytes) = result_map_both Some (of_load Panel) (panel_of_file (byte ∷ bytes))

-- The session at its start, or the first trouble, as the program has them: the options, the deck, the panel and the machine.
unfoldable pub opened : Wanted → Result Value Trouble
opened wanted =
    options_of wanted >>= λ asked. cards_in wanted.deck >>= λ cards. words_in wanted.panel >>= λ panel.
    session_with asked cards panel

-- A session was opened, and it is at this start.
pub record IsOpened (wanted : Wanted) (IsAt : Value → Type 0) : Type 0 where
  pub start : Value
  pub opens : opened wanted ≡ Ok start
  pub at : IsAt start
