-- What the calls below `run` do. Only inner contracts and proofs use this file.
use Rattle.std.specs.Prelude.{◌≡◌, ℕ, Bool, true, OnOk, is_none, List, [], ◌++◌, ◌⊎◌, All, Option, Result, Ok, Err}
use Rattle.std.specs.Io.KnownBytes.{Consumes}
use Rattle.pp_arguments.specs.CommandLine.{Text}
use Rattle.pp_console.specs.{Commands.Value, Order.Reads, Order.ReadsOnTime, Order.reads_of}
use Rattle.pp_files.specs.Rows.{Row}
use Rattle.pp_host.specs.{Calls.IsAllRead, Calls.IsNamed, Failures.writes_by, Options.Asked}
use Rattle.pp_host.specs.Known.{Agrees, Found, IsContent, IsInput, Known, Words}
use Rattle.pp_host.specs.declared.host.Host.{Ghosts as HostGhosts}
use Rattle.pp_lines.specs.{Dialogue.Dialogue, Output.Appends, declared.terminal.Terminal.Terminal}
use Rattle.pp_lines.specs.Terminal.{sink_of, source_of}
use Rattle.pp_lines.specs.declared.device.Sink.{Ghosts as SinkGhosts}
use Rattle.pp_lines.specs.declared.device.Source.{Ghosts as SourceGhosts}
use Rattle.pp_program.specs.{Course.Course, Course.after, Course.ends, Course.performing, Cuts.IsCutServing, Order.IsInOrder}
use Rattle.pp_program.specs.{Outside.Input, Outside.Output, Outside.Files, Run.IsCutShort, Run.IsWhole}
use Rattle.pp_program.specs.Program.{Given, script_at, served, session_with}
use Rattle.pp_program.specs.Traces.{AreRead, Ended, IsTyped, Prints, Writes}
use Rattle.pp_trouble.specs.{Message.line_of, declared.trouble.FileKind.FileKind, declared.trouble.Trouble.Trouble}
use Rattle.pp_trouble.specs.declared.trouble.FileKind.TheVariants.{Deck, Panel, Script}
use Rattle.pp_trouble.specs.declared.trouble.Trouble.TheVariants.{Help, NoMemory}

-- the files, as the host shows them
abbrev pub files_of : {H F : Type 0} → HostGhosts H F → H → Files
files_of H host = record { known = H.known_files host; log = H.log host; failures = H.failure_count host }

-- standard input, as its source shows it
abbrev pub input_of : {R : Type 0} → SourceGhosts R → R → Input
input_of R source =
    record { left = R.rest source; read = R.given source; ended = R.ended source; failures = R.failure_count source }

-- an output, as its sink shows it
abbrev pub output_of : {W : Type 0} → SinkGhosts W → W → Output
output_of W sink = record { text = W.text sink; failures = W.failure_count sink }

-- what the program reads while it performs its script, and where it writes the answers
pub record Devices : Type 0 where
  pub files : Files
  pub input : Input
  pub output : Output
  -- the reads of standard input
  pub reads : Reads

-- what was read of standard input and written so far
abbrev pub said_by : Devices → Dialogue
said_by devices = record { read = devices.input.read; written = devices.output.text.bytes }

abbrev pub devices_of : {H F R W : Type 0} → HostGhosts H F → SourceGhosts R → SinkGhosts W → H → Terminal R W → Devices
devices_of H R W host terminal = record {
  files = files_of H host;
  input = input_of R (source_of terminal);
  output = output_of W (sink_of terminal);
  reads = reads_of R terminal;
}

-- the deck, the panel and the script
abbrev pub by_kind : {A : Type 0} → A → A → A → FileKind → A
by_kind deck panel script Deck = deck
by_kind deck panel script Panel = panel
by_kind deck panel script Script = script

-- these words, the deck, the panel and the script, and standard input
abbrev pub given_with : Words → Found → Found → Found → List ℕ → Given
given_with words deck panel script input = record { words = words; files = by_kind deck panel script; input = input }

-- what a course read and wrote, given what it read of each kind of file and of standard input
pub record IsTraced (before after : Devices) (given : Given) (readings : FileKind → Found) (typed : List ℕ)
    (ended : Ended) (course : Course) : Type 0 where
  pub contents : All (λ file. IsContent (before.files.known file.path) (readings file.kind) (given.files file.kind)) course.opened
  pub bytes : IsInput before.input.left typed given.input
  pub files : AreRead before.files after.files course readings ended.files
  pub input : IsTyped before.input after.input course typed ended.input
  pub output : Writes before.output after.output course.answers (writes_by course.ended before.output.failures)

-- a run that ended so, before its end is printed
pub record IsCourse (words : Known Words) (before after : Devices) (result : Result ℕ Trouble) : Type 0 where
  pub given : Given
  pub readings : FileKind → Found
  pub typed : List ℕ
  pub ended : Ended
  pub course : Course
  pub known : Agrees words given.words
  pub follows : IsWhole before.files.known given readings ended course
      ⊎ IsCutShort before.files.known given readings typed ended course
  pub traced : IsTraced before after given readings typed ended course
  pub order : IsInOrder given typed (said_by before) before.reads after.reads
  pub is_end : course.ended ≡ result

-- ---- a session and its script

-- a new session of the machine was made, and it is at its start
pub record IsMade (asked : Asked) (cards : List Row) (panel : Option Row) (IsAt : Value → Type 0) : Type 0 where
  pub start : Value
  pub made : session_with asked cards panel ≡ Ok start
  pub at : IsAt start

-- no session was made: the options do not allow one, or memory ran out
abbrev pub IsUnmade : Asked → List Row → Option Row → Trouble → Type 0
IsUnmade asked cards panel trouble =
    (session_with asked cards panel ≡ Err trouble)
    ⊎ ((trouble ≡ NoMemory) × ((start : Value) × (session_with asked cards panel ≡ Ok start)))

-- a script of these bytes was served, or it was cut short
abbrev pub IsServed : Value → List ℕ → List ℕ → Course → Type 0
IsServed start bytes read course = (course ≡ served start bytes) ⊎ IsCutServing start bytes read course

-- the script of a source was answered, from each value that the session had: its bytes, and those that were read
pub record AnswersScript (IsAt : Value → Type 0) (before after : Input) (output output' : Output)
    (result : Result ℕ Trouble) : Type 0 where
  pub bytes : List ℕ
  pub taken : List ℕ
  pub read : after.read ≡ before.read ++ taken
  pub left : Consumes before.left after.left taken
  pub all : IsInput before.left taken bytes
  pub ended : OnOk result (after.ended ≡ true)
  pub course : (start : Value) → IsAt start →
      (answers : List ℕ) × Appends output.text output'.text answers × IsServed start bytes taken (ends answers result)

-- the script of this path was performed, or it could not be opened, or it was cut short
abbrev pub IsPerformed : Option Text → Found → List ℕ → Found → List ℕ → Value → Course → Type 0
IsPerformed path script input read typed start course =
    (course ≡ after (script_at path script input) (served start))
    ⊎ ((bytes taken : List ℕ) × (script_at path script input ≡ Ok bytes) × (script_at path read typed ≡ Ok taken)
    × IsCutServing start bytes taken course)

-- the script of this path, or standard input, was read to its end
abbrev pub IsScriptRead : Option Text → Bool → Bool → Type 0
IsScriptRead path read_ended input_ended = IsAllRead path read_ended × (is_none path ≡ true → input_ended ≡ true)

-- The script of this path, or standard input, was performed after these files, from each value that the session had: the
-- content of the file and what was read of it, the bytes of standard input and what was read of it.
pub record PerformsScript (IsAt : Value → Type 0) (path : Option Text) (before after : Devices) (result : Result ℕ Trouble)
    (words : Words) (deck panel deck_read panel_read : Found) (deck_ended panel_ended : Bool) : Type 0 where
  pub script : Found
  pub read : Found
  pub input : List ℕ
  pub typed : List ℕ
  pub read_ended : Bool
  pub input_ended : Bool
  pub all : OnOk result (IsScriptRead path read_ended input_ended)
  pub known : IsNamed before.files.known path read script
  pub course : (start : Value) → IsAt start → (answers : List ℕ)
      × IsTraced before after (given_with words deck panel script input) (by_kind deck_read panel_read read) typed
      (record { files = by_kind deck_ended panel_ended read_ended; input = input_ended })
      (performing path (ends answers result))
      × IsPerformed path script input read typed start (ends answers result)
  pub order : (start : Value) → IsAt start →
      ((typed ≡ []) × (after.reads ≡ before.reads)) ⊎ ReadsOnTime start (said_by before) typed before.reads after.reads

-- ---- the end of a run

-- standard output has the usage if that was asked for, and nothing else
abbrev pub PrintsUsage : Trouble → Output → Output → Type 0
PrintsUsage Help before after = Prints before after (line_of Help)
PrintsUsage trouble before after = Writes before after [] before.failures
