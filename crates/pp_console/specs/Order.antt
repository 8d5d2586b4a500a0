-- The order of reading and writing.
use Rattle.std.specs.Prelude.{◌≡◌, ◌≤◌, ℕ, List, [], ◌++◌, All, IfSome, drop, length, unwrap_or}
use Rattle.pp_lines.specs.{Calls.Call, Calls.bytes_moved, Dialogue.Dialogue, Lines.finished}
use Rattle.pp_lines.specs.{Terminal.at_reads, Terminal.sink_of, Terminal.source_of, declared.terminal.Terminal.Terminal}
use Rattle.pp_lines.specs.declared.device.Sink.{Ghosts as SinkGhosts}
use Rattle.pp_lines.specs.declared.device.Source.{Ghosts as SourceGhosts}
use Rattle.pp_console.specs.{Commands.Value, Script.outcome, declared.serving.TheConstants.PIECE}

-- Since the first dialogue these bytes were read, each line that had ended was answered, and nothing else was written.
pub record IsOnTime (start : Value) (first now : Dialogue) : Type 0 where
  pub bytes : List ℕ
  pub read : now.read ≡ first.read ++ bytes
  pub written : now.written ≡ first.written ++ (outcome start (finished bytes)).text

-- The reads of a terminal so far, the latest first: what had been read and written before each, and what each call of its
-- source returned.
pub record Reads : Type 0 where
  pub dialogues : List Dialogue
  pub calls : List Call

-- The call returned no more bytes than one read asks for.
abbrev pub IsPiece : Call → Type 0
IsPiece call = IfSome call (λ bytes. length bytes ≤ PIECE)

-- The call returned bytes: it did not fail, and was not at the end.
abbrev pub HasBytes : Call → Type 0
HasBytes call = 1 ≤ length (unwrap_or call [])

-- The reads since the first dialogue made one call of the source each. Together the calls returned these bytes, and all but the
-- latest returned some. Before each read, each line that had ended was answered, and nothing else was written.
pub record ReadsOnTime (start : Value) (first : Dialogue) (bytes : List ℕ) (before after : Reads) : Type 0 where
  pub newer : List Dialogue
  pub calls : List Call
  pub all : after.dialogues ≡ newer ++ before.dialogues
  pub all_calls : after.calls ≡ calls ++ before.calls
  pub one_each : length calls ≡ length newer
  pub moves : bytes_moved calls ≡ bytes
  pub pieces : All IsPiece calls
  pub only_last_empty : All HasBytes (drop 1 calls)
  pub on_time : All (IsOnTime start first) newer

-- ---- how a terminal shows it

-- what was read and written so far
abbrev pub dialogue_at : {R W : Type 0} → SourceGhosts R → SinkGhosts W → Terminal R W → Dialogue
dialogue_at R W terminal = record { read = R.given (source_of terminal); written = (W.text (sink_of terminal)).bytes }

-- the reads so far
abbrev pub reads_of : {R W : Type 0} → SourceGhosts R → Terminal R W → Reads
reads_of R terminal = record { dialogues = at_reads terminal; calls = R.calls (source_of terminal) }
