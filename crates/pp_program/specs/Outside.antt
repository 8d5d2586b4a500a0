-- What is outside of the program, as its devices show it.
use Rattle.std.specs.Prelude.{ℕ, Bool, List}
use Rattle.pp_arguments.specs.CommandLine.{Text}
use Rattle.pp_console.specs.Order.{Reads, reads_of}
use Rattle.pp_host.specs.{Events.Event, Known.Found, Known.Known, Known.Words}
use Rattle.pp_host.specs.declared.host.Host.{Ghosts as HostGhosts}
use Rattle.pp_lines.specs.{Dialogue.Dialogue, Output.Written, declared.terminal.Terminal.Terminal}
use Rattle.pp_lines.specs.Terminal.{sink_of, source_of}
use Rattle.pp_lines.specs.declared.device.Sink.{Ghosts as SinkGhosts}
use Rattle.pp_lines.specs.declared.device.Source.{Ghosts as SourceGhosts}

-- The files of a host.
pub record Files : Type 0 where
  -- what each path names, if that is known
  pub known : Text → Known Found
  -- what happened to the files so far
  pub log : List Event
  -- the number of files with a failed read
  pub failures : ℕ

-- A source of bytes.
pub record Input : Type 0 where
  -- the bytes that are left, if they are known
  pub left : Known (List ℕ)
  -- the bytes that were read so far
  pub read : List ℕ
  -- whether it is at its end: the last call that could return a byte returned none (standard input starts as not at its end)
  pub ended : Bool
  -- the number of failed reads
  pub failures : ℕ

-- A sink of bytes.
pub record Output : Type 0 where
  -- what was written so far
  pub text : Written
  -- the number of failed writes
  pub failures : ℕ

-- What surrounds the program, before a run or after it.
pub record Outside : Type 0 where
  -- the words of the command line, if they are known
  pub words : Known Words
  pub files : Files
  -- the three standard streams
  pub input : Input
  pub output : Output
  pub errors : Output
  -- the reads of standard input so far, the latest first: what had been read of it and written to standard output before each, and
  -- what each call returned
  pub reads : Reads

-- What was read of standard input and written to standard output so far.
abbrev pub dialogue_of : Outside → Dialogue
dialogue_of outside = record { read = outside.input.read; written = outside.output.text.bytes }

-- ---- how the devices of a call show it

-- What surrounds the program, as the host, the terminal of standard input and output, and standard error show it.
abbrev pub outside_of : {H F R W E : Type 0} → HostGhosts H F → SourceGhosts R → SinkGhosts W → SinkGhosts E →
    H → Terminal R W → E → Outside
outside_of H R W E host terminal errors = record {
  words = H.known_words host;
  files = record { known = H.known_files host; log = H.log host; failures = H.failure_count host };
  input =
      let input = source_of terminal in
      record { left = R.rest input; read = R.given input; ended = R.ended input; failures = R.failure_count input };
  output = record { text = W.text (sink_of terminal); failures = W.failure_count (sink_of terminal) };
  errors = record { text = E.text errors; failures = E.failure_count errors };
  reads = reads_of R terminal;
}
