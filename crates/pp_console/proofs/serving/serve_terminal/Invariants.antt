use Rattle.std.proofs.Common.{◌-◌, ◌++◌, ◌≡◌, ℕ, List}
use Rattle.std.specs.Io.KnownBytes.{Consumes}
use Rattle.pp_lines.specs.Terminal.{sink_of, source_of}
use Rattle.pp_console.specs.Order.{dialogue_at, reads_of}
use Rattle.pp_console.proofs.Ordered.{ReadsBytes}
use Rattle.pp_console.proofs.Prelude.{BYTE_LIMIT, Value, IsAt, rules, origin_of, HasRead}
use Rattle.pp_console.proofs.serving.serve_terminal.Given as goal

abbrev pub invariant-pieces : goal.invariant-pieces
invariant-pieces g l =
    let first = l.initial.terminal in
    record {
      has_read : (taken : List ℕ) × Consumes (g.R.Source.rest (source_of first)) (g.R.Source.rest (source_of l.terminal)) taken
          × (g.R.Source.given (source_of l.terminal) ≡ g.R.Source.given (source_of first) ++ taken)
          × ((start : Value) → IsAt rules l.initial.session start →
          HasRead l.progress l.session (g.W.Sink.text (sink_of l.terminal)) (origin_of start (g.W.Sink.text (sink_of first))) taken)
          × ((start : Value) → IsAt rules l.initial.session start → ReadsBytes start (dialogue_at g.R.Source g.W.Sink first) taken
          (reads_of g.R.Source first) (reads_of g.R.Source l.terminal));
      reads : g.R.Source.failure_count (source_of l.terminal) ≡ g.R.Source.failure_count (source_of first);
      writes : g.W.Sink.failure_count (sink_of l.terminal) ≡ g.W.Sink.failure_count (sink_of first);
      same_source : l.terminal.source.ghost_name ≡ first.source.ghost_name;
      same_output : l.terminal.output.ghost_name ≡ first.output.ghost_name;
    }

abbrev pub decreases-pieces : goal.decreases-pieces
decreases-pieces g l = BYTE_LIMIT - l.progress.bytes
