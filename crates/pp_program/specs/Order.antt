-- The order of standard input and standard output.
use Rattle.std.specs.Prelude.{◌≡◌, ℕ, List, [], Ok}
use Rattle.pp_console.specs.{Commands.Value, Order.Reads, Order.ReadsOnTime}
use Rattle.pp_host.specs.Options.{Asked, Means}
use Rattle.pp_lines.specs.Dialogue.{Dialogue}
use Rattle.pp_program.specs.{Cuts.IsStart, Program.Given}

-- Standard input was not called. Or its lines were performed by the session that the options start: each read was one call, before
-- which each line that had ended was answered, and nothing else was written.
pub data IsInOrder (given : Given) (typed : List ℕ) (first : Dialogue) (before after : Reads) : Type 0 where
  Unread : typed ≡ [] → after ≡ before → IsInOrder given typed first before after
  OnTime : (asked : Asked) (start : Value) → Means given.words (Ok asked) → IsStart asked given start →
      ReadsOnTime start first typed before after → IsInOrder given typed first before after
