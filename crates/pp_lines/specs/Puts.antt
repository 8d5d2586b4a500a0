-- What a function does that writes a text to a sink.
use Rattle.std.specs.Prelude.{ℕ, List, Result}
use Rattle.pp_lines.specs.Device.{Counts}
use Rattle.pp_lines.specs.Output.{Writes}
use Rattle.pp_lines.specs.declared.device.Sink.{Ghosts}

-- the whole text was written, or a proper prefix of it if the sink failed, and only a failed write is counted
pub record Puts {W T E : Type 0} (sink : Ghosts W) (before after : W) (result : Result T E) (whole : List ℕ) : Type 0 where
  pub text : Writes (sink.text before) (sink.text after) result whole
  pub counts : Counts (sink.failure_count before) (sink.failure_count after) result
