-- Definitions for the inner contracts of the functions that write an answer in pieces.
use Rattle.std.specs.Prelude.{◌≡◌, ℕ, List, ◌++◌, Result, OnOk}
use Rattle.pp_lines.specs.Puts.{Puts}
use Rattle.pp_lines.specs.declared.device.Sink.{Ghosts}

-- A text was appended to a piece. Of both, a first part was written, or a proper prefix of it if the sink failed, and the rest is
-- the piece now.
pub record Gathers {W T E : Type 0} (sink : Ghosts W) (before after : W) (old new : List ℕ) (result : Result T E)
    (text : List ℕ) : Type 0 where
  pub sent : List ℕ
  pub rest : List ℕ
  pub puts : Puts sink before after result sent
  pub all : old ++ text ≡ sent ++ rest
  pub piece : OnOk result (new ≡ rest)
