-- Answers to commands that move the session.
use Rattle.std.specs.Prelude.{ℕ, List, ◌++◌, codes}
use Rattle.pp_arith.specs.Octal.{octal_text}
use Rattle.pp_console.specs.Text.{field}

-- How many turns or actions were done, without leading zeros, and the processor whose turn comes next.
unfoldable pub moved_text : List ℕ → ℕ → ℕ → List ℕ
moved_text name actions slot = name ++ octal_text actions 1 ++ field (codes " SLOT ") 2 slot ++ codes "\n"
