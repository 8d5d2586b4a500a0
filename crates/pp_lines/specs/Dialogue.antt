-- What a terminal has read and written.
use Rattle.std.specs.Prelude.{ℕ, List}
use Rattle.std.specs.Coded.{Coded, code_by, coded_ℕ, coded_list, coded×}
use mathlib.Core.Path.{refl}

-- The bytes that were read so far, and those that were written.
pub record Dialogue : Type 0 where
  pub read : List ℕ
  pub written : List ℕ

abbrev dialogue_of_pair : List ℕ × List ℕ → Dialogue
dialogue_of_pair (read, written) = record { read = read; written = written }

-- how the logic stores a dialogue
abbrev pub coded_dialogue : Coded Dialogue
coded_dialogue = code_by (List ℕ × List ℕ) (coded× (coded_list coded_ℕ) (coded_list coded_ℕ))
    (λ dialogue. (dialogue.read, dialogue.written)) dialogue_of_pair (λ dialogue. refl)
