-- What a line cutter keeps of the line that no line feed has ended yet.
use Rattle.std.specs.Prelude.{◌≡◌, ℕ, List, take}
use Rattle.pp_lines.specs.Lines.{unfinished}

-- The first `kept` bytes of the unfinished line.
abbrev pub IsPrefixOf : ℕ → List ℕ → List ℕ → Type 0
IsPrefixOf kept front bytes = front ≡ take kept (unfinished bytes)
