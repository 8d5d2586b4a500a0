-- What an image has.
use Rattle.std.specs.Prelude.{ℕ, List, Option}
use Rattle.pp_meaning.specs.declared.statements.Image.{Image}

-- The words by cell, those in the order of their statements, and where a processor begins.
abbrev pub shown : Image → List (Option ℕ) × List ℕ × Option ℕ
shown image = (image.memory.items, image.words.items, image.start)
