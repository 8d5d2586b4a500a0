-- The words of an action that sets cells, as they are kept.
use Rattle.std.specs.Prelude.{ℕ, ◌-◌, List, ◌++◌, length, replicate}

-- the words, and zeros after them: eight in all
abbrev pub padded : List ℕ → List ℕ
padded words = words ++ replicate (8 - length words) 0
