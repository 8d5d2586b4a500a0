-- Definitions for the inner contracts of the paper: how it is cut into lines, and the rest after the last cut.
use Rattle.std.specs.Prelude.{ℕ, ◌==◌, Bool, List, map, codes}
use Rattle.std.specs.List.{flat_map}
use Rattle.pp_lines.specs.Lines.{last_line}
use Rattle.pp_console.specs.DisplayCode.{character}
use Rattle.pp_console.specs.Paper.{marked}

-- a symbol that ends a line of the paper
abbrev pub is_line_end : ℕ → Bool
is_line_end symbol = character symbol == 10

-- symbols without a line end
abbrev pub rest_text : List ℕ → List ℕ
rest_text symbols = flat_map (marked (codes "/")) (last_line (map character symbols))
