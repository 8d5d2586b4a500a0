-- The printer's paper as lines of text.
use Rattle.std.specs.Prelude.{ℕ, List, ◌++◌, map, codes}
use Rattle.std.specs.List.{flat_map}
use Rattle.pp_lines.specs.Lines.{finished, unfinished, last_line}
use Rattle.pp_console.specs.DisplayCode.{character}

-- A line of the paper after a mark.
abbrev pub marked : List ℕ → List ℕ → List ℕ
marked mark line = mark ++ line ++ codes "\n"

-- The paper, whose symbols are characters of display code and line ends: each line that has a line end, after a bar, and what comes
-- after the last line end, if anything, after a slash.
unfoldable pub paper_text : List ℕ → List ℕ
paper_text symbols =
    let text = map character symbols in
    flat_map (marked (codes "|")) (finished text) ++ flat_map (marked (codes "/")) (last_line (unfinished text))
