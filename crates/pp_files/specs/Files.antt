-- The contents of deck and panel files. Numbers that begin with 0o are octal, and the limits here are decimal.
use Rattle.std.specs.Prelude.{ℕ, ◌+◌, ◌-◌, ◌==◌, nat_le, if◌then◌else◌, List, [], ◌∷◌, ◌++◌, length, take, map, replicate, Option}
use Rattle.std.specs.Prelude.{Some, None, Result, Ok, Err}
use Rattle.std.specs.List.{concat}
use Rattle.pp_lines.specs.Lines.{lines, finished}
use Rattle.pp_lines.specs.Results.{◌>>=◌}
use Rattle.pp_files.specs.declared.fault.LoadFault.{LoadFault}
use Rattle.pp_files.specs.declared.fault.LoadFault.TheVariants.{FileTooLong, TooManyWords, PanelCount}
use Rattle.pp_files.specs.Rows.{Row, row_of_line}

-- ---- all lines

-- A rule adds the row of line k to the rows so far, or fails if that is too much.
abbrev pub Rule : Type 0
Rule = ℕ → List Row → Row → Result (List Row) LoadFault

-- The rows so far with the row of line k, unless the line is ignored.
abbrev pub with_row : Rule → ℕ → List Row → Option Row → Result (List Row) LoadFault
with_row rule k rows None = Ok rows
with_row rule k rows (Some row) = rule k rows row

-- The rows so far with the rows of further lines, the first of which is line k + 1, or the first fault.
unfoldable pub with_lines : Rule → ℕ → List Row → List (List ℕ) → Result (List Row) LoadFault
with_lines rule k rows [] = Ok rows
with_lines rule k rows (line ∷ others) =
    (row_of_line (k + 1) line >>= with_row rule (k + 1) rows) >>= λ more. with_lines rule (k + 1) more others

-- The largest number of bytes in a file.
abbrev pub file_limit : ℕ
file_limit = 1048576

-- The lines that count: all lines of a file within the limit, and those of a longer file that end with a line feed within it.
abbrev pub lines_of_file : ℕ → List ℕ → List (List ℕ)
lines_of_file limit bytes = if nat_le (length bytes) limit then lines bytes else finished (take limit bytes)

-- The rows of a file, or its first fault. It is too long only if no line that counts has a fault.
unfoldable pub rows_of_file : Rule → ℕ → List ℕ → Result (List Row) LoadFault
rows_of_file rule limit bytes =
    with_lines rule 0 [] (lines_of_file limit bytes) >>= λ rows.
    if nat_le (length bytes) limit then Ok rows else Err FileTooLong

-- ---- decks

-- A card has at most 80 (decimal) numbers.
abbrev pub card_rule : Rule
card_rule k rows row = if nat_le (length row) 80 then Ok (rows ++ row ∷ []) else Err (TooManyWords k)

-- The cards of a deck file, a card for each line that is not ignored, or the file's first fault. A card has 80 (decimal) columns:
-- the numbers of its line, and then zeros.
unfoldable pub deck_of_file : List ℕ → Result (List Row) LoadFault
deck_of_file bytes = rows_of_file card_rule file_limit bytes >>= λ rows. Ok (map (λ row. row ++ replicate (80 - length row) 0) rows)

-- ---- panels

-- A panel has at most twelve (decimal) numbers in all its lines.
abbrev pub panel_rule : Rule
panel_rule k rows row = if nat_le (length (concat rows ++ row)) 12 then Ok (rows ++ row ∷ []) else Err PanelCount

-- The words of a panel file, twelve (decimal) in all its lines together, of twelve bits each, or the file's first fault. [M19]
unfoldable pub panel_of_file : List ℕ → Result Row LoadFault
panel_of_file bytes = rows_of_file panel_rule file_limit bytes >>= λ rows.
    if length (concat rows) == 12 then Ok (concat rows) else Err PanelCount
