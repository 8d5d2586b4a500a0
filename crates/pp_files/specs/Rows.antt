-- The numbers on a line of a deck or panel file. A line has up to 1023 (decimal) bytes, not counting a carriage return at its end.
use Rattle.std.specs.Prelude.{ℕ, nat_lt, nat_le, Bool, ◌&&◌, if◌then◌else◌, List, length, map, Option, Some, None, Result, Ok, Err}
use Rattle.std.specs.List.{list_all}
use Rattle.pp_arith.specs.Octal.{is_octal, octal_value}
use Rattle.pp_lines.specs.Lines.{without_return}
use Rattle.pp_lines.specs.Words.{words, is_ignored}
use Rattle.pp_files.specs.declared.fault.LoadFault.{LoadFault}
use Rattle.pp_files.specs.declared.fault.LoadFault.TheVariants.{LineTooLong, NotOctal, TooLarge}

-- The numbers of a line, which are the words of a panel or the columns of a card.
abbrev pub Row : Type 0
Row = List ℕ

-- A word is a number of a file if it is octal and at most 7777 (octal).
abbrev pub is_number : List ℕ → Bool
is_number word = is_octal word && nat_le (octal_value word) 0o7777

-- The words of line k as numbers. All are tested for octal digits before any is found too large.
abbrev pub row_of_words : ℕ → List (List ℕ) → Result (Option Row) LoadFault
row_of_words k given =
    if list_all is_octal given then (if list_all is_number given then Ok (Some (map octal_value given)) else Err (TooLarge k))
    else Err (NotOctal k)

-- The numbers of line k, nothing if it is ignored, or its first fault. An ignored line can be too long.
unfoldable pub row_of_line : ℕ → List ℕ → Result (Option Row) LoadFault
row_of_line k line =
    let text = without_return line in
    if nat_lt 1023 (length text) then Err (LineTooLong k)
    else (if is_ignored (words text) then Ok None else row_of_words k (words text))
