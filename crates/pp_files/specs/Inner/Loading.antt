-- Definitions for the inner contracts of loading: a file as far as it was read, and the fault that is reported there.
use Rattle.std.specs.Prelude.{◌≡◌, ℕ, ◌-◌, ◌++◌, ◌⊎◌, Bool, IsTrue, List, [], length, replicate, Some, Result, Ok, Err}
use Rattle.pp_lines.specs.Results.{◌>>=◌}
use Rattle.pp_lines.specs.LineCutter.{IsPrefixOf}
use Rattle.pp_lines.specs.Lines.{finished}
use Rattle.pp_files.specs.declared.fault.LoadFault.{LoadFault}
use Rattle.pp_files.specs.declared.fault.LoadFault.TheVariants.{NoMemory, ReadFailed}
use Rattle.pp_files.specs.declared.progress.Progress.{Progress}
use Rattle.pp_files.specs.declared.progress.TheConstants.{KEPT}
use Rattle.pp_files.specs.Rows.{Row, row_of_line}
use Rattle.pp_files.specs.Files.{Rule, with_lines, with_row, file_limit, rows_of_file}
use Rattle.pp_files.specs.Fault.{RunsOut}

-- the rows so far with the row of line k, or its first fault
abbrev pub with_line : Rule → ℕ → List Row → List ℕ → Result (List Row) LoadFault
with_line rule k rows line = row_of_line k line >>= with_row rule k rows

-- the rows of lines, which are counted from 1, or their first fault
abbrev pub rows_of_lines : Rule → List (List ℕ) → Result (List Row) LoadFault
rows_of_lines rule = with_lines rule 0 []

-- line k has a row: it is not ignored, and has no fault of its own
abbrev pub IsRow : ℕ → List ℕ → Type 0
IsRow k line = (row : Row) × (row_of_line k line ≡ Ok (Some row))

-- a card: a row with zeros for the columns that have no number
abbrev pub card_of_row : Row → Row
card_of_row row = row ++ replicate (80 - length row) 0

-- there are rows, and the sheet holds them
abbrev pub Reads : (List Row → Type 0) → Result (List Row) LoadFault → Type 0
Reads Holds read = (rows : List Row) × (read ≡ Ok rows) × Holds rows

-- there are rows
abbrev pub HasRows : Result (List Row) LoadFault → Type 0
HasRows read = (rows : List Row) × (read ≡ Ok rows)

-- the fault is that of the rows, or memory ran out and the rows have no fault
abbrev pub FailsBy : Result (List Row) LoadFault → LoadFault → Type 0
FailsBy read fault = (read ≡ Err fault) ⊎ ((fault ≡ NoMemory) × HasRows read)

-- the fault is that of line k, or memory ran out for its row and the line has no fault
abbrev pub FailsAt : Rule → ℕ → List Row → List ℕ → LoadFault → Type 0
FailsAt rule k rows line fault =
    (with_line rule k rows line ≡ Err fault) ⊎ ((fault ≡ NoMemory) × HasRows (with_line rule k rows line) × IsRow k line)

-- the fault is that of the file with these bytes, or memory ran out before any fault of the file
abbrev pub FailsIn : Rule → List ℕ → LoadFault → Type 0
FailsIn rule bytes fault = (rows_of_file rule file_limit bytes ≡ Err fault) ⊎ ((fault ≡ NoMemory) × RunsOut rule file_limit bytes)

-- the fault is that of every file that begins with these bytes, or memory ran out before any fault of such a file
abbrev pub FailsAfter : Rule → List ℕ → LoadFault → Type 0
FailsAfter rule bytes fault =
    ((more : List ℕ) → rows_of_file rule file_limit (bytes ++ more) ≡ Err fault)
    ⊎ ((fault ≡ NoMemory) × ((more : List ℕ) → RunsOut rule file_limit (bytes ++ more)))

-- no read failed, and memory ran out only if the sheet needs memory
abbrev pub IsLineFault : Bool → LoadFault → Type 0
IsLineFault needs_memory NoMemory = IsTrue needs_memory
IsLineFault needs_memory ReadFailed = ⊥
IsLineFault needs_memory fault = Unit {0}

-- memory ran out only if the sheet needs memory
abbrev pub IsSheetFault : Bool → LoadFault → Type 0
IsSheetFault needs_memory NoMemory = IsTrue needs_memory
IsSheetFault needs_memory fault = Unit {0}

-- the file was read as far as these bytes
pub record HasReadFile (progress : Progress) (rule : Rule) (Holds : List Row → Type 0) (bytes : List ℕ) : Type 0 where
  pub keeps : IsPrefixOf KEPT progress.cutter bytes
  pub counts_bytes : progress.bytes ≡ length bytes
  pub counts_lines : progress.lines ≡ length (finished bytes)
  pub reads : Reads Holds (rows_of_lines rule (finished bytes))
