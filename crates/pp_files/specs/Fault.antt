-- Why a file was not loaded.
use Rattle.std.specs.Prelude.{◌≡◌, ℕ, ◌+◌, ◌≤◌, ◌⊎◌, Bool, true, List, [], ◌∷◌, ◌++◌, length, Some, Result, Ok, Err, MatchResult}
use Rattle.pp_lines.specs.Device.{one_more}
use Rattle.pp_lines.specs.Lines.{finished}
use Rattle.pp_files.specs.declared.fault.LoadFault.{LoadFault}
use Rattle.pp_files.specs.declared.fault.LoadFault.TheVariants.{NoMemory, ReadFailed}
use Rattle.pp_files.specs.Rows.{Row, row_of_line}
use Rattle.pp_files.specs.Files.{Rule, with_lines, file_limit, lines_of_file}

-- These lines have no fault.
abbrev pub HasNoFault : Rule → List (List ℕ) → Type 0
HasNoFault rule done = (rows : List Row) × (with_lines rule 0 [] done ≡ Ok rows)

-- One of the file's lines has a row, and there is no fault up to it and none in it: memory may have run out there.
abbrev pub RunsOut : Rule → ℕ → List ℕ → Type 0
RunsOut rule limit bytes =
    (done : List (List ℕ)) × (line : List ℕ) × (later : List (List ℕ)) × (lines_of_file limit bytes ≡ done ++ line ∷ later)
    × HasNoFault rule (done ++ line ∷ []) × ((row : Row) × (row_of_line (length done + 1) line ≡ Ok (Some row)))

-- The bytes that were read are within the limit, and their finished lines have no fault: a read may have failed there.
abbrev pub BreaksOff : Rule → ℕ → List ℕ → Type 0
BreaksOff rule limit taken = (length taken ≤ limit) × HasNoFault rule (finished taken)

-- The bytes that were read settle this: it holds of all bytes of the file. And it holds whatever bytes follow those that were
-- read, unless the file was read to its end.
abbrev pub IsSettled : Bool → List ℕ → List ℕ → (List ℕ → Type 0) → Type 0
IsSettled ended taken bytes Holds = Holds bytes × ((ended ≡ true) ⊎ ((later : List ℕ) → Holds (taken ++ later)))

-- Why a file was not loaded, given the bytes that were read, whether to its end, and all bytes of the file. The file has this
-- fault, or memory ran out before any fault of the file, and the bytes that were read settle that. Or a read failed.
abbrev pub IsLoadCause : {A : Type 0} → Rule → (List ℕ → Result A LoadFault) → Bool → List ℕ → List ℕ → LoadFault → Type 0
IsLoadCause rule file ended taken bytes fault =
    IsSettled ended taken bytes (λ all. file all ≡ Err fault)
    ⊎ (((fault ≡ NoMemory) × IsSettled ended taken bytes (RunsOut rule file_limit))
    ⊎ ((fault ≡ ReadFailed) × BreaksOff rule file_limit taken))

-- the source's count of failures after a fault
abbrev pub reads_after_load : LoadFault → ℕ → ℕ
reads_after_load ReadFailed count = one_more count
reads_after_load fault count = count

-- a failed read raises the source's count of failures by one, and nothing else does
abbrev pub CountsLoadReads : {A : Type 0} → ℕ → ℕ → Result A LoadFault → Type 0
CountsLoadReads old new result = MatchResult result (λ _. new ≡ old) (λ fault. new ≡ reads_after_load fault old)
