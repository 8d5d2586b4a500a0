-- The result of a script, as far as it was read.
use Rattle.std.specs.Prelude.{◌≡◌, ℕ, ◌<◌, ◌⊎◌, List, [], ◌∷◌, ◌++◌, length, Option, Result, MatchResult}
use Rattle.std.specs.Io.KnownBytes.{IsAtEnd}
use Rattle.pp_console.specs.declared.progress.Summary.{Summary}
use Rattle.pp_console.specs.declared.progress.TheConstants.{LINE_LIMIT, BYTE_LIMIT}
use Rattle.pp_lines.specs.declared.fault.IoFault.{IoFault}
use Rattle.pp_lines.specs.declared.fault.IoFault.TheVariants.{ReadFailed, WriteFailed, LineLimit}
use Rattle.pp_lines.specs.Device.{one_more}
use Rattle.pp_lines.specs.Output.{Appends, Written}
use Rattle.pp_lines.specs.Lines.{lines, finished_within, IsWithin}
use Rattle.pp_lines.specs.Prefixes.{IsProperPrefix}
use Rattle.pp_console.specs.Commands.{State, Value}
use Rattle.pp_console.specs.Script.{outcome, script}
use Rattle.pp_history.specs.SessionValue.{IsAt}
use Rattle.pp_rig.specs.Rules.{rules}

-- the start of a run: a value of the session, and what the sink had written
pub record Origin : Type 0 where
  pub start : Value
  pub before : Written

abbrev pub origin_of : Value → Written → Origin
origin_of start before = record { start = start; before = before }

-- these lines were performed, and their whole text was written
pub record Performed (session : State) (text : Written) (origin : Origin) (done : List (List ℕ)) : Type 0 where
  pub leaves : IsAt rules session (outcome origin.start done).value
  pub writes : Appends origin.before text (outcome origin.start done).text

-- these lines and the one after them were performed, and a proper prefix of the last answer was written
pub record Breaks (session : State) (text : Written) (origin : Origin) (done : List (List ℕ)) (line : List ℕ) : Type 0 where
  pub leaves : IsAt rules session (outcome origin.start (done ++ line ∷ [])).value
  pub front : List ℕ
  pub writes : Appends origin.before text ((outcome origin.start done).text ++ front)
  pub prefix : IsProperPrefix ((outcome origin.start done).text ++ front) (outcome origin.start (done ++ line ∷ [])).text

-- the whole script was performed, its text was written, and its lines were counted
pub record Serves (summary : Summary) (session : State) (text : Written) (origin : Origin) (bytes : List ℕ) : Type 0 where
  pub performed : Performed session text origin (lines bytes)
  pub counts_lines : summary.lines ≡ length (lines bytes)
  pub counts_refused : summary.refused ≡ (script origin.start bytes).refused
  pub within : IsWithin LINE_LIMIT BYTE_LIMIT bytes

-- The script has this line after these lines, within the limits. The line ends with a line feed or at the end of input.
abbrev pub IsAnswered : List ℕ → Option (List ℕ) → List (List ℕ) → List ℕ → List (List ℕ) → Type 0
IsAnswered bytes left done line later =
    (finished_within LINE_LIMIT BYTE_LIMIT bytes ≡ done ++ line ∷ later)
    ⊎ ((lines bytes ≡ done ++ line ∷ []) × IsWithin LINE_LIMIT BYTE_LIMIT bytes × IsAtEnd left)

-- the result of a fault, given the bytes that were read and the remaining bytes
abbrev pub Stops : IoFault → State → Written → Origin → List ℕ → Option (List ℕ) → Type 0
Stops ReadFailed session text origin bytes left = Performed session text origin (finished_within LINE_LIMIT BYTE_LIMIT bytes)
Stops LineLimit session text origin bytes left =
    Performed session text origin (finished_within LINE_LIMIT BYTE_LIMIT bytes)
    × ((BYTE_LIMIT < length bytes) ⊎ (LINE_LIMIT < length (lines bytes)))
Stops WriteFailed session text origin bytes left =
    (done : List (List ℕ)) × (line : List ℕ) × (later : List (List ℕ)) × IsAnswered bytes left done line later
    × Breaks session text origin done line

-- the sink's count of failures after a fault
abbrev pub writes_after : IoFault → ℕ → ℕ
writes_after ReadFailed count = count
writes_after LineLimit count = count
writes_after WriteFailed count = one_more count

-- the source's count of failures after a fault
abbrev pub reads_after : IoFault → ℕ → ℕ
reads_after ReadFailed count = one_more count
reads_after LineLimit count = count
reads_after WriteFailed count = count

-- only a failed write raises the sink's count, by one
abbrev pub CountsWrites : {T : Type 0} → ℕ → ℕ → Result T IoFault → Type 0
CountsWrites old new result = MatchResult result (λ _. new ≡ old) (λ fault. new ≡ writes_after fault old)

-- only a failed read raises the source's count, by one
abbrev pub CountsReads : {T : Type 0} → ℕ → ℕ → Result T IoFault → Type 0
CountsReads old new result = MatchResult result (λ _. new ≡ old) (λ fault. new ≡ reads_after fault old)
