-- Definitions for the inner contracts of serving: a script as far as it was read, and a fault that interrupts it there.
use Rattle.std.specs.Prelude.{◌≡◌, ℕ, ◌<◌, ◌⊎◌, List, ◌∷◌, ◌++◌, length}
use Rattle.pp_console.specs.declared.progress.Progress.{Progress}
use Rattle.pp_console.specs.declared.progress.Summary.{Summary}
use Rattle.pp_console.specs.declared.progress.TheConstants.{LINE_LIMIT, BYTE_LIMIT, KEPT}
use Rattle.pp_lines.specs.declared.fault.IoFault.{IoFault}
use Rattle.pp_lines.specs.declared.fault.IoFault.TheVariants.{ReadFailed, WriteFailed, LineLimit}
use Rattle.pp_lines.specs.Output.{Written}
use Rattle.pp_lines.specs.LineCutter.{IsPrefixOf}
use Rattle.pp_lines.specs.Lines.{finished, finished_within, IsWithin}
use Rattle.pp_console.specs.Commands.{State}
use Rattle.pp_console.specs.Script.{outcome}
use Rattle.pp_console.specs.Serving.{Origin, Performed, Breaks}

-- these lines have ended: they were performed, and counted
pub record HasEnded (summary : Summary) (session : State) (text : Written) (origin : Origin) (done : List (List ℕ)) : Type 0 where
  pub performed : Performed session text origin done
  pub counts_lines : summary.lines ≡ length done
  pub counts_refused : summary.refused ≡ (outcome origin.start done).refused

-- the script was read as far as these bytes
pub record HasRead (progress : Progress) (session : State) (text : Written) (origin : Origin) (bytes : List ℕ) : Type 0 where
  pub keeps : IsPrefixOf KEPT progress.line bytes
  pub counts_bytes : progress.bytes ≡ length bytes
  pub ended : HasEnded progress.summary session text origin (finished bytes)

-- the result of a fault among these bytes, before the end of input
abbrev pub Interrupts : IoFault → State → Written → Origin → List ℕ → Type 0
Interrupts ReadFailed session text origin bytes = ⊥
Interrupts LineLimit session text origin bytes =
    (kept more : List ℕ) × (bytes ≡ kept ++ more) × (0 < length more) × IsWithin LINE_LIMIT BYTE_LIMIT kept
    × ((length kept ≡ BYTE_LIMIT) ⊎ (length (finished kept) ≡ LINE_LIMIT)) × Performed session text origin (finished kept)
Interrupts WriteFailed session text origin bytes =
    (done : List (List ℕ)) × (line : List ℕ) × (later : List (List ℕ))
    × (finished_within LINE_LIMIT BYTE_LIMIT bytes ≡ done ++ line ∷ later) × Breaks session text origin done line

-- a fault that is not the source's
abbrev pub IsNoReadFault : IoFault → Type 0
IsNoReadFault ReadFailed = ⊥
IsNoReadFault LineLimit = Unit {0}
IsNoReadFault WriteFailed = Unit {0}
