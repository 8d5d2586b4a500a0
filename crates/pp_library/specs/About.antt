-- What the library says of itself, and of an instruction.
use Rattle.std.specs.Prelude.{◌≡◌, ℕ, ◌<◌, ◌≤◌, ◌==◌, ◌⊎◌, List, codes, if◌then◌else◌}
use denote.Enum.Declared.{tag_of}
use Rattle.pp_notation.specs.contracts.instructions.Form.{the_type as form_type}
use Rattle.pp_notation.specs.{Instructions.form, Instructions.size, Mnemonics.mnemonic}
use Rattle.pp_library.specs.Outcomes.{OnlyReturns, PutsText, TextOuts}
use Rattle.pp_library.specs.declared.status.TheConstants.{CLOSED, DONE, LIMIT, NO_MEMORY, NOT_FOUND, OPEN, REFUSED, ROOM, WATCHED}

-- The text of a status.
abbrev pub status_text : ℕ → List ℕ
status_text status =
    if status == DONE then codes "done"
    else (if status == ROOM then codes "no room"
    else (if status == WATCHED then codes "a watched number changed"
    else (if status == CLOSED then codes "the session is closed"
    else (if status == OPEN then codes "the session is open"
    else (if status == NO_MEMORY then codes "no memory"
    else (if status == REFUSED then codes "refused"
    else (if status == LIMIT then codes "a line is past a limit"
    else codes "not found")))))))

-- The text is written (DONE), or there is no room for it (ROOM), or there is no such status (REFUSED).
abbrev pub WritesStatus : ℕ → TextOuts → TextOuts → ℕ → Type 0
WritesStatus status before after result =
    ((status ≤ NOT_FOUND) × PutsText (status_text status) before.into after.into after.count result)
    ⊎ ((NOT_FOUND < status) × OnlyReturns REFUSED before after result)

-- ---- pp6600_instruction

pub record InstructionOuts : Type 0 where
  pub into : List ℕ
  pub count : ℕ
  pub words : ℕ
  pub form : ℕ

-- The name of the instruction with a code is written (DONE), or there is no room for it (ROOM), with how many words it has and the
-- number of its form; or there is no such code (REFUSED).
abbrev pub WritesInstruction : ℕ → InstructionOuts → InstructionOuts → ℕ → Type 0
WritesInstruction code before after result =
    ((code < 0o100) × PutsText (mnemonic code) before.into after.into after.count result
    × (after.words ≡ size (form code)) × (after.form ≡ tag_of form_type (form code)))
    ⊎ ((0o100 ≤ code) × OnlyReturns REFUSED before after result)
