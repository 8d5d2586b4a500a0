-- What the console does with the lines that load a program.
use Rattle.std.specs.Prelude.{◌≡◌, ℕ, List, [], ◌∷◌, ◌++◌, Option, Some, None}
use Rattle.pp_notation.specs.declared.program.Cell.{Cell as ProgramCell}
use Rattle.pp_machine.specs.Machine.{over}
use Rattle.pp_machine.specs.Writes.{Writes}
use Rattle.pp_machine.specs.declared.place.Place.{Place}
use Rattle.pp_machine.specs.declared.place.Place.TheVariants.{Cell, RegP, Phase}
use Rattle.pp_console.specs.Commands.{Value, present}
use Rattle.pp_console.specs.Script.{script}

-- The write list of cells in processor n: each word at its address. The last cell comes first, so if an address were there twice,
-- its last word would count.
abbrev pub cell_list : ℕ → List ProgramCell → Writes Place
cell_list n [] = []
cell_list n (cell ∷ cells) = cell_list n cells ++ (Cell n cell.address, cell.word) ∷ []

-- The write list of the address at which processor n begins, if there is one: P, and no block transfer is under way.
abbrev pub start_list : ℕ → Option ℕ → Writes Place
start_list n None = []
start_list n (Some address) = (RegP n, address) ∷ (Phase n, 0) ∷ []

-- The console rejects no line of the text, in any session. Afterwards the machine of the session is the one before with this write
-- list, and nothing else is changed.
pub record Loads (text : List ℕ) (list : Writes Place) : Type 0 where
  pub accepted : (v : Value) → (script v text).refused ≡ 0
  pub machine : (v : Value) → present (script v text).value ≡ over (present v) list
