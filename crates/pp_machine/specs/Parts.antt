-- An action in parts, performed one after another.
use Rattle.std.specs.Prelude.{List, [], ◌∷◌}
use Rattle.pp_machine.specs.Prelude.{Machine, over, Writes, Place}

-- A part of an action: its write list, in the machine that the parts before it left. [P4]
abbrev pub Part : Type 0
Part = Machine → Writes Place

-- The machine after the parts, each performed on the machine that the parts before it left. [P4]
abbrev pub after_parts : List Part → Machine → Machine
after_parts [] s = s
after_parts (part ∷ parts) s = after_parts parts (over s (part s))
