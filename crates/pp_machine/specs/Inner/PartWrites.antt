-- The write list and the old values of an action in parts.
use Rattle.std.specs.Prelude.{◌≡◌, List, [], ◌∷◌, ◌++◌}
use Rattle.pp_machine.specs.Parts.{Part, after_parts}
use Rattle.pp_machine.specs.Prelude.{Machine, over, old_values, Writes, Place}

-- what the parts write, the latest part first: of two numbers for one place the first counts
abbrev pub parts_writes : List Part → Machine → Writes Place
parts_writes [] s = []
parts_writes (part ∷ parts) s = parts_writes parts (over s (part s)) ++ part s

-- the old values, the earliest part first: of two old values for one place the oldest counts
abbrev pub parts_old_values : List Part → Machine → Writes Place
parts_old_values [] s = []
parts_old_values (part ∷ parts) s = old_values s (part s) ++ parts_old_values parts (over s (part s))

-- the parts were performed, and an undo record has their old values
pub record ArePerformed (parts : List Part) (old new : Machine) (back : Writes Place) : Type 0 where
  pub step : new ≡ after_parts parts old
  pub old_values : back ≡ parts_old_values parts old

-- no part writes anything
abbrev pub AreIdle : List Part → Machine → Type 0
AreIdle [] s = Unit {0}
AreIdle (part ∷ parts) s = (part s ≡ []) × AreIdle parts s

-- each part has the property, in the machine that the parts before it left
abbrev pub EachPart : (Part → Machine → Type 0) → List Part → Machine → Type 0
EachPart P [] s = Unit {0}
EachPart P (part ∷ parts) s = P part s × EachPart P parts (over s (part s))
