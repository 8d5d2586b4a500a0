-- The marks of places, and the places of undo records without a mark.
use Rattle.std.specs.Prelude.{ℕ, false, ◌≡◌, ◌+◌, ◌-◌, ◌*◌, ◌/◌, ◌%◌, Option, Some, None}
use Rattle.pp_history.specs.{Marks.is_marked, declared.marks.Marks.Marks}
use Rattle.pp_machine.specs.declared.place.Place.TheVariants.{Cell, ChannelWord, Central, Phase, RegA, RegP, RegQ}
use Rattle.pp_machine.specs.{Writes.AllPlaces, Writes.Writes, declared.place.Place.Place}
use Rattle.pp_step.specs.View.{PpPlace, pp_place}

-- by processor and block of eight cells
abbrev pub cell_mark : ℕ → ℕ → ℕ
cell_mark n a = n * 64 + a / 8 % 64

-- by block of sixteen words
abbrev pub central_mark : ℕ → ℕ
central_mark a = 768 + a / 16 % 256

abbrev pub channel_mark : ℕ → ℕ
channel_mark c = 640 + c

-- of a processor's registers and its phase together
abbrev pub register_mark : ℕ → ℕ
register_mark n = 652 + n

-- The numbers of the two marks of a cell, a central word or a channel's register: its own block's, and that of the fourth cell or
-- the fifteenth word before it. Five cells, or sixteen words, that have a place begin in one of its two blocks.
abbrev pub marks_of : Place → Option (ℕ × ℕ)
marks_of (Cell n a) = Some (cell_mark n a, cell_mark n (a + 0o10000 - 4))
marks_of (Central a) = Some (central_mark a, central_mark (a + 0o10000 - 15))
marks_of (ChannelWord c) = Some (channel_mark c, channel_mark c)
marks_of (RegA n) = Some (register_mark n, register_mark n)
marks_of (RegP n) = Some (register_mark n, register_mark n)
marks_of (RegQ n) = Some (register_mark n, register_mark n)
marks_of (Phase n) = Some (register_mark n, register_mark n)
marks_of _ = None

-- no place that a step of processor n wrote is marked
abbrev pub AreUnmarked : Marks → ℕ → Writes PpPlace → Type 0
AreUnmarked m n = AllPlaces (λ x. is_marked m (marks_of (pp_place n x)) ≡ false)
