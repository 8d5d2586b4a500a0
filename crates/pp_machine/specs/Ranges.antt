-- The ranges of a machine's numbers, each once. Counts are octal where the field numbers things in octal.
use Rattle.std.specs.Prelude.{ℕ, ◌<◌, ◌≤◌, ◌^◌, IsTrue}
use Rattle.pp_machine.specs.Phase.{is_phase}
use Rattle.pp_machine.specs.declared.place.Place.{Place}
use Rattle.pp_machine.specs.declared.place.Place.TheVariants.{Cell, RegA, RegP, RegQ, Phase, ChannelMode, ChannelWord, Central}
use Rattle.pp_machine.specs.declared.place.Place.TheVariants.{Slot}

-- ---- how many there are

-- The ten peripheral processors, numbered 00 to 11. [M1]
abbrev pub processor_count : ℕ
processor_count = 0o12

-- The cells of one processor's memory, 0000 to 7777: 4096, decimal. [M2]
abbrev pub cell_count : ℕ
cell_count = 0o10000

-- The twelve data channels, numbered 00 to 13. [M14]
abbrev pub channel_count : ℕ
channel_count = 0o14

-- The words of the register frame, 00 to 17: those of an exchange package. [M18]
abbrev pub frame_count : ℕ
frame_count = 0o20

-- Room on the printer's paper: 65,536 symbols, decimal. [P25]
abbrev pub paper_size : ℕ
paper_size = 65536

-- A machine watches at most eight places. [P28]
abbrev pub watch_count : ℕ
watch_count = 8

-- ---- how great they are

-- The greatest number of twelve bits, the width of a cell, of P, of Q and of a channel's register. [M2, M14]
abbrev pub twelve_bits : ℕ
twelve_bits = 0o7777

-- The greatest number of eighteen bits, the width of A. [M2]
abbrev pub eighteen_bits : ℕ
eighteen_bits = 0o777777

-- One past the greatest number of sixty bits, the width of a central memory word. [M3]
abbrev pub past_sixty_bits : ℕ
past_sixty_bits = 2 ^ 60

-- A number that fits its place. No action sets any other place. [P27, P29]
abbrev pub IsInRange : Place → ℕ → Type 0
IsInRange (Cell n a) v = v ≤ twelve_bits
IsInRange (RegA n) v = v ≤ eighteen_bits
IsInRange (RegP n) v = v ≤ twelve_bits
IsInRange (RegQ n) v = v ≤ twelve_bits
IsInRange (Phase n) v = (v < 2 ^ 16) × IsTrue (is_phase v)
IsInRange (ChannelMode c) v = v < 4
IsInRange (ChannelWord c) v = v ≤ twelve_bits
IsInRange (Central a) v = v < past_sixty_bits
IsInRange Slot v = v < processor_count
IsInRange _ v = Unit {0}
