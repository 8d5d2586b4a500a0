-- Rows of the whole machine: a number of turns leads from some numbers to others.
use Rattle.std.specs.Prelude.{ℕ, zero, suc, ◌≡◌, List, [], ◌∷◌, Option, Some, None, replicate}
use Rattle.pp_machine.specs.Prelude.{Machine, over, old_values, Writes, words_of}
use Rattle.pp_machine.specs.declared.place.Place.{Place}
use Rattle.pp_rig.specs.Action.{next}
use Rattle.pp_rig.specs.Starting.{blank_processor}
use Rattle.pp_rig.specs.Turn.{turn}
use Rattle.pp_actions.specs.declared.action.Action.TheVariants.{Deadstart}
use Rattle.pp_actions.specs.declared.setup.Setup.{Setup}

-- the starting machine: 100000 central words, this deck in the reader on channel 12, the printer on channel 13, this panel
abbrev pub blank : List (List ℕ) → Option (List ℕ) → Machine
blank deck panel = record {
  processors = replicate 0o12 blank_processor;
  channels = record { states = replicate 0o14 0; registers = replicate 0o14 0; clock = 0 };
  central = replicate 0o100000 0;
  frame = replicate 0o20 0;
  reader = record { deck = deck; card = 0; column = 0; mode = 0 };
  printer = record { symbols = replicate 65536 0; length = 0; column = 0; mode = 0 };
  slot = 0;
  watches = replicate 8 0;
  setup = record { central_words = 0o100000; panel = panel; reader_channel = 0o12; printer_channel = 0o13 };
}

-- the same machine with the deck, the panel, the central memory and the channels of a setup
abbrev pub blank_of : Setup → Machine
blank_of s = record (blank s.deck.items s.panel) {
  central = replicate (words_of s.central) 0;
  setup = record { central_words = words_of s.central; panel = s.panel; reader_channel = s.reader; printer_channel = s.printer };
}

-- the machine after this many turns
abbrev pub after : ℕ → Machine → Machine
after zero m = m
after (suc turns) m = after turns (turn m)

-- the machine has these numbers
abbrev pub Shows : Machine → Writes Place → Type 0
Shows m numbers = old_values m numbers ≡ numbers

-- the starting machine without cards and without a panel
abbrev pub at_rest : Machine
at_rest = blank [] None

-- the machine with these numbers after a dead start by a panel that begins with 1405 3420 0300
abbrev pub dead_started : Writes Place → Machine
dead_started before = next (over (blank [] (Some (0o1405 ∷ 0o3420 ∷ 0o300 ∷ replicate 9 0))) before) Deadstart

-- This many turns lead from the machine with the first numbers to a machine with the second.
abbrev pub Leads : Machine → Writes Place → ℕ → Writes Place → Type 0
Leads m before turns later = Shows (after turns (over m before)) later
