-- Turns and kept actions, with the origins of all that they write.
use Rattle.std.specs.Prelude.{◌≡◌, ℕ, zero, suc, List, [], ◌∷◌, ◌++◌, drop, length, take}
use denote.Enum.Declared.{tag_of}
use Rattle.pp_actions.specs.declared.action.Action.{Action}
use Rattle.pp_actions.specs.declared.action.Action.TheVariants.{Turn}
use Rattle.pp_history.specs.SessionValue.{SessionValue, replay}
use Rattle.pp_machine.specs.Machine.{Machine, processor}
use Rattle.pp_origins.specs.Links.{links_of}
use Rattle.pp_origins.specs.declared.origin.Link.{Link}
use Rattle.pp_rig.specs.Inner.ActionRecords.{old_values_of}
use Rattle.pp_rig.specs.Recording.{processor_of}
use Rattle.pp_rig.specs.Rules.{rules}
use Rattle.pp_rig.specs.Turn.{turn}
use Rattle.pp_turn_origins.specs.Turn.{address_of, kind_of, processor_origins, turn_origins, word_of, writes_nothing}
use Rattle.pp_turn_origins.specs.contracts.kind.TurnKind.{the_type as kind_type}
use Rattle.pp_turn_origins.specs.declared.kind.TurnKind.{TurnKind}
use Rattle.pp_turn_origins.specs.declared.recording.Made.{Made}

-- What a turn is, as a number: its position in the enum.
abbrev pub kind_number : TurnKind → ℕ
kind_number = tag_of kind_type

-- The next turn: its processor, the address and the word of its instruction, what it is, how many links it has and how many of them
-- are its processor's, and how many places it overwrites.
abbrev pub made_of : Machine → Made
made_of s = record {
  processor = s.slot;
  address = address_of s;
  word = word_of s;
  kind = kind_number (kind_of (writes_nothing (processor_origins s)) (processor s s.slot).phase (word_of s));
  links = length (links_of (turn_origins s));
  own = length (links_of (processor_origins s));
  olds = length (old_values_of s Turn);
}

-- The next turn, before it is performed.
abbrev pub coming : Machine → Made
coming s = record (made_of s) { links = length (links_of (processor_origins s)); olds = 0 }

-- So many turns, one after another.
unfoldable pub all_made : ℕ → Machine → List Made
all_made zero s = []
all_made (suc turns) s = made_of s ∷ all_made turns (turn s)

-- The links of what they write, one turn after another.
unfoldable pub all_links : ℕ → Machine → List Link
all_links zero s = []
all_links (suc turns) s = links_of (turn_origins s) ++ all_links turns (turn s)

-- An action on this machine. One of the operator has processor 10 (decimal), no instruction and no links.
abbrev pub made_by : Machine → Action → Made
made_by s Turn = made_of s
made_by s action = record {
  processor = processor_of s action;
  address = 0;
  word = 0;
  kind = 0;
  links = 0;
  own = 0;
  olds = length (old_values_of s action);
}

abbrev pub links_by : Machine → Action → List Link
links_by s Turn = links_of (turn_origins s)
links_by s action = []

-- The action with so many newer ones, and the links of what it wrote, which are at the beginning of a slice.
abbrev pub IsKept : ℕ → SessionValue Machine Action → Made → List Link → Type 0
IsKept newer v made links = (action : Action) (earlier : List Action) → drop newer v.standing ≡ action ∷ earlier →
    let s = replay rules v.start earlier in (made ≡ made_by s action) × (take made.links links ≡ links_by s action)
