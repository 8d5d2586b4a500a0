-- Numbers that an action sets or may set, and lists of such settings.
use Rattle.std.proofs.Common.{arith, zero, suc, ℕ, ◌<◌, List, [], ◌∷◌, ◌++◌, length, slice_index_or, Some, None}
use Rattle.pp_machine.specs.Prelude.{Writes, write_list, Has, HasAll, state_number}
use Rattle.pp_machine.specs.declared.place.Write.{Write}
use Rattle.pp_machine.specs.declared.place.Place.{Place}
use Rattle.pp_machine.specs.declared.place.Place.TheVariants.{Cell, RegA, RegP, RegQ, Phase, ChannelMode, ChannelWord, Central}
use Rattle.pp_machine.specs.declared.place.Place.TheVariants.{Slot}
use Rattle.pp_machine.specs.Ranges.{IsInRange}
use Rattle.pp_actions.specs.WriteLists.{cell_writes}
use Rattle.pp_actions.specs.declared.action.Action.{Action}
use Rattle.pp_actions.specs.declared.action.Action.TheVariants as action

-- What an action sets in any machine. A new P ends the processor's block transfer. [P27]
abbrev pub set_list : Action → Writes Place
set_list (action.SetCells n a values) = cell_writes n a values
set_list (action.SetA n v) = (RegA n, v) ∷ []
set_list (action.SetP n v) = (RegP n, v) ∷ (Phase n, 0) ∷ []
set_list (action.SetQ n v) = (RegQ n, v) ∷ []
set_list (action.SetWord a v) = (Central a, v) ∷ []
set_list (action.SetChannel c state None) = (ChannelMode c, state_number state) ∷ []
set_list (action.SetChannel c state (Some w)) = (ChannelMode c, state_number state) ∷ (ChannelWord c, w) ∷ []
set_list _ = []

-- a place that an action may set, if the machine has it
abbrev pub IsSettable : Place → Type 0
IsSettable (Cell n a) = Unit {0}
IsSettable (RegA n) = Unit {0}
IsSettable (RegP n) = Unit {0}
IsSettable (RegQ n) = Unit {0}
IsSettable (Phase n) = Unit {0}
IsSettable (ChannelMode c) = Unit {0}
IsSettable (ChannelWord c) = Unit {0}
IsSettable (Central a) = Unit {0}
IsSettable Slot = Unit {0}
IsSettable _ = ⊥

-- a number that an action may set, in a machine with this many central words
pub record IsSetting (size : ℕ) (p : Place) (v : ℕ) : Type 0 where
  pub has : Has size p
  pub settable : IsSettable p
  pub in_range : IsInRange p v

abbrev pub AreSettings : ℕ → Writes Place → Type 0
AreSettings size [] = Unit {0}
AreSettings size (pair ∷ rest) = IsSetting size pair.0 pair.1 × AreSettings size rest

pub AreSettings-append : (size : ℕ) (a b : Writes Place) → AreSettings size a → AreSettings size b → AreSettings size (a ++ b)
AreSettings-append size [] b h k = k
AreSettings-append size (pair ∷ a) b h k = (h.0, AreSettings-append size a b h.1 k)

-- one pair of a list of settings
pub IsSetting-at : (size : ℕ) (ks : List Write) (i : ℕ) (d : Write) → AreSettings size (write_list ks) → i < length ks →
    IsSetting size (slice_index_or ks i d).place (slice_index_or ks i d).number
IsSetting-at size [] i d h l = absurd (omega arith)
IsSetting-at size (k ∷ ks) zero d h l = h.0
IsSetting-at size (k ∷ ks) (suc i) d h l = IsSetting-at size ks i d h.1 (omega arith)

pub HasAll-settings : (size : ℕ) (w : Writes Place) → AreSettings size w → HasAll size w
HasAll-settings size [] h = tt
HasAll-settings size (pair ∷ w) h = (h.0.has, HasAll-settings size w h.1)
