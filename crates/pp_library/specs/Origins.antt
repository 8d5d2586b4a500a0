-- What the calls of origins do.
use Rattle.std.specs.Prelude.{◌≡◌, ℕ, ◌+◌, ◌<◌, ◌≤◌, ◌⊎◌, Bool, false, List, Option}
use Rattle.std.specs.Prelude.{IsSomeAnd, MatchOption, length, map, replicate, take}
use Rattle.pp_actions.specs.declared.action.Action.TheVariants.{Turn}
use Rattle.pp_console.specs.Commands.{State, Value, present}
use Rattle.pp_history.specs.SessionValue.{IsAt, Moves}
use Rattle.pp_library.specs.Outcomes.{OnlyReturns}
use Rattle.pp_library.specs.Status.{run_status}
use Rattle.pp_library.specs.declared.console.Console.{Console}
use Rattle.pp_library.specs.declared.status.TheConstants.{CLOSED, DONE, NOT_FOUND, REFUSED, ROOM}
use Rattle.pp_machine.specs.Machine.{Machine}
use Rattle.pp_machine.specs.Numbering.{fixed_places, place_number}
use Rattle.pp_machine.specs.WriteList.{list_room}
use Rattle.pp_machine.specs.declared.olds.Old.{Old}
use Rattle.pp_origins.specs.Links.{links_of}
use Rattle.pp_origins.specs.declared.origin.Link.{Link}
use Rattle.pp_origins.specs.declared.rows.TheConstants.{MOST_LINKS}
use Rattle.pp_rig.specs.Columns.{EndsAsStep}
use Rattle.pp_rig.specs.Recording.{olds_of}
use Rattle.pp_rig.specs.Rules.{rules}
use Rattle.pp_rig.specs.Stopping.{after_turns}
use Rattle.pp_search.specs.Search.{last_write}
use Rattle.pp_turn_origins.specs.Recording.{IsKept, all_links, all_made, coming}
use Rattle.pp_turn_origins.specs.Turn.{processor_origins, turn_control}
use Rattle.pp_turn_origins.specs.declared.control.TheConstants.{MOST_CONTROL}
use Rattle.pp_turn_origins.specs.declared.recording.{Made.Made, TheConstants.MOST_TURN_LINKS}

-- ---- pp6600_origins

pub record OriginsOuts : Type 0 where
  pub session : Option Console
  pub made : List Made
  pub links : List Link
  pub olds : List Old
  pub turns : ℕ
  pub linked : ℕ
  pub used : ℕ

-- So many turns were performed, as a STEP performs them, with where each number that they wrote comes from, and what they
-- overwrote. There are fewer than were asked for, without a watched change, only if there was no more room.
pub record RecordsOrigins (most : ℕ) (old new : State) (after : OriginsOuts) (result : ℕ) : Type 0 where
  pub hit : Bool
  pub moves : Moves rules old new (after_turns after.turns)
  pub ends : EndsAsStep after.turns old.machine hit
  pub made : take after.turns after.made ≡ all_made after.turns old.machine
  pub links : take after.linked after.links ≡ all_links after.turns old.machine
  pub overwritten : take after.used after.olds ≡ olds_of old.machine (replicate after.turns Turn)
  pub within : (after.turns ≤ most) × (after.turns ≤ length after.made) × (after.linked ≤ length after.links)
      × (after.used ≤ length after.olds)
  pub full : hit ≡ false → (most ≤ after.turns) ⊎ ((length after.made ≤ after.turns)
      ⊎ ((length after.links < after.linked + MOST_TURN_LINKS) ⊎ (length after.olds < after.used + list_room)))
  pub status : result ≡ run_status hit after.turns most

-- Turns of the handle's session were performed.
abbrev pub TurnsWithOrigins : ℕ → OriginsOuts → OriginsOuts → ℕ → Type 0
TurnsWithOrigins most before after result = MatchOption before.session (OnlyReturns CLOSED before after result)
    (λ old. IsSomeAnd after.session (λ new. RecordsOrigins most old.session new.session after result))

-- ---- pp6600_next_origins

pub record NextOuts : Type 0 where
  pub session : Option Console
  pub turn : Made
  pub links : List Link
  pub count : ℕ
  pub control : List ℕ
  pub control_count : ℕ

-- There is room for the links of a step and for its control places.
abbrev pub HasRoomForNext : NextOuts → Type 0
HasRoomForNext outs = (MOST_LINKS ≤ length outs.links) × (MOST_CONTROL ≤ length outs.control)

-- The next turn of a machine was written, with where each number that its processor will write comes from, and its control places.
-- The session is not changed.
pub record TellsNext (s : Machine) (before after : NextOuts) (result : ℕ) : Type 0 where
  pub done : result ≡ DONE
  pub session : after.session ≡ before.session
  pub turn : after.turn ≡ coming s
  pub links : take after.count after.links ≡ links_of (processor_origins s)
  pub control : take after.control_count after.control ≡ map place_number (turn_control s)
  pub within : (after.count ≤ length after.links) × (after.control_count ≤ length after.control)

-- It was written, or there is too little room, and nothing is changed.
abbrev pub Coming : Machine → NextOuts → NextOuts → ℕ → Type 0
Coming s before after result =
    (HasRoomForNext before × TellsNext s before after result)
    ⊎ ((HasRoomForNext before → ⊥) × OnlyReturns ROOM before after result)

-- The machine is that of the handle's session.
abbrev pub NextOrigins : NextOuts → NextOuts → ℕ → Type 0
NextOrigins before after result = MatchOption before.session (OnlyReturns CLOSED before after result)
    (λ old. (v : Value) → IsAt rules old.session v → Coming (present v) before after result)

-- ---- pp6600_last_write

-- What the call writes: how many newer actions there are, the turn that wrote, and where its numbers come from.
pub record FoundWrite : Type 0 where
  pub newer : ℕ
  pub turn : Made
  pub links : List Link

-- The session and what the call writes, before it or after it.
pub record LastWriteOuts : Type 0 where
  pub session : Option Console
  pub found : FoundWrite

-- The machine has so many places from the one with this number on.
abbrev pub HasPlacesFrom : ℕ → ℕ → Machine → Type 0
HasPlacesFrom first count s = first + count ≤ fixed_places + s.setup.central_words

-- The action was written that has so many newer ones, with where each number that it wrote comes from.
pub record TellsKept (v : Value) (k : ℕ) (after : FoundWrite) (result : ℕ) : Type 0 where
  pub done : result ≡ DONE
  pub newer : after.newer ≡ k
  pub kept : IsKept k v after.turn after.links
  pub within : after.turn.links ≤ length after.links

-- The newest action that can be undone and wrote one of the places was written, or there is none. The session is where it was.
abbrev pub TellsWrite : ℕ → ℕ → State → State → FoundWrite → FoundWrite → ℕ → Type 0
TellsWrite first count old new before after result =
    (v : Value) → IsAt rules old v → IsAt rules new v × MatchOption (last_write first count v)
    ((result ≡ NOT_FOUND) × (after ≡ before))
    (λ k. TellsKept v k after result)

-- It was searched, or there is too little room, and nothing is changed.
unfoldable pub FindsWrite : ℕ → ℕ → State → State → FoundWrite → FoundWrite → ℕ → Type 0
FindsWrite first count old new before after result =
    ((MOST_TURN_LINKS ≤ length before.links) × TellsWrite first count old new before after result)
    ⊎ ((length before.links < MOST_TURN_LINKS) × (new ≡ old) × OnlyReturns ROOM before after result)

-- The machine has the places, or they are refused and nothing is changed.
abbrev pub LastWrite : ℕ → ℕ → LastWriteOuts → LastWriteOuts → ℕ → Type 0
LastWrite first count before after result = MatchOption before.session (OnlyReturns CLOSED before after result)
    (λ old. (HasPlacesFrom first count old.session.machine
    × IsSomeAnd after.session (λ new. FindsWrite first count old.session new.session before.found after.found result))
    ⊎ ((HasPlacesFrom first count old.session.machine → ⊥) × OnlyReturns REFUSED before after result))
