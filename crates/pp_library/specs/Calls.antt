-- What each call on a session does. A call has two definitions here: a record of its out-parameters, with the session of its
-- handle, and a relation between that record before the call, the record after it, and the status that it returns.
use Rattle.std.specs.Int.{from_bool}
use Rattle.std.specs.Prelude.{◌≡◌, ℕ, ◌+◌, ◌*◌, ◌<◌, ◌≤◌, ◌⊎◌, All, Bool, false, List, ◌++◌, drop, length, map, min, replicate}
use Rattle.std.specs.Prelude.{slice_index, take, IsSomeAnd, MatchOption, Option, None, Err}
use Rattle.pp_actions.specs.declared.action.Action.TheVariants.{Turn}
use Rattle.pp_console.specs.Answering.{AnswersPart}
use Rattle.pp_console.specs.Commands.{State, Value, present}
use Rattle.pp_console.specs.declared.answering.End.{End}
use Rattle.pp_history.specs.SessionValue.{IsAt, Moves, after_back, after_forward}
use Rattle.pp_library.specs.Moving.{MovesOr}
use Rattle.pp_library.specs.Outcomes.{OnlyReturns}
use Rattle.pp_library.specs.Status.{end_status, run_status}
use Rattle.pp_library.specs.declared.console.Console.{Console}
use Rattle.pp_library.specs.declared.status.TheConstants.{CLOSED, DONE, NO_MEMORY, OPEN, REFUSED}
use Rattle.pp_machine.specs.Machine.{Has, Machine, number}
use Rattle.pp_machine.specs.Numbering.{fixed_places, place_at}
use Rattle.pp_machine.specs.WriteList.{list_room}
use Rattle.pp_machine.specs.declared.olds.Old.{Old}
use Rattle.pp_program.specs.Opening.{IsOpened, Wanted, opened}
use Rattle.pp_rig.specs.Columns.{EndsAsStep, rows_of}
use Rattle.pp_rig.specs.Recording.{IsRedone, moments_of, olds_of}
use Rattle.pp_rig.specs.Rules.{rules}
use Rattle.pp_rig.specs.Stopping.{after_turns, newest_changed}
use Rattle.pp_rig.specs.declared.columns.TheConstants.{MOST_COLUMNS}
use Rattle.pp_rig.specs.declared.recording.Moment.{Moment}
use Rattle.pp_trouble.specs.Message.{text_of}
use Rattle.pp_trouble.specs.Trouble.{status_of}
use Rattle.pp_trouble.specs.declared.trouble.Trouble.{Trouble}
use Rattle.pp_trouble.specs.declared.trouble.Trouble.TheVariants as troubles

-- ---- pp6600_open

pub record OpenOuts : Type 0 where
  pub session : Option Console
  pub text : List ℕ
  pub text_count : ℕ
  pub status : ℕ

-- What a session is opened with, with these parts.
abbrev pub wanted : ℕ → ℕ → ℕ → ℕ → List ℕ → List ℕ → Wanted
wanted history central reader printer deck panel =
    record { history = history; central = central; reader = reader; printer = printer; deck = deck; panel = panel }

-- A session was opened, and nothing else is changed.
pub record IsOpen (asked : Wanted) (before after : OpenOuts) (result : ℕ) : Type 0 where
  pub done : result ≡ DONE
  pub session : IsSomeAnd after.session (λ console. IsOpened asked (IsAt rules console.session))
  pub outs : after ≡ record before { session = after.session }

-- The beginning of a buffer has as much of the program's line of this trouble as there is room for.
abbrev pub WritesText : Trouble → List ℕ → List ℕ → ℕ → Type 0
WritesText fault before after count =
    (count ≡ min (length before) (length (text_of fault))) × (after ≡ take count (text_of fault) ++ drop count before)

-- No session was opened: the program refuses these options and files with this trouble, or memory ran out.
pub record IsUnopened (asked : Wanted) (before after : OpenOuts) (result : ℕ) : Type 0 where
  pub trouble : Trouble
  pub cause : ((result ≡ REFUSED) × (opened asked ≡ Err trouble)) ⊎ ((result ≡ NO_MEMORY) × (trouble ≡ troubles.NoMemory))
  pub session : after.session ≡ None
  pub text : WritesText trouble before.text after.text after.text_count
  pub exits : after.status ≡ status_of trouble

-- A handle that is open stays as it is.
abbrev pub Opens : Wanted → OpenOuts → OpenOuts → ℕ → Type 0
Opens asked before after result = MatchOption before.session
    (IsOpen asked before after result ⊎ IsUnopened asked before after result)
    (λ _. OnlyReturns OPEN before after result)

-- ---- pp6600_answer

pub record AnswerOuts : Type 0 where
  pub session : Option Console
  pub into : List ℕ
  pub taken : ℕ
  pub count : ℕ
  pub lines : ℕ
  pub refused : ℕ

-- The first lines of the script were performed, and their answers written.
abbrev pub AnswersLines : List ℕ → AnswerOuts → AnswerOuts → ℕ → Type 0
AnswersLines typed before after result = MatchOption before.session (OnlyReturns CLOSED before after result)
    (λ old. IsSomeAnd after.session (λ new. (end : End) × (result ≡ end_status end)
    × ((start : Value) → IsAt rules old.session start → AnswersPart new.session typed after.into start
    (record { taken = after.taken; count = after.count; lines = after.lines; refused = after.refused; end = end }))))

-- ---- pp6600_numbers

pub record NumbersOuts : Type 0 where
  pub session : Option Console
  pub into : List ℕ

-- The numbers of consecutive places of a machine are read if it has all of them. Otherwise nothing is changed.
abbrev pub Reads : ℕ → Machine → NumbersOuts → NumbersOuts → ℕ → Type 0
Reads first s before after result =
    ((result ≡ DONE) × (after.session ≡ before.session) × (first + length after.into ≤ fixed_places + s.setup.central_words)
    × ((k : ℕ) → k < length after.into → slice_index after.into k ≡ number s (place_at (first + k))))
    ⊎ (OnlyReturns REFUSED before after result × (fixed_places + s.setup.central_words < first + length before.into))

-- They are those of the machine of the handle's session.
abbrev pub ReadsNumbers : ℕ → NumbersOuts → NumbersOuts → ℕ → Type 0
ReadsNumbers first before after result = MatchOption before.session (OnlyReturns CLOSED before after result)
    (λ old. (v : Value) → IsAt rules old.session v → Reads first (present v) before after result)

-- ---- pp6600_counts

pub record CountsOuts : Type 0 where
  pub session : Option Console
  pub kept : ℕ
  pub ahead : ℕ
  pub capacity : ℕ
  pub changed : ℕ

-- How many actions can be undone and performed again, how many the session keeps, and 1 if the newest one changed the number of a
-- watched place.
abbrev pub Counts : CountsOuts → CountsOuts → ℕ → Type 0
Counts before after result = MatchOption before.session (OnlyReturns CLOSED before after result)
    (λ old. (result ≡ DONE) × ((v : Value) → IsAt rules old.session v → after ≡ record before {
      kept = v.kept;
      ahead = length v.ahead;
      capacity = v.capacity;
      changed = from_bool (newest_changed v);
    }))

-- ---- pp6600_turns and pp6600_again

pub record RecordingOuts : Type 0 where
  pub session : Option Console
  pub made : List Moment
  pub olds : List Old
  pub actions : ℕ
  pub used : ℕ

-- So many turns were performed, as a STEP performs them, with what they overwrote. There are fewer than were asked for, without a
-- watched change, only if there was no more room.
pub record RecordsTurns (most : ℕ) (old new : State) (after : RecordingOuts) (result : ℕ) : Type 0 where
  pub hit : Bool
  pub moves : Moves rules old new (after_turns after.actions)
  pub ends : EndsAsStep after.actions old.machine hit
  pub moments : take after.actions after.made ≡ moments_of old.machine (replicate after.actions Turn)
  pub overwritten : take after.used after.olds ≡ olds_of old.machine (replicate after.actions Turn)
  pub within : (after.actions ≤ most) × (after.actions ≤ length after.made) × (after.used ≤ length after.olds)
  pub full : hit ≡ false →
      (most ≤ after.actions) ⊎ ((length after.made ≤ after.actions) ⊎ (length after.olds < after.used + list_room))
  pub status : result ≡ run_status hit after.actions most

-- Turns of the handle's session were performed.
abbrev pub Turns : ℕ → RecordingOuts → RecordingOuts → ℕ → Type 0
Turns most before after result = MatchOption before.session (OnlyReturns CLOSED before after result)
    (λ old. IsSomeAnd after.session (λ new. RecordsTurns most old.session new.session after result))

-- So many actions ahead were performed again, with what they overwrote. If there are too few, nothing is changed.
abbrev pub Again : ℕ → RecordingOuts → RecordingOuts → ℕ → Type 0
Again most before after result = MatchOption before.session (OnlyReturns CLOSED before after result)
    (λ old. ((most ≤ length old.session.ahead) × IsSomeAnd after.session (λ new.
    IsRedone most old.session new.session after.made after.olds (record { actions = after.actions; olds = after.used })
    × (result ≡ run_status false after.actions most)))
    ⊎ (OnlyReturns REFUSED before after result × (length old.session.ahead < most)))

-- ---- pp6600_looks

pub record LooksOuts : Type 0 where
  pub session : Option Console
  pub into : List ℕ
  pub turns : ℕ

-- So many turns were performed, as a STEP performs them, with the numbers at these places after each. There are 1 to 16 (decimal)
-- places, and the machine has each of them.
pub record LooksAt (most : ℕ) (places : List ℕ) (old new : State) (after : LooksOuts) (result : ℕ) : Type 0 where
  pub choice : (0 < length places) × (length places ≤ MOST_COLUMNS)
      × All (Has old.machine.setup.central_words) (map place_at places)
  pub hit : Bool
  pub moves : Moves rules old new (after_turns after.turns)
  pub ends : EndsAsStep after.turns old.machine hit
  pub rows : take (after.turns * length places) after.into ≡ rows_of after.turns old.machine (map place_at places)
  pub within : (after.turns ≤ most) × (after.turns * length places ≤ length after.into)
  pub full : hit ≡ false → (most ≤ after.turns) ⊎ (length after.into < (after.turns + 1) * length places)
  pub status : result ≡ run_status hit after.turns most

-- There are not 1 to 16 (decimal) places, or the machine does not have one of them.
abbrev pub IsNoChoice : List ℕ → Machine → Type 0
IsNoChoice places s =
    (length places ≡ 0) ⊎ ((MOST_COLUMNS < length places)
    ⊎ ((k : ℕ) × (k < length places) × (fixed_places + s.setup.central_words ≤ slice_index places k)))

-- The turns are performed with looks, or the places are refused and nothing is changed.
abbrev pub Looks : ℕ → List ℕ → LooksOuts → LooksOuts → ℕ → Type 0
Looks most places before after result = MatchOption before.session (OnlyReturns CLOSED before after result)
    (λ old. IsSomeAnd after.session (λ new. LooksAt most places old.session new.session after result)
    ⊎ (OnlyReturns REFUSED before after result × IsNoChoice places old.session.machine))

-- ---- pp6600_back, pp6600_forward and pp6600_close, which have no out-parameter but the session

-- The newest actions were undone, or there are too few and nothing is changed.
abbrev pub GoesBack : ℕ → Option Console → Option Console → ℕ → Type 0
GoesBack count before after result = MatchOption before (OnlyReturns CLOSED before after result)
    (λ old. IsSomeAnd after (λ new.
    MovesOr count (length old.session.records) (λ v. after_back v count) old.session new.session result))

-- The next actions ahead were performed again, or there are too few and nothing is changed.
abbrev pub GoesForward : ℕ → Option Console → Option Console → ℕ → Type 0
GoesForward count before after result = MatchOption before (OnlyReturns CLOSED before after result)
    (λ old. IsSomeAnd after (λ new.
    MovesOr count (length old.session.ahead) (λ v. after_forward v count) old.session new.session result))

-- The handle has no session any more.
abbrev pub Closes : Option Console → Option Console → ℕ → Type 0
Closes before after result = MatchOption before (OnlyReturns CLOSED before after result) (λ _. (result ≡ DONE) × (after ≡ None))
