-- An answer that was written into a room, or did not fit.
use Rattle.std.proofs.Common.{◌≡◌, ◌∙◌, ℕ, ◌-◌, ◌<◌, List, [], ◌∷◌, Bool, false, ap, arith, length, length-append, length-take, not}
use Rattle.std.proofs.Common.{refl, sym, take}
use Rattle.std.proofs.lemmas.List.{take-append-le, take_all}
use Rattle.std.specs.Prelude.{Option, Some, None, Result, Ok, Err, IfOk, IfSome, MatchOption}
use Rattle.pp_command.specs.declared.request.Request.{Request}
use Rattle.pp_console.proofs.{AnswerRooms.answers_within, Prelude.IsAt, Prelude.rules, Prelude.State, Prelude.Value}
use Rattle.pp_console.specs.AnswerRoom.{change_room, request_room, room_or, written_in}
use Rattle.pp_console.specs.Answering.{Fits, HasMore, HasRoom, HasSame, IsSameSlice, Settles, left_in}
use Rattle.pp_console.specs.{Commands.answer, Commands.present, declared.room.Room.Room}
use Rattle.pp_lines.specs.{Device.Counts, Output.Appends, Output.AppendsPrefix, Output.Writes}

module _ (old new : Room) (text : List ℕ) (appends : Appends (written_in old) (written_in new) text) where
  -- the text is over the same slice, and longer
  appended-name : new.bytes.ghost_name ≡ old.bytes.ghost_name
  appended-name = cc appends.1

  appended-length : length new.bytes.now ≡ length old.bytes.now
  appended-length = cc appends.1

  appended-text : HasMore old new text
  appended-text = appends.0

-- a room that became full
module _ (old new : Room) (whole : List ℕ) (prefix : AppendsPrefix (written_in old) (written_in new) whole)
    (full : new.count ≡ length new.bytes.now) where
  overflows : left_in old < length whole
  overflows =
      let (front, written, proper) = prefix in
      let lengths = ap length (appended-text old new front written) in
      grind (
        arith,
        lengths,
        full,
        appended-length old new front written,
        proper.all,
        proper.some,
        old.within,
        length-take new.count new.bytes.now,
        length-take old.count old.bytes.now,
        length-append (take old.count old.bytes.now) front,
        length-append front proper.rest,
      )

  keeps_text : take old.count new.bytes.now ≡ take old.count old.bytes.now
  keeps_text =
      let (front, written, proper) = prefix in
      let more = appended-text old new front written in
      let all : take new.count new.bytes.now ≡ new.bytes.now = take_all new.count new.bytes.now (omega (arith, full)) in
      let front_length : length (take old.count old.bytes.now) ≡ old.count = grind
      (arith, length-take old.count old.bytes.now, old.within) in
      let cut = take-append-le old.count (take old.count old.bytes.now) front (omega (arith, front_length)) in
      ap (take old.count) (sym all ∙ more) ∙ cut ∙ take_all old.count (take old.count old.bytes.now) (omega (arith, front_length))

-- the room is over the same slice, whether or not the text was written
pub same_length : {T E : Type 0} (old new : Room) (text : List ℕ) (written : Result T E) →
    Writes (written_in old) (written_in new) written text → length new.bytes.now ≡ length old.bytes.now
same_length old new text (Ok x) writes = appended-length old new text writes
same_length old new text (Err fault) (front, written, proper) = appended-length old new front written

-- an attempt to write a text, which was settled
pub record Tried (old new : Room) (text : List ℕ) (result : Option Bool) : Type 0 where
  pub same : IsSameSlice old new
  pub fits : MatchOption result (HasSame old new × (left_in old < length text)) (λ performed. HasMore old new text)

pub tried : {E : Type 0} (old middle new : Room) (text : List ℕ) (written : Result Bool E) (result : Option Bool) →
    old.failures ≡ 0 → Writes (written_in old) (written_in middle) written text → Counts old.failures middle.failures written →
    Settles middle new old.count written result → Tried old new text result
tried old middle new text (Ok performed) result none writes counts (same, kept) = rw (same, kept) (record {
  same = record {
    name = appended-name old middle text writes;
    length = appended-length old middle text writes;
    failures = counts ∙ none;
  };
  fits = appended-text old middle text writes;
})
tried old middle new text (Err fault) result none writes counts (same, bytes, count, failures) =
    let some : 0 < middle.failures = grind (arith, counts, none) in
    let full = middle.full some in
    let (front, written, proper) = writes in
    rw same (record {
      same = record {
        name = ap (λ b. b.ghost_name) bytes ∙ appended-name old middle front written;
        length = ap (λ b. length b.now) bytes ∙ appended-length old middle front written;
        failures = failures;
      };
      fits = (rw (count, bytes) (keeps_text old middle text writes full), overflows old middle text writes full);
    })

-- a line that is no command
pub fault_fits : {E : Type 0} (old middle new : Room) (text : List ℕ) (written : Result Bool E) (result : Option Bool) →
    Tried old new text result → Settles middle new old.count written result → IfOk written (λ performed. performed ≡ false) →
    MatchOption result (HasSame old new × (left_in old < length text)) (λ performed. (performed ≡ false) × HasMore old new text)
fault_fits old middle new text written result attempt settles rejected = grind (arith, attempt.fits)

-- a command that was tried
command_fits : (old new : Room) (session : State) (v : Value) (request : Request) (result : Option Bool) (bound : Option ℕ) →
    bound ≡ change_room request (present v) → HasRoom bound (left_in old) →
    Tried old new (answer request v).text result → IsAt rules session (answer request v).value →
    IfSome result (λ performed. (answer request v).refused ≡ not performed) →
    Fits session old new v (answer request v) (room_or bound (length (answer request v).text)) result
command_fits old new session v request (Some performed) bound is room attempt at refused = (at, refused, attempt.fits)
command_fits old new session v request None None is room attempt at refused =
    let same = rw (← is) at (answers_within request v) in (rw same at at, attempt.fits.0, attempt.fits.1)
command_fits old new session v request None (Some most) is room attempt at refused =
    let within = rw (← is) at (answers_within request v) in
    absurd (omega (arith, within, room, attempt.fits.1))

settled_refused : {E : Type 0} (middle new : Room) (before : ℕ) (written : Result Bool E) (result : Option Bool) (refused : Bool) →
    Settles middle new before written result → IfOk written (λ performed. refused ≡ not performed) →
    IfSome result (λ performed. refused ≡ not performed)
settled_refused middle new before written result refused settles is = grind arith

pub command_settled : {E : Type 0} (old middle new : Room) (session : State) (v : Value) (request : Request)
    (written : Result Bool E)
    (result : Option Bool) → HasRoom (change_room request (present v)) (left_in old) → Tried old new (answer request v).text result
    →
    Settles middle new old.count written result → IfOk written (λ performed. (answer request v).refused ≡ not performed) →
    IsAt rules session (answer request v).value → Fits session old new v (answer request v) (request_room v request) result
command_settled old middle new session v request written result room attempt settles refused at =
    command_fits old new session v request result (change_room request (present v)) refl room attempt at
    (settled_refused middle new old.count written result (answer request v).refused settles refused)
