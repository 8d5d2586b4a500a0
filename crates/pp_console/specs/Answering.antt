-- A script that was answered as far as a slice has room.
use Rattle.std.specs.Prelude.{◌≡◌, ℕ, ◌+◌, ◌-◌, ◌<◌, ◌≤◌, ◌⊎◌, Bool, not, List, [], ◌∷◌, ◌++◌, drop, length, take}
use Rattle.std.specs.Prelude.{Option, Some, None, Result, MatchOption, MatchResult, ⊤}
use Rattle.pp_console.specs.AnswerRoom.{line_room}
use Rattle.pp_console.specs.Commands.{Answer, State, Value}
use Rattle.pp_console.specs.Script.{script}
use Rattle.pp_console.specs.declared.answering.Answered.{Answered}
use Rattle.pp_console.specs.declared.answering.End.{End}
use Rattle.pp_console.specs.declared.answering.End.TheVariants as end
use Rattle.pp_console.specs.declared.room.Room.{Room}
use Rattle.pp_console.specs.declared.progress.TheConstants.{LINE_LIMIT, BYTE_LIMIT}
use Rattle.pp_history.specs.SessionValue.{IsAt}
use Rattle.pp_lines.specs.Lines.{lines}
use Rattle.pp_rig.specs.Rules.{rules}

-- ---- a line in a room

-- how many more bytes there is room for
abbrev pub left_in : Room → ℕ
left_in room = length room.bytes.now - room.count

-- there is room for the longest answer, if it has one
abbrev pub HasRoom : Option ℕ → ℕ → Type 0
HasRoom bound left = MatchOption bound ⊤ (λ most. most ≤ left)

-- the longest answer may not fit
abbrev pub LacksRoom : Option ℕ → ℕ → Type 0
LacksRoom bound left = MatchOption bound ⊥ (λ most. left < most)

-- the room is still over the same slice, and has had no failure
pub record IsSameSlice (old new : Room) : Type 0 where
  pub name : new.bytes.ghost_name ≡ old.bytes.ghost_name
  pub length : length new.bytes.now ≡ length old.bytes.now
  pub failures : new.failures ≡ 0

-- the same text was written
abbrev pub HasSame : Room → Room → Type 0
HasSame old new = take new.count new.bytes.now ≡ take old.count old.bytes.now

-- this text was written too
abbrev pub HasMore : Room → Room → List ℕ → Type 0
HasMore old new text = take new.count new.bytes.now ≡ take old.count old.bytes.now ++ text

-- what was written is kept, or else only so many bytes of it
abbrev pub Settles : {E : Type 0} → Room → Room → ℕ → Result Bool E → Option Bool → Type 0
Settles old new before written result = MatchResult written
    (λ performed. (result ≡ Some performed) × (new ≡ old))
    (λ _. (result ≡ None) × (new.bytes ≡ old.bytes) × (new.count ≡ before) × (new.failures ≡ 0))

-- The line with this answer was performed, and the answer was written. Or there is less room than it needs, and the session and the
-- text are as they were.
abbrev pub Fits : State → Room → Room → Value → Answer → ℕ → Option Bool → Type 0
Fits session old new v answer needs result = MatchOption result
    (IsAt rules session v × HasSame old new × (left_in old < needs))
    (λ performed. IsAt rules session answer.value × (answer.refused ≡ not performed) × HasMore old new answer.text)

-- ---- a whole script

-- Why no further line was answered, given the script, the room, and the session then: there was none; or the next line may need
-- more room than is left; or it is past a limit.
abbrev pub IsEnd : End → List ℕ → ℕ → Value → Answered → Type 0
IsEnd end.All typed room v answered = answered.taken ≡ length typed
IsEnd end.Room typed room v answered =
    (line : List ℕ) × (later : List (List ℕ)) × (lines (drop answered.taken typed) ≡ line ∷ later)
    × (room - answered.count < line_room v line)
IsEnd end.Limit typed room v answered =
    (line : List ℕ) × (later : List (List ℕ)) × (lines (drop answered.taken typed) ≡ line ∷ later)
    × ((answered.lines ≡ LINE_LIMIT) ⊎ (BYTE_LIMIT < answered.taken + (length line + 1)))

-- The first lines of the script were performed, from this session value on: the text of their answers is the definition's, and so
-- are the session and the counts. The other lines of the script are those of the bytes that are left.
pub record AnswersPart (session : State) (typed into : List ℕ) (start : Value) (answered : Answered) : Type 0 where
  pub within : (answered.taken ≤ length typed) × (answered.count ≤ length into)
  pub text : take answered.count into ≡ (script start (take answered.taken typed)).text
  pub leaves : IsAt rules session (script start (take answered.taken typed)).value
  pub counts_lines : answered.lines ≡ length (lines (take answered.taken typed))
  pub counts_refused : answered.refused ≡ (script start (take answered.taken typed)).refused
  pub whole_lines : lines typed ≡ lines (take answered.taken typed) ++ lines (drop answered.taken typed)
  pub end : IsEnd answered.end typed (length into) (script start (take answered.taken typed)).value answered
