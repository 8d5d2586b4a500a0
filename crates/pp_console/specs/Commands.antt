-- The answer to each command, and the effect of performing it.
use Rattle.std.specs.Prelude.{◌≡◌, ℕ, nat_lt, Option, Some, None, Result, IfOk, if◌then◌else◌, Bool, true, false, not, List, []}
use Rattle.std.specs.Prelude.{◌++◌, codes, length, map}
use Rattle.pp_history.specs.Contents.{Contents}
use Rattle.pp_history.specs.SessionValue.{SessionValue, IsAt, replay, after_act, after_back, after_forward}
use Rattle.pp_history.specs.Change.{change}
use Rattle.pp_lines.specs.Device.{Counts}
use Rattle.pp_lines.specs.Output.{Writes}
use Rattle.pp_lines.specs.declared.device.Sink.{Ghosts}
use Rattle.pp_machine.specs.Machine.{Machine}
use Rattle.pp_machine.specs.declared.place.Place.{Place}
use Rattle.pp_actions.specs.Admitting.{first_fault}
use Rattle.pp_rig.specs.Rules.{rules}
use Rattle.pp_rig.specs.Stopping.{stopped, after_turns}
use Rattle.pp_actions.specs.Watches.{watches_of, watched_place}
use Rattle.pp_actions.specs.declared.action.Action.{Action}
use Rattle.pp_actions.specs.declared.action.ActionFault.{ActionFault}
use Rattle.pp_rig.specs.declared.rig.RigRecord.{RigRecord}
use Rattle.pp_command.specs.declared.fault.LineFault.TheVariants.{OutOfRange}
use Rattle.pp_command.specs.declared.request.Request.{Request}
use Rattle.pp_command.specs.declared.request.Request.TheVariants.{Act, Step, Back, BackToChange, Forward, DumpCells, DumpProcessor}
use Rattle.pp_command.specs.declared.request.Request.TheVariants.{DumpChannels, DumpCentral, DumpFrame, DumpReader, DumpPrinter}
use Rattle.pp_command.specs.declared.request.Request.TheVariants.{DumpWatches}
use Rattle.pp_console.specs.Refusals.{fault_text, action_fault_text}
use Rattle.pp_console.specs.Moves.{moved_text}
use Rattle.pp_console.specs.Watches.{watches_text, hit_text}
use Rattle.pp_console.specs.Dumps.{cells_text, processor_text, channels_text, central_text, frame_text, reader_text, printer_text}

-- A session of the console: its starting machine, the actions that are in effect, how many of them the undo history holds, the redo
-- list, and how many actions the undo history can hold.
abbrev pub Value : Type 0
Value = SessionValue Machine Action

-- The session as contracts see it, with its undo records.
abbrev pub State : Type 0
State = Contents Machine Action RigRecord

-- The machine of a session: the starting machine after the actions that are in effect, performed anew.
abbrev pub present : Value → Machine
present v = replay rules v.start v.standing

-- The answer to one line: its text, the session after it, and whether the line was rejected.
pub record Answer : Type 0 where
  pub text : List ℕ
  pub value : Value
  pub refused : Bool

-- The answer to a command that was performed: this text, and this session after it.
abbrev pub answered : Value → List ℕ → Answer
answered v text = record { text = text; value = v; refused = false }

-- The answer to a rejected line: this text, and the session as it was.
abbrev pub rejected : Value → List ℕ → Answer
rejected v text = record { text = text; value = v; refused = true }

-- SET, WATCH, UNWATCH and DEADSTART: an action is performed if the machine has no fault to find with it. Otherwise the line is
-- rejected with that fault.
abbrev pub act_or : Option ActionFault → Action → Value → Answer
act_or None action v = answered (after_act v action) (codes "OK\n")
act_or (Some fault) action v = rejected v (action_fault_text fault)

-- STEP: turns, up to the first one that changes a watched number, and that change.
unfoldable pub step_answer : ℕ → Value → Answer
step_answer most v =
    let done = stopped most (present v) in
    let after = after_turns done.turns v in
    answered after (moved_text (codes "TURNS ") done.turns (present after).slot ++ hit_text done.hit)

-- The session was moved by this many actions, and this is its value now.
abbrev pub moved : List ℕ → ℕ → Value → Answer
moved name actions v = answered v (moved_text name actions (present v).slot)

-- BACK: undoes the newest actions, if the undo history has as many.
unfoldable pub back_answer : ℕ → Value → Answer
back_answer actions v =
    if nat_lt v.kept actions then rejected v (codes "ERR 07 TOO FEW KEPT\n")
    else moved (codes "BACK ") actions (after_back v actions)

-- FORWARD: redoes the first actions of the redo list, if it has as many. It does not stop at watches.
unfoldable pub forward_answer : ℕ → Value → Answer
forward_answer actions v =
    if nat_lt (length v.ahead) actions then rejected v (codes "ERR 16 TOO FEW AHEAD\n")
    else moved (codes "FORWARD ") actions (after_forward v actions)

-- BACK W: undoes this many actions, to just before a change, if there is one.
abbrev pub back_or : Option ℕ → Value → Answer
back_or None v = rejected v (codes "ERR 10 NO CHANGE KEPT\n")
back_or (Some actions) v = moved (codes "BACK ") actions (after_back v actions)

-- BACK W: goes back to just before the latest change of one of these places in the undo history, if there are any places.
abbrev pub changed_answer : List Place → Value → Answer
changed_answer [] v = rejected v (codes "ERR 15 NOTHING WATCHED\n")
changed_answer places v = back_or (change rules v places) v

-- BACK W: the places are those that are watched at the time of the command.
unfoldable pub change_answer : Value → Answer
change_answer v = changed_answer (map watched_place (watches_of (present v))) v

-- DUMP C: the words, if the machine's central memory has the last one.
unfoldable pub central_answer : ℕ → ℕ → Value → Answer
central_answer first last v =
    if nat_lt last (present v).setup.central_words then answered v (central_text (present v) first last)
    else rejected v (fault_text OutOfRange)

-- The answer to each command. A dump changes nothing.
abbrev pub answer : Request → Value → Answer
answer (Act action) v = act_or (first_fault (present v) action) action v
answer (Step most) v = step_answer most v
answer (Back actions) v = back_answer actions v
answer BackToChange v = change_answer v
answer (Forward actions) v = forward_answer actions v
answer (DumpCells n first last) v = answered v (cells_text (present v) n first last)
answer (DumpProcessor n) v = answered v (processor_text (present v) n)
answer DumpChannels v = answered v (channels_text (present v))
answer (DumpCentral first last) v = central_answer first last v
answer DumpFrame v = answered v (frame_text (present v))
answer DumpReader v = answered v (reader_text (present v))
answer DumpPrinter v = answered v (printer_text (present v))
answer DumpWatches v = answered v (watches_text (watches_of (present v)))

-- The session moves from its value to the answer's value, the answer's text is written, and only a failed write is counted.
pub record Performs {W E : Type 0} (sink : Ghosts W) (old new : State) (before after : W) (result : Result Bool E)
    (answer_of : Value → Answer) : Type 0 where
  pub session : (v : Value) → IsAt rules old v → IsAt rules new (answer_of v).value
  pub text : (v : Value) → IsAt rules old v → Writes (sink.text before) (sink.text after) result (answer_of v).text
  pub counted : Counts (sink.failure_count before) (sink.failure_count after) result
  pub performed : IfOk result (λ performed. (v : Value) → IsAt rules old v → (answer_of v).refused ≡ not performed)
  -- a rejected command changes nothing
  pub unchanged : IfOk result (λ performed. performed ≡ false → new ≡ old)
