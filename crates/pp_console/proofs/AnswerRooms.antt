-- The answers to lines that may change the session have a longest length.
use Rattle.std.proofs.Common.{◌≡◌, ℕ, zero, suc, ◌+◌, ◌≤◌, ◌==◌, List, [], ◌∷◌, Bool, arith, codes, length, length-append, map, max}
use Rattle.std.proofs.Common.{refl}
use Rattle.std.proofs.lemmas.Bool.Decides.{nat_tests}
use Rattle.std.specs.Prelude.{Option, Some, MatchOption, if◌then◌else◌}
use Rattle.pp_actions.specs.{Watches.watched_place, Watches.watches_of, declared.action.Action.Action}
use Rattle.pp_actions.specs.{declared.action.ActionFault.ActionFault, declared.watched.Watched.Watched, Admitting.first_fault}
use Rattle.pp_arith.specs.Octal.{octal_length, octal_text}
use Rattle.pp_arith.proofs.{OctalDigits.length-most, OctalTexts.length-digits}
use Rattle.pp_command.specs.declared.request.Request.{Request}
use Rattle.pp_command.specs.declared.request.Request.TheVariants as request
use Rattle.pp_console.specs.AnswerRoom.{change_room, hit_size, longest_hit, longest_move}
use Rattle.pp_console.specs.Commands.{Value, act_or, answer, back_answer, back_or, central_answer, change_answer, changed_answer}
use Rattle.pp_console.specs.Commands.{forward_answer, present, step_answer}
use Rattle.pp_console.specs.{Moves.moved_text, Refusals.action_fault_text, Refusals.fault_text, Text.field}
use Rattle.pp_console.specs.Watches.{digits_of, hit_text, place_text}
use Rattle.pp_history.specs.Change.{change}
use Rattle.pp_machine.specs.{Machine.Machine, Machine.number, declared.place.Place.Place}
use Rattle.pp_rig.specs.{Rules.rules, Turn.turn, declared.stopping.Stopped.Stopped, declared.stopping.Hit.Hit}
use Rattle.pp_rig.specs.Stopping.{after_turns, first_change, hit_or, stopped}
use Rattle.pp_rig.proofs.Turns.{turn-watches}

-- a number without leading zeros has at most 22 (decimal) digits
text_within : (value : ℕ) → length (octal_text value 1) ≤ 22
unfolding octal_text
text_within value = grind (arith, length-digits (max 1 (octal_length 22 value)) value, length-most 22 value)

-- a count and the slot
moved_within : (name : List ℕ) (actions slot : ℕ) → length name ≤ 8 → length (moved_text name actions slot) ≤ longest_move
unfolding moved_text field
moved_within name actions slot short =
    rw (length-append, length-append, length-append, length-append, length-digits) (omega (arith, short, text_within actions))

-- the line of a HIT at one place
hit_at : (watched : Watched) (was now : ℕ) →
    length (hit_text (Some (record { place = watched; was = was; now = now }))) ≤ hit_size watched
unfolding hit_text place_text digits_of field
hit_at watched was now = grind (arith, length-append, length-digits)

-- the line of the first change
hit_or_later : (test : Bool) (watched : Watched) (was now : ℕ) (later : Option Hit) (longest : ℕ) →
    length (hit_text later) ≤ longest →
    length (hit_text (if test then later else Some (record { place = watched; was = was; now = now }))) ≤ max (hit_size watched)
    longest
hit_or_later test watched was now later longest within = grind (arith, hit_at watched was now)

hit_within : (old new : Machine) (watches : List Watched) → length (hit_text (first_change old new watches)) ≤ longest_hit watches
unfolding hit_text
hit_within old new [] = omega arith
hit_within old new (watched ∷ others) =
    hit_or_later (number new (watched_place watched) == number old (watched_place watched)) watched
    (number old (watched_place watched))
    (number new (watched_place watched)) (first_change old new others) (longest_hit others) (hit_within old new others)

-- an action by the operator
fault_within : (fault : ActionFault) → length (action_fault_text fault) ≤ longest_move
unfolding action_fault_text fault_text
fault_within fault = grind arith

act_within : (fault : Option ActionFault) (action : Action) (v : Value) → length (act_or fault action v).text ≤ longest_move
act_within fault action v = grind (arith, fault_within)

-- the hit of a run
or_within : (hit : Option Hit) (rest : Stopped) (longest : ℕ) → length (hit_text hit) ≤ longest →
    length (hit_text rest.hit) ≤ longest → length (hit_text (hit_or hit rest).hit) ≤ longest
or_within hit rest longest first later = grind arith

stopped_within : (most : ℕ) (s : Machine) → length (hit_text (stopped most s).hit) ≤ longest_hit (watches_of s)
unfolding stopped hit_text
stopped_within zero s = omega arith
stopped_within (suc most) s =
    let same : watches_of (turn s) ≡ watches_of s = grind (arith, turn-watches s) in
    or_within (first_change s (turn s) (watches_of s)) (stopped most (turn s)) (longest_hit (watches_of s))
    (hit_within s (turn s) (watches_of s))
    (rw same at (stopped_within most (turn s)))

step_within : (most : ℕ) (v : Value) → length (step_answer most v).text ≤ longest_move + longest_hit (watches_of (present v))
unfolding step_answer
step_within most v =
    let done = stopped most (present v) in
    let slot = (present (after_turns done.turns v)).slot in
    rw length-append (omega (arith, moved_within (codes "TURNS ") done.turns slot (omega arith), stopped_within most (present v)))

back_within : (actions : ℕ) (v : Value) → length (back_answer actions v).text ≤ longest_move
unfolding back_answer
back_within actions v = grind (arith, moved_within (codes "BACK ") actions)

forward_within : (actions : ℕ) (v : Value) → length (forward_answer actions v).text ≤ longest_move
unfolding forward_answer
forward_within actions v = grind (arith, moved_within (codes "FORWARD ") actions)

found_within : (found : Option ℕ) (v : Value) → length (back_or found v).text ≤ longest_move
found_within found v = grind (arith, moved_within (codes "BACK "))

places_within : (places : List Place) (v : Value) → length (changed_answer places v).text ≤ longest_move
places_within [] v = omega arith
places_within (place ∷ places) v = found_within (change rules v (place ∷ places)) v

change_within : (v : Value) → length (change_answer v).text ≤ longest_move
unfolding change_answer
change_within v = places_within (map watched_place (watches_of (present v))) v

-- a dump of central memory changes nothing
central_keeps : (first last : ℕ) (v : Value) → (central_answer first last v).value ≡ v
unfolding central_answer
central_keeps first last v = grind arith

-- a dump changes nothing, and every other answer is within its bound
pub answers_within : (request : Request) (v : Value) →
    MatchOption (change_room request (present v)) ((answer request v).value ≡ v) (λ most. length (answer request v).text ≤ most)
answers_within (request.Act action) v = act_within (first_fault (present v) action) action v
answers_within (request.Step most) v = step_within most v
answers_within (request.Back actions) v = back_within actions v
answers_within request.BackToChange v = change_within v
answers_within (request.Forward actions) v = forward_within actions v
answers_within (request.DumpCentral first last) v = central_keeps first last v
answers_within request v = refl
