-- The answers to commands, by the results of the session's calls.
use Rattle.std.proofs.Common.{◌≡◌, ℕ, ◌<◌, ◌≤◌, length, List, [], ◌∷◌, refl, arith, Bool, true, false, ap, sym, ◌∙◌, Some, None}
use Rattle.std.proofs.Common.{Result, IfOk, not, map, codes}
use Rattle.std.proofs.lemmas.{Bool.Decides.nat_tests, Result.IfOk-weaker}
use Rattle.pp_console.proofs.Prelude.{IsAt, rules, Ghosts, Puts, State, Value, Performs}
use Rattle.pp_history.specs.{SessionValue.after_back, SessionValue.after_forward, Change.change}
use Rattle.pp_machine.specs.{Machine.Machine, declared.place.Place.Place}
use Rattle.pp_actions.specs.Watches.{watched_place, watches_of}
use Rattle.pp_command.specs.declared.fault.LineFault.TheVariants.{OutOfRange}
use Rattle.pp_console.specs.{Refusals.fault_text, Commands.change_answer}
use Rattle.pp_console.specs.Commands.{Answer, present, answered, rejected, moved, back_answer, forward_answer, central_answer}

module _ {W E : Type 0} {sink : Ghosts W} {new : State} {before after : W} {result : Result Bool E} {written : List ℕ}
    (old : State) (answer_of : Value → Answer) (puts : Puts sink before after result written) where
  -- the answer to a command that was performed
  pub performs-answered : IfOk result (λ performed. performed ≡ true) →
      ((v : Value) → IsAt rules old v → (next : Value) × (answer_of v ≡ answered next written) × IsAt rules new next) →
      Performs sink old new before after result answer_of
  performs-answered performed agrees = record {
    session = λ v at. let (next, same, led) = agrees v at in rw same led;
    text = λ v at. let a = agrees v at in rw a.1 puts.text;
    counted = puts.counts;
    performed = IfOk-weaker result _ _ (λ x same v at. ap (λ a. a.refused) (agrees v at).1 ∙ sym (ap not same)) performed;
    unchanged = IfOk-weaker result _ _ (λ x yes no. cc) performed;
  }

  -- the answer to a command that was rejected
  pub performs-rejected : IfOk result (λ performed. performed ≡ false) → new ≡ old →
      ((v : Value) → IsAt rules old v → answer_of v ≡ rejected v written) → Performs sink old new before after result answer_of
  performs-rejected performed unchanged agrees = record {
    session = λ v at. rw (agrees v at, unchanged) at;
    text = λ v at. rw (agrees v at) puts.text;
    counted = puts.counts;
    performed = IfOk-weaker result _ _ (λ x same v at. ap (λ a. a.refused) (agrees v at) ∙ sym (ap not same)) performed;
    unchanged = IfOk-weaker result _ _ (λ x same no. unchanged) performed;
  }

pub back-within : (actions : ℕ) (v : Value) → actions ≤ v.kept →
    back_answer actions v ≡ moved (codes "BACK ") actions (after_back v actions)
unfolding back_answer
back-within actions v within = grind (arith, nat_tests)

pub forward-within : (actions : ℕ) (v : Value) → actions ≤ length v.ahead →
    forward_answer actions v ≡ moved (codes "FORWARD ") actions (after_forward v actions)
unfolding forward_answer
forward-within actions v within = grind (arith, nat_tests)

-- nothing is watched
pub change-unwatched : (v : Value) (places : List Place) → places ≡ map watched_place (watches_of (present v)) →
    length places ≡ 0 → change_answer v ≡ rejected v (codes "ERR 15 NOTHING WATCHED\n")
unfolding change_answer
change-unwatched v places same none = grind (arith, same)

-- the undo history has a change
pub change-found : (v : Value) (places : List Place) (actions : ℕ) → places ≡ map watched_place (watches_of (present v)) →
    0 < length places → change rules v places ≡ Some actions →
    change_answer v ≡ moved (codes "BACK ") actions (after_back v actions)
unfolding change_answer
change-found v places actions same some found = grind (arith, same, found)

-- the undo history has no change
pub change-none : (v : Value) (places : List Place) → places ≡ map watched_place (watches_of (present v)) →
    0 < length places → change rules v places ≡ None → change_answer v ≡ rejected v (codes "ERR 10 NO CHANGE KEPT\n")
unfolding change_answer
change-none v places same some found = grind (arith, same, found)

-- the machine does not have the last of the words
pub central-beyond : (first last : ℕ) (v : Value) (sized : Machine) → sized ≡ present v →
    sized.setup.central_words ≤ last → central_answer first last v ≡ rejected v (fault_text OutOfRange)
unfolding central_answer
central-beyond first last v sized same beyond = let more = rw same at beyond in grind (arith, nat_tests)
