-- What the calls do that search a session.
use Rattle.std.specs.Prelude.{◌≡◌, ◌⊎◌, ℕ, List, IsSomeAnd, MatchOption, Option}
use Rattle.pp_console.specs.Commands.{State, Value}
use Rattle.pp_history.specs.SessionValue.{IsAt, Moves, after_back}
use Rattle.pp_library.specs.Outcomes.{OnlyReturns}
use Rattle.pp_library.specs.declared.console.Console.{Console}
use Rattle.pp_library.specs.declared.status.TheConstants.{CLOSED, DONE, NOT_FOUND, REFUSED}
use Rattle.pp_rig.specs.Rules.{rules}
use Rattle.pp_rig.specs.Stopping.{after_turns}
use Rattle.pp_search.specs.Forms.{AreForms, condition_of}
use Rattle.pp_search.specs.Search.{first_turn, last_before}
use Rattle.pp_search.specs.declared.forms.Form.{Form}

-- The forms are those of a condition of the session's machine.
abbrev pub AreFormsOf : State → List Form → Type 0
AreFormsOf old forms = AreForms old.machine.setup.central_words forms

-- ---- pp6600_until

pub record UntilOuts : Type 0 where
  pub session : Option Console
  pub turns : ℕ

-- Turns were performed up to the first in which the condition comes to hold, or all of them if it comes to hold in none.
abbrev pub SearchesOn : List Form → ℕ → State → State → ℕ → ℕ → Type 0
SearchesOn forms most old new turns result =
    Moves rules old new (after_turns turns)
    × MatchOption (first_turn (condition_of forms) most old.machine)
    ((result ≡ NOT_FOUND) × (turns ≡ most)) (λ k. (result ≡ DONE) × (turns ≡ k))

-- The turns are searched, or the forms are refused and nothing is changed.
abbrev pub Until : List Form → ℕ → UntilOuts → UntilOuts → ℕ → Type 0
Until forms most before after result = MatchOption before.session (OnlyReturns CLOSED before after result)
    (λ old. (AreFormsOf old.session forms
    × IsSomeAnd after.session (λ new. SearchesOn forms most old.session new.session after.turns result))
    ⊎ ((AreFormsOf old.session forms → ⊥) × OnlyReturns REFUSED before after result))

-- ---- pp6600_back_until

pub record BackUntilOuts : Type 0 where
  pub session : Option Console
  pub undone : ℕ

-- Actions were undone back to the last one before the newest in which the condition came to hold. If there is none, the session is
-- where it was.
abbrev pub SearchesBack : List Form → State → State → ℕ → ℕ → ℕ → Type 0
SearchesBack forms old new unwritten undone result =
    (v : Value) → IsAt rules old v → MatchOption (last_before (condition_of forms) v)
    ((result ≡ NOT_FOUND) × (undone ≡ unwritten) × IsAt rules new v)
    (λ k. (result ≡ DONE) × (undone ≡ k) × IsAt rules new (after_back v k))

-- The actions are searched, or the forms are refused and nothing is changed.
abbrev pub BackUntil : List Form → BackUntilOuts → BackUntilOuts → ℕ → Type 0
BackUntil forms before after result = MatchOption before.session (OnlyReturns CLOSED before after result)
    (λ old. (AreFormsOf old.session forms
    × IsSomeAnd after.session (λ new. SearchesBack forms old.session new.session before.undone after.undone result))
    ⊎ ((AreFormsOf old.session forms → ⊥) × OnlyReturns REFUSED before after result))
