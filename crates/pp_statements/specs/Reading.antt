-- What a reader returns of what there is to read.
use Rattle.std.specs.Prelude.{◌≡◌, Bool, true, false, Option, Some, None, Result, Ok, Err}
use Rattle.pp_source.specs.declared.message.Stop.{Stop}
use Rattle.pp_source.specs.declared.message.Stop.TheVariants.{At, Follows}
use Rattle.pp_statements.specs.declared.scope.Scope.{Scope}

infixl 10 ◌>>=◌
abbrev pub ◌>>=◌ : {A B : Type 0} → Option A → (A → Option B) → Option B
(Some x) >>= f = f x
None >>= f = None

-- A fault of the line, or one of another line from which this follows. All else ends the pass.
abbrev pub is_fault : Stop → Bool
is_fault (At column fault) = true
is_fault Follows = true
is_fault _ = false

-- What is returned, seen by view, is what there is to read. If it is a fault, there is nothing. Of what ends the pass nothing is said.
abbrev pub Gives : {X Y : Type 0} → (X → Y) → Result X Stop → Option Y → Type 0
Gives view (Ok x) read = read ≡ Some (view x)
Gives view (Err stop) read = is_fault stop ≡ true → read ≡ None

-- ---- faults that are noted while reading goes on

-- What is so, if nothing is wrong.
abbrev pub if_right : {A : Type 0} → Bool → Option A → Option A
if_right true x = x
if_right false x = None

-- Whether nothing is wrong before and behind, and what is returned, seen by view. If nothing is wrong behind, nothing was before, and
-- this is what there is to read. If something is wrong behind, something was before, or there is nothing to read.
abbrev pub Noted : {X Y : Type 0} → Bool → Bool → (X → Y) → Result X Stop → Option Y → Type 0
Noted before behind view (Ok x) read = if_right behind (Some (view x)) ≡ if_right before read
Noted before behind view (Err stop) read = is_fault stop ≡ true → if_right before read ≡ None

-- What is found is returned. After a fault something else is, and the fault is noted.
abbrev pub GoesOn : {X : Type 0} → Scope → Scope → Result X Stop → Result X Stop → Type 0
GoesOn before behind (Ok x) result = (result ≡ Ok x) × (behind ≡ before)
GoesOn before behind (Err stop) (Ok x) = (is_fault stop ≡ true) × (behind.is_right ≡ false)
GoesOn before behind (Err stop) (Err other) = is_fault other ≡ true → is_fault stop ≡ true

-- Nothing changes but what there is to say.
abbrev pub OnlySays : Scope → Scope → Type 0
OnlySays before behind = behind ≡ record before { output = behind.output }

abbrev pub OnlyNotes : Scope → Scope → Type 0
OnlyNotes before behind = behind ≡ record before { output = behind.output; is_right = behind.is_right }
