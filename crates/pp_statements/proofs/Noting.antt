-- How noted faults follow one another.
use Rattle.std.proofs.Common.{◌≡◌, Bool, true, false, Option, Some, None, Result, Ok, Err, refl, sym}
use Rattle.pp_source.specs.declared.message.Stop.{Stop}
use Rattle.pp_statements.specs.Reading.{Gives, GoesOn, Noted, OnlySays, if_right, is_fault}
use Rattle.pp_statements.specs.declared.scope.Scope.{Scope}

-- What is read while nothing is noted.
pub gives : {X Y : Type 0} (b : Bool) (view : X → Y) (r : Result X Stop) (read : Option Y) → Gives view r read → Noted b b view r read
gives true view (Ok x) read e = sym e
gives false view (Ok x) read e = refl
gives true view (Err stop) read e = e
gives false view (Err stop) read e = λ fault. refl

-- A fault is noted.
pub goes_on : {X Y : Type 0} (b : Bool) (before behind : Scope) (view : Scope → X → Y) (found result : Result X Stop) (read : Option Y) →
    Noted b before.is_right (view before) found read → GoesOn before behind found result → Noted b behind.is_right (view behind) result read
goes_on b before behind view (Ok x) result read one (is, same) = rw (is, same) one
goes_on b before behind view (Err stop) (Ok x) read one (fault, noted) = rw noted (sym (one fault))
goes_on b before behind view (Err stop) (Err other) read one is = λ fault. one (is fault)

-- A reading that changes nothing but what there is to say.
pub says : {X : Type 0} (old new : Scope) (r : Result X Stop) (read : Option X) → Gives (λ x. x) r read → OnlySays old new →
    Noted old.is_right new.is_right (λ x. x) r read
says old new r read e same = rw same (gives old.is_right (λ x. x) r read e)
