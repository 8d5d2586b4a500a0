-- What holds of the parts of any action.
use Rattle.std.proofs.Common.{arith, ℕ, ◌≡◌, ◌∙◌, List, [], ◌∷◌, ◌++◌, IsPermutation, ap, refl, sym, append_assoc, append-nil}
use Rattle.std.proofs.lemmas.List.Sorted.{IsPermutation-append_comm, IsPermutation-append_right, IsPermutation-refl}
use Rattle.std.proofs.lemmas.List.Sorted.{IsPermutation-trans}
use Rattle.pp_machine.proofs.Prelude.{Machine, over, old_values, number, put, Writes, places, Has, HasAll, over-append}
use Rattle.pp_machine.proofs.Prelude.{AllPlaces-append, places-append, places-old_values, Place, AreIdle, ArePerformed, EachPart}
use Rattle.pp_machine.proofs.Prelude.{Part, after_parts, parts_old_values, parts_writes}
use Rattle.pp_machine.proofs.MachineStore.{taken_back}

-- their write list leads to the machine after them
pub over-parts : (parts : List Part) (s : Machine) → over s (parts_writes parts s) ≡ after_parts parts s
over-parts [] s = refl
over-parts (part ∷ parts) s = over-append put s (parts_writes parts (over s (part s))) (part s) ∙ over-parts parts (over s (part s))

-- their old values lead back
pub back-after : (parts : List Part) (s : Machine) → over (after_parts parts s) (parts_old_values parts s) ≡ s
back-after [] s = refl
back-after (part ∷ parts) s = let s1 = over s (part s) in
    cc (over-append put (after_parts parts s1) (old_values s (part s)) (parts_old_values parts s1), back-after parts s1, taken_back s (part s))

-- their old values are at the places that they write
pub same_places : (parts : List Part) (s : Machine) →
    IsPermutation (places (parts_old_values parts s)) (places (parts_writes parts s))
same_places [] s = IsPermutation-refl []
same_places (part ∷ parts) s =
    let s1 = over s (part s) in
    let written = places (part s) in
    let later = places (parts_writes parts s1) in
    rw (places-append, places-append, places-old_values number s (part s))
    (IsPermutation-trans _ (written ++ later) _
    (IsPermutation-append_right written _ _ (same_places parts s1)) (IsPermutation-append_comm written later))

-- ---- each part

pub HasAll-parts : (size : ℕ) (parts : List Part) (s : Machine) →
    EachPart (λ part m. HasAll size (part m)) parts s → HasAll size (parts_writes parts s)
HasAll-parts size [] s each = tt
HasAll-parts size (part ∷ parts) s each = AllPlaces-append (Has size) (parts_writes parts (over s (part s)))
    (part s) (HasAll-parts size parts (over s (part s)) each.1) each.0

-- some parts, and then others
pub each-append : (P : Part → Machine → Type 0) (a b : List Part) (s : Machine) →
    EachPart P a s → EachPart P b (after_parts a s) → EachPart P (a ++ b) s
each-append P [] b s first second = second
each-append P (part ∷ a) b s first second = (first.0, each-append P a b (over s (part s)) first.1 second)

-- what no part changes
pub kept-after : {X : Type 0} (f : Machine → X) (parts : List Part) (s : Machine) →
    EachPart (λ part m. f (over m (part m)) ≡ f m) parts s → f (after_parts parts s) ≡ f s
kept-after f [] s each = refl
kept-after f (part ∷ parts) s each = kept-after f parts (over s (part s)) each.1 ∙ each.0

-- ---- parts that were performed

pub one-performed : (part : Part) (old new : Machine) (back : Writes Place) →
    new ≡ over old (part old) → back ≡ old_values old (part old) → ArePerformed (part ∷ []) old new back
one-performed part old new back step named =
    record { step = step; old_values = named ∙ sym (append-nil (old_values old (part old))) }

after-append : (a b : List Part) (s : Machine) → after_parts (a ++ b) s ≡ after_parts b (after_parts a s)
after-append [] b s = refl
after-append (part ∷ a) b s = after-append a b (over s (part s))

old_values-append : (a b : List Part) (s : Machine) →
    parts_old_values (a ++ b) s ≡ parts_old_values a s ++ parts_old_values b (after_parts a s)
old_values-append [] b s = refl
old_values-append (part ∷ a) b s =
    ap (λ w. old_values s (part s) ++ w) (old_values-append a b (over s (part s))) ∙ sym (append_assoc (old_values s (part s)) _ _)

-- some parts, and then others
pub both-performed : (a b : List Part) (s s1 s2 : Machine) (v w : Writes Place) →
    ArePerformed a s s1 v → ArePerformed b s1 s2 w → ArePerformed (a ++ b) s s2 (v ++ w)
both-performed a b s s1 s2 v w first second = record {
  step = cc (after-append a b s);
  old_values = cc (old_values-append a b s);
}

pub none-performed : (parts : List Part) (s : Machine) → AreIdle parts s → ArePerformed parts s s []
none-performed [] s idle = record { step = refl; old_values = refl }
none-performed (part ∷ parts) s idle = grind (arith, none-performed parts s idle.1)

pub led_back : (parts : List Part) (old new : Machine) (back : Writes Place) → ArePerformed parts old new back → over new back ≡ old
led_back parts old new back performed = rw (performed.step, performed.old_values) (back-after parts old)
