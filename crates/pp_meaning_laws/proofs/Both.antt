-- Two results of which something holds, if both are there.
use Rattle.std.proofs.Common.{◌≡◌, ℕ, Bool, true, false, Option, Some, None, List, [], ◌∷◌, fold, if◌then◌else◌, refl, length}

abbrev pub Both : {X Y : Type 0} → (X → Y → Type 0) → Option X → Option Y → Type 0
Both R None other = Unit {0}
Both R (Some x) None = Unit {0}
Both R (Some x) (Some y) = R x y

abbrev pub Same : {X : Type 0} → X → X → Type 0
Same x y = x ≡ y

abbrev pub SameLength : List ℕ → List ℕ → Type 0
SameLength xs ys = length xs ≡ length ys

pub both_none : {X Y : Type 0} (R : X → Y → Type 0) (o : Option X) → Both R o None
both_none R None = tt
both_none R (Some x) = tt

pub both_refl : {X : Type 0} (R : X → X → Type 0) → ((x : X) → R x x) → (o : Option X) → Both R o o
both_refl R same None = tt
both_refl R same (Some x) = same x

pub same_refl : {X : Type 0} (o : Option X) → Both Same o o
same_refl None = tt
same_refl (Some x) = refl

pub both_map : {X Y : Type 0} (f : Option X → Option Y) (R : Y → Y → Type 0) → ((y : Y) → R y y) → f None ≡ None →
    (o p : Option X) → Both Same o p → Both R (f o) (f p)
both_map f R same none None p e = rw none tt
both_map f R same none (Some x) None e = rw none (both_none R (f (Some x)))
both_map f R same none (Some x) (Some y) e = rw e (both_refl R same (f (Some y)))

pub same_map : {X Y : Type 0} (f : Option X → Option Y) → f None ≡ None → (o p : Option X) → Both Same o p →
    Both Same (f o) (f p)
same_map f none o p e = both_map f Same (λ y. refl) none o p e

pub same_pair : {X Y Z : Type 0} (f : Option X → Option Y → Option Z) → ((o : Option Y) → f None o ≡ None) →
    ((x : X) → f (Some x) None ≡ None) → (o p : Option X) (q r : Option Y) → Both Same o p → Both Same q r →
    Both Same (f o q) (f p r)
same_pair f none nothing None p q r e d = rw (none q) tt
same_pair f none nothing (Some x) None q r e d = rw (none r) (both_none Same (f (Some x) q))
same_pair f none nothing (Some x) (Some y) None r e d = rw (nothing x) tt
same_pair f none nothing (Some x) (Some y) (Some z) None e d = rw (nothing y) (both_none Same (f (Some x) (Some z)))
same_pair f none nothing (Some x) (Some y) (Some z) (Some w) e d = rw (e, d) (same_refl (f (Some y) (Some w)))

-- ---- tests

pub both_if : {X Y : Type 0} (R : X → Y → Type 0) (c d : Bool) (o : Option X) (p : Option Y) →
    (c ≡ true → d ≡ true → Both R o p) → Both R (if c then o else None) (if d then p else None)
both_if R true true o p e = e refl refl
both_if R true false o p e = both_none R o
both_if R false d o p e = tt

pub both_either : {X Y : Type 0} (R : X → Y → Type 0) (c : Bool) (o q : Option X) (p r : Option Y) → Both R o p → Both R q r →
    Both R (if c then o else q) (if c then p else r)
both_either R true o q p r e d = e
both_either R false o q p r e d = d

pub same_if : {X : Type 0} (c : Bool) (o p : Option X) → (c ≡ true → o ≡ p) → (if c then o else None) ≡ (if c then p else None)
same_if true o p e = e refl
same_if false o p e = refl

-- ---- folds

pub both_fold : {X Y Z : Type 0} (R : X → Y → Type 0) (f : Option X → Z → Option X) (g : Option Y → Z → Option Y) →
    ((o : Option X) (p : Option Y) (z : Z) → Both R o p → Both R (f o z) (g p z)) →
    (zs : List Z) (o : Option X) (p : Option Y) → Both R o p → Both R (fold f o zs) (fold g p zs)
both_fold R f g step [] o p e = e
both_fold R f g step (z ∷ zs) o p e = both_fold R f g step zs (f o z) (g p z) (step o p z e)

pub same_fold : {X Z : Type 0} (f g : X → Z → X) → ((x : X) (z : Z) → f x z ≡ g x z) → (zs : List Z) (x : X) →
    fold f x zs ≡ fold g x zs
same_fold f g step [] x = refl
same_fold f g step (z ∷ zs) x = rw (step x z) (same_fold f g step zs (g x z))
