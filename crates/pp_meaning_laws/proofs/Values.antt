-- Operands have the same numbers with tables that have the same numbers.
use Rattle.std.proofs.Common.{◌≡◌, ℕ, ℤ, pos, Bool, true, List, [], ◌∷◌, Option, Some, None, ap, fold, refl, sym}
use Rattle.std.proofs.Common.{if◌then◌else◌, slice_get, take}
use Rattle.std.specs.List.{list_all}
use Rattle.std.proofs.lemmas.Bool.{and_parts, ltb-true}
use Rattle.pp_meaning.specs.Expressions.{are_signed, atom_value, choose, chosen, decimal_above, is_above, is_atom_above}
use Rattle.pp_meaning.specs.Expressions.{is_current, is_factor_above, is_term_above, named_value, plus, product, sum, times, value}
use Rattle.pp_meaning.specs.Expressions.{value_above, with_choice, with_factor, with_term}
use Rattle.pp_meaning.specs.Numbers.{number_value}
use Rattle.pp_meaning.specs.declared.expressions.Atom.{Atom}
use Rattle.pp_meaning.specs.declared.expressions.Atom.TheVariants.{Number, Name, Qualified, Here, LocationCounter}
use Rattle.pp_meaning.specs.declared.expressions.Atom.TheVariants.{OriginCounter, Nothing, Symbols, Shifted}
use Rattle.pp_meaning.specs.declared.expressions.Base.TheVariants.{Decimal}
use Rattle.pp_meaning.specs.declared.expressions.Expression.{Expression}
use Rattle.pp_meaning.specs.declared.expressions.Item.TheVariants.{Sum}
use Rattle.pp_meaning.specs.declared.expressions.Operand.{Operand}
use Rattle.pp_meaning.specs.declared.expressions.Operand.TheVariants.{Single}
use Rattle.pp_meaning.specs.declared.expressions.Place.{Place}
use Rattle.pp_meaning.specs.declared.expressions.Sign.{Sign}
use Rattle.pp_meaning.specs.declared.expressions.Sign.TheVariants.{Plus, Minus, Differ}
use Rattle.pp_meaning.specs.declared.expressions.Symbol.{Symbol}
use Rattle.pp_meaning.specs.declared.expressions.Term.{Term}
use Rattle.pp_meaning_laws.proofs.Both.{Both, Same, both_fold, both_if, both_none, same_map, same_pair, same_refl}
use Rattle.pp_meaning_laws.proofs.Tables.{AreAlike, AreKnown, SameValue, alike_above, get_taken}

-- ---- names and atoms

pub name_same : (p : Place) (i : ℕ) (o q : Option Symbol) → Both SameValue o q → Both Same (named_value p i o) (named_value p i q)
name_same p i None q e = tt
name_same p i (Some s) None e = both_none Same (named_value p i (Some s))
name_same p i (Some s) (Some t) e =
    both_if Same (is_current p i s) (is_current p i t) (Some s.value) (Some t.value) (λ c d. e)

pub atom_same : (a b : List Symbol) → AreAlike a b → (p : Place) (x : Atom) → Both Same (atom_value a p x) (atom_value b p x)
atom_same a b alike p (Number digits radix) = same_refl (number_value p.base digits.items radix)
atom_same a b alike p (Name i) = name_same p i (slice_get a i) (slice_get b i) (alike i)
atom_same a b alike p (Qualified i) = name_same p i (slice_get a i) (slice_get b i) (alike i)
atom_same a b alike p (Shifted digits radix shift) = same_refl (atom_value a p (Shifted digits radix shift))
atom_same a b alike p (Symbols digits items) = same_refl (atom_value a p (Symbols digits items))
atom_same a b alike p Here = refl
atom_same a b alike p LocationCounter = refl
atom_same a b alike p OriginCounter = refl
atom_same a b alike p Nothing = refl

-- ---- expressions

times_same : (is_quotient : Bool) (o p q r : Option ℤ) → Both Same o p → Both Same q r →
    Both Same (times is_quotient o q) (times is_quotient p r)
times_same is_quotient o p q r = same_pair (times is_quotient) (λ x. refl) (λ x. refl) o p q r

pub product_same : (a b : List Symbol) → AreAlike a b → (p : Place) (term : Term) → Both Same (product a p term) (product b p term)
product_same a b alike p term = both_fold Same (with_factor a p) (with_factor b p)
    (λ o q factor e. times_same factor.is_quotient o q (atom_value a p factor.atom) (atom_value b p factor.atom) e
    (atom_same a b alike p factor.atom))
    term.factors.items (atom_value a p term.atom) (atom_value b p term.atom) (atom_same a b alike p term.atom)

pub plus_same : (sign : Sign) (o p q r : Option ℤ) → Both Same o p → Both Same q r → Both Same (plus sign o q) (plus sign p r)
plus_same Plus o p q r = same_pair (plus Plus) (λ x. refl) (λ x. refl) o p q r
plus_same Minus o p q r = same_pair (plus Minus) (λ x. refl) (λ x. refl) o p q r
plus_same Differ o p q r = same_pair (plus Differ) (λ x. refl) (λ x. refl) o p q r

pub sum_same : (a b : List Symbol) → AreAlike a b → (p : Place) (x : Expression) → Both Same (sum a p x) (sum b p x)
sum_same a b alike p x =
    let signed = are_signed x.has_sign x.terms.items in
    both_if Same signed signed (fold (with_term a p) (Some (pos 0)) x.terms.items)
    (fold (with_term b p) (Some (pos 0)) x.terms.items)
    (λ c d. both_fold Same (with_term a p) (with_term b p)
    (λ o q term e. plus_same term.sign o q (product a p term) (product b p term) e (product_same a b alike p term))
    x.terms.items (Some (pos 0)) (Some (pos 0)) refl)

pub value_same : (a b : List Symbol) → AreAlike a b → (p : Place) (x : Operand) → Both Same (value a p x) (value b p x)
value_same a b alike p (Single (Sum x)) = sum_same a b alike p x
value_same a b alike p _ = tt

-- ---- by the names above

pub above_same : (a b : List Symbol) (p : Place) → AreKnown a b p.defined → (x : Operand) →
    Both Same (value_above a p x) (value_above b p x)
above_same a b p known x = value_same (take p.defined a) (take p.defined b) (alike_above a b p.defined known) p x

pub decimal_same : (a b : List Symbol) (p : Place) → AreKnown a b p.defined → (x : Operand) →
    Both Same (decimal_above a p x) (decimal_above b p x)
decimal_same a b p known x = above_same a b (record p { base = Some Decimal }) known x

choice_same : (a b : List Symbol) (p : Place) → AreKnown a b p.defined → (is_greatest : Bool) (o q : Option ℤ) (x : Operand) →
    Both Same o q → Both Same (with_choice a p is_greatest o x) (with_choice b p is_greatest q x)
choice_same a b p known is_greatest None q x e = tt
choice_same a b p known is_greatest (Some n) None x e = both_none Same (with_choice a p is_greatest (Some n) x)
choice_same a b p known is_greatest (Some n) (Some m) x e =
    rw e (same_map (choose is_greatest m) refl (value_above a p x) (value_above b p x) (above_same a b p known x))

pub chosen_same : (a b : List Symbol) (p : Place) → AreKnown a b p.defined → (is_greatest : Bool) (xs : List Operand) →
    Both Same (chosen a p is_greatest xs) (chosen b p is_greatest xs)
chosen_same a b p known is_greatest [] = tt
chosen_same a b p known is_greatest (x ∷ others) = both_fold Same (with_choice a p is_greatest) (with_choice b p is_greatest)
    (λ o q y e. choice_same a b p known is_greatest o q y e) others (value_above a p x) (value_above b p x)
    (above_same a b p known x)

-- ---- whose names are above

atom_above : (a : List Symbol) (p : Place) (x : Atom) → is_atom_above p x ≡ true →
    atom_value a p x ≡ atom_value (take p.defined a) p x
atom_above a p (Name i) is = ap (named_value p i) (sym (get_taken p.defined i a (ltb-true i p.defined is)))
atom_above a p (Qualified i) is = ap (named_value p i) (sym (get_taken p.defined i a (ltb-true i p.defined is)))
atom_above a p _ is = refl

fold_above : {X Z : Type 0} (ok : Z → Bool) (f g : X → Z → X) → ((x : X) (z : Z) → ok z ≡ true → f x z ≡ g x z) →
    (zs : List Z) (x : X) → list_all ok zs ≡ true → fold f x zs ≡ fold g x zs
fold_above ok f g step [] x all = refl
fold_above ok f g step (z ∷ zs) x all =
    let parts = and_parts (ok z) (list_all ok zs) all in
    rw (step x z parts.0) (fold_above ok f g step zs (g x z) parts.1)

term_above : (a : List Symbol) (p : Place) (x : Term) → is_term_above p x ≡ true →
    product a p x ≡ product (take p.defined a) p x
term_above a p x is =
    let parts = and_parts (is_atom_above p x.atom) (list_all (is_factor_above p) x.factors.items) is in
    rw (atom_above a p x.atom parts.0) (fold_above (is_factor_above p) (with_factor a p) (with_factor (take p.defined a) p)
    (λ o factor ok. ap (times factor.is_quotient o) (atom_above a p factor.atom ok)) x.factors.items
    (atom_value (take p.defined a) p x.atom) parts.1)

is_value_above : (a : List Symbol) (p : Place) (x : Operand) → is_above p x ≡ true → value a p x ≡ value_above a p x
is_value_above a p (Single (Sum x)) is = ap
    (λ (o : Option ℤ). if are_signed x.has_sign x.terms.items then o else None)
    (fold_above (is_term_above p) (with_term a p) (with_term (take p.defined a) p)
    (λ o term ok. ap (plus term.sign o) (term_above a p term ok)) x.terms.items (Some (pos 0)) is)
is_value_above a p _ is = refl

pub whole_same : (a b : List Symbol) (p : Place) → AreKnown a b p.defined → (x : Operand) → is_above p x ≡ true →
    Both Same (value a p x) (value b p x)
whole_same a b p known x is = rw (is_value_above a p x is, is_value_above b p x is) (above_same a b p known x)
