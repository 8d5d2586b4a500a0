-- Statements have as many words with tables that have the same numbers above.
use Rattle.std.proofs.Common.{◌≡◌, ℕ, ℤ, pos, negsuc, ◌+◌, ◌-◌, ◌==◌, Bool, true, false, List, [], ◌∷◌, Option, Some, None, ap}
use Rattle.std.proofs.Common.{fold, if◌then◌else◌, length, nat_le, nat_lt, refl, slice_get, replicate}
use Rattle.std.proofs.lemmas.Bool.{and_parts, eqb-true, false≢true}
use Rattle.std.proofs.lemmas.List.{length-append, nil_from_length}
use Rattle.pp_notation.specs.Instructions.{form}
use Rattle.pp_notation.specs.InstructionWords.{constant_words, one_word}
use Rattle.pp_notation.specs.declared.instructions.Form.{Form}
use Rattle.pp_notation.specs.declared.instructions.Form.TheVariants.{Alone, D as OneField, Target, Constant}
use Rattle.pp_notation.specs.declared.instructions.Form.TheVariants.{Indexed, Both as TwoFields}
use Rattle.pp_meaning.specs.Expressions.{address, atom_value, is_above, plus, product, value, value_above, with_term}
use Rattle.pp_meaning.specs.Fields.{is_minus_zero, item_field, operand_field}
use Rattle.pp_meaning.specs.Meaning.{added, constant, constants, data_words, datum, distance_at, form_words, is_digits, is_number}
use Rattle.pp_meaning.specs.Meaning.{is_something, joined, minus_code, sized_words, small_code, two_words, wide_code}
use Rattle.pp_meaning.specs.Meaning.{wide_words, with_constant, with_datum, words_of, zeros}
use Rattle.pp_meaning.specs.Texts.{display}
use Rattle.pp_meaning.specs.declared.expressions.Atom.{Atom}
use Rattle.pp_meaning.specs.declared.expressions.Atom.TheVariants.{Number}
use Rattle.pp_meaning.specs.declared.expressions.Item.{Item}
use Rattle.pp_meaning.specs.declared.expressions.Item.TheVariants.{Characters, Nothing, Sum}
use Rattle.pp_meaning.specs.declared.expressions.Operand.{Operand}
use Rattle.pp_meaning.specs.declared.expressions.Operand.TheVariants.{Single}
use Rattle.pp_meaning.specs.declared.expressions.Place.{Place}
use Rattle.pp_meaning.specs.declared.expressions.Symbol.{Symbol}
use Rattle.pp_meaning.specs.declared.expressions.Term.{Term}
use Rattle.pp_meaning.specs.declared.statements.Operation.{Operation}
use Rattle.pp_meaning.specs.declared.statements.Operation.TheVariants.{Blank, Instruction, Constants, Data, Zeros}
use Rattle.pp_meaning.specs.declared.statements.Operation.TheVariants.{Display, Shortest}
use Rattle.pp_meaning_laws.proofs.Both.{Both, Same, SameLength, both_either, both_fold, both_if, both_none, both_refl}
use Rattle.pp_meaning_laws.proofs.Both.{same_fold, same_if, same_map}
use Rattle.pp_meaning_laws.proofs.Tables.{AreKnown}
use Rattle.pp_meaning_laws.proofs.Values.{above_same, whole_same}

-- ---- instructions

one_length : (code other : ℕ) (o q : Option ℕ) → Both SameLength (one_word code o) (one_word other q)
one_length code other None q = tt
one_length code other (Some d) None = tt
one_length code other (Some d) (Some e) = refl

constant_length : (code other : ℕ) (o q : Option ℕ) → Both SameLength (constant_words code o) (constant_words other q)
constant_length code other None q = tt
constant_length code other (Some d) None = tt
constant_length code other (Some d) (Some e) = refl

two_length : (code : ℕ) (o o' q q' : Option ℕ) → Both SameLength (two_words code o o') (two_words code q q')
two_length code None o' q q' = tt
two_length code (Some d) None q q' = tt
two_length code (Some d) (Some m) None q' = tt
two_length code (Some d) (Some m) (Some e) None = tt
two_length code (Some d) (Some m) (Some e) (Some n) = refl

form_length : (a b : List Symbol) (p : Place) (shape : Form) (code : ℕ) (xs : List Operand) →
    Both SameLength (form_words a p shape code xs) (form_words b p shape code xs)
form_length a b p Alone code [] = refl
form_length a b p Alone code (x ∷ []) = one_length code code (operand_field 6 a p x) (operand_field 6 b p x)
form_length a b p OneField code (x ∷ []) = one_length code code (operand_field 6 a p x) (operand_field 6 b p x)
form_length a b p Target code (x ∷ []) = one_length code code (distance_at a p x) (distance_at b p x)
form_length a b p Constant code (x ∷ []) = constant_length code code (operand_field 18 a p x) (operand_field 18 b p x)
form_length a b p Indexed code (x ∷ []) =
    two_length code (Some 0) (operand_field 12 a p x) (Some 0) (operand_field 12 b p x)
form_length a b p Indexed code (x ∷ y ∷ []) =
    two_length code (operand_field 6 a p y) (operand_field 12 a p x) (operand_field 6 b p y) (operand_field 12 b p x)
form_length a b p TwoFields code (x ∷ y ∷ []) =
    two_length code (operand_field 6 a p y) (operand_field 12 a p x) (operand_field 6 b p y) (operand_field 12 b p x)
form_length a b p _ code xs = tt

-- ---- CON

added_length : (xs ys : List ℕ) → length xs ≡ length ys → (o q : Option ℕ) → Both SameLength (added xs o) (added ys q)
added_length xs ys e None q = tt
added_length xs ys e (Some x) None = tt
added_length xs ys e (Some x) (Some y) = simp length-append (ap (λ n. n + 1) e)

with_constant_length : (a b : List Symbol) (p : Place) (o q : Option (List ℕ)) (x : Operand) → Both SameLength o q →
    Both SameLength (with_constant a p o x) (with_constant b p q x)
with_constant_length a b p None q x e = tt
with_constant_length a b p (Some xs) None x e = both_none SameLength (with_constant a p (Some xs) x)
with_constant_length a b p (Some xs) (Some ys) x e = added_length xs ys e (constant a p x) (constant b p x)

constants_length : (a b : List Symbol) (p : Place) (xs : List Operand) →
    Both SameLength (constants a p xs) (constants b p xs)
constants_length a b p xs = let is = is_something (slice_get xs (length xs - 1)) in
    both_if SameLength is is (fold (with_constant a p) (Some []) xs) (fold (with_constant b p) (Some []) xs)
    (λ c d. both_fold SameLength (with_constant a p) (with_constant b p)
    (λ o q x e. with_constant_length a b p o q x e) xs (Some []) (Some []) refl)

-- ---- DATA

atom_of_number : (a b : List Symbol) (p : Place) (x : Atom) → is_digits x ≡ true → atom_value a p x ≡ atom_value b p x
atom_of_number a b p (Number digits radix) is = refl
atom_of_number a b p _ is = absurd (false≢true is)

product_of_number : (a b : List Symbol) (p : Place) (term : Term) → is_digits term.atom ≡ true → term.factors.items ≡ [] →
    product a p term ≡ product b p term
product_of_number a b p term is none = rw (none, atom_of_number a b p term.atom is) refl

terms_of_number : (a b : List Symbol) (p : Place) (o : Option ℤ) (terms : List Term) → is_number terms ≡ true →
    fold (with_term a p) o terms ≡ fold (with_term b p) o terms
terms_of_number a b p o [] is = refl
terms_of_number a b p o (term ∷ []) is =
    let parts = and_parts (is_digits term.atom) (length term.factors.items == 0) is in
    ap (plus term.sign o) (product_of_number a b p term parts.0
    (nil_from_length term.factors.items (eqb-true (length term.factors.items) 0 parts.1)))
terms_of_number a b p o (term ∷ other ∷ terms) is = absurd (false≢true is)

pub datum_same : (a b : List Symbol) (p : Place) (item : Item) → datum a p item ≡ datum b p item
datum_same a b p (Sum x) = same_if (is_number x.terms.items) (added [] (item_field 12 a p (Sum x)))
    (added [] (item_field 12 b p (Sum x))) (λ is. rw (terms_of_number a b p (Some (pos 0)) x.terms.items is) refl)
datum_same a b p (Characters text) = refl
datum_same a b p Nothing = refl

with_datum_same : (a b : List Symbol) (p : Place) (o : Option (List ℕ)) (x : Operand) → with_datum a p o x ≡ with_datum b p o x
with_datum_same a b p None x = refl
with_datum_same a b p (Some words) (Single item) = ap (joined words) (datum_same a b p item)
with_datum_same a b p (Some words) x = refl

pub data_same : (a b : List Symbol) (p : Place) (xs : List Operand) → data_words a p xs ≡ data_words b p xs
data_same a b p xs = ap (λ (o : Option (List ℕ)). if length xs == 0 then None else o)
    (same_fold (with_datum a p) (with_datum b p) (λ o x. with_datum_same a b p o x) xs (Some []))

-- ---- LDK and ADK

wide_length : (a b : List Symbol) (p : Place) (is_sum : Bool) (x : Operand) →
    Both SameLength (wide_words a p is_sum x) (wide_words b p is_sum x)
wide_length a b p is_sum x =
    constant_length (wide_code is_sum) (wide_code is_sum) (operand_field 18 a p x) (operand_field 18 b p x)

number_length : (a b : List Symbol) (p : Place) (is_sum : Bool) (x : Operand) (number : ℤ) →
    Both SameLength (sized_words a p is_sum x (Some number)) (sized_words b p is_sum x (Some number))
number_length a b p is_sum x (pos n) =
    let small = λ (symbols : List Symbol). if nat_le n 0o77 then one_word (small_code is_sum) (operand_field 6 symbols p x)
    else wide_words symbols p is_sum x in
    both_either SameLength (is_minus_zero x) (one_word (minus_code is_sum) (Some 0)) (small a)
    (one_word (minus_code is_sum) (Some 0)) (small b) refl
    (both_either SameLength (nat_le n 0o77)
    (one_word (small_code is_sum) (operand_field 6 a p x)) (wide_words a p is_sum x)
    (one_word (small_code is_sum) (operand_field 6 b p x)) (wide_words b p is_sum x)
    (one_length (small_code is_sum) (small_code is_sum) (operand_field 6 a p x) (operand_field 6 b p x))
    (wide_length a b p is_sum x))
number_length a b p is_sum x (negsuc n) = both_either SameLength (nat_lt n 0o77)
    (one_word (minus_code is_sum) (Some (n + 1))) (wide_words a p is_sum x)
    (one_word (minus_code is_sum) (Some (n + 1))) (wide_words b p is_sum x) refl (wide_length a b p is_sum x)

sized_length : (a b : List Symbol) (p : Place) (is_sum : Bool) (x : Operand) (o q : Option ℤ) → Both Same o q →
    Both SameLength (sized_words a p is_sum x o) (sized_words b p is_sum x q)
sized_length a b p is_sum x None q e = tt
sized_length a b p is_sum x (Some n) None e = both_none SameLength (sized_words a p is_sum x (Some n))
sized_length a b p is_sum x (Some n) (Some m) e = rw e (number_length a b p is_sum x m)

shortest_by : (a b : List Symbol) (p : Place) → AreKnown a b p.defined → (is_sum : Bool) (x : Operand) (c : Bool) →
    is_above p x ≡ c →
    Both SameLength (if c then sized_words a p is_sum x (value a p x) else wide_words a p is_sum x)
    (if c then sized_words b p is_sum x (value b p x) else wide_words b p is_sum x)
shortest_by a b p known is_sum x true is =
    sized_length a b p is_sum x (value a p x) (value b p x) (whole_same a b p known x is)
shortest_by a b p known is_sum x false is = wide_length a b p is_sum x

-- ---- all statements

zeros_length : (o q : Option ℕ) → Both Same o q → Both SameLength (zeros o) (zeros q)
zeros_length None q e = tt
zeros_length (Some n) None e = tt
zeros_length (Some n) (Some m) e = ap (λ k. length (replicate {A = ℕ} k 0)) e

length_refl : (o : Option (List ℕ)) → Both SameLength o o
length_refl o = both_refl SameLength (λ xs. refl) o

pub words_length : (a b : List Symbol) (p : Place) → AreKnown a b p.defined → (operation : Operation) (xs : List Operand) →
    Both SameLength (words_of a p operation xs) (words_of b p operation xs)
words_length a b p known Blank [] = refl
words_length a b p known (Instruction code) xs = form_length a b p (form code) code xs
words_length a b p known Constants xs = constants_length a b p xs
words_length a b p known Data xs = rw (data_same a b p xs) (length_refl (data_words b p xs))
words_length a b p known Zeros (x ∷ []) = zeros_length (address (value_above a p x)) (address (value_above b p x))
    (same_map address refl (value_above a p x) (value_above b p x) (above_same a b p known x))
words_length a b p known Display (Single (Characters text) ∷ []) = length_refl (display text)
words_length a b p known (Shortest is_sum) (x ∷ []) = shortest_by a b p known is_sum x (is_above p x) refl
words_length a b p known _ xs = tt
