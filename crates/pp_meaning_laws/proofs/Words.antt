-- Statements have the same words with tables that have the same numbers.
use Rattle.std.proofs.Common.{ℕ, ℤ, pos, negsuc, ◌+◌, ◌-◌, ◌%◌, ◌^◌, Bool, false, List, [], ◌∷◌, Option, Some, None}
use Rattle.std.proofs.Common.{fold, if◌then◌else◌, length, nat_le, nat_lt, refl, slice_get}
use Rattle.pp_notation.specs.Instructions.{form}
use Rattle.pp_notation.specs.InstructionWords.{constant_words, one_word, then_distance}
use Rattle.pp_notation.specs.declared.instructions.Form.{Form}
use Rattle.pp_notation.specs.declared.instructions.Form.TheVariants.{Alone, D as OneField, Target, Constant}
use Rattle.pp_notation.specs.declared.instructions.Form.TheVariants.{Indexed, Both as TwoFields}
use Rattle.pp_meaning.specs.Bits.{field_number, field_size, size_value, with_bits, with_number, with_sized}
use Rattle.pp_meaning.specs.Expressions.{address, address_around, is_above, named_value, sum, value, value_above}
use Rattle.pp_meaning.specs.Fields.{are_ones, field, is_minus_zero, item_field, operand_field, then_field}
use Rattle.pp_meaning.specs.Meaning.{added, constant, constants, data_words, distance_at, form_words}
use Rattle.pp_meaning.specs.Meaning.{is_something, minus_code, shortest}
use Rattle.pp_meaning.specs.Meaning.{sized_words, small_code, two_words, wide_code, wide_words, with_constant, words_of, zeros}
use Rattle.pp_meaning.specs.Texts.{display}
use Rattle.pp_meaning.specs.declared.expressions.Item.{Item}
use Rattle.pp_meaning.specs.declared.expressions.Item.TheVariants.{Characters, Nothing, Sum}
use Rattle.pp_meaning.specs.declared.expressions.Operand.{Operand}
use Rattle.pp_meaning.specs.declared.expressions.Operand.TheVariants.{Single, External, Literal as Named, Bits}
use Rattle.pp_meaning.specs.declared.expressions.Operand.TheVariants.{LiteralBits, ExternalBits}
use Rattle.pp_meaning.specs.declared.expressions.Place.{Place}
use Rattle.pp_meaning.specs.declared.expressions.Symbol.{Symbol}
use Rattle.pp_meaning.specs.declared.statements.Operation.{Operation}
use Rattle.pp_meaning.specs.declared.statements.Operation.TheVariants.{Blank, Instruction, Constants, Data, Zeros}
use Rattle.pp_meaning.specs.declared.statements.Operation.TheVariants.{Display, Shortest}
use Rattle.pp_meaning_laws.proofs.BitLengths.{size_same}
use Rattle.pp_meaning_laws.proofs.Both.{Both, Same, both_either, both_fold, both_if, both_none, same_map, same_pair, same_refl}
use Rattle.pp_meaning_laws.proofs.Lengths.{data_same}
use Rattle.pp_meaning_laws.proofs.Tables.{AreAlike, AreKnown}
use Rattle.pp_meaning_laws.proofs.Values.{above_same, name_same, sum_same, value_same}

pub all_known : (a b : List Symbol) → AreAlike a b → (count : ℕ) → AreKnown a b count
all_known a b alike count i below = alike i

-- ---- numbers of so many bits

pub item_same : (a b : List Symbol) → AreAlike a b → (bits : ℕ) (p : Place) (item : Item) →
    Both Same (item_field bits a p item) (item_field bits b p item)
item_same a b alike bits p (Sum x) =
    same_map (then_field (2 ^ bits - 1) (are_ones x.terms.items)) refl (sum a p x) (sum b p x) (sum_same a b alike p x)
item_same a b alike bits p (Characters text) = same_refl (item_field bits a p (Characters text))
item_same a b alike bits p Nothing = tt

external_same : (a b : List Symbol) → AreAlike a b → (bits : ℕ) (p : Place) (i : ℕ) →
    Both Same (then_field (2 ^ bits - 1) false (named_value p i (slice_get a i)))
    (then_field (2 ^ bits - 1) false (named_value p i (slice_get b i)))
external_same a b alike bits p i = same_map (then_field (2 ^ bits - 1) false) refl (named_value p i (slice_get a i))
    (named_value p i (slice_get b i)) (name_same p i (slice_get a i) (slice_get b i) (alike i))

pub field_same : (a b : List Symbol) → AreAlike a b → (bits : ℕ) (p : Place) (x : Operand) →
    Both Same (operand_field bits a p x) (operand_field bits b p x)
field_same a b alike bits p (Single item) = item_same a b alike bits p item
field_same a b alike bits p (Named address item) = same_refl (field (2 ^ bits - 1) false (pos address))
field_same a b alike bits p (External letter i) = external_same a b alike bits p i
field_same a b alike bits p _ = tt

-- ---- instructions

distance_same : (a b : List Symbol) → AreAlike a b → (p : Place) (x : Operand) → Both Same (distance_at a p x) (distance_at b p x)
distance_same a b alike p x = same_map (λ o. then_distance (p.location % 0o10000) (address_around o)) refl (value a p x)
    (value b p x) (value_same a b alike p x)

one_same : (a b : List Symbol) → AreAlike a b → (p : Place) (code : ℕ) (x : Operand) →
    Both Same (one_word code (operand_field 6 a p x)) (one_word code (operand_field 6 b p x))
one_same a b alike p code x =
    same_map (one_word code) refl (operand_field 6 a p x) (operand_field 6 b p x) (field_same a b alike 6 p x)

constant_same : (a b : List Symbol) → AreAlike a b → (p : Place) (code : ℕ) (x : Operand) →
    Both Same (constant_words code (operand_field 18 a p x)) (constant_words code (operand_field 18 b p x))
constant_same a b alike p code x = same_map (constant_words code) refl (operand_field 18 a p x) (operand_field 18 b p x)
    (field_same a b alike 18 p x)

two_same : (a b : List Symbol) → AreAlike a b → (p : Place) (code : ℕ) (o q : Option ℕ) (x : Operand) → Both Same o q →
    Both Same (two_words code o (operand_field 12 a p x)) (two_words code q (operand_field 12 b p x))
two_same a b alike p code o q x e = same_pair (two_words code) (λ o. refl) (λ d. refl) o q (operand_field 12 a p x)
    (operand_field 12 b p x) e (field_same a b alike 12 p x)

form_same : (a b : List Symbol) → AreAlike a b → (p : Place) (shape : Form) (code : ℕ) (xs : List Operand) →
    Both Same (form_words a p shape code xs) (form_words b p shape code xs)
form_same a b alike p Alone code [] = refl
form_same a b alike p Alone code (x ∷ []) = one_same a b alike p code x
form_same a b alike p OneField code (x ∷ []) = one_same a b alike p code x
form_same a b alike p Target code (x ∷ []) =
    same_map (one_word code) refl (distance_at a p x) (distance_at b p x) (distance_same a b alike p x)
form_same a b alike p Constant code (x ∷ []) = constant_same a b alike p code x
form_same a b alike p Indexed code (x ∷ []) = two_same a b alike p code (Some 0) (Some 0) x refl
form_same a b alike p Indexed code (x ∷ y ∷ []) =
    two_same a b alike p code (operand_field 6 a p y) (operand_field 6 b p y) x (field_same a b alike 6 p y)
form_same a b alike p TwoFields code (x ∷ y ∷ []) =
    two_same a b alike p code (operand_field 6 a p y) (operand_field 6 b p y) x (field_same a b alike 6 p y)
form_same a b alike p _ code xs = tt

-- ---- CON

word_same : (a b : List Symbol) → AreAlike a b → (p : Place) (x : Operand) → Both Same (constant a p x) (constant b p x)
word_same a b alike p (Single Nothing) = refl
word_same a b alike p x = field_same a b alike 12 p x

with_constant_same : (a b : List Symbol) → AreAlike a b → (p : Place) (o q : Option (List ℕ)) (x : Operand) → Both Same o q →
    Both Same (with_constant a p o x) (with_constant b p q x)
with_constant_same a b alike p None q x e = tt
with_constant_same a b alike p (Some xs) None x e = both_none Same (with_constant a p (Some xs) x)
with_constant_same a b alike p (Some xs) (Some ys) x e =
    rw e (same_map (added ys) refl (constant a p x) (constant b p x) (word_same a b alike p x))

constants_same : (a b : List Symbol) → AreAlike a b → (p : Place) (xs : List Operand) →
    Both Same (constants a p xs) (constants b p xs)
constants_same a b alike p xs = let is = is_something (slice_get xs (length xs - 1)) in
    both_if Same is is (fold (with_constant a p) (Some []) xs) (fold (with_constant b p) (Some []) xs)
    (λ c d. both_fold Same (with_constant a p) (with_constant b p)
    (λ o q x e. with_constant_same a b alike p o q x e) xs (Some []) (Some []) refl)

-- ---- LDK and ADK

number_same : (a b : List Symbol) → AreAlike a b → (p : Place) (is_sum : Bool) (x : Operand) (number : ℤ) →
    Both Same (sized_words a p is_sum x (Some number)) (sized_words b p is_sum x (Some number))
number_same a b alike p is_sum x (pos n) =
    let small = λ (symbols : List Symbol). if nat_le n 0o77 then one_word (small_code is_sum) (operand_field 6 symbols p x)
    else wide_words symbols p is_sum x in
    both_either Same (is_minus_zero x) (one_word (minus_code is_sum) (Some 0)) (small a)
    (one_word (minus_code is_sum) (Some 0)) (small b) refl
    (both_either Same (nat_le n 0o77)
    (one_word (small_code is_sum) (operand_field 6 a p x)) (wide_words a p is_sum x)
    (one_word (small_code is_sum) (operand_field 6 b p x)) (wide_words b p is_sum x)
    (one_same a b alike p (small_code is_sum) x) (constant_same a b alike p (wide_code is_sum) x))
number_same a b alike p is_sum x (negsuc n) = both_either Same (nat_lt n 0o77)
    (one_word (minus_code is_sum) (Some (n + 1))) (wide_words a p is_sum x)
    (one_word (minus_code is_sum) (Some (n + 1))) (wide_words b p is_sum x)
    refl (constant_same a b alike p (wide_code is_sum) x)

sized_same : (a b : List Symbol) → AreAlike a b → (p : Place) (is_sum : Bool) (x : Operand) (o q : Option ℤ) → Both Same o q →
    Both Same (sized_words a p is_sum x o) (sized_words b p is_sum x q)
sized_same a b alike p is_sum x None q e = tt
sized_same a b alike p is_sum x (Some n) None e = both_none Same (sized_words a p is_sum x (Some n))
sized_same a b alike p is_sum x (Some n) (Some m) e = rw e (number_same a b alike p is_sum x m)

shortest_same : (a b : List Symbol) → AreAlike a b → (p : Place) (is_sum : Bool) (x : Operand) →
    Both Same (shortest a p is_sum x) (shortest b p is_sum x)
shortest_same a b alike p is_sum x = both_either Same (is_above p x)
    (sized_words a p is_sum x (value a p x)) (wide_words a p is_sum x)
    (sized_words b p is_sum x (value b p x)) (wide_words b p is_sum x)
    (sized_same a b alike p is_sum x (value a p x) (value b p x) (value_same a b alike p x))
    (constant_same a b alike p (wide_code is_sum) x)

-- ---- all statements

pub words_same : (a b : List Symbol) → AreAlike a b → (p : Place) (operation : Operation) (xs : List Operand) →
    Both Same (words_of a p operation xs) (words_of b p operation xs)
words_same a b alike p Blank [] = refl
words_same a b alike p (Instruction code) xs = form_same a b alike p (form code) code xs
words_same a b alike p Constants xs = constants_same a b alike p xs
words_same a b alike p Data xs = rw (data_same a b p xs) (same_refl (data_words b p xs))
words_same a b alike p Zeros (x ∷ []) = same_map (λ o. zeros (address o)) refl (value_above a p x) (value_above b p x)
    (above_same a b p (all_known a b alike p.defined) x)
words_same a b alike p Display (Single (Characters text) ∷ []) = same_refl (display text)
words_same a b alike p (Shortest is_sum) (x ∷ []) = shortest_same a b alike p is_sum x
words_same a b alike p _ xs = tt

-- ---- VFD

number_field_same : (a b : List Symbol) → AreAlike a b → (size : ℕ) (p : Place) (x : Operand) →
    Both Same (field_number size a p x) (field_number size b p x)
number_field_same a b alike size p (Bits width Nothing) = refl
number_field_same a b alike size p (Bits width (Sum x)) = item_same a b alike size p (Sum x)
number_field_same a b alike size p (Bits width (Characters text)) = item_same a b alike size p (Characters text)
number_field_same a b alike size p (LiteralBits width address item) = same_refl (field (2 ^ size - 1) false (pos address))
number_field_same a b alike size p (ExternalBits width letter i) = external_same a b alike size p i
number_field_same a b alike size p _ = tt

field_bits_same : (a b : List Symbol) → AreAlike a b → (p : Place) (bits : List ℕ) (x : Operand) (o q : Option ℕ) → Both Same o q →
    Both Same (with_sized a p bits x o) (with_sized b p bits x q)
field_bits_same a b alike p bits x None q e = tt
field_bits_same a b alike p bits x (Some n) None e = both_none Same (with_sized a p bits x (Some n))
field_bits_same a b alike p bits x (Some n) (Some m) e =
    rw e (same_map (with_number bits m) refl (field_number m a p x) (field_number m b p x) (number_field_same a b alike m p x))

with_bits_same : (a b : List Symbol) → AreAlike a b → (p : Place) (o q : Option (List ℕ)) (x : Operand) → Both Same o q →
    Both Same (with_bits a p o x) (with_bits b p q x)
with_bits_same a b alike p None q x e = tt
with_bits_same a b alike p (Some xs) None x e = both_none Same (with_bits a p (Some xs) x)
with_bits_same a b alike p (Some xs) (Some ys) x e =
    rw e (field_bits_same a b alike p ys x (field_size (size_value a p (length ys) x)) (field_size (size_value b p (length ys) x))
    (same_map field_size refl (size_value a p (length ys) x) (size_value b p (length ys) x)
    (size_same a b p (all_known a b alike p.defined) (length ys) x)))

pub fields_same : (a b : List Symbol) → AreAlike a b → (p : Place) (fields : List Operand) (bits : List ℕ) →
    Both Same (fold (with_bits a p) (Some bits) fields) (fold (with_bits b p) (Some bits) fields)
fields_same a b alike p fields bits = both_fold Same (with_bits a p) (with_bits b p)
    (λ o q x e. with_bits_same a b alike p o q x e) fields (Some bits) (Some bits) refl
