-- Fields of VFD have as many bits with tables that have the same numbers above.
use Rattle.std.proofs.Common.{◌≡◌, ◌∙◌, ℕ, zero, suc, pos, ◌+◌, ◌-◌, ◌/◌, ◌%◌, List, [], ◌∷◌, Option, Some, None, ap, arith, fold}
use Rattle.std.proofs.Common.{drop, length, min, refl, slice_get, sym, replicate, take}
use Rattle.std.proofs.lemmas.List.{length-append, length-replicate, length-take}
use Rattle.pp_meaning.specs.Bits.{bits_left, bits_of, decimal_sum, field_number, field_size, size_value, whole, width_value}
use Rattle.pp_meaning.specs.Bits.{with_bits, with_number, with_sized, words_from, words_of_bits}
use Rattle.pp_meaning.specs.Expressions.{plus}
use Rattle.pp_meaning.specs.Meaning.{bits_used, with_zeros}
use Rattle.pp_meaning.specs.declared.expressions.Base.TheVariants.{Decimal}
use Rattle.pp_meaning.specs.declared.expressions.Operand.{Operand}
use Rattle.pp_meaning.specs.declared.expressions.Operand.TheVariants.{Bits, ExternalBits, LiteralBits}
use Rattle.pp_meaning.specs.declared.expressions.Place.{Place}
use Rattle.pp_meaning.specs.declared.expressions.Sign.TheVariants.{Plus}
use Rattle.pp_meaning.specs.declared.expressions.Symbol.{Symbol}
use Rattle.pp_meaning.specs.declared.expressions.Width.{Width}
use Rattle.pp_meaning.specs.declared.expressions.Width.TheVariants.{Beyond, Count, Digits, Named, Rest}
use Rattle.pp_meaning_laws.proofs.Both.{Both, Same, SameLength, both_fold, both_if, both_none, same_map, same_refl}
use Rattle.pp_meaning_laws.proofs.Tables.{AreKnown, alike_above}
use Rattle.pp_meaning_laws.proofs.Values.{name_same, plus_same, sum_same}

-- ---- bits and words

pub bits_count : (size number : ℕ) → length (bits_of size number) ≡ size
bits_count zero number = refl
bits_count (suc size) number = ap suc (bits_count size number)

words_count : (count : ℕ) (bits : List ℕ) → length (words_from count bits) ≡ count
words_count zero bits = refl
words_count (suc count) bits = ap suc (words_count count (drop 12 bits))

whole_count : (bits : List ℕ) → length (whole bits) ≡ length bits + (12 - length bits % 12) % 12
whole_count bits = length-append bits (replicate ((12 - length bits % 12) % 12) 0)
    ∙ ap (λ n. length bits + n) (length-replicate ((12 - length bits % 12) % 12) 0)

words_of_count : (bits : List ℕ) → length (words_of_bits bits) ≡ (length bits + (12 - length bits % 12) % 12) / 12
words_of_count bits = words_count (length (whole bits) / 12) (whole bits) ∙ ap (λ n. n / 12) (whole_count bits)

pub words_of_same : (xs ys : List ℕ) → length xs ≡ length ys → length (words_of_bits xs) ≡ length (words_of_bits ys)
words_of_same xs ys e =
    words_of_count xs ∙ ap (λ n. (n + (12 - n % 12) % 12) / 12) e ∙ sym (words_of_count ys)

pub used_same : (count i : ℕ) (xs ys : List ℕ) → length xs ≡ length ys →
    length (bits_used count (slice_get xs i)) ≡ length (bits_used count (slice_get ys i))
used_same count i [] [] e = refl
used_same count i [] (y ∷ ys) e = absurd (omega (arith, e))
used_same count i (x ∷ xs) [] e = absurd (omega (arith, e))
used_same count zero (x ∷ xs) (y ∷ ys) e =
    (length-take count (bits_of 12 x) ∙ ap (λ n. min count n) (bits_count 12 x))
    ∙ sym (length-take count (bits_of 12 y) ∙ ap (λ n. min count n) (bits_count 12 y))
used_same count (suc i) (x ∷ xs) (y ∷ ys) e = used_same count i xs ys (omega (arith, e))

-- ---- the sizes of fields

width_same : (a b : List Symbol) (p : Place) → AreKnown a b p.defined → (count : ℕ) (x : Width) →
    Both Same (width_value a p count x) (width_value b p count x)
width_same a b p known count (Digits digits radix) = same_refl (width_value a p count (Digits digits radix))
width_same a b p known count (Named i) =
    name_same p i (slice_get (take p.defined a) i) (slice_get (take p.defined b) i) (alike_above a b p.defined known i)
width_same a b p known count Rest = refl
width_same a b p known count (Count x) =
    sum_same (take p.defined a) (take p.defined b) (alike_above a b p.defined known) (record p { base = Some Decimal }) x
width_same a b p known count (Beyond x) =
    both_if Same x.has_sign x.has_sign (plus Plus (Some (pos (bits_left count))) (decimal_sum a p x))
    (plus Plus (Some (pos (bits_left count))) (decimal_sum b p x))
    (λ c d. plus_same Plus (Some (pos (bits_left count))) (Some (pos (bits_left count))) (decimal_sum a p x)
    (decimal_sum b p x) refl
    (sum_same (take p.defined a) (take p.defined b) (alike_above a b p.defined known) (record p { base = Some Decimal }) x))

pub size_same : (a b : List Symbol) (p : Place) → AreKnown a b p.defined → (count : ℕ) (x : Operand) →
    Both Same (size_value a p count x) (size_value b p count x)
size_same a b p known count (Bits width item) = width_same a b p known count width
size_same a b p known count (LiteralBits width address item) = width_same a b p known count width
size_same a b p known count (ExternalBits width letter index) = width_same a b p known count width
size_same a b p known count _ = tt

sizes_same : (a b : List Symbol) (p : Place) → AreKnown a b p.defined → (count number : ℕ) (x : Operand) → count ≡ number →
    Both Same (field_size (size_value a p count x)) (field_size (size_value b p number x))
sizes_same a b p known count number x e =
    rw e (same_map field_size refl (size_value a p number x) (size_value b p number x) (size_same a b p known number x))

-- ---- fields

number_length : (xs ys : List ℕ) (size : ℕ) (o q : Option ℕ) → length xs ≡ length ys →
    Both SameLength (with_number xs size o) (with_number ys size q)
number_length xs ys size None q e = tt
number_length xs ys size (Some n) None e = tt
number_length xs ys size (Some n) (Some m) e =
    (length-append xs (bits_of size n) ∙ ap (λ k. length xs + k) (bits_count size n)) ∙ ap (λ k. k + size) e
    ∙ sym (length-append ys (bits_of size m) ∙ ap (λ k. length ys + k) (bits_count size m))

sized_length : (a b : List Symbol) (p : Place) (xs ys : List ℕ) (x : Operand) (o q : Option ℕ) → length xs ≡ length ys →
    Both Same o q → Both SameLength (with_sized a p xs x o) (with_sized b p ys x q)
sized_length a b p xs ys x None q e d = tt
sized_length a b p xs ys x (Some n) None e d = both_none SameLength (with_sized a p xs x (Some n))
sized_length a b p xs ys x (Some n) (Some m) e d =
    rw d (number_length xs ys m (field_number m a p x) (field_number m b p x) e)

with_bits_length : (a b : List Symbol) (p : Place) → AreKnown a b p.defined → (o q : Option (List ℕ)) (x : Operand) →
    Both SameLength o q → Both SameLength (with_bits a p o x) (with_bits b p q x)
with_bits_length a b p known None q x e = tt
with_bits_length a b p known (Some xs) None x e = both_none SameLength (with_bits a p (Some xs) x)
with_bits_length a b p known (Some xs) (Some ys) x e =
    sized_length a b p xs ys x (field_size (size_value a p (length xs) x)) (field_size (size_value b p (length ys) x)) e
    (sizes_same a b p known (length xs) (length ys) x e)

pub fields_length : (a b : List Symbol) (p : Place) → AreKnown a b p.defined → (fields : List Operand) (xs ys : List ℕ) →
    length xs ≡ length ys → Both SameLength (fold (with_bits a p) (Some xs) fields) (fold (with_bits b p) (Some ys) fields)
fields_length a b p known fields xs ys e = both_fold SameLength (with_bits a p) (with_bits b p)
    (λ o q x d. with_bits_length a b p known o q x d) fields (Some xs) (Some ys) e

-- ---- POS

pub zeros_length : (xs ys : List ℕ) (o q : Option ℕ) → length xs ≡ length ys → Both Same o q →
    Both SameLength (with_zeros xs o) (with_zeros ys q)
zeros_length xs ys None q e d = tt
zeros_length xs ys (Some n) None e d = tt
zeros_length xs ys (Some n) (Some m) e d =
    rw d (length-append xs (replicate m 0) ∙ ap (λ k. k + length (replicate {A = ℕ} m 0)) e
    ∙ sym (length-append ys (replicate m 0)))
