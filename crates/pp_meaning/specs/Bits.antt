-- The fields of VFD: numbers of so many bits, one behind another. Twelve bits are a word.
use Rattle.std.specs.Prelude.{ℕ, zero, suc, ℤ, pos, ◌+◌, ◌-◌, ◌*◌, ◌/◌, ◌%◌, ◌^◌, ◌==◌, ◌&&◌, nat_le, false, Option, Some, None}
use Rattle.std.specs.Prelude.{List, [], ◌∷◌, ◌++◌, length, take, drop, replicate, slice_get, if◌then◌else◌}
use Rattle.pp_meaning.specs.Expressions.{named_value, plus, sum}
use Rattle.pp_meaning.specs.Fields.{field, item_field, then_field}
use Rattle.pp_meaning.specs.Numbers.{number_value}
use Rattle.pp_meaning.specs.declared.expressions.Base.TheVariants.{Decimal}
use Rattle.pp_meaning.specs.declared.expressions.Item.TheVariants.{Nothing}
use Rattle.pp_meaning.specs.declared.expressions.Operand.{Operand}
use Rattle.pp_meaning.specs.declared.expressions.Operand.TheVariants.{Bits, ExternalBits, LiteralBits}
use Rattle.pp_meaning.specs.declared.expressions.Place.{Place}
use Rattle.pp_meaning.specs.declared.expressions.Expression.{Expression}
use Rattle.pp_meaning.specs.declared.expressions.Sign.TheVariants.{Plus}
use Rattle.pp_meaning.specs.declared.expressions.Symbol.{Symbol}
use Rattle.pp_meaning.specs.declared.expressions.Width.{Width}
use Rattle.pp_meaning.specs.declared.expressions.Width.TheVariants.{Beyond, Count, Digits, Named, Rest}

-- So many bits of a number, the upper ones first.
abbrev pub bits_of : ℕ → ℕ → List ℕ
bits_of zero number = []
bits_of (suc size) number = (number / 2 ^ size % 2) ∷ bits_of size number

-- How many bits a word has left after so many; those of a new one if it is full.
abbrev pub bits_left : ℕ → ℕ
bits_left count = 12 - count % 12

-- An expression of decimal numbers and of names from above.
abbrev pub decimal_sum : List Symbol → Place → Expression → Option ℤ
decimal_sum symbols place x = sum (take place.defined symbols) (record place { base = Some Decimal }) x

-- *P and what is behind it, which has a sign.
abbrev pub left_and : List Symbol → Place → ℕ → Expression → Option ℤ
left_and symbols place left x = if x.has_sign then plus Plus (Some (pos left)) (decimal_sum symbols place x) else None

-- How many bits a field has that is behind so many: a decimal number, a name from above, *P, the bits that the word has left, an
-- expression of both, or *P and more, or less.
abbrev pub width_value : List Symbol → Place → ℕ → Width → Option ℤ
width_value symbols place count (Digits digits radix) = number_value (Some Decimal) digits.items radix
width_value symbols place count (Named index) = named_value place index (slice_get (take place.defined symbols) index)
width_value symbols place count Rest = Some (pos (bits_left count))
width_value symbols place count (Count x) = decimal_sum symbols place x
width_value symbols place count (Beyond x) = left_and symbols place (bits_left count) x

-- A field has 1 to 60 bits.
abbrev pub field_size : Option ℤ → Option ℕ
field_size (Some (pos n)) = if nat_le 1 n && nat_le n 60 then Some n else None
field_size _ = None

-- The size that a field says.
abbrev pub size_value : List Symbol → Place → ℕ → Operand → Option ℤ
size_value symbols place count (Bits width item) = width_value symbols place count width
size_value symbols place count (LiteralBits width address item) = width_value symbols place count width
size_value symbols place count (ExternalBits width letter index) = width_value symbols place count width
size_value symbols place count _ = None

-- The number of a field; one without an expression is zero. That of a literal is its address.
abbrev pub field_number : ℕ → List Symbol → Place → Operand → Option ℕ
field_number size symbols place (Bits width Nothing) = Some 0
field_number size symbols place (Bits width item) = item_field size symbols place item
field_number size symbols place (LiteralBits width address item) = field (2 ^ size - 1) false (pos address)
field_number size symbols place (ExternalBits width letter index) =
    then_field (2 ^ size - 1) false (named_value place index (slice_get symbols index))
field_number size symbols place _ = None

abbrev pub with_number : List ℕ → ℕ → Option ℕ → Option (List ℕ)
with_number bits size None = None
with_number bits size (Some number) = Some (bits ++ bits_of size number)

abbrev pub with_sized : List Symbol → Place → List ℕ → Operand → Option ℕ → Option (List ℕ)
with_sized symbols place bits x None = None
with_sized symbols place bits x (Some size) = with_number bits size (field_number size symbols place x)

-- The bits of one field more.
abbrev pub with_bits : List Symbol → Place → Option (List ℕ) → Operand → Option (List ℕ)
with_bits symbols place None x = None
with_bits symbols place (Some bits) x = with_sized symbols place bits x (field_size (size_value symbols place (length bits) x))

-- Bits as the digits of a number, after those that are a number.
abbrev pub number_from_bits : ℕ → List ℕ → ℕ
number_from_bits number [] = number
number_from_bits number (bit ∷ bits) = number_from_bits (number * 2 + bit) bits

-- So many words of twelve bits.
abbrev pub words_from : ℕ → List ℕ → List ℕ
words_from zero bits = []
words_from (suc count) bits = number_from_bits 0 (take 12 bits) ∷ words_from count (drop 12 bits)

-- Whole words: the last one ends in zeros.
abbrev pub whole : List ℕ → List ℕ
whole bits = bits ++ replicate ((12 - length bits % 12) % 12) 0

abbrev pub words_of_bits : List ℕ → List ℕ
words_of_bits bits = words_from (length (whole bits) / 12) (whole bits)

-- POS says how many bits of the word are left. Those before are zero.
abbrev pub zeros_before : ℕ → Option ℤ → Option ℕ
zeros_before left (Some (pos n)) = if nat_le n left then Some (if n == 0 && left == 12 then 0 else left - n) else None
zeros_before left _ = None
