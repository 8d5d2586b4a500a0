-- Operands as numbers of so many bits.
use Rattle.std.specs.Prelude.{ℕ, ℤ, pos, negsuc, ◌+◌, ◌-◌, ◌/◌, ◌%◌, ◌^◌, ◌==◌, ◌&&◌, nat_le, Bool, true, false, Option, Some, None}
use Rattle.std.specs.Prelude.{List, [], ◌∷◌, length, slice_get, if◌then◌else◌}
use Rattle.pp_meaning.specs.Expressions.{named_value, sum}
use Rattle.pp_meaning.specs.Texts.{filled, is_ended, number_from_codes}
use Rattle.pp_meaning.specs.declared.expressions.Atom.{Atom}
use Rattle.pp_meaning.specs.declared.expressions.Atom.TheVariants.{Number}
use Rattle.pp_meaning.specs.declared.expressions.Item.{Item}
use Rattle.pp_meaning.specs.declared.expressions.Item.TheVariants.{Characters, Nothing, Sum}
use Rattle.pp_meaning.specs.declared.expressions.Operand.{Operand}
use Rattle.pp_meaning.specs.declared.expressions.Operand.TheVariants.{Single, External, Literal as Named, Bits}
use Rattle.pp_meaning.specs.declared.expressions.Operand.TheVariants.{LiteralBits, ExternalBits, Word}
use Rattle.pp_meaning.specs.declared.expressions.Place.{Place}
use Rattle.pp_meaning.specs.declared.expressions.Radix.TheVariants.{Plain}
use Rattle.pp_meaning.specs.declared.expressions.Sign.{Sign}
use Rattle.pp_meaning.specs.declared.expressions.Sign.TheVariants.{Minus}
use Rattle.pp_meaning.specs.declared.expressions.Symbol.{Symbol}
use Rattle.pp_meaning.specs.declared.expressions.Term.{Term}
use Rattle.pp_meaning.specs.declared.texts.Cut.{Cut}
use Rattle.pp_meaning.specs.declared.texts.Cut.TheVariants.{Counted, Marked}
use Rattle.pp_meaning.specs.declared.texts.Kind.{Kind}
use Rattle.pp_meaning.specs.declared.texts.Kind.TheVariants.{A, H, L}
use Rattle.pp_meaning.specs.declared.texts.Text.{Text}

-- A number up to a greatest one, which is all ones: minus is the complement. -0 is all ones.
abbrev pub field : ℕ → Bool → ℤ → Option ℕ
field most is_ones (pos n) = if nat_le n most then Some (if is_ones then most - n else n) else None
field most is_ones (negsuc n) = if nat_le (n + 1) most then Some (most - (n + 1)) else None

abbrev pub then_field : ℕ → Bool → Option ℤ → Option ℕ
then_field most is_ones None = None
then_field most is_ones (Some number) = field most is_ones number

-- Whether digits are 0 alone.
abbrev pub is_zero_digit : List ℕ → Bool
is_zero_digit (digit ∷ []) = digit == 48
is_zero_digit _ = false

abbrev pub is_zero : Atom → Bool
is_zero (Number digits Plain) = is_zero_digit digits.items
is_zero _ = false

abbrev pub is_minus : Sign → Bool
is_minus Minus = true
is_minus _ = false

-- Whether terms are -0.
abbrev pub are_ones : List Term → Bool
are_ones (term ∷ []) = is_minus term.sign && is_zero term.atom && length term.factors.items == 0
are_ones _ = false

abbrev pub is_minus_zero : Operand → Bool
is_minus_zero (Single (Sum x)) = are_ones x.terms.items
is_minus_zero _ = false

-- A text in a field has a count, and is filled up: H, A or L.
abbrev pub fills_up : Kind → Bool
fills_up H = true
fills_up A = true
fills_up L = true
fills_up _ = false

abbrev pub has_count : Cut → Bool
has_count (Counted digits) = true
has_count (Marked mark) = false

abbrev pub fits : ℕ → Text → Bool
fits bits text =
    fills_up text.kind && has_count text.cut && is_ended text.cut text.codes.items && bits % 6 == 0 && nat_le
    (length text.codes.items) (bits / 6)

-- The codes of a text as a number of so many bits, six for each code.
abbrev pub text_field : ℕ → Text → Option ℕ
text_field bits text = if fits bits text then Some (number_from_codes 0 (filled text.kind (bits / 6) text.codes.items)) else None

abbrev pub item_field : ℕ → List Symbol → Place → Item → Option ℕ
item_field bits symbols place (Sum x) = then_field (2 ^ bits - 1) (are_ones x.terms.items) (sum symbols place x)
item_field bits symbols place (Characters text) = text_field bits text
item_field bits symbols place Nothing = None

-- An operand as a number of so many bits. That of a literal is its address.
abbrev pub operand_field : ℕ → List Symbol → Place → Operand → Option ℕ
operand_field bits symbols place (Single item) = item_field bits symbols place item
operand_field bits symbols place (Named address item) = field (2 ^ bits - 1) false (pos address)
operand_field bits symbols place (External letter index) =
    then_field (2 ^ bits - 1) false (named_value place index (slice_get symbols index))
operand_field bits symbols place (Bits width item) = None
operand_field bits symbols place (LiteralBits width address item) = None
operand_field bits symbols place (ExternalBits width letter index) = None
operand_field bits symbols place (Word name) = None
