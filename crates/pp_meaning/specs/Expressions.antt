-- What operands stand for. Each is given by its terms; specs/Lines.antt says how these are written.
use Rattle.std.specs.Prelude.{ℕ, ℤ, pos, negsuc, ◌+◌, ◌-◌, ◌^◌, ◌%◌, ◌&&◌, ◌||◌, nat_le, nat_lt, Bool, true, false, Option}
use Rattle.std.specs.Prelude.{Some, None, List, [], ◌∷◌, slice_get, take, bit_xor, fold, if◌then◌else◌}
use Rattle.std.specs.List.{list_all}
use Rattle.std.specs.Prelude.{int_lt}
use Rattle.std.specs.Prelude.{◌+ℤ◌, ◌-ℤ◌, ◌*ℤ◌, int_div}
use Rattle.std.specs.Ordering.{int_eq}
use Rattle.pp_meaning.specs.Numbers.{decimal_number, number_value}
use Rattle.pp_meaning.specs.Texts.{text_number}
use Rattle.pp_meaning.specs.declared.expressions.Base.TheVariants.{Decimal}
use Rattle.pp_meaning.specs.declared.expressions.Atom.{Atom}
use Rattle.pp_meaning.specs.declared.expressions.Atom.TheVariants.{Number, Name, Qualified, Here, LocationCounter}
use Rattle.pp_meaning.specs.declared.expressions.Atom.TheVariants.{OriginCounter, Nothing, Symbols, Shifted}
use Rattle.pp_meaning.specs.declared.expressions.Expression.{Expression}
use Rattle.pp_meaning.specs.declared.expressions.Factor.{Factor}
use Rattle.pp_meaning.specs.declared.expressions.Item.TheVariants.{Sum}
use Rattle.pp_meaning.specs.declared.expressions.Operand.{Operand}
use Rattle.pp_meaning.specs.declared.expressions.Operand.TheVariants.{Single}
use Rattle.pp_meaning.specs.declared.expressions.Place.{Place}
use Rattle.pp_meaning.specs.declared.expressions.Sign.{Sign}
use Rattle.pp_meaning.specs.declared.expressions.Sign.TheVariants.{Plus, Minus, Differ}
use Rattle.pp_meaning.specs.declared.expressions.Symbol.{Symbol}
use Rattle.pp_meaning.specs.declared.expressions.Term.{Term}
use Rattle.pp_meaning.specs.declared.expressions.Validity.{Validity}
use Rattle.pp_meaning.specs.declared.expressions.Validity.TheVariants.{Fixed, Set, Replaced}

-- ---- expressions

-- Whether a symbol is defined above, and the next one of its name is not.
abbrev pub is_last : Place → ℕ → ℕ → Bool
is_last place index next = nat_lt index place.defined && nat_le place.defined next

abbrev pub is_valid : Validity → Place → ℕ → ℕ → Bool
is_valid Fixed place index next = true
is_valid Set place index next = is_last place index next
is_valid Replaced place index next = place.is_system && is_last place index next

-- A name of SET stands for what the last SET above says. One that the source defines anew stands in system texts for what the last
-- of their statements above says.
abbrev pub is_current : Place → ℕ → Symbol → Bool
is_current place index symbol = is_valid symbol.validity place index symbol.next

abbrev pub named_value : Place → ℕ → Option Symbol → Option ℤ
named_value place index None = None
named_value place index (Some symbol) = if is_current place index symbol then Some symbol.value else None

-- A number shifted to the left by so many bits.
abbrev pub shifted : Option ℤ → Option ℤ → Option ℤ
shifted (Some n) (Some (pos bits)) = Some (n *ℤ pos (2 ^ bits))
shifted _ _ = None

-- A number, which may be shifted, a name, a counter, ** in place of a number, or symbols as a number.
abbrev pub atom_value : List Symbol → Place → Atom → Option ℤ
atom_value symbols place (Number digits radix) = number_value place.base digits.items radix
atom_value symbols place (Name index) = named_value place index (slice_get symbols index)
atom_value symbols place (Qualified index) = named_value place index (slice_get symbols index)
atom_value symbols place Here = Some (pos place.location)
atom_value symbols place LocationCounter = Some (pos place.location)
atom_value symbols place OriginCounter = Some (pos place.origin)
atom_value symbols place Nothing = Some (pos 0)
atom_value symbols place (Shifted digits radix shift) = shifted (number_value place.base digits.items radix)
    (decimal_number shift.items)
atom_value symbols place (Symbols digits items) = text_number digits.items items.items

-- A quotient has no fraction, and is 0 if the divisor is 0.
abbrev pub quotient : ℤ → ℤ → ℤ
quotient a b = if int_eq b (pos 0) then pos 0 else int_div a b

abbrev pub times : Bool → Option ℤ → Option ℤ → Option ℤ
times is_quotient (Some a) (Some b) = Some (if is_quotient then quotient a b else a *ℤ b)
times is_quotient _ _ = None

abbrev pub with_factor : List Symbol → Place → Option ℤ → Factor → Option ℤ
with_factor symbols place product factor = times factor.is_quotient product (atom_value symbols place factor.atom)

-- Products and quotients, from left to right.
abbrev pub product : List Symbol → Place → Term → Option ℤ
product symbols place term = fold (with_factor symbols place) (atom_value symbols place term.atom) term.factors.items

-- The bits in which two numbers differ, in ones complement: a number with a minus is the complement of its size, and so is the
-- difference of such a number and one without.
abbrev pub difference : ℤ → ℤ → ℤ
difference (pos a) (pos b) = pos (bit_xor a b)
difference (negsuc a) (negsuc b) = pos (bit_xor (a + 1) (b + 1))
difference (pos a) (negsuc b) = pos 0 -ℤ pos (bit_xor a (b + 1))
difference (negsuc a) (pos b) = pos 0 -ℤ pos (bit_xor (a + 1) b)

abbrev pub plus : Sign → Option ℤ → Option ℤ → Option ℤ
plus Plus (Some a) (Some b) = Some (a +ℤ b)
plus Minus (Some a) (Some b) = Some (a -ℤ b)
plus Differ (Some a) (Some b) = Some (difference a b)
plus _ _ _ = None

abbrev pub with_term : List Symbol → Place → Option ℤ → Term → Option ℤ
with_term symbols place total term = plus term.sign total (product symbols place term)

abbrev pub is_plus : Sign → Bool
is_plus Plus = true
is_plus _ = false

-- There are terms, and each has a sign; the first one is written without it if it is added.
abbrev pub are_signed : Bool → List Term → Bool
are_signed has_sign [] = false
are_signed has_sign (term ∷ terms) = has_sign || is_plus term.sign

-- Sums, differences and logical differences, from left to right.
abbrev pub sum : List Symbol → Place → Expression → Option ℤ
sum symbols place x =
    if are_signed x.has_sign x.terms.items then fold (with_term symbols place) (Some (pos 0)) x.terms.items else None

abbrev pub value : List Symbol → Place → Operand → Option ℤ
value symbols place (Single (Sum x)) = sum symbols place x
value symbols place _ = None

-- The value by the names that are defined above.
abbrev pub value_above : List Symbol → Place → Operand → Option ℤ
value_above symbols place operand = value (take place.defined symbols) place operand

-- The same, with decimal numbers.
abbrev pub decimal_above : List Symbol → Place → Operand → Option ℤ
decimal_above symbols place operand = value_above symbols (record place { base = Some Decimal }) operand

-- Whether each name of an operand is defined above.
abbrev pub is_atom_above : Place → Atom → Bool
is_atom_above place (Name index) = nat_lt index place.defined
is_atom_above place (Qualified index) = nat_lt index place.defined
is_atom_above place _ = true

abbrev pub is_factor_above : Place → Factor → Bool
is_factor_above place factor = is_atom_above place factor.atom

abbrev pub is_term_above : Place → Term → Bool
is_term_above place term = is_atom_above place term.atom && list_all (is_factor_above place) term.factors.items

abbrev pub is_above : Place → Operand → Bool
is_above place (Single (Sum x)) = list_all (is_term_above place) x.terms.items
is_above place _ = false

-- The greatest or the least of several numbers.
abbrev pub better : Bool → ℤ → ℤ → ℤ
better is_greatest a b = if is_greatest then (if int_lt a b then b else a) else (if int_lt b a then b else a)

abbrev pub choose : Bool → ℤ → Option ℤ → Option ℤ
choose is_greatest a None = None
choose is_greatest a (Some b) = Some (better is_greatest a b)

abbrev pub with_choice : List Symbol → Place → Bool → Option ℤ → Operand → Option ℤ
with_choice symbols place is_greatest None x = None
with_choice symbols place is_greatest (Some a) x = choose is_greatest a (value_above symbols place x)

abbrev pub chosen : List Symbol → Place → Bool → List Operand → Option ℤ
chosen symbols place is_greatest [] = None
chosen symbols place is_greatest (x ∷ others) = fold (with_choice symbols place is_greatest) (value_above symbols place x) others

-- ---- addresses

-- An address, around 0000 and 7777.
abbrev pub address_around : Option ℤ → Option ℕ
address_around None = None
address_around (Some (pos n)) = if nat_lt n 0o20000 then Some (n % 0o10000) else None
address_around (Some (negsuc n)) = if nat_lt (n + 1) 0o10000 then Some (0o10000 - (n + 1)) else None

-- A number up to 7777.
abbrev pub address : Option ℤ → Option ℕ
address (Some (pos n)) = if nat_lt n 0o10000 then Some n else None
address _ = None
