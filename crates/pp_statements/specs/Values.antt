-- What the text of an operand means: it is read once, from left to right.
use Rattle.std.specs.Prelude.{ℕ, zero, suc, ℤ, pos, ◌+◌, ◌-◌, ◌*ℤ◌, ◌^◌, ◌==◌, ◌&&◌, nat_le, nat_lt, not, Bool, true, false, Option, Some, None, List, [], ◌∷◌}
use Rattle.std.specs.Prelude.{codes, drop, length, option_map, take, unsigned_abs, if◌then◌else◌}
use Rattle.std.specs.List.{list_any, prefix_len}
use Rattle.pp_decks.specs.Blanks.{is_among}
use Rattle.std.specs.Prelude.{int_lt}
use Rattle.pp_decks.specs.declared.spans.Span.{Span}
use Rattle.pp_notation.specs.Columns.{between}
use Rattle.pp_notation.specs.Digits.{number_in, number_of_codes}
use Rattle.pp_source.specs.declared.here.Here.{Here}
use Rattle.pp_statements.specs.Forms.{field_of_bits, is_minus_zero, jump, short_word}
use Rattle.pp_meaning.specs.Expressions.{plus, times}
use Rattle.pp_meaning.specs.declared.expressions.Base.{Base}
use Rattle.pp_meaning.specs.declared.expressions.Base.TheVariants.{Octal, Decimal, Mixed}
use Rattle.pp_meaning.specs.declared.expressions.Sign.{Sign}
use Rattle.pp_meaning.specs.declared.expressions.Sign.TheVariants.{Plus, Minus, Differ}
use Rattle.pp_source.specs.Names.{name_size, name_value}
use Rattle.pp_source.specs.Numbers.{Written, counter_at, number_at}
use Rattle.pp_source.specs.Texts.{Text, are_in_code, filled, text_at}
use Rattle.pp_statements.specs.Reading.{◌>>=◌}
use Rattle.pp_statements.specs.declared.scope.Scope.{Scope}
use Rattle.pp_statements.specs.declared.values.Expression.{Expression}

-- What is seen from an operand: its text, what names stand for, the counters, and how numbers are read.
pub record View : Type 0 where
  pub text : List ℕ
  pub named : List ℕ → Option ℤ
  pub location : ℤ
  pub origin : ℤ
  pub base : Option Base
  pub is_deck : Bool

abbrev pub view_from : Scope → Bool → List ℕ → View
view_from scope is_from_above text = record {
  text = text;
  named = name_value scope.symbols is_from_above scope.is_last;
  location = scope.counters.location;
  origin = scope.counters.origin;
  base = scope.counters.base;
  is_deck = scope.counters.is_deck;
}

unfoldable pub view : Expression → View
view x = view_from x.scope.now x.is_from_above x.text.now

-- ---- names

abbrev pub ends_qualifier : ℕ → Bool
ends_qualifier c = is_among (9 ∷ 10 ∷ 11 ∷ 12 ∷ 13 ∷ codes " ,/") c

abbrev pub with_qualifier : ℕ → List ℕ → Option ℕ
with_qualifier size [] = None
with_qualifier size (c ∷ text) = if c == 47 then option_map (λ n. size + 2 + n) (name_size text) else None

abbrev pub qualifier_size : List ℕ → ℕ
qualifier_size text = prefix_len (λ c. not (ends_qualifier c)) text

-- How many symbols the name has that a text begins with. It may have its qualifier before it, between slashes.
abbrev pub full_size : List ℕ → Option ℕ
full_size [] = None
full_size (c ∷ text) =
    if c == 47 then with_qualifier (qualifier_size text) (drop (qualifier_size text) text) else name_size (c ∷ text)

abbrev pub name_at : View → List ℕ → ℕ → Option (ℤ × List ℕ)
name_at view text size = view.named (take size text) >>= λ n. Some (n, drop size text)

-- ---- numbers

-- Eight, if there is neither 8 nor 9.
abbrev pub octal : List ℕ → Option ℕ
octal digits = if list_any (λ digit. nat_le 56 digit) digits then None else Some 8

-- Digits without a letter are read as BASE says. Before BASE they are octal up to 7, and decimal above in a deck.
abbrev pub plain_radix : Option Base → Bool → List ℕ → Option ℕ
plain_radix (Some Decimal) is_deck digits = Some 10
plain_radix (Some Octal) is_deck digits = octal digits
plain_radix (Some Mixed) is_deck digits = octal digits
plain_radix None is_deck digits =
    if nat_le (number_in 10 digits) 7 then octal digits else (if is_deck then Some 10 else None)

abbrev pub radix : Option Base → Bool → List ℕ → Option ℕ → Option ℕ
radix base is_deck digits None = plain_radix base is_deck digits
radix base is_deck digits (Some letter) = if letter == 68 then Some 10 else octal digits

-- At most twenty digits have a number.
abbrev pub short_radix : View → Written → Option ℕ
short_radix view number =
    if nat_le (length number.digits) 20 then radix view.base view.is_deck number.digits number.letter else None

unfoldable pub number_value : View → Written → Option (ℤ × List ℕ)
number_value view number = do
  base ← short_radix view number
  Some (pos (number_in base number.digits) *ℤ pos (2 ^ number.shift), number.rest)

-- ---- counters

-- Of ** it is 0.
abbrev pub counter : View → ℕ → ℤ
counter view letter = if letter == 42 then pos 0 else (if letter == 79 then view.origin else view.location)

abbrev pub counter_after : View → ℕ × List ℕ → ℤ × List ℕ
counter_after view found = (counter view found.0, found.1)

-- ---- elements

-- The number of the codes of a text of R, each symbol of which has one.
abbrev pub text_number : Option Text → Option (ℤ × List ℕ)
text_number None = None
text_number (Some text) =
    if text.kind == 82 && are_in_code text.symbols
    then Some (pos (number_of_codes (take text.count (filled text.count text.kind text.count text.symbols))), text.rest)
    else None

-- A text may have blanks at its end that its line has lost.
unfoldable pub text_element : View → List ℕ → Option (ℤ × List ℕ)
text_element view text =
    text_at (72 - length view.text) false (drop (length view.text - length text) view.text) >>= text_number

abbrev pub other_element : View → List ℕ → Option (ℤ × List ℕ)
other_element view [] = text_element view []
other_element view (c ∷ text) =
    if c == 42 then Some (counter_after view (counter_at text)) else text_element view (c ∷ text)

abbrev pub element_by : View → List ℕ → Option ℕ → Option Written → Option (ℤ × List ℕ)
element_by view text (Some size) number = name_at view text size
element_by view text None (Some number) = number_value view number
element_by view text None None = other_element view text

-- A name, a number, a counter or a text, and what follows it.
unfoldable pub element_at : View → List ℕ → Option (ℤ × List ℕ)
element_at view text = element_by view text (full_size text) (number_at text)

-- ---- products

-- What follows an operator, which is something.
abbrev pub behind : List ℕ → Option (List ℕ)
behind [] = None
behind (c ∷ []) = None
behind (c ∷ d ∷ text) = Some (d ∷ text)

-- Whether a text begins with an operator of products, and whether it is that of a quotient.
abbrev pub factor_in : List ℕ → Option Bool
factor_in [] = None
factor_in (c ∷ text) = if c == 42 then Some false else (if c == 47 then Some true else None)

unfoldable pub factor_at : View → ℤ → Bool → List ℕ → Option (ℤ × List ℕ)
factor_at view value is_quotient text = do
  after ← behind text
  other ← element_at view after
  product ← times is_quotient (Some value) (Some other.0)
  Some (product, other.1)

abbrev pub with_factor : View → ℤ → List ℕ → Option Bool → Option (ℤ × List ℕ)
with_factor view value text None = Some (value, text)
with_factor view value text (Some is_quotient) = factor_at view value is_quotient text

-- One more factor, if there is one.
unfoldable pub more_factors : View → ℤ × List ℕ → Option (ℤ × List ℕ)
more_factors view x = with_factor view x.0 x.1 (factor_in x.1)

-- A step so many times, or up to where it can't be taken.
unfoldable pub repeated : {A : Type 0} → ℕ → (A → Option A) → A → Option A
repeated zero step x = Some x
repeated (suc n) step x = step x >>= repeated n step

-- Products and quotients, from left to right. A text has no more factors than symbols.
unfoldable pub factors_at : View → ℤ → List ℕ → Option (ℤ × List ℕ)
factors_at view value text = repeated (length text) (more_factors view) (value, text)

unfoldable pub term_at : View → List ℕ → Option (ℤ × List ℕ)
term_at view text = element_at view text >>= λ first. factors_at view first.0 first.1

-- ---- sums

abbrev pub sign_in : List ℕ → Option Sign
sign_in [] = None
sign_in (c ∷ text) =
    if c == 43 then Some Plus else (if c == 45 then Some Minus else (if c == 94 then Some Differ else None))

unfoldable pub signed_at : View → ℤ → Sign → List ℕ → Option (ℤ × List ℕ)
signed_at view total sign text = do
  term ← term_at view text
  sum ← plus sign (Some total) (Some term.0)
  Some (sum, term.1)

abbrev pub with_term : View → ℤ → List ℕ → Option Sign → Option (ℤ × List ℕ)
with_term view total text None = None
with_term view total text (Some sign) = behind text >>= signed_at view total sign

-- One more term, if there is one.
unfoldable pub more_terms : View → ℤ × List ℕ → Option (ℤ × List ℕ)
more_terms view x = if length x.1 == 0 then Some x else with_term view x.0 x.1 (sign_in x.1)

-- Only the first term may have no sign.
abbrev pub first_term : View → List ℕ → Option Sign → Option (ℤ × List ℕ)
first_term view text None = signed_at view (pos 0) Plus text
first_term view text (Some sign) = behind text >>= signed_at view (pos 0) sign

-- Sums, differences and logical differences, from left to right.
unfoldable pub terms_at : View → ℤ → List ℕ → Option (ℤ × List ℕ)
terms_at view total text = repeated (length text) (more_terms view) (total, text)

-- Nothing is left, and the number has at most 60 bits.
abbrev pub whole : ℤ × List ℕ → Option ℤ
whole x = if length x.1 == 0 then (if nat_lt (unsigned_abs x.0) (2 ^ 60) then Some x.0 else None) else None

-- The value of the whole text, which has something.
unfoldable pub value : View → Option ℤ
value view =
    if length view.text == 0 then None
    else do
      first ← first_term view view.text (sign_in view.text)
      all ← terms_at view first.0 first.1
      whole all

-- ---- operands of a line

abbrev pub text_in : Here → Span → List ℕ
text_in here operand = between here.text.now operand.first operand.end

-- The value of a text, in what a pass knows.
abbrev pub value_in : Scope → Bool → List ℕ → Option ℤ
value_in scope is_from_above text = value (view_from scope is_from_above text)

-- A number from a least one on, below the size of a memory.
abbrev pub in_memory : ℤ → ℤ → Option ℤ
in_memory least number =
    if int_lt number least then None else (if int_lt number (pos 0o10000) then Some number else None)

-- Such a number of names from the lines above.
abbrev pub count_in : Scope → ℤ → List ℕ → Option ℤ
count_in scope least text = value_in scope true text >>= in_memory least

-- A number of so many bits.
abbrev pub number_field : Scope → List ℕ → ℕ → Option ℕ
number_field scope text bits = value_in scope false text >>= field_of_bits bits (is_minus_zero text)

-- d of a relative jump.
abbrev pub distance : Scope → List ℕ → Option ℕ
distance scope text = value_in scope false text >>= jump scope.counters.location

-- LDK and ADK are one word, if their operand is a small number of names from the lines above.
abbrev pub short_in : Scope → ℕ → ℕ → List ℕ → Option ℕ
short_in scope small minus text = value_in scope true text >>= short_word small minus (is_minus_zero text)
