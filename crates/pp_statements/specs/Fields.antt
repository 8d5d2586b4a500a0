-- Operands as numbers of so many bits.
use Rattle.std.specs.Prelude.{ℕ, ◌-◌, ◌/◌, ◌%◌, ◌==◌, ◌&&◌, nat_le, not, Bool, false, Option, Some, None, List, [], ◌∷◌, codes, length, option_map, take, if◌then◌else◌}
use Rattle.pp_decks.specs.Blanks.{is_among}
use Rattle.pp_notation.specs.Digits.{number_of_codes}
use Rattle.pp_source.specs.Texts.{Text, are_in_code, filled, text_at}
use Rattle.pp_statements.specs.Reading.{◌>>=◌}
use Rattle.pp_statements.specs.Values.{number_field}
use Rattle.pp_statements.specs.declared.scope.Scope.{Scope}

-- A text that is a whole operand. One of R is a number.
abbrev pub alone : Option Text → Option Text
alone None = None
alone (Some text) = if length text.rest == 0 && not (text.kind == 82) then Some text else None

abbrev pub alone_in : List ℕ → Option (Option Text)
alone_in text = option_map alone (text_at (72 - length text) false text)

-- Whether a text fits into so many bits, six a symbol. C and Z end in zeros, which have no room.
abbrev pub has_room : ℕ → Text → Bool
has_room bits text = not (is_among (codes "CZ") text.kind) && bits % 6 == 0 && nat_le text.count (bits / 6)

-- A text as a number of so many bits: the codes of its symbols, and what fills it.
abbrev pub text_field : ℕ → Text → Option ℕ
text_field bits text =
    if has_room bits text && are_in_code text.symbols
    then Some (number_of_codes (take (bits / 6) (filled (bits / 6) text.kind text.count text.symbols))) else None

abbrev pub plain_by : Scope → List ℕ → ℕ → Option Text → Option ℕ
plain_by scope text bits (Some alone) = text_field bits alone
plain_by scope text bits None = number_field scope text bits

-- A text or an expression.
unfoldable pub plain_field : Scope → List ℕ → ℕ → Option ℕ
plain_field scope text bits = alone_in text >>= plain_by scope text bits

-- The text of a literal begins with =.
abbrev pub is_literal : List ℕ → Bool
is_literal [] = false
is_literal (c ∷ text) = c == 61
