-- What a reader sees of an expression, and which expressions are written as the definition says.
use Rattle.std.specs.Prelude.{◌≡◌, ◌==◌, ◌&&◌, not, ℕ, Bool, true, false, List, [], ◌∷◌, length, map, if◌then◌else◌}
use Rattle.std.specs.List.{list_all}
use Rattle.pp_meaning.specs.Expressions.{are_signed}
use Rattle.pp_meaning.specs.Lines.{full_name, short_name}
use Rattle.pp_meaning.specs.Names.{has_name_behind, is_name}
use Rattle.pp_meaning.specs.Numbers.{are_digits, decimal_number}
use Rattle.pp_meaning.specs.Qualifiers.{Names, is_in_qualifier, prefix_with}
use Rattle.pp_meaning.specs.Texts.{are_codes, is_exact}
use Rattle.pp_meaning.specs.declared.expressions.Atom.{Atom}
use Rattle.pp_meaning.specs.declared.expressions.Atom.TheVariants.{Number, Name, Qualified, Here, LocationCounter}
use Rattle.pp_meaning.specs.declared.expressions.Atom.TheVariants.{OriginCounter, Nothing, Symbols, Shifted}
use Rattle.pp_meaning.specs.declared.expressions.Expression.{Expression}
use Rattle.pp_meaning.specs.declared.expressions.Factor.{Factor}
use Rattle.pp_meaning.specs.declared.expressions.Radix.{Radix}
use Rattle.pp_meaning.specs.declared.expressions.Sign.{Sign}
use Rattle.pp_meaning.specs.declared.expressions.Term.{Term}

-- ---- what is seen

-- What a reader sees of an atom: digits and their letter, a name as it is written, one of *, *L, *O and **, digits with a shift, or a
-- count and the codes of so many symbols.
pub data SeenAtom : Type 0 where
  Digits : List ℕ → Radix → SeenAtom
  Written : List ℕ → SeenAtom
  Star : SeenAtom
  StarL : SeenAtom
  StarO : SeenAtom
  StarStar : SeenAtom
  ShiftedDigits : List ℕ → Radix → List ℕ → SeenAtom
  Codes : List ℕ → List ℕ → SeenAtom

abbrev pub seen_atom : Names → Atom → SeenAtom
seen_atom names (Number digits radix) = Digits digits.items radix
seen_atom names (Name index) = Written (short_name names index)
seen_atom names (Qualified index) = Written (full_name names index)
seen_atom names Here = Star
seen_atom names LocationCounter = StarL
seen_atom names OriginCounter = StarO
seen_atom names Nothing = StarStar
seen_atom names (Shifted digits radix shift) = ShiftedDigits digits.items radix shift.items
seen_atom names (Symbols digits items) = Codes digits.items items.items

-- Whether a factor is a divisor, and its atom.
abbrev pub seen_factor : Names → Factor → Bool × SeenAtom
seen_factor names factor = (factor.is_quotient, seen_atom names factor.atom)

abbrev pub seen_term : Names → Term → Sign × SeenAtom × List (Bool × SeenAtom)
seen_term names term = (term.sign, seen_atom names term.atom, map (seen_factor names) term.factors.items)

-- The terms of an expression, as a reader sees them.
abbrev pub cut_of : Names → Expression → List (Sign × SeenAtom × List (Bool × SeenAtom))
cut_of names x = map (seen_term names) x.terms.items

-- ---- what is written as the definition says

-- A name in an expression is NAME, /Q/NAME or //NAME.
abbrev pub is_written : List ℕ → Bool
is_written [] = false
is_written (byte ∷ bytes) = if byte == 47 then has_name_behind bytes else is_name (byte ∷ bytes)

-- Digits are decimal digits, and there is one. The count before R is the number of codes.
abbrev pub is_right_atom : Names → Atom → Bool
is_right_atom names (Number digits radix) = are_digits 57 digits.items
is_right_atom names (Name index) = is_written (short_name names index)
is_right_atom names (Qualified index) = is_written (full_name names index)
is_right_atom names (Shifted digits radix shift) = are_digits 57 digits.items && are_digits 57 shift.items
is_right_atom names (Symbols digits items) =
    are_codes items.items && is_exact (decimal_number digits.items) (length items.items)
is_right_atom names _ = true

-- Each atom of a term is right.
abbrev pub is_right_term : Names → Term → Bool
is_right_term names term =
    is_right_atom names term.atom && list_all (λ factor. is_right_atom names factor.atom) term.factors.items

abbrev pub is_nothing : Atom → Bool
is_nothing Nothing = true
is_nothing _ = false

-- ** has no factor behind it: no atom with factors behind it is **.
abbrev pub are_plain : Atom → List Factor → Bool
are_plain atom [] = true
are_plain atom (factor ∷ factors) = not (is_nothing atom) && are_plain factor.atom factors

abbrev pub is_plain : Term → Bool
is_plain term = are_plain term.atom term.factors.items

-- There are terms, the first one is without a sign only if it is added, each atom is right, and ** has no factor behind it.
pub record IsRight (names : Names) (x : Expression) : Type 0 where
  pub signed : are_signed x.has_sign x.terms.items ≡ true
  pub atoms : list_all (is_right_term names) x.terms.items ≡ true
  pub plain : list_all is_plain x.terms.items ≡ true

-- What is before a name with a qualifier is /Q/, or nothing.
pub record IsPrefix (prefix : List ℕ) : Type 0 where
  pub qualifier : List ℕ
  pub each : list_all is_in_qualifier qualifier ≡ true
  pub written : prefix ≡ prefix_with qualifier
