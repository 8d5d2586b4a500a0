-- Names with a qualifier, and QUAL. The name of a symbol is NAME, or with its qualifier /Q/NAME.
use Rattle.std.specs.Prelude.{ℕ, ◌-◌, ◌==◌, ◌&&◌, nat_lt, not, Bool, false, Option, Some, None, List, [], ◌∷◌, ◌++◌}
use Rattle.std.specs.Prelude.{bytes_eq, codes, drop, length, slice_get, take, if◌then◌else◌}
use Rattle.std.specs.List.{list_all, list_any, starts_with}
use Rattle.pp_meaning.specs.Standing.{Standing}
use Rattle.pp_meaning.specs.declared.expressions.Operand.{Operand}
use Rattle.pp_meaning.specs.declared.expressions.Operand.TheVariants.{Word}
use Rattle.pp_meaning.specs.declared.expressions.Symbol.{Symbol}
use Rattle.pp_meaning.specs.declared.qualifiers.Scope.{Scope}
use Rattle.pp_meaning.specs.declared.statements.Statement.{Statement}

-- ---- how names are written

-- What names in a line may be: the symbols, and what is before a name with the present qualifier.
pub record Names : Type 0 where
  pub symbols : List Symbol
  pub prefix : List ℕ

abbrev pub names_in : Scope → Names
names_in scope = record { symbols = scope.symbols.now; prefix = scope.prefix.now }

abbrev pub has_prefix : Names → List ℕ → Bool
has_prefix names name = starts_with ◌==◌ name names.prefix

abbrev pub without_prefix : Names → List ℕ → List ℕ
without_prefix names name = drop (length names.prefix) name

-- Whether a symbol has the present qualifier and a name.
abbrev pub is_prefixed : Names → List ℕ → Symbol → Bool
is_prefixed names name symbol =
    has_prefix names symbol.name.items && bytes_eq (without_prefix names symbol.name.items) name

-- Whether there is a symbol with the present qualifier that has a name too.
abbrev pub is_hidden : Names → List ℕ → Bool
is_hidden names name = list_any (is_prefixed names name) names.symbols

-- A name with the present qualifier is written without it. // is before a name without a qualifier that such a name hides.
abbrev pub short_text : Names → List ℕ → List ℕ
short_text names name =
    if has_prefix names name then without_prefix names name else (if is_hidden names name then codes "//" ++ name else name)

abbrev pub is_qualified : List ℕ → Bool
is_qualified [] = false
is_qualified (byte ∷ bytes) = byte == 47

-- A name in full is /Q/NAME, or //NAME if it has no qualifier.
abbrev pub full_text : List ℕ → List ℕ
full_text name = if is_qualified name then name else codes "//" ++ name

-- Whether a name has the present qualifier, and no other.
abbrev pub is_own : Names → List ℕ → Bool
is_own names name = has_prefix names name && not (is_qualified (without_prefix names name))

-- ---- QUAL

-- A qualifier has neither / nor a comma nor a blank.
abbrev pub is_in_qualifier : ℕ → Bool
is_in_qualifier byte = nat_lt 32 byte && not (byte == 44) && not (byte == 47)

-- What is before a name with a qualifier: slashes are round it. Without one it is nothing.
abbrev pub prefix_with : List ℕ → List ℕ
prefix_with [] = []
prefix_with (byte ∷ bytes) = codes "/" ++ byte ∷ bytes ++ codes "/"

-- The present one is the last.
abbrev pub prefix_of : Option (List ℕ) → List ℕ
prefix_of None = []
prefix_of (Some prefix) = prefix

abbrev pub present_prefix : Standing → List ℕ
present_prefix s = prefix_of (slice_get s.prefixes (length s.prefixes - 1))

-- QUAL * goes back to the qualifier before.
abbrev pub prefixes_after : List (List ℕ) → List ℕ → List (List ℕ)
prefixes_after prefixes name =
    if bytes_eq name (codes "*") then take (length prefixes - 1) prefixes else prefixes ++ prefix_with name ∷ []

-- Names have a qualifier from here on. QUAL without one ends that.
abbrev pub qualified : Standing → List Operand → Option Standing
qualified s [] = Some (record s { prefixes = s.prefixes ++ [] ∷ [] })
qualified s (Word name ∷ []) =
    if list_all is_in_qualifier name.items then Some (record s { prefixes = prefixes_after s.prefixes name.items }) else None
qualified s operands = None

-- The names of a statement are read with the present qualifier.
abbrev pub in_qualifier : Option Standing → Statement → Option Standing
in_qualifier None statement = None
in_qualifier (Some s) statement = if bytes_eq statement.prefix.items (present_prefix s) then Some s else None
