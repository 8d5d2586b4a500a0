-- The names of symbols.
use Rattle.std.specs.Prelude.{◌≡◌, ◌≢◌, ◌⊎◌, ◌<◌, ◌==◌, ◌&&◌, nat_lt, nat_le, not, ℕ, Bool, true, false, length, Option}
use Rattle.std.specs.Prelude.{Some, None, List, [], ◌∷◌, slice_get, if◌then◌else◌}
use Rattle.std.specs.List.{AllByRecursion, list_all}
use Rattle.std.specs.BTreeMap.{BTreeMap, get_by}
use Rattle.std.specs.Cmp.Lexicographic.{slice_cmp}
use Rattle.std.specs.Ordering.{nat_cmp}
use denote.Ref.{Bor}
use Rattle.pp_meaning.specs.Lines.{symbol_name}
use Rattle.pp_meaning.specs.Qualifiers.{is_in_qualifier}
use Rattle.pp_meaning.specs.declared.expressions.Symbol.{Symbol}
use Rattle.pp_meaning.specs.declared.expressions.Validity.{Validity}
use Rattle.pp_meaning.specs.declared.expressions.Validity.TheVariants.{Fixed}

-- A name has none of + - * / , ^ ( ) _ " and blank.
abbrev pub is_sign : ℕ → Bool
is_sign byte = nat_lt 32 byte && not (nat_le 40 byte && nat_le byte 45) && not (byte == 34) && not (byte == 47) && not (byte == 94)
    && not (byte == 95)

-- A name begins with no digit, $ or =.
abbrev pub begins : List ℕ → Bool
begins [] = false
begins (first ∷ rest) = not (nat_le 48 first && nat_le first 57) && not (first == 36) && not (first == 61)

abbrev pub is_name : List ℕ → Bool
is_name name = begins name && nat_le (length name) 8 && list_all is_sign name

-- What is behind the first / of a name with a qualifier: the rest of the qualifier, another / and the name.
abbrev pub has_name_behind : List ℕ → Bool
has_name_behind [] = false
has_name_behind (byte ∷ bytes) = if byte == 47 then is_name bytes else is_in_qualifier byte && has_name_behind bytes

-- A qualifier has a symbol.
abbrev pub is_behind_slash : List ℕ → Bool
is_behind_slash [] = false
is_behind_slash (byte ∷ bytes) = is_in_qualifier byte && has_name_behind bytes

-- A name with its qualifier, if it has one.
abbrev pub is_full_name : List ℕ → Bool
is_full_name [] = false
is_full_name (byte ∷ bytes) = if byte == 47 then is_behind_slash bytes else is_name (byte ∷ bytes)

abbrev pub is_fixed : Validity → Bool
is_fixed Fixed = true
is_fixed _ = false

-- The next symbol of the name of a symbol is at an index, or before.
abbrev pub is_renamed : ℕ → Option Symbol → Bool
is_renamed index None = false
is_renamed index (Some symbol) = not (is_fixed symbol.validity) && nat_le symbol.next index

-- The last symbol of a name. Each one before it is renamed by it, or before.
abbrev pub IsBehind : List Symbol → ℕ → ℕ → Option ℕ → Type 0
IsBehind symbols count index None = ⊥
IsBehind symbols count index (Some last) = (last < count) × ((index ≡ last) ⊎ (is_renamed last (slice_get symbols index) ≡ true))

-- What a map has at a name.
abbrev pub last_of : BTreeMap (Bor (List ℕ)) ℕ → List ℕ → Option ℕ
last_of last name = get_by (λ key. slice_cmp nat_cmp name key.now) last

-- The last symbol of each name, of so many symbols.
abbrev pub IsLast : List Symbol → (List ℕ → Option ℕ) → ℕ → Type 0
IsLast symbols last count = (i : ℕ) → i < count → IsBehind symbols count i (last (symbol_name (slice_get symbols i)))

-- The names of symbols are names, which may have a qualifier. No two are one, but that SET, or a source behind system texts, makes
-- another symbol of a name, and the one before says where.
pub record AreNames (symbols : List Symbol) : Type 0 where
  pub each : AllByRecursion (λ symbol. is_full_name symbol.name.items ≡ true) symbols
  pub different : (i j : ℕ) → i < j → j < length symbols →
      (symbol_name (slice_get symbols i) ≢ symbol_name (slice_get symbols j)) ⊎ (is_renamed j (slice_get symbols i) ≡ true)
