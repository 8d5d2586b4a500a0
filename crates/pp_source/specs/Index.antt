-- An index of names: where the last one is that has a number, which is made of its bytes.
use Rattle.std.specs.Prelude.{◌≡◌, ℕ, zero, suc, ◌*◌, ◌%◌, ◌^◌, ◌<◌, ◌==◌, nat_le, Bool, true, Option, Some, None, List, bit_xor, fold, length, map, slice_index, slice_index_or, if◌then◌else◌}
use Rattle.std.specs.BTreeMap.{BTreeMap, get}
use Rattle.std.specs.List.{list_all}
use Rattle.std.specs.Ordering.{nat_cmp}
use Rattle.pp_notation.specs.Columns.{between}
use Rattle.pp_source.specs.declared.symbols.Symbol.{Symbol}

-- The number of a name.
abbrev pub with_byte : ℕ → ℕ → ℕ
with_byte number byte = bit_xor number byte * 1099511628211 % 2 ^ 64

unfoldable pub number_of : List ℕ → ℕ
number_of name = fold with_byte 14695981039346656037 name

-- The last place below an end that passes a test.
abbrev pub last_where : (ℕ → Bool) → ℕ → Option ℕ
last_where test zero = None
last_where test (suc at) = if test at then Some at else last_where test at

abbrev pub has_number : List ℕ → ℕ → ℕ → Bool
has_number numbers number at = slice_index numbers at == number

-- A map has the last name with each number, and a list the one before each name that has its number.
abbrev pub IsIndex : List ℕ → BTreeMap ℕ ℕ → List (Option ℕ) → Type 0
IsIndex numbers last before =
    (length before ≡ length numbers)
    × ((number : ℕ) → get nat_cmp last number ≡ last_where (has_number numbers number) (length numbers))
    × ((at : ℕ) → at < length numbers → slice_index_or before at None ≡ last_where (has_number numbers (slice_index numbers at)) at)

-- The numbers of the keys of symbols, which are in a text.
abbrev pub number_in : List ℕ → Symbol → ℕ
number_in text symbol = number_of (between text symbol.key.first symbol.key.end)

abbrev pub numbers_in : List ℕ → List Symbol → List ℕ
numbers_in text symbols = map (number_in text) symbols

-- Whether the keys of symbols are in a text.
abbrev pub are_in : List ℕ → List Symbol → Bool
are_in text symbols = list_all (λ symbol. nat_le symbol.key.end (length text)) symbols

-- An index of the symbols whose keys are in a text.
abbrev pub IsTable : List ℕ → List Symbol → BTreeMap ℕ ℕ → List (Option ℕ) → Type 0
IsTable text symbols last before = (are_in text symbols ≡ true) × IsIndex (numbers_in text symbols) last before
