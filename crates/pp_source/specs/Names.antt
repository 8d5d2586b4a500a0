-- Names, and what they stand for.
use Rattle.std.specs.Prelude.{ℕ, ℤ, pos, ◌+◌, ◌-◌, ◌==◌, ◌&&◌, ◌||◌, nat_le, not, Bool, false}
use Rattle.std.specs.Prelude.{Option, Some, None, Result, Ok, Err, List, [], ◌∷◌, bytes_eq, codes, drop, is_some, length, option_and_then, slice_get, take, if◌then◌else◌}
use Rattle.std.specs.List.{prefix_len}
use Rattle.pp_decks.specs.Blanks.{is_among}
use Rattle.pp_decks.specs.declared.spans.Span.{Span}
use Rattle.pp_notation.specs.Columns.{between}
use Rattle.pp_source.specs.Index.{last_where}
use Rattle.pp_source.specs.declared.message.Stop.{Stop}
use Rattle.pp_source.specs.declared.symbols.Definition.{Definition}
use Rattle.pp_source.specs.declared.symbols.Symbol.{Symbol}
use Rattle.pp_source.specs.declared.symbols.Symbols.{Symbols}

-- ---- how names are written

-- A capital letter, or one of the other symbols that a name begins with.
abbrev pub begins_name : ℕ → Bool
begins_name c = nat_le 65 c && nat_le c 90 || is_among (codes ".#%@&!?<>[];\\':") c

-- A small letter, a blank, or one of the other symbols that no name has.
abbrev pub ends_name : ℕ → Bool
ends_name c = nat_le 97 c && nat_le c 122 || is_among (9 ∷ 10 ∷ 11 ∷ 12 ∷ 13 ∷ codes " +-*/,^\"()_") c

-- How many symbols the name has that a text begins with.
abbrev pub name_size : List ℕ → Option ℕ
name_size [] = None
name_size (c ∷ text) = if begins_name c then Some (1 + prefix_len (λ d. not (ends_name d)) text) else None

-- ---- how symbols are found

-- A text that is kept.
abbrev pub kept_text : Symbols → Span → List ℕ
kept_text symbols span = between symbols.text.items span.first span.end

abbrev pub is_joined : List ℕ → List ℕ → List ℕ → Bool
is_joined text prefix name = bytes_eq (take (length prefix) text) prefix && bytes_eq (drop (length prefix) text) name

-- Whether the key of a symbol is a prefix and a name.
abbrev pub has_key : Symbols → List ℕ → List ℕ → Option Symbol → Bool
has_key symbols prefix name None = false
has_key symbols prefix name (Some symbol) = is_joined (kept_text symbols symbol.key) prefix name

abbrev pub has_key_at : Symbols → List ℕ → List ℕ → ℕ → Bool
has_key_at symbols prefix name at = has_key symbols prefix name (slice_get symbols.all.items at)

-- Where the symbol is whose key is a prefix and a name: the last one of all.
unfoldable pub index_of : Symbols → List ℕ → List ℕ → Option ℕ
index_of symbols prefix name = last_where (has_key_at symbols prefix name) (length symbols.all.items)

abbrev pub symbol_at : Symbols → Option ℕ → Option Symbol
symbol_at symbols None = None
symbol_at symbols (Some at) = slice_get symbols.all.items at

unfoldable pub symbol_of : Symbols → List ℕ → List ℕ → Option Symbol
symbol_of symbols prefix name = symbol_at symbols (index_of symbols prefix name)

-- ---- what names mean

abbrev pub prefix_with : Symbols → Option Span → List ℕ
prefix_with symbols None = []
prefix_with symbols (Some span) = between symbols.qualifier_text.items span.first span.end

-- What is before a name with the present qualifier, the last one.
unfoldable pub prefix : Symbols → List ℕ
prefix symbols = prefix_with symbols (slice_get symbols.qualifiers.items (length symbols.qualifiers.items - 1))

-- Whether a name has been met in this pass or in the one before.
abbrev pub is_known : Symbol → Bool
is_known symbol = is_some symbol.seen || is_some symbol.before

abbrev pub if_known : Option Symbol → Option Symbol → Option Symbol
if_known None other = other
if_known (Some symbol) other = if is_known symbol then Some symbol else other

-- A name in full is /Q/NAME, or //NAME if it has no qualifier.
abbrev pub full_name : List ℕ → Option (List ℕ)
full_name [] = None
full_name (c ∷ []) = if c == 47 then Some (c ∷ []) else None
full_name (c ∷ d ∷ name) = if c == 47 then Some (if d == 47 then name else c ∷ d ∷ name) else None

abbrev pub meant_by : Symbols → List ℕ → Option (List ℕ) → Option Symbol
meant_by symbols name None = if_known (symbol_of symbols (prefix symbols) name) (symbol_of symbols [] name)
meant_by symbols name (Some full) = symbol_of symbols [] full

-- The symbol that a name means: with its qualifier, or else with the present one, or else without.
unfoldable pub meant : Symbols → List ℕ → Option Symbol
meant symbols name = meant_by symbols name (full_name name)

-- What a name stands for by a line above, and whether that or the pass before has defined it.
abbrev pub seen : Symbols → List ℕ → Option Definition
seen symbols name = option_and_then (λ symbol. symbol.seen) (meant symbols name)

abbrev pub is_named : Symbols → List ℕ → Bool
is_named symbols name = is_some (seen symbols name) || is_some (option_and_then (λ symbol. symbol.before) (symbol_of symbols [] name))

-- By lines above; by the pass before, if that may be and the name is not of SET; in passes before the last one a name may be 0.
abbrev pub later_value : Bool → Bool → Option Definition → Option ℤ
later_value is_from_above is_last None = if not is_from_above && not is_last then Some (pos 0) else None
later_value is_from_above is_last (Some later) = if not is_from_above && not later.is_set then later.value else None

abbrev pub value_by : Bool → Bool → Option Definition → Option Definition → Option ℤ
value_by is_from_above is_last (Some seen) before = seen.value
value_by is_from_above is_last None before = later_value is_from_above is_last before

abbrev pub symbol_value : Bool → Bool → Option Symbol → Option ℤ
symbol_value is_from_above is_last None = later_value is_from_above is_last None
symbol_value is_from_above is_last (Some symbol) = value_by is_from_above is_last symbol.seen symbol.before

-- What a name stands for.
unfoldable pub name_value : Symbols → Bool → Bool → List ℕ → Option ℤ
name_value symbols is_from_above is_last name = symbol_value is_from_above is_last (meant symbols name)

-- The number of a definition that is found, if it has one.
abbrev pub value_in : Result Definition Stop → Option ℤ
value_in (Ok definition) = definition.value
value_in (Err stop) = None
