-- The name of the deck that a line reads, as it stands in the line.
use Rattle.std.specs.Prelude.{ℕ, ◌==◌, ◌||◌, Bool, not, if◌then◌else◌, List, [], Option, Some, None, codes, drop, take, position}
use Rattle.std.specs.List.{list_any, starts_with}
use Rattle.std.specs.Cmp.Lexicographic.{pointwise}
use Rattle.pp_notation.specs.Columns.{between}
use Rattle.pp_source.specs.declared.vocabulary.Vocabulary.{Vocabulary}

abbrev pub is_blank : ℕ → Bool
is_blank sign = sign == 32 || sign == 9

abbrev pub is_sign : ℕ → Bool
is_sign sign = not (is_blank sign)

-- A text from a place on, or up to it; if there is none, nothing and all.
abbrev pub from_place : List ℕ → Option ℕ → List ℕ
from_place text None = []
from_place text (Some at) = drop at text

abbrev pub up_to_place : List ℕ → Option ℕ → List ℕ
up_to_place text None = text
up_to_place text (Some at) = take at text

-- The first word of a text, and what begins with the next one.
abbrev pub first_word : List ℕ → List ℕ
first_word text = up_to_place text (position is_blank text)

abbrev pub after_blanks : List ℕ → List ℕ
after_blanks text = from_place text (position is_sign text)

abbrev pub next_word : List ℕ → List ℕ
next_word text = after_blanks (from_place text (position is_blank text))

-- A line from its label on, which is empty if the line has blanks in its first two columns.
abbrev pub from_label : List ℕ → List ℕ
from_label line = if starts_with ◌==◌ line (codes " ") then drop 1 line else line

-- XTEXT NAME and NAME XTEXT name a deck: the name is the label if no word follows.
abbrev pub named_by : List ℕ → List ℕ → List ℕ
named_by label [] = label
named_by label operand = first_word operand

-- The name of a deck in a statement, from its label on; none if its operation is another one.
abbrev pub name_in : List ℕ → List ℕ
name_in line =
    if pointwise ◌==◌ (first_word (next_word line)) (codes "XTEXT") then named_by (first_word line) (next_word (next_word line))
    else []

-- The name of a deck in a note: *CALL NAME.
abbrev pub name_called : List ℕ → List ℕ
name_called line = if starts_with ◌==◌ line (codes "*CALL ") then first_word (after_blanks (drop 6 line)) else []

-- The name of the deck that a line reads, or nothing. XTEXT reads none if a macro or OPSYN has given the word another meaning.
abbrev pub deck_name : Bool → List ℕ → List ℕ
deck_name taken line =
    if starts_with ◌==◌ line (codes "*") then name_called line else (if taken then [] else name_in (from_label line))

-- The operation of a line.
abbrev pub operation_in : List ℕ → List ℕ
operation_in line = first_word (next_word (from_label line))

-- Whether a word is one of some names.
abbrev pub is_one_of : List (List ℕ) → List ℕ → Bool
is_one_of names word = list_any (λ name. pointwise ◌==◌ name word) names

-- The name of a macro, or one that OPSYN has given to an operation.
abbrev pub is_macro : Vocabulary → List ℕ → Bool
is_macro words word = list_any (λ one. pointwise ◌==◌ (between words.text.items one.name.first one.name.end) word) words.macros.items

abbrev pub is_synonym : Vocabulary → List ℕ → Bool
is_synonym words word = list_any (λ one. pointwise ◌==◌ (between words.text.items one.name.first one.name.end) word) words.synonyms.items
