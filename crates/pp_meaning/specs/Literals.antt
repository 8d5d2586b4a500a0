-- Words that operands name by what they are.
use Rattle.std.specs.Prelude.{ℕ, ◌+◌, ◌==◌, ◌&&◌, Bool, true, false, Option, Some, None}
use Rattle.std.specs.Prelude.{List, [], ◌∷◌, bytes_eq, length, if◌then◌else◌}
use Rattle.std.specs.List.{flat_map}
use Rattle.pp_meaning.specs.declared.expressions.Literal.{Literal}

abbrev pub has_words : List ℕ → Literal → Bool
has_words words literal = bytes_eq literal.words.items words

-- The index of the first literal with these words, counted from one on.
abbrev pub index_from : ℕ → List Literal → List ℕ → Option ℕ
index_from index [] words = None
index_from index (literal ∷ literals) words = if has_words words literal then Some index else index_from (index + 1) literals words

abbrev pub index_of : List Literal → Option (List ℕ) → Option ℕ
index_of literals None = None
index_of literals (Some words) = index_from 0 literals words

abbrev pub is_at : ℕ → Option Literal → Bool
is_at address None = false
is_at address (Some literal) = literal.address == address

-- Literals follow one another.
abbrev pub are_placed : ℕ → List Literal → Bool
are_placed address [] = true
are_placed address (literal ∷ literals) = literal.address == address && are_placed (address + length literal.words.items) literals

abbrev pub words_of_literals : List Literal → List ℕ
words_of_literals literals = flat_map (λ literal. literal.words.items) literals
