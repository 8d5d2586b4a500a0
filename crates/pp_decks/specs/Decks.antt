-- The common decks of a source.
use Rattle.std.specs.Prelude.{ℕ, ◌≡◌, ◌==◌, Bool, List, Option, map}
use Rattle.std.specs.Char.{to_ascii_uppercase}
use Rattle.std.specs.List.{position}
use Rattle.std.specs.Cmp.Lexicographic.{pointwise}
use Rattle.pp_decks.specs.declared.decks.Deck.{Deck}
use Rattle.pp_decks.specs.declared.decks.Text.{Text}

abbrev pub name_of : Deck → List ℕ
name_of deck = deck.name.items

-- Whether a deck has a name, in capitals.
abbrev pub is_named : List ℕ → Deck → Bool
is_named name deck = pointwise ◌==◌ (name_of deck) name

-- The index of the first deck with a name.
abbrev pub first_named : List ℕ → List Deck → Option ℕ
first_named name decks = position (is_named name) decks

-- The name of a text, in capitals.
abbrev pub capitals_of : Text → List ℕ
capitals_of text = map to_ascii_uppercase text.name.now

-- The decks are those of some texts, in their order.
abbrev pub AreOf : List Text → List Deck → Type 0
AreOf texts decks = map name_of decks ≡ map capitals_of texts
