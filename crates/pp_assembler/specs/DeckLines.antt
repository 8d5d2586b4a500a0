-- The lines of common decks and of system texts.
use Rattle.std.specs.Prelude.{ℕ, ◌≡◌, ◌==◌, ◌+◌, ◌-◌, ◌<◌, ◌≤◌, ◌⊎◌, Bool, true, false, List, [], Some, codes, get_or, length, map, not, position, slice_get, take}
use Rattle.std.specs.Char.{to_ascii_uppercase}
use Rattle.std.specs.Cmp.Lexicographic.{pointwise}
use Rattle.pp_lines.specs.Lines.{lines}
use Rattle.pp_notation.specs.Columns.{between}
use Rattle.pp_decks.specs.Blanks.{BLANKS, is_among}
use Rattle.pp_decks.specs.Cuts.{AreCut, without_mark}
use Rattle.pp_decks.specs.declared.decks.Deck.{Deck}
use Rattle.pp_decks.specs.declared.decks.Text.{Text}
use Rattle.pp_decks.specs.declared.lines.Line.{Line}
use Rattle.pp_decks.specs.declared.lines.Lines.{Lines}
use Rattle.pp_assembler.specs.Naming.{from_place, up_to_place}

-- The first word of a line, between blanks of any kind.
abbrev pub is_space : ℕ → Bool
is_space symbol = is_among BLANKS symbol

abbrev pub without_blanks_before : List ℕ → List ℕ
without_blanks_before line = from_place line (position (λ symbol. not (is_space symbol)) line)

abbrev pub word_of : List ℕ → List ℕ
word_of line = up_to_place (without_blanks_before line) (position is_space (without_blanks_before line))

-- ENDX, in letters of either case, ends a deck.
abbrev pub is_endx : List ℕ → Bool
is_endx line = pointwise ◌==◌ (map to_ascii_uppercase (word_of line)) (codes "ENDX")

-- The first line with ENDX is before an index, or there is none and the index is that behind the last line.
pub record IsEnd (texts : List (List ℕ)) (end : ℕ) : Type 0 where
  pub ended : (end ≡ length texts) ⊎ (is_endx (get_or texts (end - 1) []) ≡ true)
  pub none_before : (at : ℕ) → at + 1 < end → is_endx (get_or texts at []) ≡ false

-- The lines that a deck has of a text: those up to ENDX, but for at most two before them, which may name it.
pub record IsDeckOf (all : Lines) (texts : List (List ℕ)) (own : List Line) : Type 0 where
  pub first : ℕ
  pub few : first ≤ 2
  pub end : ℕ
  pub is_end : IsEnd texts end
  pub cut : AreCut all (take end texts) first own

pub record HasDeck (all : Lines) (texts : List Text) (decks : List Deck) (at : ℕ) : Type 0 where
  pub text : Text
  pub deck : Deck
  pub given : slice_get texts at ≡ Some text
  pub read : slice_get decks at ≡ Some deck
  pub is : IsDeckOf all (lines (without_mark text.lines.now)) (between all.all.items deck.lines.first deck.lines.end)

abbrev pub AreDecksOf : Lines → List Text → List Deck → Type 0
AreDecksOf all texts decks = (at : ℕ) → at < length texts → HasDeck all texts decks at
