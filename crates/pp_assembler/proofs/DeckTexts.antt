-- The lines that a deck has of a text.
use Rattle.std.proofs.Common.{◌≡◌, ◌∙◌, ℕ, ◌+◌, ◌<◌, ◌⊎◌, Bool, false, List, [], Some, inl, inr, map, length, get_or, take, ap, sym, subst, arith}
use Rattle.std.proofs.lemmas.List.{take-map}
use Rattle.std.proofs.lemmas.Option.{slice_get-get_or}
use Rattle.std.proofs.Math.Nat.{eq-or-lt_of_le}
use Rattle.std.proofs.lemmas.Grind.{common_steps}
use Rattle.pp_lines.specs.Lines.{lines}
use Rattle.pp_notation.specs.Columns.{between}
use Rattle.pp_decks.specs.Cuts.{AreCut, without_mark}
use Rattle.pp_decks.specs.declared.decks.Deck.{Deck}
use Rattle.pp_decks.specs.declared.decks.Text.{Text}
use Rattle.pp_decks.specs.Places.{text_in}
use Rattle.pp_decks.specs.declared.lines.Line.{Line}
use Rattle.pp_decks.specs.declared.lines.Lines.{Lines}
use Rattle.pp_decks.specs.declared.spans.Span.{Span}
use Rattle.pp_assembler.specs.DeckLines.{HasDeck, IsDeckOf, is_endx}

text_at : (source : List ℕ) (spans : List Span) (at : ℕ) (none : Span) → at < length spans →
    get_or (map (text_in source) spans) at [] ≡ text_in source (get_or spans at none)
text_at source spans at none within = grind (arith, common_steps)

-- whether the line at an index has ENDX
pub endx_at : (source : List ℕ) (spans : List Span) (at : ℕ) (none : Span) (text : List ℕ) (right expected : Bool) → at < length spans →
    text ≡ text_in source (get_or spans at none) → right ≡ is_endx text → right ≡ expected →
    is_endx (get_or (map (text_in source) spans) at []) ≡ expected
endx_at source spans at none text right expected within text_is right_is same =
    ap is_endx (text_at source spans at none within) ∙ ap is_endx (sym text_is) ∙ sym right_is ∙ same

none_of : (texts : List (List ℕ)) (next at : ℕ) → ((k : ℕ) → k < next → is_endx (get_or texts k []) ≡ false) →
    is_endx (get_or texts next []) ≡ false → (at ≡ next) ⊎ (at < next) → is_endx (get_or texts at []) ≡ false
none_of texts next at before last (inl same) = rw same last
none_of texts next at before last (inr below) = before at below

pub none_next : (texts : List (List ℕ)) (next at : ℕ) → ((k : ℕ) → k < next → is_endx (get_or texts k []) ≡ false) →
    is_endx (get_or texts next []) ≡ false → at < next + 1 → is_endx (get_or texts at []) ≡ false
none_next texts next at before last below = none_of texts next at before last (eq-or-lt_of_le (omega (arith, below)))

-- the lines up to an index
pub cut_of_taken : (lines : Lines) (source : List ℕ) (spans own_spans : List Span) (end first : ℕ) (own : List Line) →
    own_spans ≡ take end spans → AreCut lines (map (text_in source) own_spans) first own →
    AreCut lines (take end (map (text_in source) spans)) first own
cut_of_taken lines source spans own_spans end first own same cut =
    subst (λ texts. AreCut lines texts first own) (ap (map (text_in source)) same ∙ sym (take-map (text_in source) end spans)) cut

-- the deck of a text
pub has_deck_at : (all : Lines) (texts : List Text) (decks : List Deck) (at : ℕ) (none : Text) (no_deck deck : Deck) → at < length texts →
    at < length decks → deck ≡ get_or decks at no_deck →
    IsDeckOf all (lines (without_mark (get_or texts at none).lines.now)) (between all.all.items deck.lines.first deck.lines.end) →
    HasDeck all texts decks at
has_deck_at all texts decks at none no_deck deck given kept same is = record {
  text = get_or texts at none;
  deck = deck;
  given = slice_get-get_or texts at none given;
  read = slice_get-get_or decks at no_deck kept ∙ ap Some (sym same);
  is = is;
}
