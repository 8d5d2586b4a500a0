-- What a line takes from a deck.
use Rattle.std.proofs.Common.{◌≡◌, ◌∙◌, ℕ, List, Option, Some, drop, ap, sym}
use Rattle.pp_decks.specs.Decks.{first_named}
use Rattle.pp_decks.specs.declared.decks.Deck.{Deck}
use Rattle.pp_decks.specs.declared.lines.Line.{Line}
use Rattle.pp_decks.specs.declared.lines.Lines.{Lines}
use Rattle.pp_assembler.specs.Decks.{AreCopies, HasOne, IsReading, deck_lines, name_read}
use Rattle.pp_expansion.specs.declared.reading.Reading.{Reading}

has_one : {X : Type 0} (o : Option X) (x : X) (P : X → Type 0) → o ≡ Some x → P x → HasOne o P
has_one o x P same holds = rw same holds

pub reading_from : (lines : Lines) (decks : List Deck) (reading : Reading) (index : ℕ) (name : List ℕ) (found : Option ℕ)
    (own copies : List Line) → name ≡ name_read lines reading → found ≡ first_named name decks → found ≡ Some index →
    own ≡ deck_lines lines decks index → copies ≡ drop reading.first lines.all.items → AreCopies own copies →
    IsReading lines decks reading
unfolding IsReading
reading_from lines decks reading index name found own copies named first is own_is copies_are same =
    has_one (first_named (name_read lines reading) decks) index
    (λ i. AreCopies (deck_lines lines decks i) (drop reading.first lines.all.items))
    (ap (λ n. first_named n decks) (sym named) ∙ sym first ∙ is)
    (rw (sym own_is, sym copies_are) same)
