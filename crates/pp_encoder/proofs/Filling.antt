-- Cells of a memory of which a part has been collected.
use Rattle.std.proofs.Common.{◌≡◌, ◌∙◌, ℕ, suc, ◌+◌, ◌<◌, List, [], ◌∷◌, ◌++◌, Option, Some, None, length, drop, drop-cons, get_or}
use Rattle.std.proofs.Common.{append_assoc, add-one, ap, sym}
use Rattle.std.proofs.lemmas.List.{map-append}
use Rattle.pp_notation.specs.declared.program.Cell.{Cell}
use Rattle.pp_meaning.specs.Cells.{address_and_word, addressed, filled, word_at}

-- The words from an address on are the one there and those after it.
pub filled-step : (memory : List (Option ℕ)) (address : ℕ) (word : Option ℕ) → address < length memory →
    word ≡ get_or memory address None →
    filled address (drop address memory) ≡ word_at address word ++ filled (address + 1) (drop (address + 1) memory)
filled-step memory address word within is =
    rw (add-one address) (ap (filled address)
    (drop-cons memory address None within ∙ ap (λ w. w ∷ drop (suc address) memory) (sym is)))

-- a cell with a word
pub words-push : (cells : List Cell) (cell : Cell) (memory : List (Option ℕ)) (address word : ℕ) (all : List (ℕ × ℕ)) →
    cell.address ≡ address → cell.word ≡ word → address < length memory → Some word ≡ get_or memory address None →
    addressed cells ++ filled address (drop address memory) ≡ all →
    addressed (cells ++ cell ∷ []) ++ filled (address + 1) (drop (address + 1) memory) ≡ all
words-push cells cell memory address word all at is within here before =
    ap (λ l. l ++ filled (address + 1) (drop (address + 1) memory)) (map-append address_and_word cells (cell ∷ []))
    ∙ append_assoc (addressed cells) ((cell.address, cell.word) ∷ []) (filled (address + 1) (drop (address + 1) memory))
    ∙ ap (λ l. addressed cells ++ l)
    (ap (λ pair. pair ∷ filled (address + 1) (drop (address + 1) memory)) (ap (λ a. (a, cell.word)) at ∙ ap (λ w. (address, w)) is)
    ∙ sym (filled-step memory address (Some word) within here))
    ∙ before

-- a cell without a word
pub words-skip : (cells : List Cell) (memory : List (Option ℕ)) (address : ℕ) (all : List (ℕ × ℕ)) →
    address < length memory → None ≡ get_or memory address None →
    addressed cells ++ filled address (drop address memory) ≡ all →
    addressed cells ++ filled (address + 1) (drop (address + 1) memory) ≡ all
words-skip cells memory address all within here before =
    ap (λ l. addressed cells ++ l) (sym (filled-step memory address None within here)) ∙ before
