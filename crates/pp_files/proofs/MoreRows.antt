-- One more row of a deck or a panel.
use Rattle.std.proofs.Common.{◌≡◌, ◌-◌, ◌<◌, List, [], ◌∷◌, ◌++◌, ap, arith, length, drop, map, sym, replicate, All}
use Rattle.std.proofs.lemmas.{Grind.common_steps, List.append-nil, List.drop-replicate, List.map-append, List.Folds.concat-append}
use Rattle.std.specs.List.{concat}
use Rattle.std.proofs.lemmas.List.Elements.{All-append, All-replicate}
use Rattle.pp_files.specs.{Inner.Loading.card_of_row, Rows.Row}

-- a row in the first columns of a card of zeros
pub card-front : (row : Row) → row ++ drop (length row) (replicate 80 0) ≡ card_of_row row
card-front row = ap (λ rest. row ++ rest) (drop-replicate (length row) 80 0)

-- a card of small numbers
pub card-within : (row : Row) → All (λ value. value < 4096) row → All (λ value. value < 4096) (card_of_row row)
card-within row small = All-append (λ value. value < 4096) row (replicate (80 - length row) 0) small
    (All-replicate (λ value. value < 4096) (80 - length row) 0 (omega arith))

-- a deck with one more card
pub deck-more : (rows : List Row) (row : Row) → map card_of_row rows ++ card_of_row row ∷ [] ≡ map card_of_row (rows ++ row ∷ [])
deck-more rows row = sym (map-append card_of_row rows (row ∷ []))

-- a panel with the words of one more row
pub panel-more : (rows : List Row) (row : Row) → concat rows ++ row ≡ concat (rows ++ row ∷ [])
panel-more rows row = grind (arith, common_steps, concat-append rows (row ∷ []))

-- what one more row needs
pub ruleset rows = (common_steps, card-front, card-within, deck-more, panel-more)
