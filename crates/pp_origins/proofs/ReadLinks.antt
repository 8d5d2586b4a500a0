-- The links of the numbers that are read, one after another.
use Rattle.std.proofs.Common.{◌≡◌, ◌∙◌, ℕ, ◌+◌, ◌-◌, ◌<◌, List, ◌∷◌, ap, arith, drop, get_or, length}
use Rattle.std.proofs.lemmas.List.{drop_more, length-drop}
use Rattle.pp_machine.specs.declared.place.Place.{Place}
use Rattle.pp_origins.specs.Links.{link, read_links}
use Rattle.pp_origins.specs.declared.origin.{Operation.Operation, Read.Read}

pub read_links_more : (place : Place) (operation : Operation) (reads : List Read) (k : ℕ) (r : Read) → k < length reads →
    read_links place operation (drop k reads)
    ≡ link place operation (get_or reads k r) (length reads - 1 - k) ∷ read_links place operation (drop (k + 1) reads)
read_links_more place operation reads k r h =
    let rest = read_links place operation (drop (k + 1) reads) in
    rw (drop_more reads k r h)
    (ap (λ n. link place operation (get_or reads k r) n ∷ rest) (length-drop (k + 1) reads ∙ omega arith))
