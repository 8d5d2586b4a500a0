-- Lists of links that are made part by part.
use Rattle.std.proofs.Common.{◌≡◌, Bool, true, false, if◌then◌else◌, [], ◌∷◌, ◌++◌, ap, sym, ◌∙◌, refl}
use Rattle.std.proofs.lemmas.List.{append_assoc}
use Rattle.pp_machine.proofs.PushedLists.{pushed_lists}
use Rattle.pp_origins.specs.Links.{links_of, links_of_one}
use Rattle.pp_origins.specs.Origin.{Origins}

pub links-append : (a b : Origins) → links_of (a ++ b) ≡ links_of a ++ links_of b
links-append [] b = refl
links-append (w ∷ a) b = ap (λ ls. links_of_one w.0 w.1.operation w.1.reads ++ ls) (links-append a b)
    ∙ sym (append_assoc (links_of_one w.0 w.1.operation w.1.reads) (links_of a) (links_of b))

pub links_if : (b : Bool) (x y : Origins) → links_of (if b then x else y) ≡ (if b then links_of x else links_of y)
links_if true x y = refl
links_if false x y = refl

pub ruleset link_lists = (pushed_lists)
