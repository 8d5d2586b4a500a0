use Rattle.std.proofs.Common.{rules, ◌∙◌, ap, ◌++◌, ◌∷◌, [], take, nat_lt, ◌≡◌, true, sym, if◌then◌else◌}
use Rattle.std.proofs.lemmas.{Bool.Decides.nat_tests}
use Rattle.pp_machine.specs.declared.place.Place.TheVariants.{Central, RegP}
use Rattle.pp_origins.specs.Rows.{joined, jump, next1}
use Rattle.pp_origins.specs.Links.{links_of}
use Rattle.pp_origins.proofs.rows.cells_to_central.Goals as goal

pub returns-then-c-clause-items : goal.returns-then-c-clause-items
returns-then-c-clause-items c =
    let there : nat_lt c.args.c.now.a c.args.c.now.size ≡ true = search (rules, nat_tests) in
    c.cells_to_word.ensures.items ∙ ap (λ b. take c.args.used c.args.links.now ++ links_of (if b
    then (RegP c.args.c.now.pp, next1 c.args.c.now) ∷ (Central c.args.c.now.a, joined c.args.c.now.d c.args.c.now) ∷ []
    else jump next1 c.args.c.now)) (sym there)
