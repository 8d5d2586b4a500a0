use Rattle.std.proofs.Common.{rules, ◌∙◌, ap, ◌++◌, take, ◌≡◌, sym}
use Rattle.pp_step.specs.Codes.{number_of}
use Rattle.pp_step.specs.declared.code.Code.TheVariants.{Rjm}
use Rattle.pp_origins.specs.Rows.{row_of}
use Rattle.pp_origins.specs.Links.{links_of}
use Rattle.pp_origins.proofs.rows.put_row.Goals as goal

pub returns-in-Rjm-clause-items : goal.returns-in-Rjm-clause-items
returns-in-Rjm-clause-items c =
    let is : c.args.code ≡ Rjm = search rules in
    c.return_jump.ensures.items
    ∙ ap (λ k. take c.args.used c.args.links.now ++ links_of ((row_of (number_of k)).origins c.args.c.now)) (sym is)
