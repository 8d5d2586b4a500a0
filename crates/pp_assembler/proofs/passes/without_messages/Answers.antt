use Rattle.std.proofs.Common.{rules, ◌≡◌, IfSome, Option, Some, None, List, []}
use Rattle.pp_decks.specs.declared.places.Complaint.{Complaint}
use Rattle.pp_assembler.specs.declared.program.Performed.{Performed}
use Rattle.pp_assembler.proofs.passes.without_messages.Goals as goal

with_none : (P : Performed → Type 0) (messages : List Complaint) (found : Option Performed) → messages ≡ [] → IfSome found P →
    IfSome found (λ performed. P performed × (messages ≡ []))
with_none P messages None none meant = meant
with_none P messages (Some performed) none meant = (meant, none)

pub returns-clause-meaning : goal.returns-clause-meaning
returns-clause-meaning c = λ found. (
  with_none _ _ _ (search rules) (c.made_by-program.ensures.meaning c.args.read.lines c.args.scope.output.rows.items
      c.args.scope.output.systems.items found),
  c.made_by-program.ensures.nothing,
)
