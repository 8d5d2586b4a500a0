use Rattle.std.proofs.Common.{rules, ◌≡◌, ℕ, IfSome, Option, Some, None, List, [], map}
use Rattle.pp_decks.specs.Places.{length_of}
use Rattle.pp_decks.specs.declared.places.Complaint.{Complaint}
use Rattle.pp_assembler.specs.declared.program.Performed.{Performed}
use Rattle.pp_assembler.specs.Meaning.{AreMessages}
use Rattle.pp_assembler.proofs.passes.with_messages.Goals as goal

with_said : (P : Performed → Type 0) (lengths : List ℕ) (before messages : List Complaint) (found : Option Performed) →
    AreMessages found lengths messages → IfSome found (λ performed. P performed × (before ≡ [])) →
    IfSome found (λ performed. P performed × (messages ≡ []))
with_said P lengths before messages None said meant = meant
with_said P lengths before messages (Some performed) said meant = (meant.0, said)

pub returns-clause-meaning : goal.returns-clause-meaning
returns-clause-meaning c = λ meant.
    (with_said _ (map length_of c.args.spans.now) c.args.made.messages.items _ _ (search rules) meant.0, meant.1)
