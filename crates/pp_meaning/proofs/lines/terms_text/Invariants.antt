use Rattle.std.proofs.Common.{◌≡◌, take}
use Rattle.std.specs.List.{flat_map}
use Rattle.pp_meaning.specs.Lines.{term_text}
use Rattle.pp_meaning.specs.Qualifiers.{names_in}
use Rattle.pp_meaning.proofs.lines.terms_text.Given as goal

abbrev pub invariant-loop-term : goal.invariant-loop-term
invariant-loop-term l = l.out.items ≡ flat_map (term_text (names_in l.scope)) (take l.term-index l.terms)
