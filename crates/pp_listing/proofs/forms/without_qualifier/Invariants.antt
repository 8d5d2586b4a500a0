use Rattle.std.proofs.Common.{◌≡◌, length}
use Rattle.pp_listing.specs.Texts.{unqualified}
use Rattle.pp_listing.proofs.forms.without_qualifier.Given as goal

abbrev pub invariant-loop-name : goal.invariant-loop-name
invariant-loop-name l = unqualified l.name ≡ unqualified l.key

abbrev pub decreases-loop-name : goal.decreases-loop-name
decreases-loop-name l = length l.name
