use Rattle.std.proofs.Common.{◌≡◌, ◌++◌, take}
use Rattle.pp_listing.specs.Texts.{complaint_lines}
use Rattle.pp_listing.proofs.forms.put_complaints.Given as goal

abbrev pub invariant-loop-complaint : goal.invariant-loop-complaint
invariant-loop-complaint l = l.out.items ≡ l.initial.out.items ++ complaint_lines (take l.complaint-index l.complaints)
