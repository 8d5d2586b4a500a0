use Rattle.pp_rig.proofs.Names.{arith, common_steps, watch_changes, AreWatches-removed, HasAll-entries, length-with_entries}
use Rattle.pp_rig.proofs.Names.{words_of-at_most}
use Rattle.pp_rig.proofs.rig.Rig.unwatch.Goals as goal

pub invariant_of-self : goal.invariant_of-self
invariant_of-self c = let at_most = words_of-at_most c.self.inside.central_size in
    grind (arith, watch_changes, AreWatches-removed _ c.self.inside.watches c.in-Some.i at_most c.self.invariant.watches)

pub returns-clause-fits : goal.returns-clause-fits
returns-clause-fits c = record {
  part = grind (arith);
  shaped = grind (arith, length-with_entries);
  places = HasAll-entries _ c.in-Some.i _ (grind (arith, common_steps));
}
