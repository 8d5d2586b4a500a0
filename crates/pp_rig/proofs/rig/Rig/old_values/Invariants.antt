use Rattle.pp_rig.proofs.Names.{◌≡◌, take, array_vec_len, old_values, write_list, AreSettings}
use Rattle.pp_rig.proofs.rig.Rig.old_values.Given as goal

abbrev pub invariant-loop-pair : goal.invariant-loop-pair
invariant-loop-pair g l = record {
  count : array_vec_len l.old_values ≡ l.pair-index;
  old_values : write_list l.old_values.items ≡ old_values l.self (write_list (take l.pair-index l.list));
  settings : AreSettings l.self.setup.central_words (write_list l.old_values.items);
}
