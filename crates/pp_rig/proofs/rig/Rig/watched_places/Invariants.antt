use Rattle.pp_rig.proofs.Names.{◌≡◌, All, take, map, array_vec_len, Has, watched_place, watches_of}
use Rattle.pp_rig.proofs.rig.Rig.watched_places.Given as goal

abbrev pub invariant-loop-watched : goal.invariant-loop-watched
invariant-loop-watched l = record {
  items : l.places.items ≡ map watched_place (take l.watched-index (watches_of l.self));
  has_places : All (Has l.self.setup.central_words) l.places.items;
  len : array_vec_len l.places ≡ l.watched-index;
}
