-- The names that the proofs of this crate cite, passed on from one place. Declares nothing.
pub use Rattle.std.proofs.Common.{reverse, add-one, Option, Some, None, slice_get, ◌≡◌, ℕ, zero, suc, ◌+◌, ◌-◌, ◌<◌, ◌≤◌, List, []}
pub use Rattle.std.proofs.Common.{◌∷◌, ◌++◌, length, take, drop, refl, ◌∙◌, ap, arith, drop-cons, IfSome, IsNone, ◌*◌, min, set}
pub use Rattle.std.proofs.Common.{Vec, Global, get_or, inl, inr, sym, length-drop, append_assoc, IsSomeAnd, ◌/◌, ◌%◌, sub-one, true}
pub use Rattle.std.proofs.Common.{false, rules}
pub use Rattle.std.proofs.lemmas.List.{reverse-append, length-take, length-append, length-reverse, length-set, take_all, drop_all}
pub use Rattle.std.proofs.lemmas.List.{append-nil, take-append-le, take-set, drop-set, drop-append-le, drop-drop, take-append-drop}
pub use Rattle.std.{proofs.Math.Seq.take-suc, proofs.Math.Seq.take-add, proofs.lemmas.Option.get_or_from_slice_get}
pub use Rattle.std.{proofs.lemmas.Option.slice_get-get_or, proofs.lemmas.Option.slice_get_within}
pub use Rattle.std.{proofs.lemmas.Option.slice_get_read, specs.Option.option_map, specs.Option.option_copied}
pub use Rattle.std.{proofs.lemmas.Bool.cases_lt, proofs.lemmas.Grind.flat_map-append, proofs.lemmas.Grind.common_steps}
pub use Rattle.std.{proofs.ByRecursion.All-get_or, proofs.ByRecursion.All-take, proofs.ByRecursion.All-drop}
pub use Rattle.std.{proofs.ByRecursion.All-push, specs.List.AllByRecursion, specs.List.flat_map, proofs.Math.Nat.div-add-mod}
pub use Rattle.std.{proofs.lemmas.List.Concat.get_or-flat_map}
pub use Rattle.circular_buffer.proofs.Places.{slice_get-append_left, slice_get-append_right, slice_get-drop, slice_get-take}
pub use Rattle.circular_buffer.specs.Buffer.{Buffer, buffer}
pub use Rattle.pp_history.specs.Joining.{IsNext, IsSide, first_of, left_by, joined, kept_in, IsActed, IsJoined, ahead_in}
pub use Rattle.pp_history.specs.Joining.{contents_with}
pub use Rattle.pp_history.specs.SessionValue.{SessionValue, fresh, after_back, after_forward, replay, AreNewest, LeadsBack}
pub use Rattle.pp_history.specs.SessionValue.{AdmitsInTurn, IsAt, after_act, Moves, performed, put_back}
pub use Rattle.pp_history.specs.{Parts.IsSession, Parts.contents_of, Parts.halves_in, Tails.IsKept, Tails.in_tail, Tails.pushed}
pub use Rattle.pp_history.specs.{declared.tails.Tail.Tail, declared.tails.Tails.Tails, Heads.IsHeads, Heads.IsSame, Heads.Halves}
pub use Rattle.pp_history.specs.{Heads.halves, Heads.behind, Heads.before, Heads.others_in, declared.heads.Heads.Heads}
pub use Rattle.pp_history.specs.{declared.log.Log.Log, declared.reversible.Reversible.Ghosts, Contents.Contents, Contents.contents}
pub use Rattle.pp_history.specs.{SessionLaws.replayed, Marks.IsUnmarked, Repeating.AreActed, Repeating.AreUnmarked}
pub use Rattle.pp_history.specs.{Repeating.machine_after}
unfoldable pub use Rattle.pp_history.specs.Repeating.{after_acts}
pub use Rattle.pp_history.specs.{declared.marks.Marks.Marks, Change.differ, Change.change_in, Change.IsLeastChange, Change.change}
pub use Rattle.pp_history.specs.{UndoRecord.whole_action, UndoRecord.whole_record}
pub use Rattle.pp_history.specs.Redoing.{AreReady, AreRedone}
pub use Rattle.pp_history.specs.Undoing.{AreFitting, AreUndone, IsUndone}
pub use Rattle.std.specs.Vec.{with_item, with_items}
pub use Rattle.std.proofs.lemmas.List.{with_items_is}
