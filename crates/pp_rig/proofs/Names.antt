-- The names that the proofs of this crate cite, passed on from one place. Declares nothing.
pub use Rattle.std.proofs.Common.{◌++◌, ◌+◌, ◌-◌, ◌<◌, ◌==◌, ◌||◌, ◌∙◌, ◌∷◌, ◌≡◌, ◌≢◌, ◌≤◌, [], All, ap, arith, Bool, drop}
pub use Rattle.std.proofs.Common.{false, get_or, length, List, map, None, Option, position, refl, replicate, Some, subst, suc}
pub use Rattle.std.proofs.{Common.sym, Common.take, Common.true, Common.zero, Common.ℕ, lemmas.Bool.Decides.nat_tests}
pub use Rattle.std.proofs.{lemmas.Grind.common_steps, lemmas.List.get_or_read, lemmas.List.length-append}
pub use Rattle.arrayvec.specs.ArrayVec.{array_vec_len}
pub use Rattle.pp_history.specs.{Marks.covers, SessionLaws.machine_at, SessionValue.after_act, SessionValue.Moves}
pub use Rattle.pp_history.specs.{SessionValue.SessionValue, UndoRecord.whole_record, declared.marks.Marks.Marks}
pub use Rattle.pp_machine.specs.Prelude.{Has, HasAll, lookup, Machine, no_processor, number, old_values, over, places}
pub use Rattle.pp_machine.specs.Prelude.{places-old_values, processor, renamed, write_list, Writes}
pub use Rattle.pp_machine.proofs.{AllDevices.all-laws, Parts.both-performed, Parts.each-append, Parts.over-parts}
pub use Rattle.pp_machine.specs.{CentralSizes.words_of, Inner.AllDevices.all_model, Inner.Attached.of_device}
pub use Rattle.pp_machine.specs.{Inner.PartWrites.EachPart, NumberLaws.setup-over, WriteLaws.AllPlaces-append}
pub use Rattle.pp_machine.specs.{declared.place.Place.Place, declared.place.Place.TheVariants.WatchEntry}
pub use Rattle.pp_step.specs.{Exchange.frame_pairs, Step.pp_writes, View.pp_place, declared.record.PpRecord.TheVariants.Step}
pub use Rattle.pp_actions.proofs.Unwatching.{AreWatches-removed, HasAll-entries, length-with_entries, watch_changes}
pub use Rattle.pp_actions.proofs.WatchCodes.{AreWatches-push, length-watched_in, words_of-at_most}
pub use Rattle.pp_actions.specs.{CellLaws.AreSettings-cell_writes, Deadstart.deadstart_place_count, Deadstart.deadstart_writes}
pub use Rattle.pp_actions.specs.{Settings.AreSettings, Settings.HasAll-settings, Settings.set_list, Unwatching.moved_up}
pub use Rattle.pp_actions.specs.{Unwatching.without_entry, WatchCodes.watch_code, Watches.watched_place, Watches.watches_of}
pub use Rattle.pp_actions.specs.{WriteLists.cell_writes, WriteLists.writes_from, declared.action.Action.Action}
pub use Rattle.pp_actions.specs.{declared.action.Action.TheVariants.Turn, declared.watched.Watched.Watched}
pub use Rattle.pp_rig.specs.Inner.TurnRecords.{device_parts, devices_old_values, end_old_values, end_parts, rest_of_turn}
pub use Rattle.pp_rig.specs.{Inner.ActionRecords.before, Inner.ActionRecords.most_places, Inner.ActionRecords.old_values_of}
pub use Rattle.pp_rig.specs.{Inner.ActionRecords.writes, Inner.LiftLaws.IsMachine-over, Inner.Marks.marks_of}
pub use Rattle.pp_rig.specs.{Inner.RigView.machine_of, Inner.Short.unpacked, Inner.Short.whole_turn, Rules.rules}
pub use Rattle.pp_rig.specs.{Starting.blank_processor, Stopping.first_change, Stopping.hit_of, Stopping.turned, Turn.pp_of}
pub use Rattle.pp_rig.specs.{Turn.processor_step, Turn.turn_parts, WellFormed.IsProcessor, declared.rig.TurnRecord.TurnRecord}
pub use Rattle.pp_rig.specs.{declared.rig.TurnRest.TurnRest, declared.stopping.Hit.Hit, declared.stopping.Stopped.Stopped}
unfoldable pub use Rattle.pp_step.specs.Step.{pp_pairs}
unfoldable pub use Rattle.pp_actions.specs.{Admitting.first_fault, Deadstart.deadstart_write_list}
unfoldable pub use Rattle.pp_rig.specs.{Inner.TurnRecords.rest_pairs, Inner.TurnRecords.turn_pairs}
unfoldable pub use Rattle.pp_rig.specs.{Inner.TurnRecords.turn_writes, Stopping.after_turns, Stopping.stopped, Turn.turn}
