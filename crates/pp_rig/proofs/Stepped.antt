-- The parts of a turn: what each does to the machine, and what its undo record then has.
use Rattle.pp_rig.proofs.Names.{arith, ℕ, Bool, true, false, [], ◌∷◌, ◌<◌, ◌≡◌, ◌∙◌, refl, get_or, subst, sym, get_or_read, Machine}
use Rattle.pp_rig.proofs.Names.{all-laws, both-performed, all_model, setup-over, over, no_processor, Writes, renamed, Has, HasAll}
use Rattle.pp_rig.proofs.Names.{pp_pairs, pp_writes, pp_place, pp_of, processor_step, turn, AllPlaces-append, TurnRecord, TurnRest}
use Rattle.pp_rig.proofs.Names.{devices_old_values, end_old_values, end_parts, rest_of_turn, rest_pairs, turn_pairs}
use Rattle.pp_machine.proofs.Parts.{led_back, one-performed}
use Rattle.pp_machine.specs.{Inner.PartWrites.ArePerformed, Prelude.ProcessorNumbers, Prelude.put, WriteLaws.over-append}
use Rattle.pp_step.specs.{Step.IsStep, declared.record.PpRecord.PpRecord, View.PpPlace, View.PpView, View.over as over_pp}
use Rattle.pp_step.specs.{View.view_of as step_view, PpPlaces.HasAll-pp}
use Rattle.pp_rig.specs.Inner.LiftLaws.{with_pp, step-pp, record-pp, has_processor, IsMachine-with_pp}
use Rattle.pp_rig.specs.{Inner.IsMachine.IsMachine, IsSetup.IsSetup, Inner.Short.IsTurned, Inner.TurnRecords.FitsRest}
use Rattle.pp_rig.specs.{Inner.TurnRecords.FitsTurn, Inner.TurnRecords.IsSlotStep, Inner.TurnRecords.turn_old_values}
use Rattle.pp_rig.proofs.{Devices.by_models, Overwritten.at_most-turn}

-- processor n, as it is read from the list, and as it is put back
module _ (m : Machine) (n : ℕ) (x : ProcessorNumbers) (ok : IsMachine m)
    (in_slot : n < 10) (read : x ≡ get_or m.processors n x) where
  seen : step_view x m.channels m.central m.frame ≡ pp_of n m
  seen = grind (arith, get_or_read m.processors n x (has_processor m n ok in_slot) read no_processor)

  module _ (part : PpView) (w : Writes PpPlace) (e : part ≡ over_pp (step_view x m.channels m.central m.frame) w) where
    pub IsMachine-over : IsMachine (with_pp m n part)
    IsMachine-over = grind (arith, seen, IsMachine-with_pp m n part w ok in_slot)

    pub slot-over : with_pp m n part ≡ over m (renamed (pp_place n) w)
    slot-over = grind (arith, seen, step-pp m n (has_processor m n ok in_slot) part w)

-- its step
module _ (m : Machine) (x : ProcessorNumbers) (new : PpView) (back : PpRecord)
    (ok : IsMachine m) (read : x ≡ get_or m.processors m.slot x) where
  abbrev stepped : Type 0
  stepped = IsStep (step_view x m.channels m.central m.frame) new back

  pub IsMachine-stepped : stepped → IsMachine (with_pp m m.slot new)
  IsMachine-stepped e = IsMachine-over m m.slot x ok ok.slot read new (pp_writes (step_view x m.channels m.central m.frame)) e.step

  pub slot-stepped : stepped → IsSlotStep m (with_pp m m.slot new) back
  slot-stepped e =
      let here = rw (seen m m.slot x ok ok.slot read) at e in
      let writes = pp_writes (pp_of m.slot m) in
      let step = step-pp m m.slot (has_processor m m.slot ok ok.slot) new writes in
      grind (arith, step, record-pp m m.slot writes, here, IsMachine-stepped e)

  -- a step that is performed, or that changes nothing
  pub IsMachine-short : (done : Bool) → (done ≡ true → stepped) →
      (done ≡ false → new ≡ step_view x m.channels m.central m.frame) → IsMachine (with_pp m m.slot new)
  IsMachine-short true step same = IsMachine-stepped (step refl)
  IsMachine-short false step same = subst IsMachine (sym (slot-over m m.slot x ok ok.slot read new [] (same refl))) ok

-- ---- the rest of a turn: devices, clock and slot

-- undone, the end first
pub rest_undone : (r : TurnRest) (s : Machine) → over s (rest_pairs r) ≡ over (over s (end_old_values r)) (devices_old_values r)
unfolding rest_pairs
rest_undone r s = over-append put s (devices_old_values r) (end_old_values r)

-- the first part of the conclusion is there for `grind`, which looks for it
pub rest_fits : (m new : Machine) (back : TurnRest) → ArePerformed end_parts m new (end_old_values back) → back.slot < 10 →
    (back.slot ≡ 9 → back.clock < 4096) → (back.are_devices_called ≡ true → all_model.Fits back.devices m) →
    ArePerformed end_parts m new (end_old_values back) × FitsRest back new
rest_fits m new back ended in_slot in_clock devices =
    grind (arith, led_back end_parts m new (end_old_values back) ended)

-- ---- a turn

-- the places of a turn's record are places of the machine
HasAll-turn : (r : TurnRecord) (s : Machine) → IsSetup s.setup → FitsTurn r s → HasAll s.setup.central_words (turn_pairs r)
unfolding turn_pairs rest_pairs
HasAll-turn r s ok f =
    let size = s.setup.central_words in
    let pp = HasAll-pp size r.rest.slot f.rest.slot r.pp f.pp in
    let devices = all-laws.pairs_has size r.rest.devices (over s (end_old_values r.rest)) in
    grind (arith, AllPlaces-append (Has size), pp, devices, setup-over s (end_old_values r.rest), ok.channels)

pub turned : (m m1 new : Machine) (r : TurnRecord) → IsSlotStep m m1 r.pp → ArePerformed rest_of_turn m1 new (rest_pairs r.rest) →
    FitsRest r.rest new → r.rest.slot ≡ m1.slot → new.setup ≡ m1.setup → IsMachine new → IsTurned m new r
unfolding turn turn_old_values turn_pairs
turned m m1 new r step rest fits slot setup ok =
    let first = one-performed processor_step m m1 _ step.step (rw (slot ∙ step.kept.slot) step.old_values) in
    let performed = subst (λ parts. ArePerformed parts m new (turn_pairs r)) by_models
    (both-performed (processor_step ∷ []) rest_of_turn m m1 new _ _ first rest) in
    let fits_turn : FitsTurn r new = record { rest = fits; pp = rw setup step.fits } in
    record {
      step = performed.step;
      old_values = performed.old_values;
      fits = record { part = fits_turn; shaped = ok.shaped; places = HasAll-turn r new ok.setup fits_turn };
      at_most = at_most-turn r step.at_most;
    }

-- undoing the parts, the processor's last, leads back to the machine before
pub turn-undone : (r : TurnRecord) (s s1 s0 : Machine) → s1 ≡ over s (rest_pairs r.rest) →
    s0 ≡ over s1 (renamed (pp_place r.rest.slot) (pp_pairs r.pp)) → s0 ≡ over s (turn_pairs r)
unfolding turn_pairs
turn-undone r s s1 s0 rest pp = simp (pp, rest, over-append)
