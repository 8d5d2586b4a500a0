-- An admitted action writes only places that the machine has.
use Rattle.pp_rig.proofs.Names.{◌≡◌, ℕ, ◌+◌, ◌<◌, ◌≤◌, ◌==◌, Bool, List, [], ◌∷◌, drop, length, position, refl, subst, arith}
use Rattle.pp_rig.proofs.Names.{Option, Some, None, Machine, over, processor, no_processor, HasAll, setup-over, EachPart}
use Rattle.pp_rig.proofs.Names.{all-laws, each-append, HasAll-entries, writes, pp_of, processor_step, turn_parts, moved_up}
use Rattle.pp_rig.proofs.Names.{without_entry, set_list, HasAll-settings, first_fault, deadstart_writes, deadstart_write_list}
use Rattle.pp_rig.proofs.Names.{device_parts, end_parts, turn_writes, watch_code, Action, IsProcessor}
use Rattle.std.proofs.{Common.length-drop, Common.IfSome, lemmas.List.Quantifiers.position-Some}
use Rattle.pp_machine.proofs.Parts.{HasAll-parts}
use Rattle.pp_step.proofs.StepPlaces.{HasAll-step}
use Rattle.pp_rig.proofs.{Admitting.settings_fit, Admitting.is_watch, Deadstart.AreSettings-deadstart, Devices.by_models}
use Rattle.pp_rig.specs.{IsSetup.IsPanel, WellFormed.IsWellFormed}
use Rattle.pp_actions.specs.declared.action.Action.TheVariants as action

-- ---- a turn

HasAll-turn_writes : (s : Machine) → IsWellFormed s → HasAll s.setup.central_words (turn_writes s)
unfolding turn_writes
HasAll-turn_writes s ok =
    let size = s.setup.central_words in
    let s1 = over s (processor_step s) in
    let x = processor s s.slot in
    let stepped : IsProcessor x = ok.processors s.slot no_processor (omega (arith, ok.slot, ok.sizes.processors)) in
    let low : x.p < 4096 = omega (arith, stepped.p) in
    HasAll-parts size turn_parts s (subst (λ parts. EachPart (λ part m. HasAll size (part m)) parts s) by_models (
      HasAll-step size s.slot ok.slot (pp_of s.slot s) low stepped.cells ok.sizes.central,
      each-append (λ part m. HasAll size (part m)) device_parts end_parts s1
          (all-laws.writes_has size s1 (rw (setup-over s (processor_step s)) ok.setup.channels))
          (grind arith),
    ))

-- ---- watches

length-moved_up : (codes : List ℕ) → length (moved_up codes) ≤ length codes + 1
length-moved_up [] = omega arith
length-moved_up (code ∷ codes) = grind (arith, length-moved_up codes)

HasAll-without_entry : (size : ℕ) (test : ℕ → Bool) (entries : List ℕ) (found : Option ℕ) →
    position test entries ≡ found → length entries ≡ 8 → HasAll size (without_entry entries found)
HasAll-without_entry size test entries None e all = tt
HasAll-without_entry size test entries (Some i) e all = let within = (position-Some test entries i 0 e).0 in
    HasAll-entries size i (moved_up (drop (i + 1) entries))
    (omega (arith, within, all, length-moved_up (drop (i + 1) entries), length-drop (i + 1) entries))

-- ---- a dead start

HasAll-deadstart : (size : ℕ) (panel : Option (List ℕ)) → IfSome panel IsPanel → HasAll size (deadstart_writes panel)
HasAll-deadstart size None ok = tt
HasAll-deadstart size (Some panel) ok =
    HasAll-settings size (deadstart_write_list panel) (AreSettings-deadstart size panel ok.small)

-- ---- every action

pub written_places : (s : Machine) (done : Action) → IsWellFormed s →
    first_fault s done ≡ None → HasAll s.setup.central_words (writes s done)
written_places s action.Turn ok admitted = HasAll-turn_writes s ok
written_places s (action.Watch w) ok admitted = ((is_watch s w admitted).1.room, tt)
written_places s (action.Unwatch w) ok admitted =
    HasAll-without_entry s.setup.central_words (λ code. code == watch_code w) s.watches _ refl ok.sizes.watches
written_places s action.Deadstart ok admitted = HasAll-deadstart s.setup.central_words s.setup.panel ok.setup.panel
written_places s done ok admitted = HasAll-settings s.setup.central_words (set_list done) (settings_fit s done admitted)
