-- What is known of an admitted action.
use Rattle.pp_rig.proofs.Names.{arith, ◌≡◌, ◌≢◌, ◌<◌, true, false, None, common_steps, nat_tests, Machine, old_values, Has}
use Rattle.pp_rig.proofs.Names.{writes, old_values_of, most_places, set_list, AreSettings, AreSettings-cell_writes, first_fault}
use Rattle.pp_rig.proofs.Names.{watched_place, Watched, length-watched_in, Action, Turn}
use Rattle.pp_actions.specs.{WatchCodes.first_zero, Admitting.state_fault, Admitting.is_in_range, Watches.is_watched}
use Rattle.pp_actions.specs.{declared.action.Action.TheVariants.SetCells, declared.action.Action.TheVariants.Watch}
use Rattle.pp_actions.specs.{declared.action.Action.TheVariants.Unwatch, declared.action.Action.TheVariants.Deadstart}

no_fault : (m : Machine) (action : Action) → first_fault m action ≡ None →
    (is_in_range m.setup.central_words action ≡ true) × (state_fault m action ≡ None)
unfolding first_fault
no_fault m action h = grind arith

-- ---- an action that sets numbers

-- each number that it sets fits its place
pub settings_fit : (m : Machine) (done : Action) → first_fault m done ≡ None → AreSettings m.setup.central_words (set_list done)
settings_fit m (SetCells n a values) h = let ranges = (no_fault m (SetCells n a values) h).0 in
    AreSettings-cell_writes m.setup.central_words n a values (grind (arith, nat_tests, ranges))
    (grind (arith, common_steps, ranges))
settings_fit m done h = grind (arith, nat_tests, no_fault m done h)

-- it writes these numbers and nothing else
pub writes_settings : (m : Machine) (done : Action) → done ≢ Turn →
    ((w : Watched) → done ≢ Watch w) → ((w : Watched) → done ≢ Unwatch w) → done ≢ Deadstart →
    (writes m done ≡ set_list done) × (old_values_of m done ≡ old_values m (set_list done)) × (most_places done ≡ 8)
writes_settings m done turn watch unwatch start = grind arith

-- ---- a watch

pub record IsWatch (m : Machine) (w : Watched) : Type 0 where
  pub room : first_zero m.watches < 8
  pub present : Has m.setup.central_words (watched_place w)
  pub other : is_watched m w ≡ false

pub is_watch : (m : Machine) (w : Watched) → first_fault m (Watch w) ≡ None → (first_fault m (Watch w) ≡ None) × IsWatch m w
is_watch m w h = (h, grind (arith, nat_tests, length-watched_in, no_fault m (Watch w) h))

-- what performing an action of any kind needs
pub ruleset admitted = (settings_fit, writes_settings, is_watch)
