-- What holds of every device, from the laws of its own numbers.
use Rattle.std.specs.{Cmp.Derive.both_true, List.AllPairs}
use Rattle.std.proofs.Common.{eq-eqb, ℕ, ◌≡◌, ◌≢◌, ◌∙◌, Bool, true, false, if◌then◌else◌, ◌⊎◌, inl, inr, ap, refl, List}
use Rattle.std.proofs.Common.{set}
use Rattle.std.proofs.lemmas.List.{set-set, set-get_or}
use Rattle.pp_machine.proofs.Prelude.{IsAttached, of_device, with_channels, Machine, over, old_values, number, put, Has, HasAll}
use Rattle.pp_machine.proofs.Prelude.{same_place, ChannelNumbers, with_channel, DeviceModel, DevicePlace, DeviceView, AtOwn}
use Rattle.pp_machine.proofs.Prelude.{AtState, AtWord, device_place, number_at, device_old_values, over_device, place_at, put_at}
use Rattle.pp_machine.proofs.Prelude.{view_of, with_view, AllPlaces-renamed, Commute, IsStore, old_values-renamed}
use Rattle.pp_machine.proofs.Prelude.{over-renamed, places-old_values, undone-by-old-values, AllPlaces, Writes, places, renamed}
use Rattle.pp_machine.proofs.{Prelude.Place, Prelude.ChannelMode, Prelude.ChannelWord, Prelude.Slot, Once.each-once, Once.once}

-- ---- single writes, and how the old values undo a step

module _ {Numbers Own Record : Type 0} (d : DeviceModel Numbers Own Record) (store : IsStore Numbers Own d.number d.put) where
  abbrev with_device : DeviceView Numbers → Numbers → DeviceView Numbers
  with_device s n = record s { device = n }

  apart-at : (x y : DevicePlace Own) → (x ≡ y) ⊎ Commute (put_at d.put) x y
  apart-at (AtOwn x) (AtOwn y) =
      elim (store.apart x y) [
        | inl e ↦ inl (ap AtOwn e)
        | inr commute ↦ inr (λ s n k. ap (with_device s) (commute s.device n k))
      ]
  apart-at AtState AtState = inl refl
  apart-at AtWord AtWord = inl refl
  apart-at x y = inr (λ s n k. refl)

  again-at : (s : DeviceView Numbers) (x : DevicePlace Own) (n k : ℕ) → put_at d.put (put_at d.put s x n) x k ≡ put_at d.put s x k
  again-at s (AtOwn x) n k = ap (with_device s) (store.again s.device x n k)
  again-at s x n k = refl

  own-at : (s : DeviceView Numbers) (x : DevicePlace Own) → put_at d.put s x (number_at d.number s x) ≡ s
  own-at s (AtOwn x) = ap (with_device s) (store.own s.device x)
  own-at s x = refl

  -- the record of a step leads back to the state before it
  pub led_back : (old new : DeviceView Numbers) (w r : Writes (DevicePlace Own)) →
      new ≡ over_device d old w → r ≡ device_old_values d old w → over_device d new r ≡ old
  led_back old new w r step named =
      rw (step, named) (undone-by-old-values (DeviceView Numbers) (DevicePlace Own) (number_at d.number)
      (put_at d.put) (record { apart = apart-at; again = again-at; own = own-at }) old w)

-- a record of the old values of a write list has the places of that list
pub old_places : {Numbers Own Record : Type 0} (d : DeviceModel Numbers Own Record) (s : DeviceView Numbers)
    (w r : Writes (DevicePlace Own)) → r ≡ device_old_values d s w → places r ≡ places w
old_places d s w r named = ap (λ pairs. places pairs) named ∙ places-old_values (number_at d.number) s w

-- ---- write lists that write no place twice, and only places that the machine has

pub same-self : (p : Place) → same_place p p ≡ true
same-self Slot = refl
same-self _ = search (eq-eqb, both_true)

module _ {Own : Type 0} (name : Own → Place) (size c : ℕ) where
  abbrev same_at : DevicePlace Own → DevicePlace Own → Bool
  same_at x y = same_place (place_at name c x) (place_at name c y)

  pub record IsSound (w : Writes (DevicePlace Own)) : Type 0 where
    pub single : once same_at w ≡ true
    pub has : AllPlaces (λ x. Has size (place_at name c x)) w

  pub sound : (w : Writes (DevicePlace Own)) → once same_at w ≡ true → AllPlaces (λ x. Has size (place_at name c x)) w → IsSound w
  sound w single has = record { single = single; has = has }

  pub sound-if : (b : Bool) (x y : Writes (DevicePlace Own)) → (b ≡ true → IsSound x) → IsSound y → IsSound (if b then x else y)
  sound-if true x y h k = h refl
  sound-if false x y h k = k

  pub sound-has : (w : Writes (DevicePlace Own)) → IsSound w → HasAll size (renamed (place_at name c) w)
  sound-has w h = AllPlaces-renamed (place_at name c) (Has size) w h.has

  pub sound-once : (w : Writes (DevicePlace Own)) → IsSound w → AllPairs (λ one other. one ≢ other) (places w)
  sound-once w h = each-once same_at (λ x. same-self (place_at name c x)) w h.single

-- ---- a device in the machine

abbrev with_modes : ChannelNumbers → List ℕ → ChannelNumbers
with_modes channels states = record channels { states = states }

abbrev with_words : ChannelNumbers → List ℕ → ChannelNumbers
with_words channels registers = record channels { registers = registers }

module _ {Numbers Own Record : Type 0} (d : DeviceModel Numbers Own Record) (laws : IsAttached d) (m : Machine) (c : ℕ) where
  put-with_view : (s : DeviceView Numbers) (p : DevicePlace Own) (v : ℕ) →
      with_view d m c (put_at d.put s p v) ≡ put (with_view d m c s) (device_place d c p) v
  put-with_view s (AtOwn x) v = laws.put_named _ (d.channel m.setup) s.device x v
  put-with_view s AtState v = let channels = with_channel m.channels c s.state s.word in
      let before = with_channels m channels in
      cc (
        laws.channels before (d.channel m.setup) s.device,
        laws.apart before (d.channel m.setup) s.device (with_modes channels (set channels.states c v)),
        set-set m.channels.states c s.state v,
      )
  put-with_view s AtWord v = let channels = with_channel m.channels c s.state s.word in
      let before = with_channels m channels in
      cc (
        laws.channels before (d.channel m.setup) s.device,
        laws.apart before (d.channel m.setup) s.device (with_words channels (set channels.registers c v)),
        set-set m.channels.registers c s.word v,
      )

  with_view-same : with_view d m c (view_of d c m) ≡ m
  with_view-same = rw (set-get_or m.channels.states c 0, set-get_or m.channels.registers c 0) (laws.same m)

  -- the device's writes are writes of the machine
  pub lifted : (s : DeviceView Numbers) (w : Writes (DevicePlace Own)) →
      s ≡ over_device d (view_of d c m) w → with_view d m c s ≡ over m (renamed (device_place d c) w)
  lifted s w e = cc (
    over-renamed (put_at d.put) put (with_view d m c) (device_place d c) put-with_view (view_of d c m) w,
    with_view-same,
  )

  named-at : (p : DevicePlace Own) → number_at d.number (view_of d c m) p ≡ number m (device_place d c p)
  named-at (AtOwn x) = laws.number_named m x
  named-at AtState = refl
  named-at AtWord = refl

  -- and its old values are those of the machine
  pub lifted-old_values : (w : Writes (DevicePlace Own)) →
      renamed (device_place d c) (device_old_values d (view_of d c m) w) ≡ old_values m (renamed (device_place d c) w)
  lifted-old_values = old_values-renamed (number_at d.number) number (device_place d c) (view_of d c m) m named-at

-- a device's place and one that no device has
not_shared : (q p : Place) → of_device q ≡ true → of_device p ≡ false → same_place q p ≡ false
not_shared Slot Slot h k = absurd (cc)
not_shared _ Slot h k = cc
not_shared _ _ h k = cc

module _ {Numbers Own Record : Type 0} (d : DeviceModel Numbers Own Record) (laws : IsAttached d) where
  -- the device writes no watch entry
  pub watches-kept : (c : ℕ) (m : Machine) (p : DevicePlace Own) (v : ℕ) → (put m (device_place d c p) v).watches ≡ m.watches
  watches-kept c m (AtOwn x) v = let channel = d.channel m.setup in
      cc (laws.same m, laws.put_named m channel (d.get m) x v, laws.watches m channel (d.put (d.get m) x v))
  watches-kept c m AtState v = refl
  watches-kept c m AtWord v = refl

  -- a place that no device has
  pub not_at : (c : ℕ) (p : Place) → of_device p ≡ false → (x : DevicePlace Own) → same_place (device_place d c x) p ≡ false
  not_at c p e (AtOwn x) = not_shared (d.name x) p (laws.devices x) e
  not_at c p e AtState = not_shared (ChannelMode c) p refl e
  not_at c p e AtWord = not_shared (ChannelWord c) p refl e
