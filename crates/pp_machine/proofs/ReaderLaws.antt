-- The laws of the card reader.
use Rattle.std.proofs.Common.{ℕ, [], ◌≡◌, ◌≢◌, ◌≤◌, ◌<◌, length, refl, arith, unwrap_or}
use Rattle.std.specs.List.{AllPairs}
use Rattle.pp_machine.proofs.Prelude.{IsAttached, IsDevice, device_old_values, number-over, Machine, Writes, over, number, lookup}
use Rattle.pp_machine.proofs.Prelude.{renamed, places, Has, HasAll, IsShaped, Place}
use Rattle.pp_machine.specs.Inner.Reader.{ReaderPlace, ReaderView, Card, Column, Mode, name_own, reader_model, reader_pairs}
use Rattle.pp_machine.specs.{Inner.Reader.reader_place, Inner.Reader.reader_writes, declared.reader.ReaderRecord.ReaderRecord}
use Rattle.pp_machine.proofs.DeviceLaws.{IsSound, old_places, sound, sound-has, sound-if, sound-once}

reader-attached : IsAttached reader_model
reader-attached = record {
  number_named = λ m. elim [ Card ↦ refl | Column ↦ refl | Mode ↦ refl ];
  put_named = λ m c n. elim [ Card ↦ λ v. refl | Column ↦ λ v. refl | Mode ↦ λ v. refl ];
  same = λ m. refl;
  got = λ m c n. refl;
  got_channel = λ m c n. refl;
  again = λ m c k n x. refl;
  channels = λ m c n. refl;
  apart = λ m c n channels. refl;
  watches = λ m c n. refl;
  devices = elim [ Card ↦ refl | Column ↦ refl | Mode ↦ refl ];
}

-- ---- the record of a step

pub reader_names : (r : ReaderRecord) (s : ReaderView) (w : Writes ReaderPlace) →
    reader_pairs r ≡ device_old_values reader_model s w → places (reader_pairs r) ≡ places w
reader_names r s w named = old_places reader_model s w (reader_pairs r) named

pub reader_few : (r : ReaderRecord) → length (reader_pairs r) ≤ 4
reader_few _ = grind arith

-- the places of a record are places of the machine
pub HasAll-reader : (size c : ℕ) (r : ReaderRecord) → c < 12 → HasAll size (renamed (reader_place c) (reader_pairs r))
HasAll-reader size c _ h = grind arith

pub reader_restores : (m : Machine) (c : ℕ) (r : ReaderRecord) (place : Place) → IsShaped m.setup.central_words m → c < 12 →
    number (over m (renamed (reader_place c) (reader_pairs r))) place
    ≡ unwrap_or (lookup (renamed (reader_place c) (reader_pairs r)) place) (number m place)
reader_restores m c r place shaped h =
    number-over m.setup.central_words m _ place shaped (HasAll-reader m.setup.central_words c r h)

-- ---- the write list of a step

module _ (size c : ℕ) (small : c < 12) where
  sound-step : (s : ReaderView) → IsSound name_own size c (reader_writes s)
  sound-step s = search (sound-if, sound) depth 20

  pub HasAll-reader_writes : (s : ReaderView) → HasAll size (renamed (reader_place c) (reader_writes s))
  HasAll-reader_writes s = sound-has name_own size c (reader_writes s) (sound-step s)

pub reader_distinct : (s : ReaderView) → AllPairs (λ one other. one ≢ other) (places (reader_writes s))
reader_distinct s = sound-once name_own 0 0 (reader_writes s) (sound-step 0 0 (omega arith) s)

-- ---- the device

-- a reader is its deck and its numbers
pub same-reader : (size : ℕ) (m m' : Machine) → ((p : Place) → Has size p → number m p ≡ number m' p) →
    m.reader.deck ≡ m'.reader.deck → m.reader ≡ m'.reader
same-reader size m m' each deck =
    λ i. record {
      deck = deck i;
      card = each (name_own Card) tt i;
      column = each (name_own Column) tt i;
      mode = each (name_own Mode) tt i;
    }

reader-idle : (s : ReaderView) → s.state ≡ 0 → reader_writes s ≡ []
reader-idle s e = rw e refl

pub reader-device : IsDevice reader_model
reader-device = record {
  attached = reader-attached;
  idle = reader-idle;
  writes_has = λ size c s small. HasAll-reader_writes size c small s;
  pairs_has = λ size c r s small fits. HasAll-reader size c r small;
  at_most = reader_few;
}
