-- Every number that a device, the clock or the slot writes is made as its origin says, and the places that it wrote tell the
-- origins.
use Rattle.std.proofs.Common.{◌≡◌, ℕ, ◌+◌, ◌<◌, ◌==◌, ◌&&◌, Bool, true, false, if◌then◌else◌, ap, sym, refl, arith, length, nat_le}
use Rattle.std.proofs.Common.{nat_lt, Some, None, is_some, unwrap_or}
use Rattle.std.proofs.lemmas.{Bool.Decides.nat_tests}
use Rattle.pp_machine.specs.Machine.{Machine, has_function, is_in_state, lookup, number}
use Rattle.pp_machine.specs.{Printer.fit, Printer.printer_status, Printer.printer_step, Printer.word_writes}
use Rattle.pp_machine.specs.{PrinterNumbers.printer_mode_number, Reader.mode_at, Reader.reader_status, Reader.reader_step}
use Rattle.pp_machine.specs.{ReaderNumbers.reader_mode_number, Writes.Writes, declared.place.Place.Place}
use Rattle.pp_machine.specs.declared.channel.ChannelState.TheVariants.{Empty, Full}
use Rattle.pp_machine.specs.declared.place.Place.TheVariants.{ChannelWord, Card, CardColumn, ReaderMode}
use Rattle.pp_machine.specs.declared.place.Place.TheVariants.{PaperLength, PaperColumn, PrinterMode}
use Rattle.pp_machine.specs.declared.printer.PrinterMode.TheVariants as printing
use Rattle.pp_machine.specs.declared.reader.ReaderMode.TheVariants as reading
use Rattle.pp_origins.proofs.Agreement.{enough, unwritten}
use Rattle.pp_origins.specs.Origin.{Origin, Origins, result, results}
use Rattle.pp_origins.specs.Step.{AreEnough, AreSame, origin_of}
use Rattle.pp_rig.specs.Turn.{clock_step, slot_step}
use Rattle.pp_turn_origins.specs.Devices.{clock_origins, printer_control, printer_origins, reader_control, reader_origins, set_to}
use Rattle.pp_turn_origins.specs.Devices.{slot_origins, word_origins}
use Rattle.pp_turn_origins.specs.Inner.{printer_by, reader_by}

-- ---- numbers

either : (s : Machine) (b : Bool) (x y : Writes Place) (x2 y2 : Origins) → x ≡ results s x2 → y ≡ results s y2 →
    (if b then x else y) ≡ results s (if b then x2 else y2)
either s true x y x2 y2 h k = h
either s false x y x2 y2 h k = k

-- 0 or 1, as it is set
bit : (s : Machine) (b : Bool) → result s (set_to (if b then 1 else 0)) ≡ (if b then 1 else 0)
bit s true = refl
bit s false = refl

bit_not : (s : Machine) (b : Bool) → result s (set_to (if b then 0 else 1)) ≡ (if b then 0 else 1)
bit_not s true = refl
bit_not s false = refl

pub reader_explained : (s : Machine) → reader_step s ≡ results s (reader_origins s)
reader_explained s =
    let c = s.setup.reader_channel in
    let r = s.reader in
    let is_reading = is_in_state s c Empty && r.mode == reader_mode_number reading.Reading in
    let next : result s (set_to (mode_at r (r.card + 1))) ≡ mode_at r (r.card + 1) = bit s (nat_lt (r.card + 1) (length r.deck)) in
    let present : result s (set_to (mode_at r r.card)) ≡ mode_at r r.card = bit s (nat_lt r.card (length r.deck)) in
    let status : result s (set_to (reader_status r)) ≡ reader_status r = bit_not s (nat_lt r.card (length r.deck)) in
    either s (has_function s c 0o0001 && nat_lt 0 r.column) _ _ _ _ (cc (sym next))
    (either s (has_function s c 0o0001) _ _ _ _ (cc (sym present))
    (either s (has_function s c 0o0002) _ _ _ _ refl
    (either s (is_reading && nat_lt r.column 80) _ _ _ _ refl
    (either s is_reading _ _ _ _ refl
    (either s (is_in_state s c Empty && r.mode == reader_mode_number reading.Status) _ _ _ _ (cc (sym status))
    (either s (is_in_state s c Empty && r.mode == reader_mode_number reading.Sent) _ _ _ _ refl refl))))))

word_explained : (s : Machine) (c : ℕ) →
    word_writes c s.printer (number s (ChannelWord c)) ≡ results s (word_origins c s.printer.column s.printer.length)
word_explained s c = either s (nat_le (s.printer.column + 2) 136) _ _ _ _ refl
    (either s (nat_le (s.printer.column + 1) 136) _ _ _ _ refl refl)

pub printer_explained : (s : Machine) → printer_step s ≡ results s (printer_origins s)
printer_explained s =
    let c = s.setup.printer_channel in
    let p = s.printer in
    let status : result s (set_to (printer_status p)) ≡ printer_status p = bit_not s (fit p 2) in
    either s (has_function s c 0o0001) _ _ _ _ refl
    (either s (has_function s c 0o0002) _ _ _ _ refl
    (either s (has_function s c 0o0003 && fit p 1) _ _ _ _ refl
    (either s (is_in_state s c Full && (p.mode == printer_mode_number printing.Printing && fit p 2)) _ _ _ _ (word_explained s c)
    (either s (is_in_state s c Empty && p.mode == printer_mode_number printing.Status) _ _ _ _ (cc (sym status))
    (either s (is_in_state s c Empty && p.mode == printer_mode_number printing.Sent) _ _ _ _ refl refl)))))

pub clock_explained : (s : Machine) → clock_step s ≡ results s (clock_origins s)
clock_explained s = either s (s.slot == 0o11) _ _ _ _ refl refl

pub slot_explained : (s : Machine) → slot_step s ≡ results s (slot_origins s)
slot_explained s = refl

-- ---- agreement

reader_same : (s t : Machine) → t.setup ≡ s.setup → t.reader.deck ≡ s.reader.deck → AreSame s t (reader_control s) →
    reader_origins t ≡ reader_origins s
reader_same s t setup deck h = cc (setup, deck, h.0, h.1.0, h.1.1.0, h.1.1.1.0, h.1.1.1.1.0)

printer_same : (s t : Machine) → t.setup ≡ s.setup → AreSame s t (printer_control s) → printer_origins t ≡ printer_origins s
printer_same s t setup h = cc (setup, h.0, h.1.0, h.1.1.0, h.1.1.1.0, h.1.1.1.1.0)

pub reader_enough : (s t : Machine) (place : Place) (origin : Origin) → t.setup ≡ s.setup → t.reader.deck ≡ s.reader.deck →
    AreSame s t (reader_control s) → origin_of (reader_origins s) place ≡ Some origin → AreEnough reader_step s t place origin
reader_enough s t place origin setup deck same found = enough reader_step reader_origins s t place origin (reader_explained s)
    (reader_explained t) (reader_same s t setup deck same) deck found

pub printer_enough : (s t : Machine) (place : Place) (origin : Origin) → t.setup ≡ s.setup → t.reader.deck ≡ s.reader.deck →
    AreSame s t (printer_control s) → origin_of (printer_origins s) place ≡ Some origin → AreEnough printer_step s t place origin
printer_enough s t place origin setup deck same found = enough printer_step printer_origins s t place origin (printer_explained s)
    (printer_explained t) (printer_same s t setup same) deck found

pub reader_others : (s t : Machine) (place : Place) → t.setup ≡ s.setup → t.reader.deck ≡ s.reader.deck →
    AreSame s t (reader_control s) → origin_of (reader_origins s) place ≡ None → lookup (reader_step t) place ≡ None
reader_others s t place setup deck same found =
    unwritten reader_step reader_origins s t place (reader_explained t) (reader_same s t setup deck same) found

pub printer_others : (s t : Machine) (place : Place) → t.setup ≡ s.setup → AreSame s t (printer_control s) →
    origin_of (printer_origins s) place ≡ None → lookup (printer_step t) place ≡ None
printer_others s t place setup same found =
    unwritten printer_step printer_origins s t place (printer_explained t) (printer_same s t setup same) found

-- ---- the origins, by the places that were written

same_channel : (c : ℕ) → (c == c) ≡ true
same_channel c = grind arith

module _ (s : Machine) (x y : ℕ) where
  -- these origins are told by these writes of the reader
  abbrev ByReader : Writes Place → Origins → Type 0
  ByReader w origins = reader_by s.setup.reader_channel (is_some (lookup w ReaderMode)) (is_some (lookup w CardColumn))
      (is_some (lookup w Card)) (unwrap_or (lookup w ReaderMode) x) (unwrap_or (lookup w (ChannelWord s.setup.reader_channel)) y)
      ≡ origins

  by_reader : (b : Bool) (w v : Writes Place) (a e : Origins) → ByReader w a → ByReader v e →
      ByReader (if b then w else v) (if b then a else e)
  by_reader true w v a e h k = h
  by_reader false w v a e h k = k

  pub reader_told : ByReader (reader_step s) (reader_origins s)
  reader_told =
      let c = s.setup.reader_channel in
      let r = s.reader in
      let is_reading = is_in_state s c Empty && r.mode == reader_mode_number reading.Reading in
      by_reader (has_function s c 0o0001 && nat_lt 0 r.column) _ _ _ _ refl
      (by_reader (has_function s c 0o0001) _ _ _ _ refl
      (by_reader (has_function s c 0o0002) _ _ _ _ refl
      (by_reader (is_reading && nat_lt r.column 80) _ _ _ _ refl
      (by_reader is_reading _ _ _ _ refl
      (by_reader (is_in_state s c Empty && r.mode == reader_mode_number reading.Status) _ _ _ _
      (ap (λ b. reader_by c true false false 3 (unwrap_or (if b then Some (reader_status r) else None) y)) (same_channel c))
      (by_reader (is_in_state s c Empty && r.mode == reader_mode_number reading.Sent) _ _ _ _ refl refl))))))

module _ (s : Machine) (x y z : ℕ) where
  abbrev ByPrinter : Writes Place → Origins → Type 0
  ByPrinter w origins = printer_by s.setup.printer_channel (is_some (lookup w PrinterMode)) (is_some (lookup w PaperLength))
      s.printer.length s.printer.column (unwrap_or (lookup w PrinterMode) x) (unwrap_or (lookup w PaperColumn) y)
      (unwrap_or (lookup w (ChannelWord s.setup.printer_channel)) z) ≡ origins

  by_printer : (b : Bool) (w v : Writes Place) (a e : Origins) → ByPrinter w a → ByPrinter v e →
      ByPrinter (if b then w else v) (if b then a else e)
  by_printer true w v a e h k = h
  by_printer false w v a e h k = k

  -- what is written of a word
  record IsWord (w : Writes Place) : Type 0 where
    mode : is_some (lookup w PrinterMode) ≡ false
    paper : is_some (lookup w PaperLength) ≡ true
    column : (unwrap_or (lookup w PaperColumn) y == 0) ≡ false

  word_if : (b : Bool) (w v : Writes Place) → (b ≡ true → IsWord w) → (b ≡ false → IsWord v) → IsWord (if b then w else v)
  word_if true w v h k = h refl
  word_if false w v h k = k refl

  positive : (column more : ℕ) → 0 < column + more → (column + more == 0) ≡ false
  positive column more h = grind (arith, h)

  is_word : (c : ℕ) (word : ℕ) → IsWord (word_writes c s.printer word)
  is_word c word =
      let column = s.printer.column in
      word_if (nat_le (column + 2) 136) _ _ (λ h. record { mode = refl; paper = refl; column = positive column 2 (omega arith) })
      (λ past. word_if (nat_le (column + 1) 136) _ _
      (λ h. record { mode = refl; paper = refl; column = positive column 1 (omega arith) })
      (λ far. record { mode = refl; paper = refl; column = grind (arith, nat_tests, far) }))

  word_told : (word : ℕ) → ByPrinter (word_writes s.setup.printer_channel s.printer word)
      (word_origins s.setup.printer_channel s.printer.column s.printer.length)
  word_told word = let is = is_word s.setup.printer_channel word in rw (is.mode, is.paper, is.column) refl

  pub printer_told : ByPrinter (printer_step s) (printer_origins s)
  printer_told =
      let c = s.setup.printer_channel in
      let p = s.printer in
      by_printer (has_function s c 0o0001) _ _ _ _ refl
      (by_printer (has_function s c 0o0002) _ _ _ _ refl
      (by_printer (has_function s c 0o0003 && fit p 1) _ _ _ _ refl
      (by_printer (is_in_state s c Full && (p.mode == printer_mode_number printing.Printing && fit p 2)) _ _ _ _
      (word_told (number s (ChannelWord c)))
      (by_printer (is_in_state s c Empty && p.mode == printer_mode_number printing.Status) _ _ _ _
      (ap (λ b. printer_by c true false p.length p.column 3 y (unwrap_or (if b then Some (printer_status p) else None) z))
      (same_channel c))
      (by_printer (is_in_state s c Empty && p.mode == printer_mode_number printing.Sent) _ _ _ _ refl refl)))))
