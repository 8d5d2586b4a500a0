-- A turn's record, and the machine after the turn, tell what its devices did.
use Rattle.std.proofs.Common.{◌≡◌, ℕ, ◌==◌, Bool, false, ◌++◌, ap, sym, ◌∙◌, refl, subst}
use Rattle.std.proofs.Common.{arith, is_some, Option, Some, None, unwrap_or}
use Rattle.pp_machine.specs.declared.place.Place.{Place}
use Rattle.pp_machine.specs.Prelude.{Machine, Writes, first_of_two, lookup, number, old_values}
use Rattle.pp_machine.specs.NumberLaws.{setup-over}
use Rattle.pp_machine.specs.{Reader.reader_step, Printer.printer_step}
use Rattle.pp_machine.specs.declared.place.Place.TheVariants.{ChannelWord, Card, CardColumn, PaperColumn}
use Rattle.pp_machine.specs.declared.place.Place.TheVariants.{PaperLength, PrinterMode, ReaderMode}
use Rattle.pp_actions.specs.declared.action.Action.TheVariants as action
use Rattle.pp_origins.specs.Links.{links_of}
use Rattle.pp_rig.proofs.{Overwritten.next_by_writes}
use Rattle.pp_rig.specs.Inner.TurnRecords.{turn_old_values, turn_writes}
use Rattle.pp_rig.specs.Turn.{processor_step, turn}
use Rattle.pp_rig.specs.WellFormed.{IsWellFormed}
use Rattle.pp_turn_origins.proofs.DeviceOrigins.{printer_told, reader_told}
use Rattle.pp_turn_origins.proofs.Parts.{old_there, is_end, is_printers, is_readers, printer_waits}
use Rattle.pp_turn_origins.proofs.TurnOrigins.{after_processor, after_reader, new_number, old_of_printer, old_of_reader}
use Rattle.pp_turn_origins.proofs.TurnOrigins.{setup_after_processor, setup_after_reader, writes_of_printer, writes_of_reader}
use Rattle.pp_turn_origins.specs.Devices.{printer_origins, reader_origins, slot_origins}
use Rattle.pp_turn_origins.proofs.WholeTurn.{rest_links}
use Rattle.pp_turn_origins.specs.Inner.{clock_by, printer_by, reader_by, rest_origins}

setup_after_turn : (s : Machine) → (turn s).setup ≡ s.setup
setup_after_turn s = ap (λ m. m.setup) (next_by_writes s action.Turn) ∙ setup-over s (turn_writes s)

two_or : (a b : Option ℕ) (n : ℕ) → unwrap_or (first_of_two a b) n ≡ unwrap_or a (unwrap_or b n)
two_or None b n = refl
two_or (Some k) b n = refl

reader_by_same : (c : ℕ) {has_mode has_mode2 has_column has_column2 has_card has_card2 : Bool} {mode mode2 word word2 : ℕ} →
    has_mode ≡ has_mode2 → has_column ≡ has_column2 → has_card ≡ has_card2 → mode ≡ mode2 → word ≡ word2 →
    reader_by c has_mode has_column has_card mode word ≡ reader_by c has_mode2 has_column2 has_card2 mode2 word2
reader_by_same c h i j k l = cc (h, i, j, k, l)

printer_by_same : (c at before : ℕ) {has_mode has_mode2 has_paper has_paper2 : Bool} {mode mode2 column column2 word word2 : ℕ} →
    has_mode ≡ has_mode2 → has_paper ≡ has_paper2 → mode ≡ mode2 → column ≡ column2 → word ≡ word2 →
    printer_by c has_mode has_paper at before mode column word ≡ printer_by c has_mode2 has_paper2 at before mode2 column2 word2
printer_by_same c at before h i j k l = cc (h, i, j, k, l)

-- the channels of reader and printer differ
channels_apart : (s : Machine) → IsWellFormed s → (s.setup.reader_channel == s.setup.printer_channel) ≡ false
channels_apart s ok = grind (arith, ok.setup.apart.0.0)

channels_apart2 : (s : Machine) → IsWellFormed s → (s.setup.printer_channel == s.setup.reader_channel) ≡ false
channels_apart2 s ok = grind (arith, ok.setup.apart.0.0)

module _ (s : Machine) (ok : IsWellFormed s) where
  by_reader : (p : Place) → is_printers s.setup.printer_channel p ≡ false → is_end p ≡ false → number (turn s) p
      ≡ unwrap_or (lookup (reader_step (after_processor s)) p) (unwrap_or (lookup (processor_step s) p) (number s p))
  by_reader p printer end = new_number s p ok ∙ ap (λ o. unwrap_or o (number s p)) (writes_of_reader s p printer end)
      ∙ two_or (lookup (reader_step (after_processor s)) p) (lookup (processor_step s) p) (number s p)

  by_printer : (p : Place) → is_readers s.setup.reader_channel p ≡ false → is_end p ≡ false → number (turn s) p
      ≡ unwrap_or (lookup (printer_step (after_reader s)) p) (unwrap_or (lookup (processor_step s) p) (number s p))
  by_printer p reader end = new_number s p ok ∙ ap (λ o. unwrap_or o (number s p)) (writes_of_printer s p reader end)
      ∙ two_or (lookup (printer_step (after_reader s)) p) (lookup (processor_step s) p) (number s p)

  old_reader : (p : Place) →
      lookup (turn_old_values s) p ≡ lookup (old_values (after_processor s) (reader_step (after_processor s))) p →
      is_some (lookup (turn_old_values s) p) ≡ is_some (lookup (reader_step (after_processor s)) p)
  old_reader p h = ap is_some h ∙ old_there (after_processor s) (reader_step (after_processor s)) p

  old_printer : (p : Place) →
      lookup (turn_old_values s) p ≡ lookup (old_values (after_reader s) (printer_step (after_reader s))) p →
      is_some (lookup (turn_old_values s) p) ≡ is_some (lookup (printer_step (after_reader s)) p)
  old_printer p h = ap is_some h ∙ old_there (after_reader s) (printer_step (after_reader s)) p

  pub reader_in_turn : reader_by s.setup.reader_channel (is_some (lookup (turn_old_values s) ReaderMode))
      (is_some (lookup (turn_old_values s) CardColumn)) (is_some (lookup (turn_old_values s) Card))
      (number (turn s) ReaderMode) (number (turn s) (ChannelWord s.setup.reader_channel)) ≡ reader_origins (after_processor s)
  reader_in_turn =
      let s1 = after_processor s in
      let w = reader_step s1 in
      let x = unwrap_or (lookup (processor_step s) ReaderMode) (number s ReaderMode) in
      let word = ChannelWord s.setup.reader_channel in
      let y = unwrap_or (lookup (processor_step s) word) (number s word) in
      let told = subst (λ c. reader_by c (is_some (lookup w ReaderMode)) (is_some (lookup w CardColumn)) (is_some (lookup w Card))
      (unwrap_or (lookup w ReaderMode) x) (unwrap_or (lookup w (ChannelWord c)) y) ≡ reader_origins s1)
      (ap (λ setup. setup.reader_channel) (setup_after_processor s)) (reader_told s1 x y) in
      reader_by_same s.setup.reader_channel (old_reader ReaderMode (old_of_reader s ReaderMode refl refl refl))
      (old_reader CardColumn (old_of_reader s CardColumn refl refl refl)) (old_reader Card (old_of_reader s Card refl refl refl))
      (by_reader ReaderMode refl refl) (by_reader word (channels_apart s ok) refl) ∙ told

  pub printer_in_turn : printer_by s.setup.printer_channel (is_some (lookup (turn_old_values s) PrinterMode))
      (is_some (lookup (turn_old_values s) PaperLength)) s.printer.length s.printer.column (number (turn s) PrinterMode)
      (number (turn s) PaperColumn) (number (turn s) (ChannelWord s.setup.printer_channel)) ≡ printer_origins (after_reader s)
  printer_in_turn =
      let s2 = after_reader s in
      let w = printer_step s2 in
      let x = unwrap_or (lookup (processor_step s) PrinterMode) (number s PrinterMode) in
      let y = unwrap_or (lookup (processor_step s) PaperColumn) (number s PaperColumn) in
      let word = ChannelWord s.setup.printer_channel in
      let z = unwrap_or (lookup (processor_step s) word) (number s word) in
      let told = subst (λ p. printer_by s.setup.printer_channel (is_some (lookup w PrinterMode)) (is_some (lookup w PaperLength))
      p.length p.column
      (unwrap_or (lookup w PrinterMode) x) (unwrap_or (lookup w PaperColumn) y) (unwrap_or (lookup w word) z) ≡ printer_origins s2)
      (printer_waits s)
      (subst (λ c. printer_by c (is_some (lookup w PrinterMode)) (is_some (lookup w PaperLength)) s2.printer.length
      s2.printer.column
      (unwrap_or (lookup w PrinterMode) x) (unwrap_or (lookup w PaperColumn) y) (unwrap_or (lookup w (ChannelWord c)) z)
      ≡ printer_origins s2)
      (ap (λ setup. setup.printer_channel) (setup_after_reader s)) (printer_told s2 x y z)) in
      printer_by_same s.setup.printer_channel s.printer.length s.printer.column
      (old_printer PrinterMode (old_of_printer s PrinterMode refl refl refl))
      (old_printer PaperLength (old_of_printer s PaperLength refl refl refl))
      (by_printer PrinterMode refl refl) (by_printer PaperColumn refl refl) (by_printer word (channels_apart2 s ok) refl) ∙ told

-- the links of all parts after the processor's, as the code writes them
pub rest_in_turn : (s m : Machine) (pairs : Writes Place) (slot symbols column : ℕ) → IsWellFormed s → m ≡ turn s →
    pairs ≡ turn_old_values s → slot ≡ s.slot → symbols ≡ s.printer.length → column ≡ s.printer.column →
    links_of (reader_by m.setup.reader_channel (is_some (lookup pairs ReaderMode)) (is_some (lookup pairs CardColumn))
    (is_some (lookup pairs Card)) (number m ReaderMode) (number m (ChannelWord m.setup.reader_channel)))
    ++ (links_of (printer_by m.setup.printer_channel (is_some (lookup pairs PrinterMode)) (is_some (lookup pairs PaperLength))
    symbols column
    (number m PrinterMode) (number m PaperColumn) (number m (ChannelWord m.setup.printer_channel)))
    ++ (links_of (clock_by slot) ++ links_of (slot_origins s))) ≡ links_of (rest_origins s)
rest_in_turn s m pairs slot symbols column ok is are at paper before =
    let reader : reader_by m.setup.reader_channel (is_some (lookup pairs ReaderMode)) (is_some (lookup pairs CardColumn))
    (is_some (lookup pairs Card)) (number m ReaderMode) (number m (ChannelWord m.setup.reader_channel)) ≡ reader_origins
    (after_processor s) =
    rw (is, are) (subst (λ setup. reader_by setup.reader_channel (is_some (lookup (turn_old_values s) ReaderMode))
    (is_some (lookup (turn_old_values s) CardColumn)) (is_some (lookup (turn_old_values s) Card)) (number (turn s) ReaderMode)
    (number (turn s) (ChannelWord setup.reader_channel)) ≡ reader_origins (after_processor s)) (sym (setup_after_turn s))
    (reader_in_turn s ok)) in
    let printer : printer_by m.setup.printer_channel (is_some (lookup pairs PrinterMode)) (is_some (lookup pairs PaperLength))
    symbols column
    (number m PrinterMode) (number m PaperColumn) (number m (ChannelWord m.setup.printer_channel)) ≡ printer_origins
    (after_reader s) =
    rw (is, are, paper, before) (subst (λ setup. printer_by setup.printer_channel (is_some (lookup (turn_old_values s) PrinterMode))
    (is_some (lookup (turn_old_values s) PaperLength)) s.printer.length s.printer.column (number (turn s) PrinterMode)
    (number (turn s) PaperColumn) (number (turn s) (ChannelWord setup.printer_channel)) ≡ printer_origins (after_reader s))
    (sym (setup_after_turn s)) (printer_in_turn s ok)) in
    rw (reader, printer, at) (sym (rest_links s))
