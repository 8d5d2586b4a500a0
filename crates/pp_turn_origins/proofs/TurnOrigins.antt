-- What is read for a place decides the number that it gets in a turn; and the turn's record tells what its devices did.
use Rattle.std.proofs.Common.{◌≡◌, ℕ, true, false, [], ◌++◌, ap, sym, ◌∙◌, refl, Some, None, unwrap_or}
use Rattle.pp_machine.specs.declared.place.Place.{Place}
use Rattle.pp_machine.specs.Prelude.{Machine, Writes, first_of_two, lookup, lookup-append, number, old_values, over, same_place}
use Rattle.pp_machine.specs.NumberLaws.{number-over, setup-over}
use Rattle.pp_machine.specs.{Reader.reader_step, Printer.printer_step}
use Rattle.pp_machine.specs.declared.place.Place.TheVariants as place
use Rattle.pp_actions.specs.declared.action.Action.TheVariants as action
use Rattle.pp_origins.proofs.Agreement.{alike, enough, origins_same}
use Rattle.pp_origins.proofs.Explained.{step_explained}
use Rattle.pp_origins.specs.Origin.{Origin, result, results}
use Rattle.pp_origins.specs.Step.{AreEnough, AreReadSame, AreSame, origin_of, step_origins}
use Rattle.pp_rig.proofs.{Overwritten.next_by_writes, WrittenPlaces.written_places}
use Rattle.pp_rig.specs.Inner.ActionRecords.{admits_turn}
use Rattle.pp_rig.specs.Inner.TurnRecords.{turn_old_values, turn_writes}
use Rattle.pp_rig.specs.Turn.{clock_step, processor_step, slot_step, turn}
use Rattle.pp_rig.specs.WellFormed.{IsWellFormed}
use Rattle.pp_turn_origins.proofs.Parts.{alone, by_clock, by_printer, by_processor, by_reader, by_slot, is_end, is_printers}
use Rattle.pp_turn_origins.proofs.Parts.{is_processors, is_readers, none_of, old_none, skipped}
use Rattle.pp_turn_origins.specs.Turn.{is_of_processors, processor_origins, turn_control}

-- ---- the processor's part

pub processor_explained : (s : Machine) → IsWellFormed s → processor_step s ≡ results s (processor_origins s)
processor_explained s ok = step_explained s.slot s ok.sizes.frame

processor_same : (s t : Machine) → IsWellFormed s → IsWellFormed t → t.setup ≡ s.setup → AreSame s t (turn_control s) →
    processor_origins t ≡ processor_origins s
unfolding turn_control
processor_same s t ok ok2 setup same =
    ap (λ k. step_origins k t) same.0 ∙ origins_same s.slot s t (alike s t ok.sizes ok2.sizes setup) same.1

pub part_decided : (s t : Machine) (p : Place) (origin : Origin) → IsWellFormed s → IsWellFormed t → t.setup ≡ s.setup →
    t.reader.deck ≡ s.reader.deck → AreSame s t (turn_control s) → origin_of (processor_origins s) p ≡ Some origin →
    AreEnough processor_step s t p origin
part_decided s t p origin ok ok2 setup deck same found = enough processor_step processor_origins s t p origin
    (processor_explained s ok) (processor_explained t ok2) (processor_same s t ok ok2 setup same) deck found

-- ---- the parts of a turn, on the machine that the parts before them left

abbrev pub after_processor : Machine → Machine
after_processor s = over s (processor_step s)

abbrev pub after_reader : Machine → Machine
after_reader s = let s1 = after_processor s in over s1 (reader_step s1)

abbrev after_printer : Machine → Machine
after_printer s = let s2 = after_reader s in over s2 (printer_step s2)

abbrev after_clock : Machine → Machine
after_clock s = let s3 = after_printer s in over s3 (clock_step s3)

-- what the end of a turn writes, and with it what the printer writes
abbrev at_end : Machine → Writes Place
at_end s = slot_step (after_clock s) ++ clock_step (after_printer s)

abbrev after_end : Machine → Writes Place
after_end s = at_end s ++ printer_step (after_reader s)

pub setup_after_processor : (s : Machine) → (after_processor s).setup ≡ s.setup
setup_after_processor s = setup-over s (processor_step s)

pub setup_after_reader : (s : Machine) → (after_reader s).setup ≡ s.setup
setup_after_reader s = setup-over (after_processor s) (reader_step (after_processor s)) ∙ setup_after_processor s

module _ (s : Machine) (p : Place) where
  not_by_processor : is_processors p ≡ false → lookup (processor_step s) p ≡ None
  not_by_processor h = none_of is_processors (processor_step s) p (by_processor s) h

  not_by_reader : is_readers s.setup.reader_channel p ≡ false → lookup (reader_step (after_processor s)) p ≡ None
  not_by_reader h = none_of (is_readers (after_processor s).setup.reader_channel) _ p (by_reader (after_processor s))
      (ap (λ setup. is_readers setup.reader_channel p) (setup_after_processor s) ∙ h)

  not_by_printer : is_printers s.setup.printer_channel p ≡ false → lookup (printer_step (after_reader s)) p ≡ None
  not_by_printer h = none_of (is_printers (after_reader s).setup.printer_channel) _ p (by_printer (after_reader s))
      (ap (λ setup. is_printers setup.printer_channel p) (setup_after_reader s) ∙ h)

  not_at_end : is_end p ≡ false → lookup (slot_step (after_clock s) ++ clock_step (after_printer s)) p ≡ None
  not_at_end h = skipped p (slot_step (after_clock s)) (clock_step (after_printer s))
      (none_of is_end (slot_step (after_clock s)) p (by_slot (after_clock s)) h)
      ∙ none_of is_end (clock_step (after_printer s)) p (by_clock (after_printer s)) h

  -- the new number of a place
  pub writes_of_processor : is_readers s.setup.reader_channel p ≡ false → is_printers s.setup.printer_channel p ≡ false →
      is_end p ≡ false → lookup (turn_writes s) p ≡ lookup (processor_step s) p
  unfolding turn_writes
  writes_of_processor r q e = skipped p (after_end s ++ reader_step (after_processor s)) (processor_step s)
      (skipped p (after_end s) (reader_step (after_processor s))
      (skipped p (at_end s) (printer_step (after_reader s)) (not_at_end e) ∙ not_by_printer q) ∙ not_by_reader r)

  pub writes_of_reader : is_printers s.setup.printer_channel p ≡ false → is_end p ≡ false →
      lookup (turn_writes s) p ≡ first_of_two (lookup (reader_step (after_processor s)) p) (lookup (processor_step s) p)
  unfolding turn_writes
  writes_of_reader q e = lookup-append same_place (after_end s ++ reader_step (after_processor s)) (processor_step s) p
      ∙ ap (λ o. first_of_two o (lookup (processor_step s) p)) (skipped p (after_end s) (reader_step (after_processor s))
      (skipped p (at_end s) (printer_step (after_reader s)) (not_at_end e) ∙ not_by_printer q))

  pub writes_of_printer : is_readers s.setup.reader_channel p ≡ false → is_end p ≡ false →
      lookup (turn_writes s) p ≡ first_of_two (lookup (printer_step (after_reader s)) p) (lookup (processor_step s) p)
  unfolding turn_writes
  writes_of_printer r e = lookup-append same_place (after_end s ++ reader_step (after_processor s)) (processor_step s) p
      ∙ ap (λ o. first_of_two o (lookup (processor_step s) p))
      (alone p (after_end s) (reader_step (after_processor s)) (not_by_reader r)
      ∙ skipped p (at_end s) (printer_step (after_reader s)) (not_at_end e))

  -- its old number
  old_at_end : is_end p ≡ false → lookup (old_values (after_printer s) (clock_step (after_printer s))
      ++ (old_values (after_clock s) (slot_step (after_clock s)) ++ [])) p ≡ None
  old_at_end h = skipped p (old_values (after_printer s) (clock_step (after_printer s)))
      (old_values (after_clock s) (slot_step (after_clock s)) ++ [])
      (old_none (after_printer s) (clock_step (after_printer s)) p
      (none_of is_end (clock_step (after_printer s)) p (by_clock (after_printer s)) h))
      ∙ skipped p (old_values (after_clock s) (slot_step (after_clock s))) []
      (old_none (after_clock s) (slot_step (after_clock s)) p
      (none_of is_end (slot_step (after_clock s)) p (by_slot (after_clock s)) h))

  pub old_of_reader : is_processors p ≡ false → is_printers s.setup.printer_channel p ≡ false → is_end p ≡ false →
      lookup (turn_old_values s) p ≡ lookup (old_values (after_processor s) (reader_step (after_processor s))) p
  unfolding turn_old_values
  old_of_reader h q e = skipped p (old_values s (processor_step s)) _ (old_none s (processor_step s) p (not_by_processor h))
      ∙ alone p (old_values (after_processor s) (reader_step (after_processor s))) _
      (skipped p (old_values (after_reader s) (printer_step (after_reader s))) _
      (old_none (after_reader s) (printer_step (after_reader s)) p (not_by_printer q)) ∙ old_at_end e)

  pub old_of_printer : is_processors p ≡ false → is_readers s.setup.reader_channel p ≡ false → is_end p ≡ false →
      lookup (turn_old_values s) p ≡ lookup (old_values (after_reader s) (printer_step (after_reader s))) p
  unfolding turn_old_values
  old_of_printer h r e = skipped p (old_values s (processor_step s)) _ (old_none s (processor_step s) p (not_by_processor h))
      ∙ skipped p (old_values (after_processor s) (reader_step (after_processor s))) _
      (old_none (after_processor s) (reader_step (after_processor s)) p (not_by_reader r))
      ∙ alone p (old_values (after_reader s) (printer_step (after_reader s))) _ (old_at_end e)

-- ---- the whole turn

pub new_number : (s : Machine) (p : Place) → IsWellFormed s → number (turn s) p ≡ unwrap_or (lookup (turn_writes s) p) (number s p)
new_number s p ok = ap (λ m. number m p) (next_by_writes s action.Turn)
    ∙ number-over s.setup.central_words s (turn_writes s) p ok.sizes (written_places s action.Turn ok (admits_turn s))

not_readers : (c : ℕ) (p : Place) → is_of_processors p ≡ true → is_readers c p ≡ false
not_readers c place.Slot h = refl
not_readers c _ h = cc

not_printers : (c : ℕ) (p : Place) → is_of_processors p ≡ true → is_printers c p ≡ false
not_printers c place.Slot h = refl
not_printers c _ h = cc

not_end : (p : Place) → is_of_processors p ≡ true → is_end p ≡ false
not_end place.Slot h = sym h
not_end _ h = cc

own_lookup : (s : Machine) (p : Place) → is_of_processors p ≡ true → lookup (turn_writes s) p ≡ lookup (processor_step s) p
own_lookup s p own = writes_of_processor s p (not_readers s.setup.reader_channel p own) (not_printers s.setup.printer_channel p own)
    (not_end p own)

pub turn_decided : (s t : Machine) (p : Place) (origin : Origin) → IsWellFormed s → IsWellFormed t → t.setup ≡ s.setup →
    t.reader.deck ≡ s.reader.deck → AreSame s t (turn_control s) → origin_of (processor_origins s) p ≡ Some origin →
    is_of_processors p ≡ true → AreReadSame s t origin.reads →
    (number (turn s) p ≡ result s origin) × (number (turn t) p ≡ result s origin)
turn_decided s t p origin ok ok2 setup deck same found own reads =
    let are = part_decided s t p origin ok ok2 setup deck same found in (
      new_number s p ok ∙ ap (λ o. unwrap_or o (number s p)) (own_lookup s p own ∙ are.written),
      new_number t p ok2 ∙ ap (λ o. unwrap_or o (number t p)) (own_lookup t p own ∙ are.same reads),
    )
