-- A machine is its numbers: two machines with the same shape, setup and deck that have the same number at each place are equal.
use Rattle.std.proofs.Common.{◌≡◌, ◌∙◌, ℕ, ◌<◌, List, length, get_or, sym}
use Rattle.std.proofs.lemmas.List.{ext_get_or}
use Rattle.pp_machine.proofs.AllDevices.{same-devices}
use Rattle.pp_machine.specs.Inner.AllDevices.{machine_with}
use Rattle.pp_machine.proofs.Prelude.{Machine, number, processor, no_processor, Has, IsShaped, Place, Cell, RegA, RegP, RegQ, Phase}
use Rattle.pp_machine.proofs.Prelude.{ChannelMode, ChannelWord, Clock, Central, FrameWord, Slot, WatchEntry}

module _ (size : ℕ) (m m' : Machine) (shaped : IsShaped size m) (shaped' : IsShaped size m')
    (each : (p : Place) → Has size p → number m p ≡ number m' p) where
  same-list : (n : ℕ) (list : Machine → List ℕ) → length (list m) ≡ n → length (list m') ≡ n →
      ((i : ℕ) → i < n → get_or (list m) i 0 ≡ get_or (list m') i 0) → list m ≡ list m'
  same-list n list e e' same = ext_get_or 0 (list m) (list m') (e ∙ sym e') (λ i h. same i (rw e at h))

  processors : m.processors ≡ m'.processors
  processors = ext_get_or no_processor m.processors m'.processors (shaped.processors ∙ sym shaped'.processors) (λ n h.
      let at_most : n < 10 = rw shaped.processors at h in
      let cells = same-list 4096 (λ s. (processor s n).cells) (shaped.memories n at_most)
      (shaped'.memories n at_most) (λ a within. each (Cell n a) (at_most, within)) in
      λ i. record {
        a = each (RegA n) at_most i;
        p = each (RegP n) at_most i;
        q = each (RegQ n) at_most i;
        phase = each (Phase n) at_most i;
        cells = cells i;
      })

  pub same_machines : m.setup ≡ m'.setup → m.reader.deck ≡ m'.reader.deck → m ≡ m'
  same_machines setup deck = λ i. machine_with
      (same-devices size m m' shaped shaped' each setup deck i)
      (processors i)
      (record {
        states = same-list 12 (λ s. s.channels.states) shaped.states shaped'.states (λ c h. each (ChannelMode c) h) i;
        registers = same-list 12 (λ s. s.channels.registers) shaped.registers shaped'.registers (λ c h. each (ChannelWord c) h) i;
        clock = each Clock tt i;
      })
      (same-list size (λ s. s.central) shaped.central shaped'.central (λ a h. each (Central a) h) i)
      (same-list 16 (λ s. s.frame) shaped.frame shaped'.frame (λ k h. each (FrameWord k) h) i)
      (each Slot tt i)
      (same-list 8 (λ s. s.watches) shaped.watches shaped'.watches (λ k h. each (WatchEntry k) h) i)
      (setup i).central_words
      (setup i).panel
