-- What is fixed when a machine is made.
use Rattle.std.specs.Prelude.{ℕ, List, [], ◌∷◌, ◌≤◌, ◌≡◌, All, IfSome, length}
use Rattle.pp_machine.specs.Inner.Devices.{AreDistinct, AreOnChannels}
use Rattle.pp_machine.specs.Machine.{Setup}
use Rattle.pp_machine.specs.Ranges.{twelve_bits}

-- The panel has twelve words, of twelve bits each. [M19]
pub record IsPanel (panel : List ℕ) : Type 0 where
  pub count : length panel ≡ 0o14
  pub small : All (λ word. word ≤ twelve_bits) panel

-- What is fixed when the machine is made is in range: the panel, if there is one, and a data channel of its own for each device.
-- [M19, P30]
pub record IsSetup (setup : Setup) : Type 0 where
  pub panel : IfSome setup.panel IsPanel
  pub channels : AreOnChannels (setup.reader_channel ∷ setup.printer_channel ∷ [])
  pub apart : AreDistinct (setup.reader_channel ∷ setup.printer_channel ∷ [])
