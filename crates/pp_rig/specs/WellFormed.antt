-- A well formed machine: every number is in its range.
use Rattle.std.specs.Prelude.{◌<◌, ◌≤◌, All, IsTrue}
use Rattle.pp_machine.specs.Inner.AllDevices.{AreInRange}
use Rattle.pp_machine.specs.ChannelNumbers.{IsChannels}
use Rattle.pp_machine.specs.Frame.{IsPackage}
use Rattle.pp_machine.specs.Prelude.{Machine, ProcessorNumbers, IsShaped}
use Rattle.pp_machine.specs.Phase.{is_phase}
use Rattle.pp_rig.specs.IsSetup.{IsSetup}
use Rattle.pp_machine.specs.Ranges.{processor_count, twelve_bits, eighteen_bits, past_sixty_bits}
use Rattle.pp_actions.specs.Watches.{AreWatches}

-- Each number of a processor is in its range: A has 18 bits, and P, Q and each cell have 12. [M2, P16]
pub record IsProcessor (x : ProcessorNumbers) : Type 0 where
  pub a : x.a ≤ eighteen_bits
  pub p : x.p ≤ twelve_bits
  pub q : x.q ≤ twelve_bits
  pub phase : IsTrue (is_phase x.phase)
  pub cells : All (λ cell. cell ≤ twelve_bits) x.cells

-- A well-formed machine: the lists have their sizes, and each number is in its range. The paper is zero past its length. A
-- card is left if one is being read. The watch entries are those of distinct places of the machine, followed by zeros. Every
-- machine that the program reaches is well formed, so no default past the end of a list is a number of it. [P29]
pub record IsWellFormed (s : Machine) : Type 0 where
  pub sizes : IsShaped s.setup.central_words s
  pub processors : All IsProcessor s.processors
  pub channels : IsChannels s.channels
  pub central : All (λ word. word < past_sixty_bits) s.central
  pub frame : IsPackage s.frame
  pub devices : AreInRange s
  pub slot : s.slot < processor_count
  pub watches : AreWatches s.setup.central_words s.watches
  pub setup : IsSetup s.setup
