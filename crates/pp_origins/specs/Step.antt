-- The origins of a step of a processor, and the places that decide what it reads and writes.
use Rattle.std.specs.Prelude.{ℕ, Bool, List, [], ◌∷◌, ◌++◌, ◌&&◌, ◌/◌, ◌%◌, ◌==◌, ◌≡◌, nat_lt, Option, Some, None, if◌then◌else◌}
use Rattle.std.specs.Prelude.{length, map, slice_index}
use Rattle.pp_machine.specs.{Machine.Machine, Machine.number, Machine.processor, Machine.lookup, Machine.same_place, Writes.Writes}
use Rattle.pp_machine.specs.{Writes.renamed, declared.place.Place.Place}
use Rattle.pp_machine.specs.declared.place.Place.TheVariants.{Cell, RegA, RegP, RegQ, Phase, ChannelMode}
use Rattle.pp_step.specs.Instruction.{Mode, Indirect, Memory, Unindexed}
use Rattle.pp_step.specs.InstructionTable.{instruction_at, row_of as step_row_of}
use Rattle.pp_step.specs.{Step.pp_writes, View.pp_place, View.view_of, Words.cell_after}
use Rattle.pp_origins.specs.Blocks.{block_row}
use Rattle.pp_origins.specs.Origin.{Origin, Origins, read, result}
use Rattle.pp_origins.specs.Rows.{Row, row_of}
use Rattle.pp_origins.specs.declared.origin.Read.{Read}
use Rattle.pp_origins.specs.declared.situation.Situation.{Situation}

-- What the step of processor n writes.
abbrev pub step_writes : ℕ → Machine → Writes Place
step_writes n s = renamed (pp_place n) (pp_writes (view_of (processor s n) s.channels s.central s.frame))

-- ---- what each number comes from

-- A number that decides; one that does not is seen as 0.
abbrev pub decided : Bool → ℕ → ℕ
decided is_deciding n = if is_deciding then n else 0

-- What a row sees of processor n, with this d and this operand's address.
abbrev pub situation : Row → ℕ → ℕ → ℕ → Machine → Situation
situation row n d address s =
    let x = processor s n in
    record {
      pp = n;
      p = x.p;
      d = d;
      address = address;
      a = decided row.deciding.a x.a;
      q = decided row.deciding.q x.q;
      state = decided row.deciding.state (slice_index s.channels.states d);
      size = length s.central;
    }

abbrev pub origins_by : Row → ℕ → ℕ → ℕ → Machine → Origins
origins_by row n d address s = row.origins (situation row n d address s)

-- The operand's address, as a row sees it: m that is used as it is names no operand.
abbrev pub operand_address : Mode → ℕ → ℕ
operand_address Unindexed address = 0
operand_address _ address = address

abbrev pub instruction_origins : ℕ → Machine → Origins
instruction_origins n s =
    let i = instruction_at (processor s n).p (processor s n).cells in
    origins_by (row_of i.code) n i.d (operand_address (step_row_of i.code).mode i.address) s

abbrev pub block_origins : ℕ → Machine → Origins
block_origins n s = let phase = (processor s n).phase in origins_by (block_row (phase / 0o100)) n (phase % 0o100) 0 s

-- For each place that a step of processor n writes, where its new number comes from.
unfoldable pub step_origins : ℕ → Machine → Origins
step_origins n s = if (processor s n).phase == 0 then instruction_origins n s else block_origins n s

-- ---- what decides

-- The cells beside the first word from which the operand's address comes.
abbrev pub address_places : Mode → ℕ → ℕ → ℕ → List Place
address_places Indirect n p d = Cell n d ∷ []
address_places Memory n p d = Cell n (cell_after p 1) ∷ (if d == 0 then [] else Cell n d ∷ [])
address_places _ n p d = []

abbrev pub place_if : Bool → Place → List Place
place_if is_deciding place = if is_deciding then place ∷ [] else []

-- The places that a row names as deciding. 14 to 77 name no channel with a state.
abbrev pub row_places : Row → ℕ → ℕ → List Place
row_places row n d =
    place_if row.deciding.a (RegA n) ++ (place_if row.deciding.q (RegQ n)
    ++ place_if (row.deciding.state && nat_lt d 0o14) (ChannelMode d))

abbrev pub instruction_places : ℕ → Machine → List Place
instruction_places n s =
    let i = instruction_at (processor s n).p (processor s n).cells in
    Cell n (processor s n).p
    ∷ (address_places (step_row_of i.code).mode n (processor s n).p i.d ++ row_places (row_of i.code) n i.d)

abbrev pub block_places : ℕ → Machine → List Place
block_places n s = let phase = (processor s n).phase in row_places (block_row (phase / 0o100)) n (phase % 0o100)

-- The control places: their numbers decide what a step of processor n reads and writes.
unfoldable pub control_places : ℕ → Machine → List Place
control_places n s =
    Phase n ∷ RegP n ∷ (if (processor s n).phase == 0 then instruction_places n s else block_places n s)

-- ---- agreement

-- Two machines have the same numbers at these places.
abbrev pub AreSame : Machine → Machine → List Place → Type 0
AreSame s t [] = Unit {0}
AreSame s t (x ∷ xs) = (number t x ≡ number s x) × AreSame s t xs

-- Two machines have the same numbers where these are read.
abbrev pub AreReadSame : Machine → Machine → List Read → Type 0
AreReadSame s t reads = map (read t) reads ≡ map (read s) reads

-- Where the number of a place comes from.
abbrev pub origin_of : Origins → Place → Option Origin
origin_of [] place = None
origin_of (w ∷ ws) place = if same_place w.0 place then Some w.1 else origin_of ws place

-- What is read for a place is enough: s writes the number there that its origin makes, and a machine t that reads the same
-- numbers writes that number too.
pub record AreEnough (part : Machine → Writes Place) (s t : Machine) (place : Place) (origin : Origin) : Type 0 where
  pub written : lookup (part s) place ≡ Some (result s origin)
  pub same : AreReadSame s t origin.reads → lookup (part t) place ≡ Some (result s origin)
