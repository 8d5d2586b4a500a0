-- The table of origins: for each row of the instruction table the places that it writes, with where each new number comes from.
use Rattle.std.specs.Prelude.{ℕ, Bool, true, false, List, [], ◌∷◌, ◌++◌, ◌==◌, ◌&&◌, ◌||◌, ◌^◌}
use Rattle.std.specs.Prelude.{not, nat_lt, if◌then◌else◌, map, slice_index_or}
use Rattle.std.specs.List.{range_with_len}
use Rattle.pp_machine.specs.{ChannelNumbers.state_number, declared.channel.ChannelState.ChannelState, declared.place.Place.Place}
use Rattle.pp_machine.specs.declared.channel.ChannelState.TheVariants.{Inactive, Empty, Full, Function}
use Rattle.pp_machine.specs.declared.place.Place.TheVariants.{Cell, RegA, RegP, RegQ, Phase, ChannelMode}
use Rattle.pp_machine.specs.declared.place.Place.TheVariants.{ChannelWord, Clock, Central, FrameWord}
use Rattle.pp_step.specs.{Channels.is_clock, Words.cell_after, Words.central_after}
use Rattle.pp_origins.specs.Origin.{Origin, Origins, constant}
use Rattle.pp_origins.specs.declared.origin.{Field.Field, Operation.Operation, Read.Read}
use Rattle.pp_origins.specs.declared.origin.Field.TheVariants as field
use Rattle.pp_origins.specs.declared.origin.Operation.TheVariants as by
use Rattle.pp_origins.specs.declared.situation.Situation.{Situation}

-- A row sees a `Situation` and no other number of the machine: the processor, P, d, the operand's address, the size of central
-- memory, and of A, Q and the state of channel d those that the row names as deciding. The others are 0.
pub record Deciding : Type 0 where
  pub a : Bool
  pub q : Bool
  pub state : Bool

abbrev pub nothing : Deciding
nothing = record { a = false; q = false; state = false }

abbrev pub by_a : Deciding
by_a = record { a = true; q = false; state = false }

abbrev pub by_state : Deciding
by_state = record { a = false; q = false; state = true }

pub record Row : Type 0 where
  pub deciding : Deciding
  pub origins : Situation → Origins

abbrev pub row : Deciding → (Situation → Origins) → Row
row deciding origins = record { deciding = deciding; origins = origins }

-- ---- what is read

abbrev pub whole : Place → Read
whole place = record { place = place; field = field.Whole }

abbrev pub a : Situation → Read
a c = whole (RegA c.pp)

abbrev pub low_a : Situation → Read
low_a c = record { place = RegA c.pp; field = field.Low }

abbrev pub p : Situation → Read
p c = whole (RegP c.pp)

-- The fields of the instruction, in the cells that have them.
abbrev pub word : Situation → Read
word c = record { place = Cell c.pp c.p; field = field.Word }

abbrev pub d : Situation → Read
d c = record { place = Cell c.pp c.p; field = field.D }

abbrev pub m : Situation → Read
m c = record { place = Cell c.pp (cell_after c.p 1); field = field.M }

-- The operand's cell, and cell d.
abbrev pub x : Situation → Read
x c = whole (Cell c.pp c.address)

abbrev pub cell_d : Situation → Read
cell_d c = whole (Cell c.pp c.d)

-- The register of channel d, and the clock.
abbrev pub register : Situation → Read
register c = whole (ChannelWord c.d)

abbrev pub clock : Situation → Read
clock c = whole Clock

-- ---- where one number comes from

abbrev pub from : Operation → List (Situation → Read) → Situation → Origin
from operation reads c = record { operation = operation; reads = map (λ r. r c) reads }

abbrev pub set_to : ℕ → Situation → Origin
set_to n = from (constant n) []

abbrev pub next1 : Situation → Origin
next1 = from by.After1 (p ∷ [])

abbrev pub next2 : Situation → Origin
next2 = from by.After2 (p ∷ [])

-- An address in memory mode: m, or m indexed by cell d, if d is not 00.
abbrev pub indexed : Operation → Operation → Situation → Origin
indexed plain with_index c = if c.d == 0 then from plain (m ∷ []) c else from with_index (m ∷ cell_d ∷ []) c

-- A field of a central word. One past the size reads as 0.
abbrev pub part : Field → ℕ → Situation → Origin
part field address c =
    if nat_lt address c.size then from by.Moved ((λ c. record { place = Central address; field = field }) ∷ []) c
    else from by.NoWord [] c

-- A central word, of the five cells from an address on.
abbrev pub joined : ℕ → Situation → Origin
joined address = from by.Joined (map (λ i c. whole (Cell c.pp (cell_after address i))) (range_with_len 0 5))

-- ---- the shapes of the rows

abbrev pub jump : (Situation → Origin) → Situation → Origins
jump target c = (RegP c.pp, target c) ∷ []

abbrev pub branch : (Situation → Bool) → Situation → Origins
branch taken = jump (λ c. if taken c then from by.Relative (p ∷ d ∷ []) c else next1 c)

abbrev pub test : (Situation → Bool) → Situation → Origins
test taken = jump (λ c. if taken c then from by.Moved (m ∷ []) c else next2 c)

abbrev pub load : (Situation → Origin) → Operation → List (Situation → Read) → Situation → Origins
load next operation reads c = (RegP c.pp, next c) ∷ (RegA c.pp, from operation reads c) ∷ []

abbrev pub store : (Situation → Origin) → Situation → Origins
store next c = (RegP c.pp, next c) ∷ (Cell c.pp c.address, from by.Moved (low_a ∷ []) c) ∷ []

-- The operation for A, and the one for its lower twelve bits, which go to the cell.
abbrev pub replace : (Situation → Origin) → Operation → Operation → List (Situation → Read) → Situation → Origins
replace next operation low reads c =
    (RegP c.pp, next c) ∷ (RegA c.pp, from operation reads c) ∷ (Cell c.pp c.address, from low reads c) ∷ []

abbrev pub five_cells : ℕ → ℕ → Situation → Origins
five_cells address at c = map (λ (k : ℕ × Field). (Cell c.pp (cell_after address k.0), part k.1 at c))
    ((0, field.First) ∷ (1, field.Second) ∷ (2, field.Third) ∷ (3, field.Fourth) ∷ (4, field.Fifth) ∷ [])

-- Channel d, by the number of its state.
abbrev pub is_in : ChannelState → Situation → Bool
is_in state c = nat_lt c.d 0o14 && c.state == state_number state

abbrev pub is_active : Situation → Bool
is_active c = is_clock c.d || (nat_lt c.d 0o14 && nat_lt 0 c.state)

abbrev pub is_full : Situation → Bool
is_full c = is_clock c.d || (nat_lt c.d 0o14 && nat_lt 1 c.state)

abbrev pub activity : (Situation → Bool) → ChannelState → Situation → Origins
activity ready state c = if ready c then (RegP c.pp, next1 c) ∷ (ChannelMode c.d, set_to (state_number state) c) ∷ [] else []

abbrev pub output : ChannelState → (Situation → Origin) → ChannelState → (Situation → Read) → Situation → Origins
output before next state source c =
    if is_in before c
    then (RegP c.pp, next c) ∷ (ChannelMode c.d, set_to (state_number state) c)
    ∷ (ChannelWord c.d, from by.Moved (source ∷ []) c) ∷ []
    else []

abbrev pub input : Situation → Origins
input c =
    if is_clock c.d then load next1 by.Moved (clock ∷ []) c else
    (if is_in Full c
    then (RegP c.pp, next1 c) ∷ (RegA c.pp, from by.Moved (register ∷ []) c) ∷ (ChannelMode c.d, set_to (state_number Empty) c) ∷ []
    else [])

abbrev pub issue : Situation → Origins
issue c = (RegP c.pp, from by.Moved (m ∷ []) c) ∷ (Phase c.pp, from by.Moved (word ∷ []) c) ∷ (Cell c.pp 0, next1 c) ∷ []

abbrev pub issue_counted : Situation → Origins
issue_counted c =
    (RegP c.pp, from by.Moved (m ∷ []) c) ∷ (RegQ c.pp, from by.Moved (cell_d ∷ []) c) ∷ (Phase c.pp, from by.Moved (word ∷ []) c)
    ∷ (Cell c.pp 0, next1 c) ∷ []

-- The frame gets the sixteen central words from A on, and these get the frame.
abbrev pub frame_origins : Situation → List ℕ → Origins
frame_origins c ks =
    map (λ k. (FrameWord k, part (if k == 0 then field.WithoutB0 else field.Whole) (central_after c.a k) c)) ks

abbrev pub word_origins : Situation → List ℕ → Origins
word_origins c [] = []
word_origins c (k ∷ ks) =
    if nat_lt (central_after c.a k) c.size
    then (Central (central_after c.a k), from by.Moved ((λ c. whole (FrameWord k)) ∷ []) c) ∷ word_origins c ks
    else word_origins c ks

abbrev pub exchange : Situation → Origins
exchange c = (RegP c.pp, next1 c) ∷ (frame_origins c (range_with_len 0 0o20) ++ word_origins c (range_with_len 0 0o20))

-- ---- the table

-- The eight rows with an operand in a cell, 30 to 37, and in the same order 40 to 47 and 50 to 57.
abbrev pub cell_rows : (Situation → Origin) → List Row
cell_rows next =
    row nothing (load next by.Moved (x ∷ []))
    ∷ row nothing (load next by.Sum (a ∷ x ∷ []))
    ∷ row nothing (load next by.Difference (a ∷ x ∷ []))
    ∷ row nothing (load next by.LogicalDifference (a ∷ x ∷ []))
    ∷ row nothing (store next)
    ∷ row nothing (replace next by.Sum by.LowSum (a ∷ x ∷ []))
    ∷ row nothing (replace next by.OneMore by.LowOneMore (x ∷ []))
    ∷ row nothing (replace next by.OneLess by.LowOneLess (x ∷ []))
    ∷ []

abbrev pub rows : List Row
rows =
    row nothing (jump next1)  -- 00
    ∷ row nothing (jump (indexed by.Moved by.Indexed))  -- 01
    ∷ row nothing (λ c. (RegP c.pp, indexed by.After1 by.AfterIndexed c) ∷ (Cell c.pp c.address, next2 c) ∷ [])  -- 02
    ∷ row nothing (branch (λ c. true))  -- 03
    ∷ row by_a (branch (λ c. c.a == 0))  -- 04
    ∷ row by_a (branch (λ c. not (c.a == 0)))  -- 05
    ∷ row by_a (branch (λ c. nat_lt c.a (2 ^ 17)))  -- 06
    ∷ row by_a (branch (λ c. not (nat_lt c.a (2 ^ 17))))  -- 07
    ∷ row nothing (load next1 by.Shifted (a ∷ d ∷ []))  -- 10
    ∷ row nothing (load next1 by.LogicalDifference (a ∷ d ∷ []))  -- 11
    ∷ row nothing (load next1 by.LogicalProduct (a ∷ d ∷ []))  -- 12
    ∷ row nothing (load next1 by.Cleared (a ∷ d ∷ []))  -- 13
    ∷ row nothing (load next1 by.Moved (d ∷ []))  -- 14
    ∷ row nothing (load next1 by.Complement (d ∷ []))  -- 15
    ∷ row nothing (load next1 by.Sum (a ∷ d ∷ []))  -- 16
    ∷ row nothing (load next1 by.Difference (a ∷ d ∷ []))  -- 17
    ∷ row nothing (load next2 by.Moved (d ∷ m ∷ []))  -- 20
    ∷ row nothing (load next2 by.Sum (a ∷ d ∷ m ∷ []))  -- 21
    ∷ row nothing (load next2 by.LogicalProduct (a ∷ d ∷ m ∷ []))  -- 22
    ∷ row nothing (load next2 by.LogicalDifference (a ∷ d ∷ m ∷ []))  -- 23
    ∷ row nothing (jump next1)  -- 24
    ∷ row nothing (jump next1)  -- 25
    ∷ row by_a exchange  -- 26
    ∷ row nothing (load next1 by.Moved ((λ c. record { place = FrameWord 0; field = field.ProgramAddress }) ∷ []))  -- 27
    ∷ (cell_rows next1 ++ cell_rows next1 ++ cell_rows next2 ++  -- 30 to 57
    row by_a (λ c. (RegP c.pp, next1 c) ∷ five_cells c.d c.a c)  -- 60
    ∷ row nothing issue_counted  -- 61
    ∷ row by_a (λ c. if nat_lt c.a c.size then (RegP c.pp, next1 c) ∷ (Central c.a, joined c.d c) ∷ [] else jump next1 c)  -- 62
    ∷ row nothing issue_counted  -- 63
    ∷ row by_state (test is_active)  -- 64
    ∷ row by_state (test (λ c. not (is_active c)))  -- 65
    ∷ row by_state (test is_full)  -- 66
    ∷ row by_state (test (λ c. not (is_full c)))  -- 67
    ∷ row by_state input  -- 70
    ∷ row nothing issue  -- 71
    ∷ row by_state (output Empty next1 Full low_a)  -- 72
    ∷ row nothing issue  -- 73
    ∷ row by_state (activity (is_in Inactive) Empty)  -- 74
    ∷ row by_state (λ c. if is_clock c.d then jump next1 c else activity is_active Inactive c)  -- 75
    ∷ row by_state (output Inactive next1 Function low_a)  -- 76
    ∷ row by_state (output Inactive next2 Function m)  -- 77
    ∷ [])

-- The row of a code, 00 to 77. No code is above 77.
abbrev pub row_of : ℕ → Row
row_of n = slice_index_or rows n (row nothing (λ c. []))
