-- The control places decide what a step reads and writes, and what is read for a place its new number.
use Rattle.std.proofs.Common.{◌≡◌, ℕ, ◌/◌, ◌%◌, ◌==◌, ◌&&◌, Bool, true, false, if◌then◌else◌, [], ◌∷◌, ◌++◌, ap, sym, ◌∙◌, refl}
use Rattle.std.proofs.Common.{arith, length, slice_index, ◌≤◌, nat_lt, List, Option, Some, None}
use Rattle.std.proofs.lemmas.{List.get_or_past, Bool.Decides.nat_tests}
use Rattle.std.specs.Option.{option_map}
use Rattle.pp_arith.specs.Arith.{index12}
use Rattle.pp_machine.specs.Machine.{IsShaped, Machine, lookup, number, processor, same_place}
use Rattle.pp_machine.specs.Writes.{Writes}
use Rattle.pp_machine.specs.declared.place.Place.{Place}
use Rattle.pp_machine.specs.declared.place.Place.TheVariants.{Cell, RegA, RegQ, ChannelMode}
use Rattle.pp_step.specs.Instruction.{Mode, NoAddress, Direct, Indirect, Memory, Unindexed, address_of}
use Rattle.pp_step.specs.InstructionTable.{row_of as step_row_of}
use Rattle.pp_step.specs.Words.{cell_after}
use Rattle.pp_origins.proofs.Explained.{step_explained}
use Rattle.pp_origins.specs.Blocks.{block_row}
use Rattle.pp_origins.specs.Origin.{Origin, Origins, result, results}
use Rattle.pp_origins.specs.Rows.{Row, row_of}
use Rattle.pp_origins.specs.Step.{AreEnough, AreReadSame, AreSame, address_places, block_origins, block_places, control_places}
use Rattle.pp_origins.specs.Step.{decided, instruction_origins, instruction_places, operand_address, origin_of, origins_by}
use Rattle.pp_origins.specs.Step.{place_if, row_places, step_origins, step_writes}

-- two machines of one shape
pub record AreAlike (s t : Machine) : Type 0 where
  pub states : length s.channels.states ≡ 12
  pub states2 : length t.channels.states ≡ 12
  pub size : length t.central ≡ length s.central

split_same : (s t : Machine) (a b : List Place) → AreSame s t (a ++ b) → AreSame s t a × AreSame s t b
split_same s t [] b h = (tt, h)
split_same s t (x ∷ a) b h = let rest = split_same s t a b h.1 in ((h.0, rest.0), rest.1)

choose : (s t : Machine) (b : Bool) (xs ys : List Place) (x x2 y y2 : Origins) → AreSame s t (if b then xs else ys) →
    (AreSame s t xs → x ≡ x2) → (AreSame s t ys → y ≡ y2) → (if b then x else y) ≡ (if b then x2 else y2)
choose s t true xs ys x x2 y y2 same h k = h same
choose s t false xs ys x x2 y y2 same h k = k same

-- ---- what a row sees

decided_same : (s t : Machine) (b : Bool) (place : Place) → AreSame s t (place_if b place) →
    decided b (number t place) ≡ decided b (number s place)
decided_same s t true place h = h.0
decided_same s t false place h = refl

-- the state of a channel, or of one that is not there
state_same : (s t : Machine) (b c : Bool) (d : ℕ) → AreSame s t (place_if (b && c) (ChannelMode d)) →
    (c ≡ false → slice_index t.channels.states d ≡ slice_index s.channels.states d) →
    decided b (slice_index t.channels.states d) ≡ decided b (slice_index s.channels.states d)
state_same s t true true d h past = h.0
state_same s t true false d h past = past refl
state_same s t false c d h past = refl

no_state : (s t : Machine) (d : ℕ) → AreAlike s t → nat_lt d 12 ≡ false →
    slice_index t.channels.states d ≡ slice_index s.channels.states d
no_state s t d alike past =
    let above : 12 ≤ d = grind (arith, nat_tests, past) in
    get_or_past t.channels.states d 0 (omega (arith, above, alike.states2))
    ∙ sym (get_or_past s.channels.states d 0 (omega (arith, above, alike.states)))

origins_by_same : (n : ℕ) (s t : Machine) (row : Row) (d address address2 : ℕ) → AreAlike s t →
    (processor t n).p ≡ (processor s n).p → address2 ≡ address → AreSame s t (row_places row n d) →
    origins_by row n d address2 t ≡ origins_by row n d address s
origins_by_same n s t row d address address2 alike p operand h =
    let states = place_if (row.deciding.state && nat_lt d 0o14) (ChannelMode d) in
    let first = split_same s t (place_if row.deciding.a (RegA n)) (place_if row.deciding.q (RegQ n) ++ states) h in
    let second = split_same s t (place_if row.deciding.q (RegQ n)) states first.1 in
    let a = decided_same s t row.deciding.a (RegA n) first.0 in
    let q = decided_same s t row.deciding.q (RegQ n) second.0 in
    let state = state_same s t row.deciding.state (nat_lt d 12) d second.1 (no_state s t d alike) in
    ap row.origins (cc (p, operand, a, q, state, alike.size))

-- ---- the operand's address

index_same : (n : ℕ) (s t : Machine) (b : Bool) (m m2 d : ℕ) → m2 ≡ m → AreSame s t (if b then [] else Cell n d ∷ []) →
    (if b then m2 else index12 m2 (slice_index (processor t n).cells d))
    ≡ (if b then m else index12 m (slice_index (processor s n).cells d))
index_same n s t true m m2 d e h = e
index_same n s t false m m2 d e h = cc (e, h.0)

address_same : (n : ℕ) (s t : Machine) (mode : Mode) (p d : ℕ) → AreSame s t (address_places mode n p d) →
    operand_address mode (address_of mode d (slice_index (processor t n).cells (cell_after p 1)) (processor t n).cells)
    ≡ operand_address mode (address_of mode d (slice_index (processor s n).cells (cell_after p 1)) (processor s n).cells)
address_same n s t NoAddress p d h = refl
address_same n s t Direct p d h = refl
address_same n s t Indirect p d h = h.0
address_same n s t Memory p d h = index_same n s t (d == 0) _ _ d h.0 h.1
address_same n s t Unindexed p d h = refl

-- ---- a step

abbrev coded : ℕ → ℕ → ℕ → Machine → Origins
coded n p word s = let code = word / 0o100 in let d = word % 0o100 in
    origins_by (row_of code) n d (operand_address (step_row_of code).mode
    (address_of (step_row_of code).mode d (slice_index (processor s n).cells (cell_after p 1)) (processor s n).cells)) s

instruction_same : (n : ℕ) (s t : Machine) → AreAlike s t → (processor t n).p ≡ (processor s n).p →
    AreSame s t (instruction_places n s) → instruction_origins n t ≡ instruction_origins n s
instruction_same n s t alike p h =
    let x = processor s n in
    let w = slice_index x.cells x.p in
    let mode = (step_row_of (w / 0o100)).mode in
    let word : slice_index (processor t n).cells (processor t n).p ≡ w = cc (p, h.0) in
    let parts = split_same s t (address_places mode n x.p (w % 0o100)) (row_places (row_of (w / 0o100)) n (w % 0o100)) h.1 in
    ap (λ k. coded n k (slice_index (processor t n).cells (processor t n).p) t) p ∙ ap (λ k. coded n x.p k t) word
    ∙ origins_by_same n s t (row_of (w / 0o100)) (w % 0o100) _ _ alike p (address_same n s t mode x.p (w % 0o100) parts.0) parts.1

block_same : (n : ℕ) (s t : Machine) → AreAlike s t → (processor t n).phase ≡ (processor s n).phase →
    (processor t n).p ≡ (processor s n).p → AreSame s t (block_places n s) → block_origins n t ≡ block_origins n s
block_same n s t alike phase p h =
    let k = (processor s n).phase in
    ap (λ k. origins_by (block_row (k / 0o100)) n (k % 0o100) 0 t) phase
    ∙ origins_by_same n s t (block_row (k / 0o100)) (k % 0o100) 0 0 alike p refl h

pub origins_same : (n : ℕ) (s t : Machine) → AreAlike s t → AreSame s t (control_places n s) → step_origins n t ≡ step_origins n s
unfolding step_origins control_places
origins_same n s t alike h =
    ap (λ k. if k == 0 then instruction_origins n t else block_origins n t) h.0
    ∙ choose s t ((processor s n).phase == 0) (instruction_places n s) (block_places n s) _ _ _ _ h.1.1
    (instruction_same n s t alike h.1.0) (block_same n s t alike h.0 h.1.0)

-- ---- numbers

pub result_same : (s t : Machine) (origin : Origin) → t.reader.deck ≡ s.reader.deck → AreReadSame s t origin.reads →
    result t origin ≡ result s origin
result_same s t origin deck h = cc (deck, h)

if_some : (b : Bool) (s : Machine) (o : Origin) (rest : Option Origin) →
    option_map (result s) (if b then Some o else rest) ≡ (if b then Some (result s o) else option_map (result s) rest)
if_some true s o rest = refl
if_some false s o rest = refl

pub looked_up : (s : Machine) (ws : Origins) (place : Place) →
    lookup (results s ws) place ≡ option_map (result s) (origin_of ws place)
looked_up s [] place = refl
looked_up s (w ∷ ws) place =
    ap (λ rest. if same_place w.0 place then Some (result s w.1) else rest) (looked_up s ws place)
    ∙ sym (if_some (same_place w.0 place) s w.1 (origin_of ws place))

-- what a list of writes comes from in both machines is enough
pub enough : (written : Machine → Writes Place) (origins : Machine → Origins) (s t : Machine) (place : Place) (origin : Origin) →
    written s ≡ results s (origins s) → written t ≡ results t (origins t) → origins t ≡ origins s → t.reader.deck ≡ s.reader.deck →
    origin_of (origins s) place ≡ Some origin → AreEnough written s t place origin
enough written origins s t place origin here there same deck found = record {
  written = ap (λ ws. lookup ws place) here ∙ looked_up s (origins s) place ∙ ap (option_map (result s)) found;
  same = λ reads. ap (λ ws. lookup ws place) there ∙ looked_up t (origins t) place
      ∙ ap (λ ws. option_map (result t) (origin_of ws place)) same
      ∙ ap (option_map (result t)) found ∙ ap Some (result_same s t origin deck reads);
}

pub unwritten : (written : Machine → Writes Place) (origins : Machine → Origins) (s t : Machine) (place : Place) →
    written t ≡ results t (origins t) → origins t ≡ origins s → origin_of (origins s) place ≡ None → lookup (written t) place ≡ None
unwritten written origins s t place there same found = ap (λ ws. lookup ws place) there ∙ looked_up t (origins t) place
    ∙ ap (λ ws. option_map (result t) (origin_of ws place)) same ∙ ap (option_map (result t)) found

pub alike : (s t : Machine) → IsShaped s.setup.central_words s → IsShaped t.setup.central_words t → t.setup ≡ s.setup → AreAlike s t
alike s t ok ok2 setup = record {
  states = ok.states;
  states2 = ok2.states;
  size = ok2.central ∙ ap (λ k. k.central_words) setup ∙ sym ok.central;
}

pub reads_are_enough : (n : ℕ) (s t : Machine) (place : Place) (origin : Origin) → IsShaped s.setup.central_words s →
    IsShaped t.setup.central_words t → t.setup ≡ s.setup → t.reader.deck ≡ s.reader.deck → AreSame s t (control_places n s) →
    origin_of (step_origins n s) place ≡ Some origin → AreEnough (step_writes n) s t place origin
reads_are_enough n s t place origin ok ok2 setup deck same found =
    enough (step_writes n) (step_origins n) s t place origin (step_explained n s ok.frame) (step_explained n t ok2.frame)
    (origins_same n s t (alike s t ok ok2 setup) same) deck found

pub others_stay : (n : ℕ) (s t : Machine) (place : Place) → IsShaped s.setup.central_words s → IsShaped t.setup.central_words t →
    t.setup ≡ s.setup → AreSame s t (control_places n s) → origin_of (step_origins n s) place ≡ None →
    lookup (step_writes n t) place ≡ None
others_stay n s t place ok ok2 setup same found =
    let origins = origins_same n s t (alike s t ok ok2 setup) same in
    unwritten (step_writes n) (step_origins n) s t place (step_explained n t ok2.frame) origins found
