-- Every number that a step writes is made as its origin says.
use Rattle.std.proofs.Common.{◌≡◌, ℕ, ◌≤◌, ◌/◌, ◌%◌, ◌==◌, ◌+◌, ◌*◌, ◌^◌, ◌||◌, Bool, true, false, not, if◌then◌else◌, [], ◌∷◌, ap}
use Rattle.std.proofs.Common.{zero, suc, drop, sym, subst, ⊎_elim, ◌∙◌, refl, arith, length, slice_index, map, nat_lt}
use Rattle.std.proofs.lemmas.{Bool.cases_lt, List.get_or_past, List.drop_more, List.map-append, Bool.Decides.nat_tests}
use Rattle.std.proofs.Math.ListN.{drop_of_length-le}
use Rattle.std.specs.List.{range_with_len}
use Rattle.pp_arith.specs.Words60.{split60}
use Rattle.pp_machine.proofs.PushedLists.{renamed-append}
use Rattle.pp_machine.specs.declared.place.Place.{Place}
use Rattle.pp_machine.specs.declared.place.Place.TheVariants as place
use Rattle.pp_machine.specs.Machine.{Machine, processor}
use Rattle.pp_machine.specs.{Frame.frame_word, Writes.Writes, Writes.renamed}
use Rattle.pp_machine.specs.declared.channel.ChannelState.TheVariants as state
use Rattle.pp_step.proofs.Numbers.{number_of-code_of}
use Rattle.pp_step.specs.Blocks as block
use Rattle.pp_step.specs.Channels.{is_clock, is_in, is_active, is_full}
use Rattle.pp_step.specs.Exchange.{exchange as step_exchange, frame_pairs, word_pairs, loaded}
use Rattle.pp_step.specs.Instruction.{address_of, next_of}
use Rattle.pp_step.specs.InstructionTable.{instruction_at, row_of as step_row_of, rows as step_rows}
use Rattle.pp_step.specs.View.{PpView, PpPlace, Central, pp_place, view_of}
use Rattle.pp_step.specs.{Step.pp_writes, Step.instruction_writes, Blocks.block_writes, Rows.five_cells, Words.cell_after}
use Rattle.pp_step.specs.{Words.central_after, Words.joined_cells, Codes.code_of, Codes.number_of, declared.code.Code.Code}
use Rattle.pp_step.specs.declared.code.Code.TheVariants as code
use Rattle.pp_origins.specs.Origin.{Origin, Origins, field_of, result, results}
use Rattle.pp_origins.specs.Rows.{Row, row_of, rows, exchange, frame_origins, from, part, word_origins}
use Rattle.pp_origins.specs.Rows as spec
use Rattle.pp_origins.specs.Blocks as blocks
use Rattle.pp_origins.specs.Step.{step_writes, situation, origins_by, operand_address}
use Rattle.pp_origins.specs.Step.{instruction_origins, block_origins, step_origins}
use Rattle.pp_origins.specs.declared.situation.Situation.{Situation}
use Rattle.pp_origins.specs.declared.origin.Field.{Field}
use Rattle.pp_origins.specs.declared.origin.Field.TheVariants as field
use Rattle.pp_origins.specs.declared.origin.Operation.TheVariants as by

-- what is true of the number of each code, and of a number that no code has, is true of each number
each_number : (T : ℕ → Type 0) → ((c : Code) → T (number_of c)) → ((n : ℕ) → 64 ≤ n → T n) → (n : ℕ) → T n
each_number T each past n = ⊎_elim (λ below. subst T (number_of-code_of n below) (each (code_of n))) (past n) (cases_lt n 64)

-- what processor n sees of the machine
abbrev seen : ℕ → Machine → PpView
seen n s = view_of (processor s n) s.channels s.central s.frame

-- what the instruction at P writes, if its code is k
abbrev coded : ℕ → PpView → Writes PpPlace
coded k v = let i = instruction_at v.p v.cells in
    (step_row_of k).effect
    (record i { code = k; address = address_of (step_row_of k).mode i.d i.m v.cells; next = next_of (step_row_of k).mode v.p }) v

-- its origins
abbrev coded_origins : ℕ → ℕ → Machine → Origins
coded_origins k n s =
    let i = instruction_at (processor s n).p (processor s n).cells in
    let mode = (step_row_of k).mode in
    origins_by (row_of k) n i.d (operand_address mode (address_of mode i.d i.m (processor s n).cells)) s

-- ---- choices

module _ (n : ℕ) (s : Machine) where
  -- these writes come from these origins
  abbrev Come : Writes PpPlace → Origins → Type 0
  Come x origins = renamed (pp_place n) x ≡ results s origins

  either : (b : Bool) (x y : Writes PpPlace) (x2 y2 : Origins) → Come x x2 → Come y y2 →
      Come (if b then x else y) (if b then x2 else y2)
  either true x y x2 y2 h k = h
  either false x y x2 y2 h k = k

-- a number that is chosen, of the first pair
chosen : (s : Machine) (b : Bool) (p : Place) (x y : ℕ) (x2 y2 : Origin) (rest : Writes Place) → x ≡ result s x2 → y ≡ result s y2 →
    (p, if b then x else y) ∷ rest ≡ (p, result s (if b then x2 else y2)) ∷ rest
chosen s true p x y x2 y2 rest h k = ap (λ n. (p, n) ∷ rest) h
chosen s false p x y x2 y2 rest h k = ap (λ n. (p, n) ∷ rest) k

-- the next address, of an address that is chosen
returned : (s : Machine) (b : Bool) (p : Place) (x y : ℕ) (x2 y2 : Origin) (rest : Writes Place) → cell_after x 1 ≡ result s x2 →
    cell_after y 1 ≡ result s y2 →
    (p, cell_after (if b then x else y) 1) ∷ rest ≡ (p, result s (if b then x2 else y2)) ∷ rest
returned s true p x y x2 y2 rest h k = ap (λ n. (p, n) ∷ rest) h
returned s false p x y x2 y2 rest h k = ap (λ n. (p, n) ∷ rest) k

-- ---- parts of words

field_zero : (field : Field) → field_of field 0 ≡ 0
field_zero field.Whole = refl
field_zero field.Low = refl
field_zero field.First = refl
field_zero field.Second = refl
field_zero field.Third = refl
field_zero field.Fourth = refl
field_zero field.Fifth = refl
field_zero field.WithoutB0 = refl
field_zero field.ProgramAddress = refl
field_zero field.UpperSix = refl
field_zero field.LowerSix = refl
field_zero field.Word = refl
field_zero field.D = refl
field_zero field.M = refl

part_if : (s : Machine) (b : Bool) (a : ℕ) (field : Field) (c : Situation) → (b ≡ false → slice_index s.central a ≡ 0) →
    result s (if b then from by.Moved ((λ c. record { place = place.Central a; field = field }) ∷ []) c else from by.NoWord [] c)
    ≡ field_of field (slice_index s.central a)
part_if s true a field c h = refl
part_if s false a field c h = sym (ap (field_of field) (h refl) ∙ field_zero field)

-- what is read of a central word, or of one that is not there
part_explained : (s : Machine) (a : ℕ) (field : Field) (c : Situation) → c.size ≡ length s.central →
    result s (part field a c) ≡ field_of field (slice_index s.central a)
part_explained s a field c size = part_if s (nat_lt a c.size) a field c
    (λ past. get_or_past s.central a 0 (grind (arith, nat_tests, past, size)))

five_explained : (n : ℕ) (s : Machine) (address a : ℕ) (c : Situation) → c.pp ≡ n → c.size ≡ length s.central →
    renamed (pp_place n) (five_cells address (split60 (slice_index s.central a))) ≡ results s (spec.five_cells address a c)
five_explained n s address a c here size = rw (
  here,
  part_explained s a field.First c size,
  part_explained s a field.Second c size,
  part_explained s a field.Third c size,
  part_explained s a field.Fourth c size,
  part_explained s a field.Fifth c size,
) refl

-- ---- the exchange

words_if : (n : ℕ) (s : Machine) (b : Bool) (k x : ℕ) (origin : Origin) (y : Writes PpPlace) (y2 : Origins) → x ≡ result s origin →
    renamed (pp_place n) y ≡ results s y2 →
    renamed (pp_place n) (if b then (Central k, x) ∷ y else y) ≡ results s (if b then (place.Central k, origin) ∷ y2 else y2)
words_if n s true k x origin y y2 h e = cc (h, e)
words_if n s false k x origin y y2 h e = e

words_explained : (n : ℕ) (s : Machine) (c : Situation) (count k : ℕ) → c.size ≡ length s.central → count + k ≡ length s.frame →
    renamed (pp_place n) (word_pairs c.size c.a k (drop k s.frame)) ≡ results s (word_origins c (range_with_len k count))
words_explained n s c zero k size h = rw (drop_of_length-le s.frame {i = k} (omega (arith, h))) refl
words_explained n s c (suc count) k size h =
    let rest = words_explained n s c count (k + 1) size (omega (arith, h)) in
    rw (drop_more s.frame k 0 (omega (arith, h))) (words_if n s (nat_lt (central_after c.a k) c.size) _ _ _ _ _ refl rest)

frame_field : (b : Bool) (w : ℕ) → field_of (if b then field.WithoutB0 else field.Whole) w ≡ (if b then w / 2 ^ 18 * 2 ^ 18 else w)
frame_field true w = refl
frame_field false w = refl

frame_explained : (n : ℕ) (s : Machine) (c : Situation) (count k : ℕ) → c.size ≡ length s.central →
    let word : ℕ → ℕ = λ i. frame_word i (slice_index s.central (central_after c.a i)) in
    renamed (pp_place n) (frame_pairs k (map word (range_with_len k count))) ≡ results s (frame_origins c (range_with_len k count))
frame_explained n s c zero k size = refl
frame_explained n s c (suc count) k size =
    let address = central_after c.a k in
    let part = part_explained s address (if k == 0 then field.WithoutB0 else field.Whole) c size in
    cc (part ∙ frame_field (k == 0) (slice_index s.central address), frame_explained n s c count (k + 1) size)

exchange_explained : (n : ℕ) (s : Machine) (c : Situation) → c.pp ≡ n → c.a ≡ (processor s n).a → c.size ≡ length s.central →
    length s.frame ≡ 16 →
    renamed (pp_place n) (step_exchange (cell_after (processor s n).p 1) c.a s.central s.frame) ≡ results s (exchange c)
unfolding loaded
exchange_explained n s c here a size h =
    let joined = map-append {B = Place × ℕ} (λ (w : Place × Origin). (w.0, result s w.1)) (frame_origins c (range_with_len 0 0o20))
    (word_origins c (range_with_len 0 0o20)) in
    let parted = renamed-append (pp_place n) (frame_pairs 0 (loaded c.a s.central)) (word_pairs (length s.central) c.a 0 s.frame) in
    cc (here, joined, parted, size, frame_explained n s c 16 0 size, words_explained n s c 16 0 size (sym h))

-- ---- the rows

-- d of the instruction at P
abbrev low_of : ℕ → Machine → ℕ
low_of n s = slice_index (processor s n).cells (processor s n).p % 0o100

row_explained : (k : Code) (n : ℕ) (s : Machine) → length s.frame ≡ 16 →
    renamed (pp_place n) (coded (number_of k) (seen n s)) ≡ results s (coded_origins (number_of k) n s)
row_explained code.Exn n s h =
    exchange_explained n s (situation (row_of 0o26) n (low_of n s) (low_of n s) s) refl refl refl h
row_explained code.Crd n s h = ap (λ ws. (place.RegP n, cell_after (processor s n).p 1) ∷ ws)
    (five_explained n s (low_of n s) (processor s n).a (situation (row_of 0o60) n (low_of n s) (low_of n s) s) refl refl)
row_explained code.Ljm n s h = chosen s (low_of n s == 0) (place.RegP n) _ _ _ _ _ refl refl
row_explained code.Rjm n s h = returned s (low_of n s == 0) (place.RegP n) _ _ _ _ _ refl refl
row_explained code.Zjn n s h = chosen s ((processor s n).a == 0) (place.RegP n) _ _ _ _ _ refl refl
row_explained code.Njn n s h = chosen s (not ((processor s n).a == 0)) (place.RegP n) _ _ _ _ _ refl refl
row_explained code.Pjn n s h = chosen s (nat_lt (processor s n).a (2 ^ 17)) (place.RegP n) _ _ _ _ _ refl refl
row_explained code.Mjn n s h = chosen s (not (nat_lt (processor s n).a (2 ^ 17))) (place.RegP n) _ _ _ _ _ refl refl
row_explained code.Cwd n s h = either n s (nat_lt (processor s n).a (length s.central)) _ _ _ _ refl refl
row_explained code.Ajm n s h = chosen s (is_active (low_of n s) s.channels.states) (place.RegP n) _ _ _ _ _ refl refl
row_explained code.Ijm n s h = chosen s (not (is_active (low_of n s) s.channels.states)) (place.RegP n) _ _ _ _ _ refl refl
row_explained code.Fjm n s h = chosen s (is_full (low_of n s) s.channels.states) (place.RegP n) _ _ _ _ _ refl refl
row_explained code.Ejm n s h = chosen s (not (is_full (low_of n s) s.channels.states)) (place.RegP n) _ _ _ _ _ refl refl
row_explained code.Ian n s h = let d = low_of n s in
    either n s (is_clock d) _ _ _ _ refl (either n s (is_in state.Full d s.channels.states) _ _ _ _ refl refl)
row_explained code.Oan n s h = either n s (is_in state.Empty (low_of n s) s.channels.states) _ _ _ _ refl refl
row_explained code.Acn n s h = either n s (is_in state.Inactive (low_of n s) s.channels.states) _ _ _ _ refl refl
row_explained code.Dcn n s h = let d = low_of n s in
    either n s (is_clock d) _ _ _ _ refl (either n s (is_active d s.channels.states) _ _ _ _ refl refl)
row_explained code.Fan n s h = either n s (is_in state.Inactive (low_of n s) s.channels.states) _ _ _ _ refl refl
row_explained code.Fnc n s h = either n s (is_in state.Inactive (low_of n s) s.channels.states) _ _ _ _ refl refl
row_explained _ n s h = refl

instruction_explained : (n : ℕ) (s : Machine) → length s.frame ≡ 16 →
    renamed (pp_place n) (instruction_writes (seen n s)) ≡ results s (instruction_origins n s)
instruction_explained n s h =
    each_number (λ k. renamed (pp_place n) (coded k (seen n s)) ≡ results s (coded_origins k n s)) (λ c. row_explained c n s h)
    (λ k past. rw (get_or_past step_rows k _ past, get_or_past rows k _ past) refl)
    (slice_index (processor s n).cells (processor s n).p / 0o100)

-- ---- block transfers

-- a row that is chosen
by_row : (n : ℕ) (s : Machine) (d : ℕ) (b : Bool) (x y : Writes PpPlace) (r q : Row) →
    renamed (pp_place n) x ≡ results s (origins_by r n d 0 s) → renamed (pp_place n) y ≡ results s (origins_by q n d 0 s) →
    renamed (pp_place n) (if b then x else y) ≡ results s (origins_by (if b then r else q) n d 0 s)
by_row n s d true x y r q h k = h
by_row n s d false x y r q h k = k

central_input_explained : (n : ℕ) (s : Machine) (d : ℕ) → renamed (pp_place n) (block.central_input (seen n s))
    ≡ results s (origins_by (spec.row blocks.by_a_and_q blocks.central_input) n d 0 s)
central_input_explained n s d = let x = processor s n in
    either n s (x.q == 0) _ _ _ _ refl (cc (five_explained n s x.p x.a
    (situation (spec.row blocks.by_a_and_q blocks.central_input) n d 0 s) refl refl))

block_explained : (n : ℕ) (s : Machine) → renamed (pp_place n) (block_writes (seen n s)) ≡ results s (block_origins n s)
block_explained n s =
    let x = processor s n in
    let d = x.phase % 0o100 in
    let states = s.channels.states in
    let output = situation (spec.row blocks.by_a_and_q blocks.central_output) n d 0 s in
    by_row n s d (x.phase / 0o100 == 0o61) _ _ _ _ (central_input_explained n s d)
    (by_row n s d (x.phase / 0o100 == 0o63) _ _ _ _
    (either n s (x.q == 0) _ _ _ _ refl (cc (either n s (nat_lt x.a (length s.central))
    ((Central x.a, joined_cells x.p x.cells) ∷ []) [] ((place.Central x.a, spec.joined x.p output) ∷ []) [] refl refl)))
    (by_row n s d (x.phase / 0o100 == 0o71) _ _ _ _
    (either n s (x.a == 0) _ _ _ _ refl (either n s (is_clock d) _ _ _ _ refl (either n s (not (is_active d states)) _ _ _ _
    (returned s (x.p == 0) (place.RegP n) _ _ _ _ _ refl refl)
    (either n s (is_in state.Full d states) _ _ _ _ refl refl))))
    (by_row n s d (x.phase / 0o100 == 0o73) _ _ _ _
    (either n s (x.a == 0 || not (is_active d states)) _ _ _ _ refl
    (either n s (is_in state.Empty d states) _ _ _ _ refl refl)) refl)))

-- ---- a step

pub step_explained : (n : ℕ) (s : Machine) → length s.frame ≡ 16 → step_writes n s ≡ results s (step_origins n s)
unfolding pp_writes step_origins
step_explained n s h = either n s ((processor s n).phase == 0) _ _ _ _ (instruction_explained n s h) (block_explained n s)
