-- The instruction table: what the instruction at P writes outside a block transfer. In an effect, i is the instruction
-- and s the state before the step, from which every number is read. A, sums and differences have 18 bits, in one's
-- complement; the twelve bits of a cell count as positive.
use Rattle.std.specs.Prelude.{ℕ, ◌+◌, ◌*◌, ◌-◌, ◌/◌, ◌%◌, ◌==◌, ◌^◌, true, if◌then◌else◌, nat_lt, not, bit_and, bit_xor}
use Rattle.std.specs.Prelude.{List, [], ◌∷◌, length, slice_index, slice_index_or}
use Rattle.pp_arith.specs.{Arith.add18, Arith.sub18, Arith.shift18, Words60.split60}
use Rattle.pp_machine.specs.declared.channel.ChannelState.TheVariants.{Inactive, Empty, Full, Function}
use Rattle.pp_machine.specs.{Frame.program_address_of, Writes.Writes}
use Rattle.pp_step.specs.Channels.{is_clock, is_in, is_active, is_full}
use Rattle.pp_step.specs.Instruction.{Mode, NoAddress, Direct, Indirect, Memory, Unindexed, InstructionNumbers, address_of, next_of}
use Rattle.pp_step.specs.Rows.{jump, branch, test, load, store, replace, five_cells, input, output, activity}
use Rattle.pp_step.specs.{Blocks.issue, Blocks.issue_counted, Exchange.exchange, View.PpView, View.PpPlace, View.P, View.Cell}
use Rattle.pp_step.specs.{View.Central, Words.cell_after, Words.lower12, Words.joined_cells, declared.code.Code.Code}
use Rattle.pp_step.specs.declared.code.Code.TheVariants as code

-- A row of the instruction table has a mnemonic, an addressing mode and an effect: what the instruction writes, from its
-- fields and from the state before the step. [M13, P6]
pub record Row : Type 0 where
  pub mnemonic : Code
  pub mode : Mode
  pub effect : InstructionNumbers → PpView → Writes PpPlace

-- A row, as the table writes it. [M13]
abbrev pub row : Code → Mode → (InstructionNumbers → PpView → Writes PpPlace) → Row
row mnemonic mode effect = record { mnemonic = mnemonic; mode = mode; effect = effect }

-- The 18-bit number dm: d, and then m. [M10]
abbrev pub constant18 : InstructionNumbers → ℕ
constant18 i = i.d * 0o10000 + i.m

-- The operand x is the content of the operand's cell: twelve bits, which count as positive. [M11]
abbrev pub operand : InstructionNumbers → PpView → ℕ
operand i s = slice_index s.cells i.address

-- The 64 (decimal) rows, in the order of their codes, 00 to 77. The codes and mnemonics are the manual's, and so are the
-- effects that have no other mark. [M13, P7, P8, P10, P15]
abbrev pub rows : List Row
rows =
    -- 00 passes. 01 jumps to the operand's address. 02 stores the address of the next instruction there, and jumps to the
    -- cell after it.
    row code.Psn NoAddress (λ i s. jump i.next)  -- 00
    ∷ row code.Ljm Memory (λ i s. jump i.address)  -- 01
    ∷ row code.Rjm Memory (λ i s. (P, cell_after i.address 1) ∷ (Cell i.address, i.next) ∷ [])  -- 02
    -- 03 to 07 jump by d from their own address: 03 always, 04 if A is 000000 (777777 is not), 05 if A is not 000000, 06 if
    -- bit 2^17 of A is 0, and 07 if it is 1.
    ∷ row code.Ujn NoAddress (λ i s. branch true i s.p)  -- 03
    ∷ row code.Zjn NoAddress (λ i s. branch (s.a == 0) i s.p)  -- 04
    ∷ row code.Njn NoAddress (λ i s. branch (not (s.a == 0)) i s.p)  -- 05
    ∷ row code.Pjn NoAddress (λ i s. branch (nat_lt s.a (2 ^ 17)) i s.p)  -- 06
    ∷ row code.Mjn NoAddress (λ i s. branch (not (nat_lt s.a (2 ^ 17))) i s.p)  -- 07
    -- 10 to 17 combine A with d, a six-bit number.
    ∷ row code.Shn NoAddress (λ i s. load i (shift18 s.a i.d))  -- 10
    ∷ row code.Lmn NoAddress (λ i s. load i (bit_xor s.a i.d))  -- 11
    ∷ row code.Lpn NoAddress (λ i s. load i (bit_and s.a i.d))  -- 12
    ∷ row code.Scn NoAddress (λ i s. load i (s.a - bit_and s.a i.d))  -- 13
    ∷ row code.Ldn NoAddress (λ i s. load i i.d)  -- 14
    ∷ row code.Lcn NoAddress (λ i s. load i (0o777777 - i.d))  -- 15
    ∷ row code.Adn NoAddress (λ i s. load i (add18 s.a i.d))  -- 16
    ∷ row code.Sbn NoAddress (λ i s. load i (sub18 s.a i.d))  -- 17
    -- 20 to 23 combine A with the 18-bit number dm. 24 and 25 pass.
    ∷ row code.Ldc Unindexed (λ i s. load i (constant18 i))  -- 20
    ∷ row code.Adc Unindexed (λ i s. load i (add18 s.a (constant18 i)))  -- 21
    ∷ row code.Lpc Unindexed (λ i s. load i (bit_and s.a (constant18 i)))  -- 22
    ∷ row code.Lmc Unindexed (λ i s. load i (bit_xor s.a (constant18 i)))  -- 23
    ∷ row code.Psn24 NoAddress (λ i s. jump i.next)  -- 24
    ∷ row code.Psn25 NoAddress (λ i s. jump i.next)  -- 25
    -- 26 exchanges at central address A. 27 loads the central processor's P into A. Both ignore d. [P7]
    ∷ row code.Exn NoAddress (λ i s. exchange i.next s.a s.central s.frame)  -- 26
    ∷ row code.Rpn NoAddress (λ i s. load i (program_address_of s.frame))  -- 27
    -- 30 to 57 use a cell: 30 to 37 use cell d, 40 to 47 the cell that cell d names, and 50 to 57 the cell at m, indexed by
    -- cell d. A store puts A's lower twelve bits into the cell. 35 to 37, 45 to 47 and 55 to 57 replace its content.
    ∷ row code.Ldd Direct (λ i s. load i (operand i s))  -- 30
    ∷ row code.Add Direct (λ i s. load i (add18 s.a (operand i s)))  -- 31
    ∷ row code.Sbd Direct (λ i s. load i (sub18 s.a (operand i s)))  -- 32
    ∷ row code.Lmd Direct (λ i s. load i (bit_xor s.a (operand i s)))  -- 33
    ∷ row code.Std Direct (λ i s. store i (lower12 s.a))  -- 34
    ∷ row code.Rad Direct (λ i s. replace i (add18 s.a (operand i s)))  -- 35
    ∷ row code.Aod Direct (λ i s. replace i (add18 (operand i s) 1))  -- 36
    ∷ row code.Sod Direct (λ i s. replace i (sub18 (operand i s) 1))  -- 37
    ∷ row code.Ldi Indirect (λ i s. load i (operand i s))  -- 40
    ∷ row code.Adi Indirect (λ i s. load i (add18 s.a (operand i s)))  -- 41
    ∷ row code.Sbi Indirect (λ i s. load i (sub18 s.a (operand i s)))  -- 42
    ∷ row code.Lmi Indirect (λ i s. load i (bit_xor s.a (operand i s)))  -- 43
    ∷ row code.Sti Indirect (λ i s. store i (lower12 s.a))  -- 44
    ∷ row code.Rai Indirect (λ i s. replace i (add18 s.a (operand i s)))  -- 45
    ∷ row code.Aoi Indirect (λ i s. replace i (add18 (operand i s) 1))  -- 46
    ∷ row code.Soi Indirect (λ i s. replace i (sub18 (operand i s) 1))  -- 47
    ∷ row code.Ldm Memory (λ i s. load i (operand i s))  -- 50
    ∷ row code.Adm Memory (λ i s. load i (add18 s.a (operand i s)))  -- 51
    ∷ row code.Sbm Memory (λ i s. load i (sub18 s.a (operand i s)))  -- 52
    ∷ row code.Lmm Memory (λ i s. load i (bit_xor s.a (operand i s)))  -- 53
    ∷ row code.Stm Memory (λ i s. store i (lower12 s.a))  -- 54
    ∷ row code.Ram Memory (λ i s. replace i (add18 s.a (operand i s)))  -- 55
    ∷ row code.Aom Memory (λ i s. replace i (add18 (operand i s) 1))  -- 56
    ∷ row code.Som Memory (λ i s. replace i (sub18 (operand i s) 1))  -- 57
    -- 60 and 62 move one central word between address A and the five cells from d on; 61 and 63 move as many as cell d
    -- says. A central address past the size reads as 0, as `slice_index` does, and is not written. [P8, P15, P19]
    ∷ row code.Crd NoAddress (λ i s. (P, i.next) ∷ five_cells i.d (split60 (slice_index s.central s.a)))  -- 60
    ∷ row code.Crm Unindexed issue_counted  -- 61
    ∷ row code.Cwd NoAddress (λ i s.
    if nat_lt s.a (length s.central) then (P, i.next) ∷ (Central s.a, joined_cells i.d s.cells) ∷ [] else jump i.next)  -- 62
    ∷ row code.Cwm Unindexed issue_counted  -- 63
    -- 64 to 67 jump to m if channel d is active, is inactive, is full, and is not full.
    ∷ row code.Ajm Unindexed (λ i s. test (is_active i.d s.states) i)  -- 64
    ∷ row code.Ijm Unindexed (λ i s. test (not (is_active i.d s.states)) i)  -- 65
    ∷ row code.Fjm Unindexed (λ i s. test (is_full i.d s.states) i)  -- 66
    ∷ row code.Ejm Unindexed (λ i s. test (not (is_full i.d s.states)) i)  -- 67
    -- 70 moves a full channel's data to A, and 72 puts A's lower twelve bits into an empty channel. 71 and 73 do so for as
    -- many words as A says. The clock's channel supplies the clock and is unchanged. [M15, M17, P10, P14]
    ∷ row code.Ian NoAddress (λ i s.
    if is_clock i.d then load i s.clock else input (is_in Full i.d s.states) i (slice_index s.registers i.d))  -- 70
    ∷ row code.Iam Unindexed issue  -- 71
    ∷ row code.Oan NoAddress (λ i s. output (is_in Empty i.d s.states) i Full (lower12 s.a))  -- 72
    ∷ row code.Oam Unindexed issue  -- 73
    -- 74 activates an inactive channel. 75 disconnects an active channel, and only passes on the clock's channel. 76 and 77
    -- send a function code to an inactive channel, from A and from m. Else 70 to 77 wait for their channel. [M15, P10, P14]
    ∷ row code.Acn NoAddress (λ i s. activity (is_in Inactive i.d s.states) i Empty)  -- 74
    ∷ row code.Dcn NoAddress (λ i s. if is_clock i.d then jump i.next else activity (is_active i.d s.states) i Inactive)  -- 75
    ∷ row code.Fan NoAddress (λ i s. output (is_in Inactive i.d s.states) i Function (lower12 s.a))  -- 76
    ∷ row code.Fnc Unindexed (λ i s. output (is_in Inactive i.d s.states) i Function i.m)  -- 77
    ∷ []

-- The row of a code, 00 to 77: so many rows from the first one. No code is above 77, so the last argument, a wait, is an
-- unused default. [M13]
abbrev pub row_of : ℕ → Row
row_of n = slice_index_or rows n (row code.Fnc NoAddress (λ i s. []))

-- The instruction at p. The upper six bits of its first word are its code and the lower six are d; m is the cell after
-- it. [M6]
abbrev pub instruction_at : ℕ → List ℕ → InstructionNumbers
instruction_at p cells =
    let word = slice_index cells p in
    let code = word / 0o100 in
    let d = word % 0o100 in
    let m = slice_index cells (cell_after p 1) in
    record {
      word = word;
      code = code;
      d = d;
      m = m;
      address = address_of (row_of code).mode d m cells;
      next = next_of (row_of code).mode p;
    }
