-- The words of the statements that a disassembler writes.
use Rattle.std.specs.Prelude.{◌≡◌, ◌≤◌, ⊤, MatchOption, take, ℕ, ◌+◌, ◌-◌, ◌*◌, ◌==◌, ◌||◌, nat_le, Bool, true, if◌then◌else◌, List}
use Rattle.std.specs.Prelude.{[], ◌∷◌, ◌++◌, Option, Some, None, fold, length, map, replicate}
use Rattle.pp_notation.specs.Instructions.{form}
use Rattle.pp_notation.specs.InstructionWords.{at_most, constant_words, one_word, then_distance}
use Rattle.pp_notation.specs.Rows.{IsRow, first_address, words_in}
use Rattle.pp_notation.specs.declared.instructions.Form.{Form}
use Rattle.pp_notation.specs.declared.instructions.Form.TheVariants.{Alone, D, Target, Constant, Indexed, Both}
use Rattle.pp_notation.specs.declared.program.Cell.{Cell}
use Rattle.pp_disassembly.specs.declared.statement.Name.{Name}
use Rattle.pp_disassembly.specs.declared.statement.Operand.{Operand}
use Rattle.pp_disassembly.specs.declared.statement.Operand.TheVariants.{Number, Minus, Here, Named}
use Rattle.pp_disassembly.specs.declared.statement.Operation.{Operation}
use Rattle.pp_disassembly.specs.declared.statement.Operation.TheVariants.{Origin, Instruction, Subroutine, Equal, Words, Zeros}
use Rattle.pp_disassembly.specs.declared.statement.Statement.{Statement}

-- ---- an operand

-- The field of an instruction at `here` whose greatest number is `most`: the operand's number, or the complement of one with a
-- minus sign.
abbrev pub field : ℕ → ℕ → Operand → Option ℕ
field most here (Number n) = at_most most n
field most here (Minus n) = if nat_le n most then Some (most - n) else None
field most here Here = at_most most here
field most here (Named name more) = at_most most (name.address + more)

-- ---- an instruction

-- Two words: the code and d, and m.
abbrev pub two_words : ℕ → ℕ → Option ℕ → Option (List ℕ)
two_words code d None = None
two_words code d (Some m) = if nat_le d 0o77 then Some ((code * 0o100 + d) ∷ m ∷ []) else None

-- The words of an instruction of this form. A statement with other operands has none.
abbrev pub words_of_form : Form → ℕ → ℕ → Option Operand → Option ℕ → Option (List ℕ)
words_of_form Alone here code None None = Some ((code * 0o100) ∷ [])
words_of_form Alone here code (Some first) None = one_word code (field 0o77 here first)
words_of_form D here code (Some first) None = one_word code (field 0o77 here first)
words_of_form Target here code (Some first) None = one_word code (then_distance here (field 0o7777 here first))
words_of_form Constant here code (Some first) None = constant_words code (field 0o777777 here first)
words_of_form Indexed here code (Some first) None = two_words code 0 (field 0o7777 here first)
words_of_form Indexed here code (Some first) (Some d) = two_words code d (field 0o7777 here first)
words_of_form Both here code (Some first) (Some d) = two_words code d (field 0o7777 here first)
words_of_form _ here code first second = None

-- The words of an instruction at `here`: its code, the first operand, and d if it is a second one. Codes 24 and 25 have no name of
-- their own.
abbrev pub instruction_words : ℕ → ℕ → Option Operand → Option ℕ → Option (List ℕ)
instruction_words here code first second =
    if code == 0o24 || code == 0o25 then None else words_of_form (form code) here code first second

-- ---- a statement

-- The words of a statement at `here`; ORG is none that has words. SUBR is an exit, 0100 and the address of the exit, until a return
-- jump stores there.
abbrev pub words_of : ℕ → Operation → Option (List ℕ)
words_of here (Instruction code first second) = instruction_words here code first second
words_of here Subroutine = Some (0o100 ∷ here ∷ [])
words_of here (Words words) = Some words.items
words_of here (Zeros count) = Some (replicate count 0)
words_of here (Origin address) = None
words_of here _ = Some []

-- The address that a label of a statement at `here` names. That of SUBR is the entry, after the exit, and that of EQU *-1 the cell
-- before.
abbrev pub labelled_address : ℕ → Operation → ℕ
labelled_address here Subroutine = here + 1
labelled_address here Equal = here - 1
labelled_address here _ = here

-- Whether a label, if there is one, is made of the address that it names.
abbrev pub is_named : Option Name → ℕ → Bool
is_named None address = true
is_named (Some name) address = name.address == address

-- The words so far, each with its address, and the address of the next one.
pub record Assembly : Type 0 where
  pub here : ℕ
  pub cells : List (ℕ × ℕ)

-- Words with their addresses, from an address on.
abbrev pub placed : ℕ → List ℕ → List (ℕ × ℕ)
placed here [] = []
placed here (word ∷ words) = (here, word) ∷ placed (here + 1) words

-- What is assembled after a statement with these words.
abbrev pub with_words : Assembly → Option (List ℕ) → Option Assembly
with_words before None = None
with_words before (Some words) =
    Some (record { here = before.here + length words; cells = before.cells ++ placed before.here words })

-- What is assembled after a statement that does this.
abbrev pub after : Assembly → Operation → Option Assembly
after before (Origin address) = Some (record before { here = address })
after before operation = with_words before (words_of before.here operation)

-- What is assembled after one more statement. A label must be made of the address that it names.
abbrev pub follow : Option Assembly → Statement → Option Assembly
follow None statement = None
follow (Some before) statement =
    if is_named statement.label (labelled_address before.here statement.operation) then after before statement.operation else None

-- What statements assemble to, if each is right: the words and their addresses.
unfoldable pub assembled : List Statement → Option Assembly
assembled statements = fold follow (Some (record { here = 0; cells = [] })) statements

-- The words and their addresses, if all statements are right.
abbrev pub cells_of : Option Assembly → Option (List (ℕ × ℕ))
cells_of None = None
cells_of (Some assembly) = Some assembly.cells

-- The addresses and words of cells.
abbrev pub addressed : List Cell → List (ℕ × ℕ)
addressed = map (λ cell. (cell.address, cell.word))

-- ---- what inner functions add

-- Statements assemble to these cells, and if the address of the next word is known, it is this one.
pub record HasAssembled (statements : List Statement) (next : Option ℕ) (cells : List Cell) : Type 0 where
  pub assembly : Assembly
  pub right : assembled statements ≡ Some assembly
  pub words : assembly.cells ≡ addressed cells
  pub here : MatchOption next ⊤ (λ address. assembly.here ≡ address)

-- A statement has the words of a row, if it is at the row's address.
pub record HasWords (label : Option Name) (operation : Operation) (row : List Cell) : Type 0 where
  pub follows : IsRow (first_address row) row
  pub words : words_of (first_address row) operation ≡ Some (words_in row)
  pub named : is_named label (labelled_address (first_address row) operation) ≡ true

-- The new statements assemble to the cells of a row too, if the next word was for its first cell.
abbrev pub Continues : List Statement → List Statement → List Cell → Type 0
Continues old new row = (before : Assembly) → assembled old ≡ Some before → before.here ≡ first_address row →
    assembled new ≡ Some (record { here = before.here + length row; cells = before.cells ++ addressed row })

-- The new statements assemble to the first cells of a row too, which follow one another.
pub record Adds (old new : List Statement) (row : List Cell) (count : ℕ) : Type 0 where
  pub within : count ≤ length row
  pub follows : IsRow (first_address row) (take count row)
  pub continues : Continues old new (take count row)
