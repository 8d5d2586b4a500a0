-- The lines of a source that a disassembler writes.
use Rattle.std.specs.Prelude.{ℕ, ◌+◌, ◌/◌, ◌%◌, ◌==◌, if◌then◌else◌, Option, List, [], ◌∷◌, ◌++◌, codes}
use Rattle.std.specs.List.{flat_map}
use Rattle.pp_arith.specs.Octal.{octal_text}
use Rattle.pp_notation.specs.Columns.{ended, in_columns, optional}
use Rattle.pp_notation.specs.DisplayCode.{symbol}
use Rattle.pp_notation.specs.Mnemonics.{mnemonic}
use Rattle.pp_disassembly.specs.declared.statement.Kind.{Kind}
use Rattle.pp_disassembly.specs.declared.statement.Kind.TheVariants.{Code, Subroutine as Entry, Data, Exit}
use Rattle.pp_disassembly.specs.declared.statement.Name.{Name}
use Rattle.pp_disassembly.specs.declared.statement.Operand.{Operand}
use Rattle.pp_disassembly.specs.declared.statement.Operand.TheVariants.{Number, Minus, Here, Named}
use Rattle.pp_disassembly.specs.declared.statement.Operation.{Operation}
use Rattle.pp_disassembly.specs.declared.statement.Operation.TheVariants.{Base, Origin, Instruction, Subroutine}
use Rattle.pp_disassembly.specs.declared.statement.Operation.TheVariants.{Equal, Words, Zeros, End}
use Rattle.pp_disassembly.specs.declared.statement.Statement.{Statement}

-- A name is a letter and the address of its cell. The exit of a subroutine has the entry's name and X.
abbrev pub name_of_kind : Kind → ℕ → List ℕ
name_of_kind Code address = codes "L" ++ octal_text address 4
name_of_kind Entry address = codes "S" ++ octal_text address 4
name_of_kind Data address = codes "D" ++ octal_text address 4
name_of_kind Exit address = codes "S" ++ octal_text (address + 1) 4 ++ codes "X"

abbrev pub name_text : Name → List ℕ
name_text name = name_of_kind name.kind name.address

abbrev pub operand_text : Operand → List ℕ
operand_text (Number n) = octal_text n 1
operand_text (Minus n) = codes "-" ++ octal_text n 1
operand_text Here = codes "*"
operand_text (Named name more) = name_text name ++ (if more == 0 then [] else codes "+" ++ octal_text more 1)

-- The operands of an instruction.
abbrev pub operands : Option Operand → Option ℕ → List ℕ
operands first second = optional operand_text first ++ optional (λ d. codes "," ++ octal_text d 1) second

-- Words with a comma between two.
abbrev pub numbers : List ℕ → List ℕ
numbers [] = []
numbers (word ∷ words) = octal_text word 1 ++ flat_map (λ other. codes "," ++ octal_text other 1) words

-- The two symbols of each word.
abbrev pub symbols : List ℕ → List ℕ
symbols = flat_map (λ word. symbol (word / 0o100 % 0o100) ∷ symbol (word % 0o100) ∷ [])

abbrev pub operation_name : Operation → List ℕ
operation_name Base = codes "BASE"
operation_name (Origin address) = codes "ORG"
operation_name (Instruction code first second) = mnemonic (code % 0o100)
operation_name Subroutine = codes "SUBR"
operation_name Equal = codes "EQU"
operation_name (Words words) = codes "CON"
operation_name (Zeros count) = codes "BSSZ"
operation_name (End entry) = codes "END"

-- The operands of a statement. The symbols of words are a comment.
abbrev pub variable : Operation → List ℕ
variable Base = codes "OCTAL"
variable (Origin address) = octal_text address 1
variable (Instruction code first second) = operands first second
variable Subroutine = []
variable Equal = codes "*-1"
variable (Words words) = in_columns 22 (numbers words.items) ++ symbols words.items
variable (Zeros count) = octal_text count 1
variable (End entry) = optional operand_text entry

-- The line of a statement: its label in columns 2 to 9, its operation in 11 to 16, and its operands from 18 on, all decimal.
abbrev pub source_line : Statement → List ℕ
source_line statement = ended (codes " " ++ in_columns 8 (optional name_text statement.label)
    ++ codes " " ++ in_columns 6 (operation_name statement.operation) ++ codes " " ++ variable statement.operation)

-- A line for each statement.
abbrev pub source_text : List Statement → List ℕ
source_text = flat_map source_line
