-- What an instruction has as operand.
use Rattle.std.specs.Prelude.{◌≢◌, ℕ, ◌<◌, ◌==◌, ◌&&◌, ◌||◌, List, nat_le, if◌then◌else◌}
use Rattle.pp_notation.specs.declared.instructions.Form.{Form}
use Rattle.pp_notation.specs.declared.instructions.Form.TheVariants.{Alone, D, Target, Constant, Indexed, Both}
use Rattle.pp_notation.specs.Mnemonics.{mnemonic}

-- No instruction with a code below this one has the name.
abbrev pub IsNoneBelow : List ℕ → ℕ → Type 0
IsNoneBelow name code = (other : ℕ) → other < code → mnemonic other ≢ name

-- The form of the instruction with a code, as docs/ASSEMBLER.md has it.
abbrev pub form : ℕ → Form
form code =
    if code == 0 || (nat_le 0o24 code && nat_le code 0o27) then Alone
    else (if nat_le 0o03 code && nat_le code 0o07 then Target
    else (if nat_le 0o20 code && nat_le code 0o23 then Constant
    else (if code == 0o01 || code == 0o02 || (nat_le 0o50 code && nat_le code 0o57) then Indexed
    else (if code == 0o61 || (nat_le 0o63 code && nat_le code 0o67) || code == 0o71 || code == 0o73 || code == 0o77 then Both
    else D))))

-- How many words an instruction of this form has.
abbrev pub size : Form → ℕ
size Alone = 1
size D = 1
size Target = 1
size Constant = 2
size Indexed = 2
size Both = 2
