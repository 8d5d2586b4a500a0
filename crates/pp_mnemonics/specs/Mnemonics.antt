-- The texts of the mnemonics in the instruction table, and the words of its rows. Codes 24 and 25 pass, as 00 does, and an
-- assembler names them like it.
use Rattle.std.specs.Prelude.{ℕ, List, codes, map}
use Rattle.std.specs.List.{range_with_len}
use Rattle.pp_notation.specs.Instructions.{form, size}
use Rattle.pp_step.specs.Instruction.{Memory, Mode, Unindexed}
use Rattle.pp_step.specs.InstructionTable.{rows}
use Rattle.pp_step.specs.declared.code.Code.{Code}
use Rattle.pp_step.specs.declared.code.Code.TheVariants as code

abbrev pub text_of : Code → List ℕ
text_of code.Psn = codes "PSN"
text_of code.Ljm = codes "LJM"
text_of code.Rjm = codes "RJM"
text_of code.Ujn = codes "UJN"
text_of code.Zjn = codes "ZJN"
text_of code.Njn = codes "NJN"
text_of code.Pjn = codes "PJN"
text_of code.Mjn = codes "MJN"
text_of code.Shn = codes "SHN"
text_of code.Lmn = codes "LMN"
text_of code.Lpn = codes "LPN"
text_of code.Scn = codes "SCN"
text_of code.Ldn = codes "LDN"
text_of code.Lcn = codes "LCN"
text_of code.Adn = codes "ADN"
text_of code.Sbn = codes "SBN"
text_of code.Ldc = codes "LDC"
text_of code.Adc = codes "ADC"
text_of code.Lpc = codes "LPC"
text_of code.Lmc = codes "LMC"
text_of code.Psn24 = codes "PSN"
text_of code.Psn25 = codes "PSN"
text_of code.Exn = codes "EXN"
text_of code.Rpn = codes "RPN"
text_of code.Ldd = codes "LDD"
text_of code.Add = codes "ADD"
text_of code.Sbd = codes "SBD"
text_of code.Lmd = codes "LMD"
text_of code.Std = codes "STD"
text_of code.Rad = codes "RAD"
text_of code.Aod = codes "AOD"
text_of code.Sod = codes "SOD"
text_of code.Ldi = codes "LDI"
text_of code.Adi = codes "ADI"
text_of code.Sbi = codes "SBI"
text_of code.Lmi = codes "LMI"
text_of code.Sti = codes "STI"
text_of code.Rai = codes "RAI"
text_of code.Aoi = codes "AOI"
text_of code.Soi = codes "SOI"
text_of code.Ldm = codes "LDM"
text_of code.Adm = codes "ADM"
text_of code.Sbm = codes "SBM"
text_of code.Lmm = codes "LMM"
text_of code.Stm = codes "STM"
text_of code.Ram = codes "RAM"
text_of code.Aom = codes "AOM"
text_of code.Som = codes "SOM"
text_of code.Crd = codes "CRD"
text_of code.Crm = codes "CRM"
text_of code.Cwd = codes "CWD"
text_of code.Cwm = codes "CWM"
text_of code.Ajm = codes "AJM"
text_of code.Ijm = codes "IJM"
text_of code.Fjm = codes "FJM"
text_of code.Ejm = codes "EJM"
text_of code.Ian = codes "IAN"
text_of code.Iam = codes "IAM"
text_of code.Oan = codes "OAN"
text_of code.Oam = codes "OAM"
text_of code.Acn = codes "ACN"
text_of code.Dcn = codes "DCN"
text_of code.Fan = codes "FAN"
text_of code.Fnc = codes "FNC"

-- The names that the instruction table has, in the order of its rows.
abbrev pub names_of_table : List (List ℕ)
names_of_table = map (λ row. text_of row.mnemonic) rows

-- Those of the last two addressing modes have a second word.
abbrev pub words_of : Mode → ℕ
words_of Memory = 2
words_of Unindexed = 2
words_of _ = 1

abbrev pub sizes_of_table : List ℕ
sizes_of_table = map (λ row. words_of row.mode) rows

-- How many words an assembler gives each code.
abbrev pub sizes : List ℕ
sizes = map (λ code. size (form code)) (range_with_len 0 0o100)
