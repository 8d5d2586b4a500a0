-- The names of the instructions in the order of their codes, 00 to 77, a row of the table for each first digit. Codes 24 and 25
-- pass, as 00 does, and are named like it.
use Rattle.std.specs.Prelude.{ℕ, List, [], ◌∷◌, ◌++◌, codes, slice_index_or}

-- A row of eight names.
abbrev pub row : List ℕ → List ℕ → List ℕ → List ℕ → List ℕ → List ℕ → List ℕ → List ℕ → List (List ℕ)
row a b c d e f g h = a ∷ b ∷ c ∷ d ∷ e ∷ f ∷ g ∷ h ∷ []

abbrev pub mnemonics : List (List ℕ)
mnemonics =
    row (codes "PSN") (codes "LJM") (codes "RJM") (codes "UJN") (codes "ZJN") (codes "NJN") (codes "PJN") (codes "MJN")  -- 00
    ++ row (codes "SHN") (codes "LMN") (codes "LPN") (codes "SCN") (codes "LDN") (codes "LCN") (codes "ADN") (codes "SBN")  -- 10
    ++ row (codes "LDC") (codes "ADC") (codes "LPC") (codes "LMC") (codes "PSN") (codes "PSN") (codes "EXN") (codes "RPN")  -- 20
    ++ row (codes "LDD") (codes "ADD") (codes "SBD") (codes "LMD") (codes "STD") (codes "RAD") (codes "AOD") (codes "SOD")  -- 30
    ++ row (codes "LDI") (codes "ADI") (codes "SBI") (codes "LMI") (codes "STI") (codes "RAI") (codes "AOI") (codes "SOI")  -- 40
    ++ row (codes "LDM") (codes "ADM") (codes "SBM") (codes "LMM") (codes "STM") (codes "RAM") (codes "AOM") (codes "SOM")  -- 50
    ++ row (codes "CRD") (codes "CRM") (codes "CWD") (codes "CWM") (codes "AJM") (codes "IJM") (codes "FJM") (codes "EJM")  -- 60
    ++ row (codes "IAN") (codes "IAM") (codes "OAN") (codes "OAM") (codes "ACN") (codes "DCN") (codes "FAN") (codes "FNC")  -- 70

-- The name of the instruction with a code.
abbrev pub mnemonic : ℕ → List ℕ
mnemonic code = slice_index_or mnemonics code []
