-- The line that the program prints for what ends it early.
use Rattle.std.specs.Prelude.{ℕ, List, [], ◌∷◌, ◌++◌, codes, decimal}
use Rattle.pp_files.specs.declared.fault.LoadFault.{LoadFault}
use Rattle.pp_files.specs.declared.fault.LoadFault.TheVariants as load
use Rattle.pp_trouble.specs.declared.trouble.FileKind.{FileKind}
use Rattle.pp_trouble.specs.declared.trouble.FileKind.TheVariants.{Deck, Panel, Script}
use Rattle.pp_trouble.specs.declared.trouble.Trouble.{Trouble}
use Rattle.pp_trouble.specs.declared.trouble.Trouble.TheVariants.{BadArguments, BadChannel, CannotOpen, DeckTooLong, Help}
use Rattle.pp_trouble.specs.declared.trouble.Trouble.TheVariants.{LineLimit, Load, NoMemory, ReadFailed, SameChannel, WriteFailed}

-- The name of a file in these texts.
abbrev pub file_name : FileKind → List ℕ
file_name Deck = codes "DECK"
file_name Panel = codes "PANEL"
file_name Script = codes "SCRIPT"

-- A fault of line k of a file: lines are counted from 1, in decimal.
abbrev pub line_fault : ℕ → List ℕ → List ℕ
line_fault k what = codes "LINE " ++ decimal k ++ what

-- The text of a fault of a deck or a panel.
abbrev pub load_text : LoadFault → List ℕ
load_text load.NoMemory = codes "NO MEMORY"
load_text load.ReadFailed = codes "READ FAILED"
load_text load.FileTooLong = codes "FILE TOO LONG"
load_text (load.LineTooLong k) = line_fault k (codes " TOO LONG")
load_text (load.NotOctal k) = line_fault k (codes " NOT OCTAL")
load_text (load.TooLarge k) = line_fault k (codes " TOO LARGE")
load_text (load.TooManyWords k) = line_fault k (codes " TOO MANY WORDS")
load_text load.PanelCount = codes "PANEL COUNT"

-- The text of what ends the program early.
abbrev pub text_of : Trouble → List ℕ
text_of Help = codes "usage: pp6600 [--history N] [--central K] [--deck F] [--reader C] [--printer C] [--panel F] [SCRIPT]"
text_of BadArguments = codes "pp6600: BAD ARGUMENTS"
text_of BadChannel = codes "pp6600: BAD CHANNEL"
text_of SameChannel = codes "pp6600: SAME CHANNEL"
text_of DeckTooLong = codes "pp6600: DECK TOO LONG"
text_of NoMemory = codes "pp6600: NO MEMORY"
text_of (CannotOpen file) = codes "pp6600: CANNOT OPEN " ++ file_name file
text_of (Load file fault) = codes "pp6600: " ++ file_name file ++ codes " " ++ load_text fault
text_of ReadFailed = codes "pp6600: READ FAILED"
text_of WriteFailed = codes "pp6600: WRITE FAILED"
text_of LineLimit = codes "pp6600: LINE LIMIT"

-- The line of what ends the program early: its text and a line feed, byte 10 (decimal).
abbrev pub line_of : Trouble → List ℕ
line_of trouble = text_of trouble ++ 10 ∷ []
