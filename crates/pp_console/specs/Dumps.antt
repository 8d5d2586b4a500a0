-- The texts of dumps.
use Rattle.std.specs.Prelude.{ℕ, ◌+◌, ◌-◌, ◌*◌, ◌/◌, min, List, [], ◌∷◌, ◌++◌, length, slice_index_or, take, codes}
use Rattle.std.specs.List.{flat_map, range_with_len}
use Rattle.pp_machine.specs.Machine.{Machine, number}
use Rattle.pp_machine.specs.declared.place.Place.TheVariants.{Cell, RegA, RegP, RegQ, Phase, ChannelMode, ChannelWord, Clock}
use Rattle.pp_machine.specs.declared.place.Place.TheVariants.{Central, FrameWord, Card, CardColumn, ReaderMode, PaperLength}
use Rattle.pp_machine.specs.declared.place.Place.TheVariants.{PaperColumn, PrinterMode, Slot}
use Rattle.pp_console.specs.Text.{field}
use Rattle.pp_console.specs.Paper.{paper_text}

-- A text for each of the numbers from `first` on, `count` of them, one after another.
abbrev pub each : (ℕ → List ℕ) → ℕ → ℕ → List ℕ
each line first count = flat_map line (range_with_len first count)

-- DUMP M: a cell of a row.
unfoldable pub cell_text : Machine → ℕ → ℕ → List ℕ
cell_text s n a = field (codes " ") 4 (number s (Cell n a))

-- DUMP M: a row has the address of its first cell, and then eight cells. The last row may have fewer.
unfoldable pub cell_row : Machine → ℕ → ℕ → ℕ → List ℕ
cell_row s n last from = field [] 4 from ++ each (cell_text s n) from (min (last + 1 - from) 8) ++ codes "\n"

-- DUMP M: the cells of processor n from the first address to the last, in rows.
unfoldable pub cells_text : Machine → ℕ → ℕ → ℕ → List ℕ
cells_text s n first last = each (λ row. cell_row s n last (first + 8 * row)) 0 ((last + 8 - first) / 8)

-- DUMP PP: P, A, Q and the phase of processor n, and the processor whose turn comes next.
unfoldable pub processor_text : Machine → ℕ → List ℕ
processor_text s n =
    field (codes "PP ") 2 n ++ field (codes " P ") 4 (number s (RegP n)) ++ field (codes " A ") 6 (number s (RegA n))
    ++ field (codes " Q ") 4 (number s (RegQ n)) ++ field (codes " PHASE ") 4 (number s (Phase n))
    ++ field (codes " SLOT ") 2 (number s Slot) ++ codes "\n"

-- The state of a channel, 0 to 3: inactive, active and empty, active and full with data, or active and full with a function code.
unfoldable pub state_text : ℕ → List ℕ
state_text state = slice_index_or (codes " I " ∷ codes " E " ∷ codes " F " ∷ []) state (codes " X ")

-- DUMP H: a channel, its state and its register.
unfoldable pub channel_line : Machine → ℕ → List ℕ
channel_line s c =
    field (codes "H ") 2 c ++ state_text (number s (ChannelMode c)) ++ field [] 4 (number s (ChannelWord c)) ++ codes "\n"

-- DUMP H: channels 0 to 13 (octal), and channel 14 (octal), the clock, which is always full.
unfoldable pub channels_text : Machine → List ℕ
channels_text s = each (channel_line s) 0 0o14 ++ field (codes "H 14 F ") 4 (number s Clock) ++ codes "\n"

-- DUMP C: a central word.
unfoldable pub central_line : Machine → ℕ → List ℕ
central_line s a = field (codes "C ") 6 a ++ field (codes " ") 20 (number s (Central a)) ++ codes "\n"

-- DUMP C: the central words from the first address to the last.
unfoldable pub central_text : Machine → ℕ → ℕ → List ℕ
central_text s first last = each (central_line s) first (last + 1 - first)

-- DUMP XP: a word of the exchange package.
unfoldable pub frame_line : Machine → ℕ → List ℕ
frame_line s i = field (codes "XP ") 2 i ++ field (codes " ") 20 (number s (FrameWord i)) ++ codes "\n"

-- DUMP XP: words 00 to 17 (octal) of the exchange package.
unfoldable pub frame_text : Machine → List ℕ
frame_text s = each (frame_line s) 0 0o20

-- The mode of the card reader or the line printer, 0 to 3. Mode 1 is reading or printing.
unfoldable pub mode_text : List ℕ → ℕ → List ℕ
mode_text active mode =
    slice_index_or (codes " MODE IDLE\n" ∷ active ∷ codes " MODE STATUS\n" ∷ []) mode (codes " MODE SENT\n")

-- DUMP CR: the reader's channel, the present card, the number of cards, the column that is read next, and the mode.
unfoldable pub reader_text : Machine → List ℕ
reader_text s =
    field (codes "CR H ") 2 s.setup.reader_channel ++ field (codes " CARD ") 4 (number s Card)
    ++ field (codes " OF ") 4 (length s.reader.deck) ++ field (codes " COLUMN ") 3 (number s CardColumn)
    ++ mode_text (codes " MODE READING\n") (number s ReaderMode)

-- DUMP LP: the printer's channel, the number of symbols on the paper, the column that is printed next, and the mode.
unfoldable pub printer_line : Machine → List ℕ
printer_line s =
    field (codes "LP H ") 2 s.setup.printer_channel ++ field (codes " SYMBOLS ") 6 (number s PaperLength)
    ++ field (codes " COLUMN ") 3 (number s PaperColumn) ++ mode_text (codes " MODE PRINTING\n") (number s PrinterMode)

-- DUMP LP: the printer, and its paper.
unfoldable pub printer_text : Machine → List ℕ
printer_text s = printer_line s ++ paper_text (take s.printer.length s.printer.symbols)
