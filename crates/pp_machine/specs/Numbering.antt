-- One order of all places of a machine, so that a place is one number. Decimal here.
use Rattle.std.specs.Prelude.{ℕ, ◌+◌, ◌-◌, ◌*◌, ◌/◌, ◌%◌, nat_lt, if◌then◌else◌}
use Rattle.pp_machine.specs.declared.place.Place.{Place}
use Rattle.pp_machine.specs.declared.place.Place.TheVariants.{Cell, RegA, RegP, RegQ, Phase, ChannelMode, ChannelWord, Clock}
use Rattle.pp_machine.specs.declared.place.Place.TheVariants.{Central, FrameWord, Card, CardColumn, ReaderMode, PaperLength}
use Rattle.pp_machine.specs.declared.place.Place.TheVariants.{PaperColumn, PrinterMode, PaperSymbol, Slot, WatchEntry}

-- How many places every machine has. Its words of central memory are numbered behind these. [P29]
abbrev pub fixed_places : ℕ
fixed_places = 106592

-- The number of a place: the kinds follow one another, with central memory last, since its size is chosen. [P29]
abbrev pub place_number : Place → ℕ
place_number (Cell n a) = n * 4096 + a
place_number (RegA n) = 40960 + n
place_number (RegP n) = 40970 + n
place_number (RegQ n) = 40980 + n
place_number (Phase n) = 40990 + n
place_number (ChannelMode c) = 41000 + c
place_number (ChannelWord c) = 41012 + c
place_number Clock = 41024
place_number (FrameWord i) = 41025 + i
place_number Card = 41041
place_number CardColumn = 41042
place_number ReaderMode = 41043
place_number PaperLength = 41044
place_number PaperColumn = 41045
place_number PrinterMode = 41046
place_number (PaperSymbol k) = 41047 + k
place_number Slot = 106583
place_number (WatchEntry i) = 106584 + i
place_number (Central a) = 106592 + a

-- The place with this number, among the words of the frame and the numbers of the devices: 41025 to 41046. [P29]
abbrev pub frame_or_device_place : ℕ → Place
frame_or_device_place i =
    if nat_lt i 41041 then FrameWord (i - 41025)
    else (if nat_lt i 41042 then Card
    else (if nat_lt i 41043 then CardColumn
    else (if nat_lt i 41044 then ReaderMode
    else (if nat_lt i 41045 then PaperLength
    else (if nat_lt i 41046 then PaperColumn
    else PrinterMode)))))

-- The place with this number. [P29]
unfoldable pub place_at : ℕ → Place
place_at i =
    if nat_lt i 40960 then Cell (i / 4096) (i % 4096)
    else (if nat_lt i 40970 then RegA (i - 40960)
    else (if nat_lt i 40980 then RegP (i - 40970)
    else (if nat_lt i 40990 then RegQ (i - 40980)
    else (if nat_lt i 41000 then Phase (i - 40990)
    else (if nat_lt i 41012 then ChannelMode (i - 41000)
    else (if nat_lt i 41024 then ChannelWord (i - 41012)
    else (if nat_lt i 41025 then Clock
    else (if nat_lt i 41047 then frame_or_device_place i
    else (if nat_lt i 106583 then PaperSymbol (i - 41047)
    else (if nat_lt i 106584 then Slot
    else (if nat_lt i 106592 then WatchEntry (i - 106584)
    else Central (i - 106592))))))))))))
