-- The request of a line, or why it is rejected: the command lines, one by one. All numbers of a line are octal.
use Rattle.std.specs.Prelude.{ℕ, ◌-◌, ◌^◌, nat_lt, nat_le, ◌==◌, ◌&&◌, ◌||◌, Bool, false, if◌then◌else◌, List, [], ◌∷◌, length}
use Rattle.std.specs.Prelude.{Option, Some, None, Result, Ok, Err, codes}
use Rattle.std.specs.List.{list_all}
use Rattle.std.specs.Str.{str_eq_ignore_ascii_case}
use Rattle.pp_lines.specs.Lines.{without_return}
use Rattle.pp_lines.specs.Words.{words, is_ignored}
use Rattle.pp_machine.specs.declared.channel.ChannelState.{ChannelState}
use Rattle.pp_machine.specs.declared.channel.ChannelState.TheVariants.{Inactive, Empty, Full}
use Rattle.pp_actions.specs.declared.action.Action.TheVariants.{SetCells, SetA, SetP, SetQ, SetWord, SetChannel, Watch, Unwatch}
use Rattle.pp_actions.specs.declared.action.Action.TheVariants.{Deadstart}
use Rattle.pp_actions.specs.declared.watched.Watched.{Watched}
use Rattle.pp_actions.specs.declared.watched.Watched.TheVariants.{Cell, RegA, RegP, RegQ, Central, Register}
use Rattle.pp_lines.specs.Results.{◌>>=◌}
use Rattle.pp_command.specs.Numbers.{WordList, number_read, if_octal, none, one, two, three, numbers, count}
use Rattle.pp_command.specs.declared.fault.LineFault.{LineFault}
use Rattle.pp_command.specs.declared.fault.LineFault.TheVariants.{NotACommand, WordCount, OutOfRange, TooLong, NotAscii}
use Rattle.pp_command.specs.declared.request.Request.{Request}
use Rattle.pp_command.specs.declared.request.Request.TheVariants.{Act, Step, Back, BackToChange, Forward, DumpCells, DumpProcessor}
use Rattle.pp_command.specs.declared.request.Request.TheVariants.{DumpChannels, DumpCentral, DumpFrame, DumpReader, DumpPrinter}
use Rattle.pp_command.specs.declared.request.Request.TheVariants.{DumpWatches}

-- An entry of a table of commands: a keyword, and what the words after it ask for.
infix 70 ◌⇒◌
pub data Entry (A : Type 0) : Type 0 where
  ◌⇒◌ : List ℕ → (WordList → Result A LineFault) → Entry A

-- The entry whose keyword is this word, in letters of either case, reads the words after it. Without one it is no command, 01.
abbrev pub read_by : {A : Type 0} → List (Entry A) → List ℕ → WordList → Result A LineFault
read_by [] word given = Err NotACommand
read_by ((keyword ⇒ reading) ∷ entries) word given =
    if str_eq_ignore_ascii_case word keyword then reading given else read_by entries word given

-- The first word is the keyword. Without a word there are too few, 02.
abbrev pub choose : {A : Type 0} → List (Entry A) → WordList → Result A LineFault
choose entries [] = Err WordCount
choose entries (kind ∷ given) = read_by entries kind given

-- What is made of what the words ask for.
abbrev pub makes : {A B : Type 0} → (A → B) → (WordList → Result A LineFault) → WordList → Result B LineFault
makes make read given = read given >>= λ x. Ok (make x)

-- SET M n a v .. sets the cells of processor n from cell a on to one to eight numbers v.
unfoldable pub set_cells : WordList → Result Request LineFault
set_cells (n ∷ a ∷ v ∷ more) =
    if nat_lt 7 (length more) then Err WordCount
    else if_octal (n ∷ a ∷ v ∷ more)
    (number_read 0o11 n >>= λ pp. number_read 0o7777 a >>= λ cell. numbers 0o7777 (v ∷ more) >>= λ values.
    Ok (Act (SetCells pp cell values)))
set_cells _ = Err WordCount

-- The state of a channel: I (inactive), E (active and empty) or F (active and full with data).
unfoldable pub state : List ℕ → Result ChannelState LineFault
state word = read_by (codes "I" ⇒ none Inactive ∷ codes "E" ⇒ none Empty ∷ codes "F" ⇒ none Full ∷ []) word []

-- SET H c s [v] sets channel c to state s, and its register to v if v is present.
unfoldable pub set_channel : WordList → Result Request LineFault
set_channel (c ∷ s ∷ []) = state s >>= λ found. makes (λ n. Act (SetChannel n found None)) (one 0o13) (c ∷ [])
set_channel (c ∷ s ∷ more) = state s >>= λ found. makes (λ (n, v). Act (SetChannel n found (Some v))) (two 0o13 0o7777) (c ∷ more)
set_channel _ = Err WordCount

-- SET, by the kind of number: M for cells, A, P or Q for a register of a processor, C for a central word, H for a channel.
unfoldable pub setting : WordList → Result Request LineFault
setting = choose (
    codes "M" ⇒ set_cells
    ∷ codes "A" ⇒ makes (λ (n, v). Act (SetA n v)) (two 0o11 0o777777)
    ∷ codes "P" ⇒ makes (λ (n, v). Act (SetP n v)) (two 0o11 0o7777)
    ∷ codes "Q" ⇒ makes (λ (n, v). Act (SetQ n v)) (two 0o11 0o7777)
    ∷ codes "C" ⇒ makes (λ (a, v). Act (SetWord a v)) (two 0o377777 (2 ^ 60 - 1))
    ∷ codes "H" ⇒ set_channel
    ∷ [])

-- A place of WATCH and UNWATCH: a cell, A, P or Q of a processor, a central word, or a channel's register. H 14 is the clock.
unfoldable pub place : WordList → Result Watched LineFault
place = choose (
    codes "M" ⇒ makes (λ (n, a). Cell n a) (two 0o11 0o7777)
    ∷ codes "A" ⇒ makes RegA (one 0o11)
    ∷ codes "P" ⇒ makes RegP (one 0o11)
    ∷ codes "Q" ⇒ makes RegQ (one 0o11)
    ∷ codes "C" ⇒ makes Central (one 0o377777)
    ∷ codes "H" ⇒ makes Register (one 0o14)
    ∷ [])

-- BACK W goes back to a change, and BACK [count] undoes actions.
unfoldable pub back : WordList → Result Request LineFault
back (word ∷ []) = if str_eq_ignore_ascii_case word (codes "W") then Ok BackToChange else makes Back count (word ∷ [])
back given = makes Back count given

-- A dump is rejected with 04 if its first address is above its last.
abbrev pub ordered : ℕ → ℕ → Request → Result Request LineFault
ordered first last request = if nat_le first last then Ok request else Err OutOfRange

-- DUMP M n a b shows cells a to b of processor n.
unfoldable pub dump_cells : WordList → Result Request LineFault
dump_cells given = three 0o11 0o7777 0o7777 given >>= λ (n, a, b). ordered a b (DumpCells n a b)

-- DUMP C a b shows the central words a to b.
unfoldable pub dump_central : WordList → Result Request LineFault
dump_central given = two 0o377777 0o377777 given >>= λ (a, b). ordered a b (DumpCentral a b)

-- DUMP, by what is shown: M cells, PP a processor, H the channels, C central words, XP the exchange package, CR the card reader, LP
-- the line printer, W the watches.
unfoldable pub dump : WordList → Result Request LineFault
dump = choose (
    codes "M" ⇒ dump_cells
    ∷ codes "PP" ⇒ makes DumpProcessor (one 0o11)
    ∷ codes "H" ⇒ none DumpChannels
    ∷ codes "C" ⇒ dump_central
    ∷ codes "XP" ⇒ none DumpFrame
    ∷ codes "CR" ⇒ none DumpReader
    ∷ codes "LP" ⇒ none DumpPrinter
    ∷ codes "W" ⇒ none DumpWatches
    ∷ [])

-- The eight commands, by the first word of the line. STEP has a count of turns, and BACK and FORWARD one of actions.
unfoldable pub request_of : List ℕ → WordList → Result Request LineFault
request_of = read_by (
    codes "SET" ⇒ setting
    ∷ codes "STEP" ⇒ makes Step count
    ∷ codes "BACK" ⇒ back
    ∷ codes "FORWARD" ⇒ makes Forward count
    ∷ codes "WATCH" ⇒ makes (λ watched. Act (Watch watched)) place
    ∷ codes "UNWATCH" ⇒ makes (λ watched. Act (Unwatch watched)) place
    ∷ codes "DEADSTART" ⇒ none (Act Deadstart)
    ∷ codes "DUMP" ⇒ dump
    ∷ [])

-- The request of a line with these words, or nothing if the line is ignored. The first word names the command.
abbrev pub sentence : WordList → Result (Option Request) LineFault
sentence [] = Ok None
sentence (first ∷ given) = if is_ignored (first ∷ given) then Ok None else makes Some (request_of first) given

-- A tab, byte 9, or a printing ASCII character, bytes 32 to 126 (decimal).
abbrev pub is_printable : ℕ → Bool
is_printable byte = byte == 9 || (nat_le 32 byte && nat_le byte 126)

-- The request of a line: nothing if it is ignored, or why it is rejected. One carriage return at its end is dropped. Its length is
-- tested first, at most 255 (decimal) bytes, and then each byte.
unfoldable pub command : List ℕ → Result (Option Request) LineFault
command line =
    let text = without_return line in
    if nat_lt 255 (length text) then Err TooLong
    else (if list_all is_printable text then sentence (words text) else Err NotAscii)
