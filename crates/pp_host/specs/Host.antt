-- What a host returns: its words, an open file, and its count of failures.
use Rattle.std.specs.Prelude.{◌≡◌, ℕ, ◌==◌, if◌then◌else◌, List, map, Some, None, Result, Ok, Err, String, Vec}
use Rattle.std.specs.declared.alloc.Global.{Global}
use Rattle.std.specs.String.{string_bytes}
use Rattle.pp_lines.specs.Device.{one_more}
use Rattle.pp_host.specs.Known.{Content, Found, Known, Missing, Texts, Words}
use Rattle.pp_host.specs.declared.host.WordsFault.{WordsFault}
use Rattle.pp_host.specs.declared.host.WordsFault.TheVariants as fault

-- a file was opened: its remaining bytes are the known ones
abbrev pub IsOpened : Known Found → Known (List ℕ) → Type 0
IsOpened None rest = rest ≡ None
IsOpened (Some Missing) rest = ⊥
IsOpened (Some (Content known)) rest = rest ≡ Some known

-- the words that are known, unless memory ran out for them
abbrev pub words_known : Result (Vec (String Global) Global) WordsFault → Known Words
words_known (Ok words) = Some (Texts (map string_bytes words.items))
words_known (Err fault.NotText) = Some Words.NotText
words_known (Err fault.NoMemory) = None

-- the number of files with a failed read, after one more file with this many failures
abbrev pub counted : ℕ → ℕ → ℕ
counted count failures = if failures == 0 then count else one_more count
