-- What the words of the command line ask for.
use Rattle.std.specs.Prelude.{◌≡◌, ◌≢◌, ◌⊎◌, [], Option, Result, Err}
use Rattle.std.specs.Result.{result_map_both}
use Rattle.pp_arguments.specs.CommandLine.{DisplayHelp, ErrorKind, IsAmong, Text, faults_of}
pub use Rattle.pp_arguments.specs.Options.{Asked, asked_by}
use Rattle.pp_host.specs.Known.{NotText, Texts, Words}
use Rattle.pp_trouble.specs.Trouble.{of_arguments}
use Rattle.pp_trouble.specs.declared.trouble.FileKind.{FileKind}
use Rattle.pp_trouble.specs.declared.trouble.FileKind.TheVariants.{Deck, Panel, Script}
use Rattle.pp_trouble.specs.declared.trouble.Trouble.{Trouble}
use Rattle.pp_trouble.specs.declared.trouble.Trouble.TheVariants.{BadArguments, Help}

-- The path of the file of this kind, if it is named.
abbrev pub path_of : Asked → FileKind → Option Text
path_of asked Deck = asked.deck
path_of asked Panel = asked.panel
path_of asked Script = asked.script

-- What the words mean: what they ask for, or an error: help that was asked for, or any other error as bad arguments. If the command
-- line has several errors, any one may be reported.
abbrev pub Means : Words → Result Asked Trouble → Type 0
Means NotText meaning = meaning ≡ Err BadArguments
Means (Texts words) meaning =
    ((faults_of words ≡ []) × (meaning ≡ result_map_both (λ asked. asked) of_arguments (asked_by words)))
    ⊎ (IsAmong DisplayHelp (faults_of words) × (meaning ≡ Err Help))
    ⊎ ((kind : ErrorKind) × IsAmong kind (faults_of words) × (kind ≢ DisplayHelp) × (meaning ≡ Err BadArguments))
