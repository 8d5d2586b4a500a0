-- The command line of the program, as clap reads it:
-- pp6600 [--history N] [--central K] [--deck F] [--reader C] [--printer C] [--panel F] [SCRIPT]
-- What clap does with words is in the library's own definitions.
use Rattle.std.specs.Prelude.{◌≢◌, ℕ, Bool, List, Option, Some, codes}
use Rattle.clap.specs.Faults.{fault_of}
pub use Rattle.clap.specs.Kinds.{IsAmong, Kinds}
use Rattle.clap.specs.Simple.{App, matches_of, new_app, new_rule, with_rule}
use Rattle.clap.specs.Takes.{takes}
use Rattle.clap.specs.Walk.{Rule, first_of}
use Rattle.clap.specs.declared.builder.action.ArgAction.TheVariants.{Set}
pub use Rattle.clap.specs.declared.error.kind.ErrorKind.{ErrorKind}
pub use Rattle.clap.specs.declared.error.kind.ErrorKind.TheVariants.{DisplayHelp}
use Rattle.pp_arguments.specs.declared.options.ArgFault.{ArgFault}
use Rattle.pp_arguments.specs.declared.options.ArgFault.TheVariants.{BadArguments, BadChannel, Help, NoMemory}

-- A word, a name or a text, as bytes.
abbrev pub Text : Type 0
Text = List ℕ

-- An option with one value: --name VALUE, or --name=VALUE, at most once.
abbrev pub option_rule : Text → Rule
option_rule name = record (new_rule name) { long = Some name; action = Some Set }

-- The command line has six options and the script, in any order. The word that belongs to no option is the name of the script's
-- file.
unfoldable pub pp6600 : App
pp6600 = with_rule (with_rule (with_rule (with_rule (with_rule (with_rule (with_rule (new_app (codes "pp6600"))
    (option_rule (codes "history"))) (option_rule (codes "central"))) (option_rule (codes "deck")))
    (option_rule (codes "reader"))) (option_rule (codes "printer"))) (option_rule (codes "panel")))
    (record (new_rule (codes "script")) { action = Some Set })

-- The value that the words have for the option of this name, or for the script.
unfoldable pub value_of : List Text → Text → Option Text
value_of words name = first_of name (matches_of pp6600 words)

-- The command line accepts the words.
unfoldable pub are_taken : List Text → Bool
are_taken words = takes pp6600 words

-- The errors that the command line may report for the words. There are none if it accepts them.
unfoldable pub faults_of : List Text → Kinds
faults_of words = fault_of pp6600 words

-- A fault reports an error of one of these kinds: help that was asked for, or any other error as bad arguments.
abbrev pub IsFaultOf : Kinds → ArgFault → Type 0
IsFaultOf kinds NoMemory = Unit {0}
IsFaultOf kinds Help = IsAmong DisplayHelp kinds
IsFaultOf kinds BadArguments = (kind : ErrorKind) × IsAmong kind kinds × (kind ≢ DisplayHelp)
IsFaultOf kinds BadChannel = ⊥
