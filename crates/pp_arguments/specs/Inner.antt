-- For the contracts of inner functions only: no contract of a public call needs these.
use Rattle.std.specs.Prelude.{◌≡◌, List}
use Rattle.clap.specs.Matches.{first_value, found_of}
use Rattle.clap.specs.declared.parser.matches.ArgMatches.{ArgMatches}
use Rattle.pp_arguments.specs.CommandLine.{Text, value_of}

-- the matches have the values of the words
abbrev pub AreGiven : List Text → ArgMatches → Type 0
AreGiven words matches = (name : Text) → first_value (found_of matches) name ≡ value_of words name
