use Rattle.std.proofs.Common.{◌∙◌, map, Ok, Err}
use Rattle.clap.specs.declared.parser.matches.ArgMatches.{ArgMatches}
use Rattle.pp_arguments.specs.CommandLine.{faults_of}
use Rattle.std.specs.String.{string_bytes}
use Rattle.pp_arguments.proofs.CommandLines.{given-of_matches, takes-of_words, faults-of_words}
use Rattle.pp_arguments.proofs.command_line.read_words.Goals as goal

pub returns-in-Ok-try_get_matches_from-clause-matches : goal.returns-in-Ok-try_get_matches_from-clause-matches
returns-in-Ok-try_get_matches_from-clause-matches c =
    given-of_matches _ (map string_bytes c.args.words.now) _ c.in-Ok.ensures c.in-Ok-try_get_matches_from.ensures.matches

pub returns-in-Err-clause-takes_words : goal.returns-in-Err-clause-takes_words
returns-in-Err-clause-takes_words c = λ taken.
    c.fault_of.ensures.memory
    (c.kind.ensures ∙ c.in-Err.ensures.passes (takes-of_words _ (map string_bytes c.args.words.now) c.in-Ok.ensures taken))

pub returns-in-Ok-try_get_matches_from-clause-faults : goal.returns-in-Ok-try_get_matches_from-clause-faults
returns-in-Ok-try_get_matches_from-clause-faults c = faults-of_words _ (map string_bytes c.args.words.now)
    (Ok c.in-Ok-try_get_matches_from.matches) c.in-Ok.ensures c.in-Ok-try_get_matches_from.ensures.kinds

pub returns-in-Err-clause-faults : goal.returns-in-Err-clause-faults
returns-in-Err-clause-faults c =
    let has = faults-of_words {T = ArgMatches} _ (map string_bytes c.args.words.now)
    (Err c.in-Err.error) c.in-Ok.ensures c.in-Err.ensures.kinds in
    c.fault_of.ensures.names_cause (faults_of (map string_bytes c.args.words.now)) (rw c.kind.ensures has)
