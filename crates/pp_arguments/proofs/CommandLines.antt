-- The words of the command line, and the result of parsing them.
use Rattle.std.proofs.Common.{◌≡◌, ◌∙◌, ℕ, List, true, refl, ap, subst, Result}
use Rattle.clap.specs.{Walk.first_of, Matches.first_value, Matches.found_of, Takes.takes, Kinds.FailsBy, declared.error.Error.Error}
use Rattle.clap.specs.Simple.{App, HasMatchesOf, is_simple, matches_of}
use Rattle.clap.specs.{Faults.fault_of, Faults.is_simple_and_free, declared.parser.matches.ArgMatches.ArgMatches}
use Rattle.clap.proofs.{OnLiterals.clap_on_literals, WalkLemmas.first_value-rows}
use Rattle.pp_arguments.specs.CommandLine.{pp6600, value_of, are_taken, faults_of}

is_simple-pp6600 : is_simple pp6600 ≡ true
unfolding pp6600 clap_on_literals
is_simple-pp6600 = refl

-- the value that the matches of this command have for a name
pub given-of_matches : (app : App) (words : List (List ℕ)) (matches : ArgMatches) → app ≡ pp6600 → HasMatchesOf app words matches →
    (name : List ℕ) → first_value (found_of matches) name ≡ value_of words name
unfolding value_of
given-of_matches app words matches is_app has name = first_value-rows (found_of matches) name
    ∙ ap (first_of name) ((has (ap is_simple is_app ∙ is_simple-pp6600)).0 ∙ ap (λ (a : App). matches_of a words) is_app)

-- the words that this command accepts
pub takes-of_words : (app : App) (words : List (List ℕ)) → app ≡ pp6600 → are_taken words ≡ true → takes app words ≡ true
unfolding are_taken
takes-of_words app words is_app taken = ap (λ (a : App). takes a words) is_app ∙ taken

is_free-pp6600 : is_simple_and_free pp6600 ≡ true
unfolding pp6600 clap_on_literals
is_free-pp6600 = refl

-- the kinds of this command's errors
pub faults-of_words : {T : Type 0} (app : App) (words : List (List ℕ)) (result : Result T Error) → app ≡ pp6600 →
    (is_simple_and_free app ≡ true → FailsBy (fault_of app words) result) → FailsBy (faults_of words) result
unfolding faults_of
faults-of_words app words result is_app fails =
    subst (λ (a : App). FailsBy (fault_of a words) result) is_app (fails (ap is_simple_and_free is_app ∙ is_free-pp6600))
