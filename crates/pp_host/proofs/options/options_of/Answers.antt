use Rattle.std.proofs.Common.{arith, map, inl, refl, rules, unwrap_or}
use Rattle.std.proofs.lemmas.Result.{err_from_is_err_and}
use Rattle.std.specs.String.{string_bytes}
use Rattle.pp_host.specs.Known.{NotText, Texts}
use Rattle.pp_host.proofs.Meaning.{Means-asked, Means-rejected}
use Rattle.pp_host.proofs.options.options_of.Goals as goal

pub returns-in-Err-NoMemory-clause-meaning : goal.returns-in-Err-NoMemory-clause-meaning
returns-in-Err-NoMemory-clause-meaning g c =
    record { words = unwrap_or (g.H.Host.known_words c.args.host.now) NotText; known = grind arith; follows = inl refl }

pub returns-clause-meaning : goal.returns-clause-meaning
returns-clause-meaning g c = record {
  words = Texts (map string_bytes c.in-Ok.words.items);
  known = c.in-Ok.ensures.words;
  follows = search (rules, Means-asked);
}

pub returns-in_err-read_arguments-clause-meaning : goal.returns-in_err-read_arguments-clause-meaning
returns-in_err-read_arguments-clause-meaning g c =
    let (fault, is_err, is) = err_from_is_err_and c.from_residual.result c.from_residual.ensures.1 in
    let words = map string_bytes c.in-Ok.words.items in
    rw (is_err, is)
    (record {
      words = Texts words;
      known = c.in-Ok.ensures.words;
      follows = Means-rejected words _ c.in_err-read_arguments.ensures.cause;
    })
