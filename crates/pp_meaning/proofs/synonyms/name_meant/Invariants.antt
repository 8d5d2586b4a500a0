use Rattle.std.proofs.Common.{◌≡◌, drop, fold, map}
use Rattle.pp_meaning.specs.Standing.{synonym_pair}
use Rattle.pp_meaning.specs.Synonyms.{meant_name, renamed}
use Rattle.pp_meaning.proofs.synonyms.name_meant.Given as goal

abbrev pub invariant-loop-synonym : goal.invariant-loop-synonym
invariant-loop-synonym l =
    fold (renamed l.name) l.meant (map synonym_pair (drop l.synonym-index l.synonyms))
    ≡ meant_name (map synonym_pair l.synonyms) l.name
