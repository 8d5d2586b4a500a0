use Rattle.std.proofs.Common.{◌∙◌, sym}
use Rattle.pp_meaning.specs.Standing.{synonym_pair}
use Rattle.pp_meaning.specs.Synonyms.{renamed}
use Rattle.pp_meaning.proofs.Folds.{fold_map_on}
use Rattle.pp_meaning.proofs.synonyms.name_meant.Goals as goal

pub loop-synonym-preserved : goal.loop-synonym-preserved
loop-synonym-preserved c =
    fold_map_on (renamed c.args.name.now) synonym_pair c.loop-synonym.meant.now _ c.args.synonyms.now c.loop-synonym.synonym-index
    c.synonym-item.result c.loop-synonym-test.true c.synonym-item.is (sym c.name_meant_by-meant.ensures) ∙ c.loop-synonym.invariant
