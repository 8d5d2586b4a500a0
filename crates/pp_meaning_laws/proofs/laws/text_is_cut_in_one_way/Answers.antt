use Rattle.pp_meaning_laws.proofs.Cuts.{cut_once}
use Rattle.pp_meaning_laws.proofs.Valued.{valued_right}
use Rattle.pp_meaning_laws.proofs.laws.text_is_cut_in_one_way.Goals as goal

pub returns : goal.returns
returns c = record { terms = cut_once; right = valued_right }
