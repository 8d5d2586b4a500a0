use Rattle.pp_meaning_laws.proofs.Assemblies.{one_table}
use Rattle.pp_meaning_laws.proofs.Images.{one_image}
use Rattle.pp_meaning_laws.proofs.laws.statements_have_one_table.Goals as goal

pub returns : goal.returns
returns c = record { values = one_table; words = one_image }
