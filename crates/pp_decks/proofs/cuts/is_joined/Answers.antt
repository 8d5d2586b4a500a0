use Rattle.std.proofs.Common.{rules}
use Rattle.pp_decks.proofs.CutTexts.{joined_between}
use Rattle.pp_decks.proofs.cuts.is_joined.Goals as goal

pub returns : goal.returns
returns c = λ right. record {
  some = search rules;
  text = joined_between c.args.source.now c.args.spans.now c.part-own.result.now c.args.line.number _ _ c.in_ok-text.text.items _
      (search rules) (search rules) (search rules);
  read = search rules;
}
