use Rattle.pp_rig.proofs.Names.{arith}
use Rattle.pp_rig.proofs.Marks.{words_unmarked}
use Rattle.pp_rig.proofs.rig.marks.are_words_marked.Goals as goal

pub returns : goal.returns
returns c = λ none slot size.
    words_unmarked c.args.marks.now slot size c.args.first 0 c.args.words.now (omega (arith, c.told-words)) (grind arith)
