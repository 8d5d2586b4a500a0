use Rattle.pp_rig.proofs.Names.{arith, words_of}
use Rattle.pp_rig.proofs.Marks.{exchange_unmarked, not_in_turn}
use Rattle.pp_rig.proofs.rig.TurnRecord.may_be_marked.Goals as goal

pub returns-else-must_search : goal.returns-else-must_search
returns-else-must_search c = λ none.
    let words = c.are_words_marked.ensures none c.args.self.now.rest.slot (words_of c.in-Exchange.exchange.size) in
    grind (arith, not_in_turn, exchange_unmarked, words)
