use Rattle.std.proofs.Common.{◌≡◌, ◌∙◌, ◌++◌, ◌∷◌, ◌+◌, ◌-◌, ◌/◌, [], ap, length, rules}
use Rattle.pp_meaning.specs.Bits.{words_from}
use Rattle.pp_meaning.proofs.BitSteps.{words_push}
use Rattle.pp_meaning.proofs.bits.words_in.Goals as goal

pub loop-word-preserved : goal.loop-word-preserved
loop-word-preserved c =
    let items : c.push.new.self.items ≡ c.loop-word.words.items ++ c.in-Some.word ∷ [] = search rules in
    ap (λ l. l ++ words_from (length c.args.bits.now / 12 - (c.loop-word._word + 1)) c.after_word-rest.result.now) items
    ∙ words_push c.loop-word.words.items (length c.args.bits.now / 12) c.loop-word._word c.in-Some.word c.loop-word.rest.now
    c.after_word-rest.result.now _ c.loop-word-test.true c.in-Some.ensures c.after_word-rest.ensures c.loop-word.invariant
