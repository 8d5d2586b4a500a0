use Rattle.std.proofs.Common.{IfOk, ◌≡◌, subst, sym}
use Rattle.pp_decks.proofs.CutTexts.{joined_of_two}
use Rattle.pp_decks.proofs.cuts.joined.Goals as goal

pub returns-in-len2-up : goal.returns-in-len2-up
returns-in-len2-up c =
    subst (λ text. IfOk c.with_others.result (λ made. made.items ≡ text))
    (sym (joined_of_two c.args.number c.args.source.now c.args.spans.now c.of-in-len2-up.result.now c.read_text-line.result.now
    c.in-len2-up.len_at_least c.of-in-len2-up.ensures c.read_text-line.ensures)) c.with_others.ensures
