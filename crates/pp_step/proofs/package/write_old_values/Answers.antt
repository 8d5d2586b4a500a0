use Rattle.std.proofs.Common.{arith, sym, ◌∙◌, length, ◌≡◌}
use Rattle.pp_step.specs.View.{pp_view}
use Rattle.pp_step.proofs.{Exchanged.old_values-swap, Swapped.length-loaded}
use Rattle.pp_step.proofs.package.write_old_values.Goals as goal

pub returns-clause-old_values : goal.returns-clause-old_values
returns-clause-old_values c = λ cells channels next.
    let s = pp_view c.args.pp.now cells channels c.args.central.now c.args.frame.now in
    let size : length s.frame ≡ 16 = rw c.package-back.ensures.value at c.package-back.ensures.package.size in
    let read = c.read_words.ensures in
    rw (c.package-back.ensures.value, c.size-back.ensures)
    (sym (old_values-swap s next s.a _ s.frame c.read_words.new.words (size ∙ sym (length-loaded s.a s.central))
    (read.size ∙ sym size) (λ k h. read.value k (omega (arith, size)))))
