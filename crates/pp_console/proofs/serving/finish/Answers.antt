use Rattle.std.proofs.{Common.[], Common.arith, Common.inr, Common.append-nil, lemmas.Bool.Decides.nat_tests}
use Rattle.pp_console.proofs.{Prelude.finished, Prelude.unfinished, Prelude.KEPT, Ending.Serves-ended, Reading.HasRead-within}
use Rattle.pp_lines.proofs.Limits.{lines-whole, lines-last}
use Rattle.pp_console.proofs.serving.finish.Goals as goal

pub returns-then-is_empty-clause-serves : goal.returns-then-is_empty-clause-serves
returns-then-is_empty-clause-serves g c = λ origin bytes left end has_read.
    Serves-ended (lines-whole KEPT c.args.progress.now.line bytes (omega arith) has_read.keeps (grind (arith, nat_tests)))
    has_read.ended (HasRead-within has_read)

pub returns-in-Ok-clause-serves : goal.returns-in-Ok-clause-serves
returns-in-Ok-clause-serves g c = λ origin bytes left end has_read.
    Serves-ended (lines-last KEPT c.args.progress.now.line bytes has_read.keeps (grind (arith, nat_tests)))
    (rw (append-nil bytes) at (c.in-Ok.ensures.ended origin bytes has_read.keeps has_read.ended)) (HasRead-within has_read)

pub returns-in-Err-clause-serves : goal.returns-in-Err-clause-serves
returns-in-Err-clause-serves g c = λ origin bytes left end has_read. (
  finished bytes,
  unfinished bytes,
  [],
  inr (lines-last KEPT c.args.progress.now.line bytes has_read.keeps (grind (arith, nat_tests)), HasRead-within has_read, end),
  rw (append-nil bytes) at (c.in-Err.ensures.ended origin bytes has_read.keeps has_read.ended),
)
