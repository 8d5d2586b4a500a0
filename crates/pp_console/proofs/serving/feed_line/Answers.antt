use Rattle.std.proofs.{Common.◌∷◌, Common.◌++◌, Common.[], Common.arith, lemmas.Bool.Decides.nat_tests}
use Rattle.pp_lines.specs.Lines.{finished, unfinished}
use Rattle.pp_console.proofs.{Reading.HasRead-finishes, Pieces.Interrupts-lines, Pieces.Interrupts-bytes}
use Rattle.pp_console.proofs.serving.feed_line.Goals.{then-progress-eq-LINE_LIMIT-via-then-progress-eq-LINE_LIMIT}
use Rattle.pp_console.proofs.serving.feed_line.Goals.{then-progress-eq-LINE_LIMIT-via-else-progress-eq-LINE_LIMIT+then-text-room}
use Rattle.pp_console.proofs.serving.feed_line.Goals as goal

pub returns-then-progress-eq-LINE_LIMIT-clause-has_read : goal.returns-then-progress-eq-LINE_LIMIT-clause-has_read
returns-then-progress-eq-LINE_LIMIT-clause-has_read g c = λ origin bytes has_read.
    elim c.then-progress-eq-LINE_LIMIT.branch [
      | then-progress-eq-LINE_LIMIT-via-then-progress-eq-LINE_LIMIT w ↦
          Interrupts-lines has_read c.args.text.now (10 ∷ []) (omega arith) w.if-progress-eq-LINE_LIMIT.true
      | then-progress-eq-LINE_LIMIT-via-else-progress-eq-LINE_LIMIT+then-text-room w ↦
          Interrupts-bytes has_read c.args.text.now (10 ∷ []) c.requires
          (omega (arith, w.if-text-room.true)) (omega (arith, w.if-text-room.true)) (grind (arith, nat_tests))
    ]

pub returns-in-Err-clause-has_read : goal.returns-in-Err-clause-has_read
returns-in-Err-clause-has_read g c = λ origin bytes has_read. (
  finished bytes,
  unfinished (bytes ++ c.args.text.now),
  [],
  HasRead-finishes has_read c.args.text.now c.requires (grind (arith, nat_tests)) (grind (arith, nat_tests)),
  c.in-Err.ensures.ended origin bytes has_read.keeps has_read.ended,
)
