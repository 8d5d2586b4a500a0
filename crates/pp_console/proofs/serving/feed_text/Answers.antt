use Rattle.std.proofs.{Common.◌++◌, Common.[], Common.arith, Common.append-nil, lemmas.Bool.Decides.nat_tests}
use Rattle.pp_console.proofs.{Prelude.LineLimit, Prelude.Interrupts, Pieces.Interrupts-lines, Pieces.Interrupts-bytes}
use Rattle.pp_console.proofs.serving.feed_text.Goals.{then-progress-eq-LINE_LIMIT-via-then-progress-eq-LINE_LIMIT}
use Rattle.pp_console.proofs.serving.feed_text.Goals.{then-progress-eq-LINE_LIMIT-via-else-progress-eq-LINE_LIMIT+then-text-room}
use Rattle.pp_console.proofs.serving.feed_text.Goals as goal

pub returns-then-progress-eq-LINE_LIMIT-clause-has_read : goal.returns-then-progress-eq-LINE_LIMIT-clause-has_read
returns-then-progress-eq-LINE_LIMIT-clause-has_read c = λ session written origin bytes has_read.
    let text = c.args.text.now in
    let stopped : Interrupts LineLimit session written origin ((bytes ++ text) ++ []) = elim c.then-progress-eq-LINE_LIMIT.branch [
      | then-progress-eq-LINE_LIMIT-via-then-progress-eq-LINE_LIMIT w ↦
          Interrupts-lines has_read text [] (grind (arith, nat_tests)) w.if-progress-eq-LINE_LIMIT.true
      | then-progress-eq-LINE_LIMIT-via-else-progress-eq-LINE_LIMIT+then-text-room w ↦
          Interrupts-bytes has_read text [] c.requires
          (omega (arith, w.if-text-room.true)) (omega (arith, w.if-text-room.true)) (grind (arith, nat_tests))
    ] in
    rw (append-nil (bytes ++ text)) at stopped
