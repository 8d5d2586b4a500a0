use Rattle.std.proofs.{Common.length, Common.arith, Common.ap, lemmas.Bool.Decides.nat_tests}
use Rattle.pp_files.proofs.Loads.{file-last}
use Rattle.pp_files.proofs.loading.finish.Goals as goal

pub returns-clause-read : goal.returns-clause-read
returns-clause-read g c = λ bytes has_read.
    let same = ap length c.line-line.ensures in
    file-last c.args.progress.now g.S.Sheet.rule (g.S.Sheet.holds c.args.sheet.now)
    (g.S.Sheet.holds c.read_line.new.sheet) c.read_line.result bytes
    has_read (grind (arith, nat_tests)) (λ rows held. rw c.line-line.ensures at (c.read_line.ensures.row rows held))
