use Rattle.std.proofs.{Common.◌≡◌, Common.◌<◌, Common.arith, lemmas.Bool.Decides.nat_tests, lemmas.Result.err_from_is_err_and}
use Rattle.pp_files.specs.declared.progress.TheConstants.{FILE_LIMIT}
use Rattle.pp_files.proofs.Loads.{HasReadFile-fault}
use Rattle.pp_files.proofs.loading.feed_byte.Goals as goal

pub returns-in_err-read_line-clause-has_read : goal.returns-in_err-read_line-clause-has_read
returns-in_err-read_line-clause-has_read g c = λ bytes has_read.
    let (fault, is_err, is) = err_from_is_err_and c.from_residual.result c.from_residual.ensures.1 in
    let feed : c.args.byte ≡ 10 = grind (arith, nat_tests) in
    let room : c.args.progress.now.bytes < FILE_LIMIT = grind (arith, nat_tests, c.args.progress.now.bytes_within) in
    rw (is_err, is, feed) (HasReadFile-fault c.args.progress.now g.S.Sheet.rule
    (g.S.Sheet.holds c.args.sheet.now) _ bytes has_read room
    (λ rows held. rw c.line.ensures at (c.in_err-read_line.ensures.row rows held)))
