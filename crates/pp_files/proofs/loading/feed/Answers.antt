use Rattle.std.proofs.{Common.◌++◌, Common.◌+◌, Common.take, Common.drop, Common.rules, lemmas.Result.err_from_is_err_and}
use Rattle.pp_files.proofs.Loads.{FailsAfter-more}
use Rattle.pp_lines.proofs.Reading.{piece_at, piece_next}
use Rattle.pp_files.proofs.loading.feed.Goals as goal

pub returns-in_err-feed_byte-clause-has_read : goal.returns-in_err-feed_byte-clause-has_read
returns-in_err-feed_byte-clause-has_read g c = λ bytes has_read.
    let (fault, is_err, is) = err_from_is_err_and c.from_residual.result c.from_residual.ensures.1 in
    let i = c.loop-byte.byte-index in
    let piece = c.args.piece.now in
    rw (is_err, is) (rw (piece_at bytes piece i c.loop-byte-test.true) at (FailsAfter-more g.S.Sheet.rule _ (drop (i + 1) piece) _
    (c.in_err-feed_byte.ensures.has_read (bytes ++ take i piece) (c.loop-byte.invariant.has_read bytes has_read))))

pub loop-byte-preserved : goal.loop-byte-preserved
loop-byte-preserved g c = record {
  has_read = λ bytes has_read. let i = c.loop-byte.byte-index in
      rw (piece_next bytes c.args.piece.now i c.loop-byte-test.true)
      at (c.in_ok-feed_byte.ensures.has_read (bytes ++ take i c.args.piece.now) (c.loop-byte.invariant.has_read bytes has_read));
  counts_bytes = search rules;
}
