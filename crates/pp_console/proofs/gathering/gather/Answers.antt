use Rattle.std.proofs.Common.{sym, ap, ◌++◌}
use Rattle.pp_console.proofs.Prelude.{err_from_is_err_and}
use Rattle.pp_console.proofs.gathering.gather.Goals as goal

pub returns-in_err-put_all : goal.returns-in_err-put_all
returns-in_err-put_all g c = rw (err_from_is_err_and c.from_residual.result c.from_residual.ensures.1).1 (record {
  sent = c.as_slice.result.now;
  rest = c.args.text.now;
  puts = record { text = c.in_err-put_all.ensures.text; counts = c.in_err-put_all.ensures.counts };
  all = ap (λ piece. piece ++ c.args.text.now) (sym c.as_slice.ensures.value);
  piece = tt;
})
