use Rattle.std.proofs.Common.{◌≡◌}
use Rattle.pp_console.specs.{Dumps.printer_line, Dumps.printer_text}
use Rattle.pp_console.proofs.{Prelude.err_from_is_err_and, Gathered.Puts-failed, Gathered.Puts-piece}
use Rattle.pp_console.proofs.paper.put_printer.Goals as goal

pub returns-in_err-gather_paper : goal.returns-in_err-gather_paper
unfolding printer_text
returns-in_err-gather_paper g c =
    let piece : c.push_text.new.row.items ≡ printer_line c.args.machine.now =
    rw (c.push_text.ensures.items, c.new-piece.ensures, c.as_slice.ensures.value, c.printer_line.ensures) in
    rw (err_from_is_err_and c.from_residual.result c.from_residual.ensures.1).1
    (Puts-failed (rw (piece, c.paper.ensures) at c.in_err-gather_paper.ensures))

pub returns : goal.returns
unfolding printer_text
returns g c =
    let piece : c.push_text.new.row.items ≡ printer_line c.args.machine.now =
    rw (c.push_text.ensures.items, c.new-piece.ensures, c.as_slice.ensures.value, c.printer_line.ensures) in
    Puts-piece c.put_all.result (rw (piece, c.paper.ensures) at c.in_ok-gather_paper.ensures)
    (rw c.as_slice-2.ensures.value at c.put_all.ensures)
