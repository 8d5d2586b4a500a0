use Rattle.pp_loading.proofs.lines.load_lines.Goals as goal

pub returns : goal.returns
returns c = (c.in_ok-put_start.ensures _ c.in_ok-put_program.ensures).loads
