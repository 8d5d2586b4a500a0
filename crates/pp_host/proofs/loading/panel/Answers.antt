use Rattle.std.proofs.{Common.◌≡◌, Common.arith, Common.option_map, Common.Some, lemmas.Grind.common_steps}
use Rattle.std.specs.String.{string_bytes}
use Rattle.pp_files.specs.Files.{panel_rule, panel_of_file}
use Rattle.pp_lines.specs.Device.{all_bytes}
use Rattle.pp_host.specs.Known.{Content}
use Rattle.pp_host.proofs.Loaded.{fails_or_broke_off}
use Rattle.pp_trouble.specs.declared.trouble.FileKind.TheVariants.{Panel}
use Rattle.pp_host.proofs.loading.panel.Goals as goal

pub returns-in-Ok-clause-panel : goal.returns-in-Ok-clause-panel
returns-in-Ok-clause-panel g c =
    let file = c.in-Ok.ensures.file in
    let all = all_bytes (g.H.File.Source.rest c.in_ok-file.file) file.0 in
    record {
      read = Content file.0;
      ended = g.H.File.Source.ended c.load_panel-read.new.source;
      content = Content all;
      logged = grind (arith, common_steps);
      known = grind (arith, common_steps);
      follows = grind (arith, common_steps);
    }

pub returns-in-Err-clause-panel : goal.returns-in-Err-clause-panel
returns-in-Err-clause-panel g c =
    let file = c.in-Err.ensures.file in
    let all = all_bytes (g.H.File.Source.rest c.in_ok-file.file) file.0 in
    let path = string_bytes c.in-Some.path in
    let some : option_map string_bytes c.args.path.now ≡ Some path = grind (arith, common_steps) in
    record {
      read = Content file.0;
      ended = g.H.File.Source.ended c.load_panel-read.new.source;
      content = Content all;
      logged = grind (arith, common_steps);
      known = grind (arith, common_steps);
      follows = rw (some, c.load.ensures)
          (fails_or_broke_off Some Panel panel_rule panel_of_file path _ file.0 all _ c.in-Err.ensures.no_memory file.3);
    }
