use Rattle.std.proofs.{Common.◌≡◌, Common.arith, Common.option_map, Common.Some, lemmas.Grind.common_steps}
use Rattle.std.specs.String.{string_bytes}
use Rattle.pp_files.specs.Files.{card_rule, deck_of_file}
use Rattle.pp_lines.specs.Device.{all_bytes}
use Rattle.pp_host.specs.Known.{Content}
use Rattle.pp_host.proofs.Loaded.{fails_or_lost}
use Rattle.pp_trouble.specs.declared.trouble.FileKind.TheVariants.{Deck}
use Rattle.pp_host.proofs.loading.deck.Goals as goal

pub returns-in-Ok-clause-deck : goal.returns-in-Ok-clause-deck
returns-in-Ok-clause-deck g c =
    let file = c.in-Ok.ensures.file in
    let all = all_bytes (g.H.File.Source.rest c.in_ok-file.file) file.0 in
    record {
      read = Content file.0;
      ended = g.H.File.Source.ended c.load_deck-read.new.source;
      content = Content all;
      logged = grind (arith, common_steps);
      known = grind (arith, common_steps);
      follows = grind (arith, common_steps);
    }

pub returns-in-Err-clause-deck : goal.returns-in-Err-clause-deck
returns-in-Err-clause-deck g c =
    let file = c.in-Err.ensures.file in
    let all = all_bytes (g.H.File.Source.rest c.in_ok-file.file) file.0 in
    let path = string_bytes c.in-Some.path in
    let some : option_map string_bytes c.args.path.now ≡ Some path = grind (arith, common_steps) in
    record {
      read = Content file.0;
      ended = g.H.File.Source.ended c.load_deck-read.new.source;
      content = Content all;
      logged = grind (arith, common_steps);
      known = grind (arith, common_steps);
      follows = rw (some, c.load.ensures)
          (fails_or_lost (λ cards. cards) Deck card_rule deck_of_file path _ file.0 all _ file.3);
    }
