use Rattle.std.proofs.Common.{rules}
use Rattle.pp_assembler.proofs.meaning.encoding_of.Goals as goal

pub returns-in-Some-2 : goal.returns-in-Some-2
returns-in-Some-2 c = record {
  images = c.in_ok-images.images.items;
  assembled = c.in_ok-images.ensures.words;
  written = c.in_ok-images.ensures.lines;
  systems_written = c.in_ok-images.ensures.systems;
  names = c.in_ok-images.ensures.names;
  programs_are = search rules;
  in_order = search rules;
}
