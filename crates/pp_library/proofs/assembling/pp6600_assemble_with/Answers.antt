use Rattle.std.proofs.Common.{◌∙◌, inl, arith}
use Rattle.pp_library.proofs.Assemblies.{puts_same}
use Rattle.pp_library.proofs.assembling.pp6600_assemble_with.Goals as goal

pub returns : goal.returns
returns c = inl (
  omega arith,
  record {
    made = c.in-Ok.made;
    assembly = record {
      program = c.in-Ok.ensures.cells;
      start = c.in-Ok.ensures.start;
      meaning = c.in-Ok.ensures.meaning;
      said = c.in-Ok.ensures.said;
      source_lines = c.in-Ok.ensures.source_lines;
      messages = c.in-Ok.ensures.messages;
      warnings = c.in-Ok.ensures.warnings;
      decks = c.in-Ok.ensures.decks;
    };
    text = puts_same _ _ _ _ _ _ (c.as_slice.ensures.value ∙ c.in-Ok-text_of.ensures) c.put_text.ensures;
    messages = c.len.ensures ∙ c.in-Ok.made.messages.ok.0;
  },
)
