use Rattle.std.proofs.Common.{◌≡◌, ℕ, ◌∙◌, ap, inl, inr, length, refl, arith}
use Rattle.pp_library.proofs.Assemblies.{loads_same, puts_same}
use Rattle.pp_library.specs.Assembling.{AssembleOuts}
use Rattle.pp_library.proofs.assembling.pp6600_load_lines.Goals as goal

pub returns-then-faults-gt0 : goal.returns-then-faults-gt0
returns-then-faults-gt0 c =
    let count : c.len-faults.result ≡ length c.in-Ok.made.messages.items = c.len-faults.ensures ∙ c.in-Ok.made.messages.ok.0 in
    let outs : ℕ → AssembleOuts = λ n. record { into = c.args.into.now; count = c.args.count.now; messages = n } in
    inr (inl (
      omega arith,
      record {
        made = c.in-Ok.made;
        assembly = record {
          program = c.in-Ok.ensures.cells;
          start = c.in-Ok.ensures.start;
          meaning = c.in-Ok.ensures.meaning;
          said = c.in-Ok.ensures.said;
          source_lines = c.in-Ok.ensures.source;
          messages = c.in-Ok.ensures.messages;
          warnings = c.in-Ok.ensures.warnings;
          decks = c.in-Ok.ensures.decks;
        };
        faults = omega arith;
        refused = refl;
        outs = ap outs count;
      },
    ))

pub returns : goal.returns
returns c =
    let count : c.len-faults.result ≡ length c.in-Ok.made.messages.items = c.len-faults.ensures ∙ c.in-Ok.made.messages.ok.0 in
    inl (
      omega arith,
      record {
        made = c.in-Ok.made;
        assembly = record {
          program = c.in-Ok.ensures.cells;
          start = c.in-Ok.ensures.start;
          meaning = c.in-Ok.ensures.meaning;
          said = c.in-Ok.ensures.said;
          source_lines = c.in-Ok.ensures.source;
          messages = c.in-Ok.ensures.messages;
          warnings = c.in-Ok.ensures.warnings;
          decks = c.in-Ok.ensures.decks;
        };
        no_faults = omega arith;
        text = c.in-Ok-load_lines.text.items;
        loads = loads_same _ _ _ _ _ _ c.cells.ensures.same c.start.ensures.same c.in-Ok-load_lines.ensures;
        puts = puts_same _ _ _ _ _ _ c.as_slice.ensures.value c.put_text.ensures;
        messages = refl;
      },
    )
