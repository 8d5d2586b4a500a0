use Rattle.std.specs.Prelude.{is_ok}
use Rattle.pp_source.proofs.Keys.{longer}
use Rattle.pp_source.proofs.symbols.Symbols.keep.Goals as goal

pub invariant_of-self : goal.invariant_of-self
invariant_of-self c =
    let symbols = c.args.self.now in
    record {
      indexed = longer symbols.text.items c.extend_from_slice.new.self.items c.args.text.now (is_ok c.extend_from_slice.result)
          symbols.all.items symbols.index.last symbols.index.before.items c.extend_from_slice.ensures.items symbols.indexed;
    }
