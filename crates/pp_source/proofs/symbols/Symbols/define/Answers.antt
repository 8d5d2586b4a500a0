use Rattle.std.proofs.Common.{◌≡◌, Some, length, refl}
use Rattle.std.proofs.lemmas.Option.{slice_get_read}
use Rattle.std.specs.Prelude.{slice_get}
use Rattle.pp_source.proofs.Keys.{renewed}
use Rattle.pp_source.proofs.symbols.Symbols.define.Goals as goal

pub invariant_of-self : goal.invariant_of-self
invariant_of-self c =
    let symbols = c.args.self.now in
    let old = c.index-symbol.result.now in
    let found : slice_get symbols.all.items c.in-Some-index_of.at ≡ Some old =
    slice_get_read symbols.all.items (length symbols.all.items) c.in-Some-index_of.at old refl c.in-Some-index_of.ensures.within
    c.index-symbol.ensures in
    record {
      indexed = renewed symbols.text.items symbols.all.items symbols.index.last symbols.index.before.items c.in-Some-index_of.at old
          (record { key = old.key; before = old.before; seen = Some c.args.definition }) found refl symbols.indexed;
    }
