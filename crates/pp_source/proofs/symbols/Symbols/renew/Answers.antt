use Rattle.std.proofs.Common.{◌≡◌, Some, arith, refl}
use Rattle.std.proofs.lemmas.Grind.{common_steps}
use Rattle.std.proofs.lemmas.Option.{gets}
use Rattle.std.specs.Prelude.{slice_get}
use Rattle.pp_source.proofs.Keys.{renewed}
use Rattle.pp_source.proofs.symbols.Symbols.renew.Goals as goal

pub invariant_of-self : goal.invariant_of-self
invariant_of-self g c =
    let symbols = c.loop-at.self in
    let found : slice_get symbols.all.items c.loop-at.at ≡ Some c.in-Some.symbol =
    grind (arith, common_steps, gets, c.get.ensures.lookup, c.deref.ensures.value, c.copied.ensures, c.in-Some.is) in
    record {
      indexed = renewed symbols.text.items symbols.all.items symbols.index.last symbols.index.before.items c.loop-at.at c.in-Some.symbol
          (record { key = c.in-Some.symbol.key; before = c.meanings-before.result.0; seen = c.meanings-before.result.1 }) found refl
          symbols.indexed;
    }
