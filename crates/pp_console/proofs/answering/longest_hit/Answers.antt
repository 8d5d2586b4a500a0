use Rattle.std.proofs.{Common.◌≡◌, Common.◌+◌, Common.◌-◌, Common.◌<◌, Common.ℕ, Common.arith, Common.length, lemmas.List.drop_more}
use Rattle.pp_actions.specs.declared.watched.Watched.TheVariants.{Cell}
use Rattle.pp_console.proofs.answering.longest_hit.Goals as goal

pub loop-i-preserved : goal.loop-i-preserved
loop-i-preserved c =
    let watches = c.args.watches.now in
    let j : ℕ = length watches - (c.loop-i.i + 1) in
    let more : c.loop-i.i < length watches = c.loop-i-test.true in
    let next : length watches - c.loop-i.i ≡ j + 1 = omega (arith, more) in
    let cut = drop_more watches j (Cell 0 0) (omega (arith, more)) in
    let at : length watches - 1 - c.loop-i.i ≡ j = omega (arith, more) in
    grind (
      arith,
      cut,
      next,
      at,
      c.loop-i.invariant.longest,
      c.loop-i.invariant.within,
      c.hit_size.ensures.value,
      c.hit_size.ensures.within,
      c.max-longest.ensures,
    )
