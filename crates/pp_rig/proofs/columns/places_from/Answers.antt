use Rattle.std.proofs.Common.{refl, rules}
use Rattle.std.proofs.lemmas.List.{map-append, take_more}
use Rattle.std.proofs.lemmas.List.Elements.{All-push}
use Rattle.pp_machine.specs.Prelude.{Has}
use Rattle.pp_rig.proofs.columns.places_from.Goals as goal

pub loop-k-preserved : goal.loop-k-preserved
loop-k-preserved c =
    let words = c.args.machine.now.setup.central_words in
    let has : Has words c.place_at.result = search rules in
    record {
      count = search rules;
      places = rw (
        take_more c.args.numbers.now c.loop-k.k 0 c.loop-k-test.true,
        map-append,
        c.push.ensures.items,
        c.loop-k.invariant.places,
        c.place_at.ensures.place,
      ) refl;
      has = rw c.push.ensures.items (All-push (Has words) c.loop-k.places.items c.place_at.result c.loop-k.invariant.has has);
    }
