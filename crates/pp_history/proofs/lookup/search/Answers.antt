use Rattle.pp_history.proofs.Names.{◌∙◌, arith, drop-drop, rules, sym}
use Rattle.pp_history.proofs.{Search.seen, lookup.search.Goals.in-Some, lookup.search.Goals.in-None}
use Rattle.pp_history.proofs.lookup.search.Goals as goal

pub unwrap-back-requires : goal.unwrap-back-requires
unwrap-back-requires g c =
    let T = g.L.Lookups.rules in
    let next = seen T _ _ c.loop-k.invariant.passed (c.get-head.ensures _ c.loop-k-test.true) (c.undo_record.ensures T.unpacked) in
    grind (arith, next)

pub returns-then-is_changed-clause-value : goal.returns-then-is_changed-clause-value
returns-then-is_changed-clause-value g c =
    let T = g.L.Lookups.rules in
    let next = seen T _ _ c.loop-k.invariant.passed (c.get-head.ensures _ c.loop-k-test.true) (c.undo_record.ensures T.unpacked) in
    grind (arith, next, c.unwrap-back.ensures, c.is_changed.ensures.value, c.if-is_changed.true)

pub loop-k-preserved : goal.loop-k-preserved
loop-k-preserved g c =
    let T = g.L.Lookups.rules in
    let next = seen T _ _ c.loop-k.invariant.passed (c.get-head.ensures _ c.loop-k-test.true) (c.undo_record.ensures T.unpacked) in
    let passed = (rw c.unwrap-back.ensures at next).1 (sym c.is_changed.ensures.value ∙ c.if-is_changed.false) in
    elim c.match-head.branch [
      | in-Some w ↦ let passed = rw w.in-Some.is at passed in rw w.tail-is (search rules)
      | in-None w ↦ let passed = rw (w.in-None.is, drop-drop) at passed in rw w.tail-is (search rules)
    ]
