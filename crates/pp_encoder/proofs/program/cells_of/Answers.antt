use Rattle.std.proofs.Common.{◌<◌, arith, length, sym}
use Rattle.pp_notation.proofs.Programs.{IsBelow-push, IsBelow-skip}
use Rattle.pp_encoder.proofs.Filling.{words-push, words-skip}
use Rattle.pp_encoder.proofs.program.cells_of.Goals as goal
use Rattle.pp_encoder.proofs.program.cells_of.Goals.{in-None, in-Some+else-word-gt-WORD+in_ok-push-in-Some}

pub loop-address-preserved : goal.loop-address-preserved
loop-address-preserved c =
    let within : c.loop-address.address < 0o10000 = c.loop-address-test.true in
    let inside : c.loop-address.address < length c.args.memory.now = omega (arith, within, c.requires) in
    elim c.match-memory-address.branch [
      | in-Some+else-word-gt-WORD+in_ok-push-in-Some w ↦
          let address : w.cell_at.result.address < 0o10000 = omega (arith, within, w.cell_at.ensures.address) in
          let word : w.cell_at.result.word < 0o10000 = omega (arith, w.if-word-gt-WORD.false, w.cell_at.ensures.word) in
          rw (w.cells-is, w.in_ok-push-in-Some.ensures.items) (record {
            below = IsBelow-push c.loop-address.cells.items w.cell_at.result c.loop-address.address c.loop-address.invariant.below
                w.cell_at.ensures.address (address, word);
            words = words-push c.loop-address.cells.items w.cell_at.result c.args.memory.now c.loop-address.address w.in-Some.word _
                w.cell_at.ensures.address w.cell_at.ensures.word inside (sym w.in-Some.is) c.loop-address.invariant.words;
          })
      | in-None w ↦ rw w.cells-is (record {
        below = IsBelow-skip c.loop-address.cells.items c.loop-address.address c.loop-address.invariant.below;
        words = words-skip c.loop-address.cells.items c.args.memory.now c.loop-address.address _ inside (sym w.in-None.is)
            c.loop-address.invariant.words;
      })
    ]
