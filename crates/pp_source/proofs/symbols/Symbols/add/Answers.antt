use Rattle.std.proofs.Common.{None, Some, arith}
use Rattle.std.specs.Prelude.{is_ok, vec_len}
use Rattle.pp_source.specs.declared.symbols.Symbol.{Symbol}
use Rattle.pp_source.proofs.Keys.{grown, longer, number_of_new, popped}
use Rattle.pp_source.proofs.symbols.Symbols.add.Goals as goal

pub invariant_of-self-in-Break-branch-2 : goal.invariant_of-self-in-Break-branch-2
invariant_of-self-in-Break-branch-2 c =
    let symbols = c.args.self.now in
    let one = longer symbols.text.items c.extend_from_slice.new.self.items c.of-prefix.result.now (is_ok c.extend_from_slice.result)
    symbols.all.items symbols.index.last symbols.index.before.items c.extend_from_slice.ensures.items symbols.indexed in
    let text = longer c.extend_from_slice.new.self.items c.extend_from_slice-2.new.self.items c.args.name.now
    (is_ok c.extend_from_slice-2.result) symbols.all.items symbols.index.last symbols.index.before.items
    c.extend_from_slice-2.ensures.items one in
    record { indexed = text }

pub invariant_of-self-in-Break-branch-3 : goal.invariant_of-self-in-Break-branch-3
invariant_of-self-in-Break-branch-3 c =
    let symbols = c.args.self.now in
    let one = longer symbols.text.items c.extend_from_slice.new.self.items c.of-prefix.result.now (is_ok c.extend_from_slice.result)
    symbols.all.items symbols.index.last symbols.index.before.items c.extend_from_slice.ensures.items symbols.indexed in
    let text = longer c.extend_from_slice.new.self.items c.extend_from_slice-2.new.self.items c.args.name.now
    (is_ok c.extend_from_slice-2.result) symbols.all.items symbols.index.last symbols.index.before.items
    c.extend_from_slice-2.ensures.items one in
    record { indexed = rw c.in_err-push.ensures.items text }

pub invariant_of-self-in-Ok : goal.invariant_of-self-in-Ok
invariant_of-self-in-Ok c =
    let symbols = c.args.self.now in
    let one = longer symbols.text.items c.extend_from_slice.new.self.items c.of-prefix.result.now (is_ok c.extend_from_slice.result)
    symbols.all.items symbols.index.last symbols.index.before.items c.extend_from_slice.ensures.items symbols.indexed in
    let text = longer c.extend_from_slice.new.self.items c.extend_from_slice-2.new.self.items c.args.name.now
    (is_ok c.extend_from_slice-2.result) symbols.all.items symbols.index.last symbols.index.before.items
    c.extend_from_slice-2.ensures.items one in
    let symbol : Symbol = record {
      key = record { first = c.len-first.result; end = c.len.result };
      before = None;
      seen = Some c.args.definition;
    } in
    let its = number_of_new symbols.text.items c.extend_from_slice.new.self.items c.extend_from_slice-2.new.self.items c.of-prefix.result.now
    c.args.name.now c.len-first.result c.len.result c.number_of_name-number.result c.in_ok-extend_from_slice.ensures.items
    c.in_ok-extend_from_slice-2.ensures.items (omega (arith, c.len-first.ensures, symbols.text.ok.0))
    (omega (arith, c.len.ensures, c.extend_from_slice-2.new.self.ok.0)) c.number_of_name-number.ensures in
    record {
      indexed = grown c.extend_from_slice-2.new.self.items symbols.all.items c.push.new.self.items symbol c.number_of_name-number.result
          symbols.index.last c.add.new.self.last symbols.index.before.items c.add.new.self.before.items c.in_ok-push.ensures.items
          (omega (arith, c.len.ensures, c.extend_from_slice-2.new.self.ok.0)) its c.in-Ok.ensures text;
    }

pub invariant_of-self-in-Err : goal.invariant_of-self-in-Err
invariant_of-self-in-Err c =
    let symbols = c.args.self.now in
    let one = longer symbols.text.items c.extend_from_slice.new.self.items c.of-prefix.result.now (is_ok c.extend_from_slice.result)
    symbols.all.items symbols.index.last symbols.index.before.items c.extend_from_slice.ensures.items symbols.indexed in
    let text = longer c.extend_from_slice.new.self.items c.extend_from_slice-2.new.self.items c.args.name.now
    (is_ok c.extend_from_slice-2.result) symbols.all.items symbols.index.last symbols.index.before.items
    c.extend_from_slice-2.ensures.items one in
    let symbol : Symbol = record {
      key = record { first = c.len-first.result; end = c.len.result };
      before = None;
      seen = Some c.args.definition;
    } in
    record {
      indexed = popped c.extend_from_slice-2.new.self.items symbols.all.items c.push.new.self.items c.pop.new.self.items symbol
          symbols.index.last c.add.new.self.last symbols.index.before.items c.add.new.self.before.items (vec_len c.push.new.self)
          c.in_ok-push.ensures.items (omega (arith, c.push.new.self.ok.0)) c.pop.ensures.rest c.in-Err.ensures text;
    }
