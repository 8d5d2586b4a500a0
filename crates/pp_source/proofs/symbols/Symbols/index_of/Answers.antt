use Rattle.std.proofs.Common.{◌++◌, ◌∙◌, ap, sym}
use Rattle.pp_source.specs.Index.{number_of, numbers_in}
use Rattle.pp_source.specs.Names.{has_key_at}
use Rattle.std.specs.BTreeMap.{get}
use Rattle.std.specs.Ordering.{nat_cmp}
use Rattle.pp_source.proofs.Keys.{has_its_number}
use Rattle.pp_source.proofs.Walks.{begins, goes_back}
use Rattle.pp_source.proofs.symbols.Symbols.index_of.Goals as goal

pub loop-turn-init : goal.loop-turn-init
loop-turn-init c =
    let symbols = c.args.self.now in
    let number = number_of (c.args.prefix.now ++ c.args.name.now) in
    begins (has_key_at symbols c.args.prefix.now c.args.name.now) (numbers_in symbols.text.items symbols.all.items) number
    (λ at within. has_its_number symbols c.args.prefix.now c.args.name.now at) c.last-next.result
    (c.last-next.ensures ∙ (ap (get nat_cmp symbols.index.last) c.number_of_name.ensures ∙ symbols.indexed.1.1 number))

pub loop-turn-preserved : goal.loop-turn-preserved
loop-turn-preserved c =
    let symbols = c.args.self.now in
    rw c.before-next.ensures (goes_back (has_key_at symbols c.args.prefix.now c.args.name.now) (numbers_in symbols.text.items symbols.all.items)
    (number_of (c.args.prefix.now ++ c.args.name.now)) symbols.index.last symbols.index.before.items symbols.indexed.1
    (λ at within. has_its_number symbols c.args.prefix.now c.args.name.now at) c.loop-turn._turn c.in_ok-at.at
    c.loop-turn.next c.in_ok-at.was c.loop-turn.invariant (sym c.has_key.ensures ∙ c.if-has_key.false))
