use Rattle.std.proofs.Common.{◌∙◌, Some, sym}
use Rattle.std.proofs.lemmas.Map.Text.{btree_map_updates_str}
use Rattle.pp_meaning.specs.Names.{last_of}
use Rattle.pp_encoder.proofs.LastNames.{is-different, last-stays, none-is-some, some-is}
use Rattle.pp_encoder.proofs.names.note.Goals as goal

pub returns-in-None-clause-last : goal.returns-in-None-clause-last
returns-in-None-clause-last c = λ _. last-stays c.args.symbols.now (last_of c.args.last.now)
    (last_of c.insert.new.self) c.args.index c.name_of.result.now c.in_ok-insert.field-0 c.requires c.name_of.ensures c.in_ok-insert.ensures.old
    (btree_map_updates_str c.name_of.result.now c.args.last.now c.insert.new.self (Some c.args.index)
    c.in_ok-insert.ensures.updates)
    (none-is-some c.args.index c.args.symbols.now c.in_ok-insert.field-0 c.in-None.is)

pub returns-in-None-clause-different : goal.returns-in-None-clause-different
returns-in-None-clause-different c = λ _. is-different c.args.symbols.now (last_of c.args.last.now) c.args.index
    c.name_of.result.now c.in_ok-insert.field-0 c.requires c.name_of.ensures c.in_ok-insert.ensures.old
    (none-is-some c.args.index c.args.symbols.now c.in_ok-insert.field-0 c.in-None.is)

pub returns-in-Some-clause-last : goal.returns-in-Some-clause-last
returns-in-Some-clause-last c = λ yes. last-stays c.args.symbols.now (last_of c.args.last.now)
    (last_of c.insert.new.self) c.args.index c.name_of.result.now c.in_ok-insert.field-0 c.requires c.name_of.ensures c.in_ok-insert.ensures.old
    (btree_map_updates_str c.name_of.result.now c.args.last.now c.insert.new.self (Some c.args.index)
    c.in_ok-insert.ensures.updates)
    (some-is c.args.index c.args.symbols.now c.in_ok-insert.field-0 c.in-Some.before c.in-Some.is
    (sym c.has_next.ensures ∙ yes))

pub returns-in-Some-clause-different : goal.returns-in-Some-clause-different
returns-in-Some-clause-different c = λ yes. is-different c.args.symbols.now (last_of c.args.last.now) c.args.index
    c.name_of.result.now c.in_ok-insert.field-0 c.requires c.name_of.ensures c.in_ok-insert.ensures.old
    (some-is c.args.index c.args.symbols.now c.in_ok-insert.field-0 c.in-Some.before c.in-Some.is
    (sym c.has_next.ensures ∙ yes))
