use Rattle.std.proofs.Common.{arith}
use Rattle.pp_source.proofs.Indexes.{is_added}
use Rattle.pp_source.proofs.index.Index.add.Goals as goal

pub returns-in-Ok : goal.returns-in-Ok
returns-in-Ok c = λ numbers index.
    is_added numbers c.args.number c.args.self.now.last c.insert.new.self c.args.self.now.before.items c.push.new.self.items c.len-at.result
    c.last-before.result (omega (arith, c.len-at.ensures, c.args.self.now.before.ok.0)) c.last-before.ensures c.in-Ok.ensures.updates c.in_ok-push.ensures.items index
