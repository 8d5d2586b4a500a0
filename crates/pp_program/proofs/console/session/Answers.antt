use Rattle.std.proofs.lemmas.Result.{err_from_is_err_and}
use Rattle.pp_host.specs.Calls.{asked_of}
use Rattle.pp_program.proofs.Coursing.{rig-unmade, session-unmade}
use Rattle.pp_program.proofs.console.session.Goals as goal

pub returns-in_err-rig-clause-session : goal.returns-in_err-rig-clause-session
returns-in_err-rig-clause-session c =
    let (trouble, is_err, is) = err_from_is_err_and c.from_residual.result c.from_residual.ensures.1 in
    rw (is_err, is) (rig-unmade (asked_of c.args.options.now) c.args.deck.items c.args.panel _ c.in_err-rig.ensures.fails)

pub returns-clause-session : goal.returns-clause-session
returns-clause-session c = session-unmade (asked_of c.args.options.now) c.args.deck.items c.args.panel c.in_ok-rig.ensures.admitted
