use Rattle.std.proofs.Common.{◌≡◌, ◌∙◌, ◌≤◌, ◌++◌, ap, arith, length, subst, take}
use Rattle.std.proofs.lemmas.List.{length-take-le}
use Rattle.pp_machine.specs.Machine.{processor}
use Rattle.pp_origins.specs.Links.{links_of}
use Rattle.pp_origins.specs.Step.{step_origins}
use Rattle.pp_turn_origins.proofs.Deciding.{waits}
use Rattle.pp_turn_origins.specs.Turn.{processor_origins}
use Rattle.pp_turn_origins.proofs.reading.next_origins.Goals as goal

pub returns-clause-kind : goal.returns-clause-kind
returns-clause-kind c =
    let m = c.args.machine.now in
    let slot : c.slot-pp.result ≡ m.slot = c.slot-pp.ensures.value in
    let links = c.put_step-end.new.links in
    let front = take c.args.used c.args.links.now in
    let room : c.args.used ≤ length c.args.links.now = omega (arith, c.requires.room) in
    let within : c.put_step-end.result ≤ length links = omega
    (arith, c.put_step-end.ensures.at_most, c.requires.room, c.put_step-end.auto.links) in
    let items = subst (λ n. take c.put_step-end.result links ≡ front ++ links_of (step_origins n m)) slot
    c.put_step-end.ensures.items in
    let wait = waits links front (processor_origins m) c.args.used c.put_step-end.result within items
    (length-take-le c.args.used c.args.links.now room) in
    let phase : c.phase_and_p-phase.result.0 ≡ (processor m m.slot).phase =
    c.phase_and_p-phase.ensures.phase ∙ ap (λ n. (processor m n).phase) slot in
    c.kind.ensures ∙ cc (wait, phase, c.address_and_word-address.ensures.word)
