use Rattle.std.proofs.Common.{◌≡◌, ◌∙◌, ◌+◌, ◌≤◌, ap, arith, length, take}
use Rattle.std.proofs.lemmas.List.{length-take-le}
use Rattle.pp_actions.specs.declared.action.Action.TheVariants.{Turn}
use Rattle.pp_history.specs.SessionValue.{replay}
use Rattle.pp_origins.specs.Links.{links_of}
use Rattle.pp_rig.specs.Rules.{rules as rig}
use Rattle.pp_turn_origins.proofs.WholeTurn.{are_put, made_same}
use Rattle.pp_turn_origins.specs.Recording.{kind_number}
use Rattle.pp_turn_origins.specs.Turn.{processor_origins, turn_origins}
use Rattle.pp_turn_origins.proofs.recording.end_turn.Goals as goal

pub returns-clause-ended : goal.returns-clause-ended
returns-clause-ended c = λ v earlier front at same is_count begun.
    let s = replay rig v.start earlier in
    let next = c.args.begun.now.next in
    let end = c.put_newest_rest-end in
    let rest = end.ensures.links v earlier at same begun.formed begun.slot begun.symbols begun.column in
    let within : next.links ≤ length c.args.links.now = omega (arith, c.requires.at_most, c.requires.links) in
    let within2 : end.result ≤ length end.new.links =
    omega (arith, end.ensures.at_most, c.requires.at_most, c.requires.links, end.auto.links) in
    let put = are_put s front c.args.links.now end.new.links c.args.used next.links end.result is_count within within2 begun.items
    rest in
    let (count, olds) = c.put_overwritten-count.ensures.olds v Turn earlier at same in
    let all : c.saturating_sub.result ≡ length (links_of (turn_origins s)) = omega (arith, put.all, c.saturating_sub.ensures) in
    let own : c.saturating_sub-2.result ≡ length (links_of (processor_origins s)) = omega
    (arith, put.own, c.saturating_sub-2.ensures) in
    let here : length front + c.saturating_sub.result ≡ end.result = omega (arith, put.all, is_count, c.saturating_sub.ensures) in
    let before : length (take c.args.overwritten c.args.olds.now) ≡ c.args.overwritten =
    length-take-le c.args.overwritten c.args.olds.now (omega (arith, c.requires.olds)) in
    record {
      turn = made_same (c.from.ensures ∙ begun.of_processor) begun.address begun.word (ap kind_number begun.kind) all own count;
      items = rw here put.items;
      overwritten = rw before olds;
    }
