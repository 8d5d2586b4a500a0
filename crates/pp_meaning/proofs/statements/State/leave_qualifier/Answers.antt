use Rattle.std.proofs.Common.{◌≡◌, ◌∙◌, ◌-◌, ap, length, map, take, rules}
use Rattle.std.specs.List.{take-map}
use Rattle.std.proofs.lemmas.List.{length-map}
use Rattle.pp_meaning.specs.Standing.{prefix_text, standing}
use Rattle.pp_meaning.proofs.statements.State.leave_qualifier.Goals as goal

pub returns : goal.returns
returns c =
    let items = c.args.self.now.prefixes.items in
    let kept : take (length items - 1) items ≡ c.truncate.new.self.items = search rules in
    ap (λ prefixes. record (standing c.args.self.now) { prefixes = prefixes })
    (ap (λ n. take (n - 1) (map prefix_text items)) (length-map items prefix_text) ∙ take-map prefix_text (length items - 1) items
    ∙ ap (map prefix_text) kept)
