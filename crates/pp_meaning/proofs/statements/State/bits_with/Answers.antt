use Rattle.std.proofs.Common.{◌≡◌, ◌∙◌, IfOk, IfSome, Some, fold, rules, subst}
use Rattle.pp_meaning.specs.Bits.{with_bits}
use Rattle.pp_meaning.specs.Meaning.{bits_before}
use Rattle.pp_meaning.specs.Standing.{standing}
use Rattle.pp_meaning.proofs.statements.State.bits_with.Goals as goal

pub returns-in-Some : goal.returns-in-Some
returns-in-Some c =
    let same : c.deref.result.now ≡ c.in-Some.before.items = search rules in
    let before : c.in-Some.before.items ≡ bits_before (standing c.args.self.now) c.args.label = search rules in
    subst (λ place. IfOk c.bits_of_fields.result
    (λ made. IfSome made (λ bits. fold (with_bits c.args.symbols.now place)
    (Some (bits_before (standing c.args.self.now) c.args.label)) c.args.operands.now ≡ Some bits.items)))
    c.place.ensures
    (subst (λ first. IfOk c.bits_of_fields.result
    (λ made. IfSome made (λ bits. fold (with_bits c.args.symbols.now c.place.result) (Some first) c.args.operands.now ≡ Some
    bits.items)))
    (same ∙ before) c.bits_of_fields.ensures)
