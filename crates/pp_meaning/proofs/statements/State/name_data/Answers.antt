use Rattle.std.proofs.Common.{◌≡◌, ◌∙◌, IfSome, Some, ap, rules, subst, sym}
use Rattle.pp_meaning.specs.Literals.{index_of}
use Rattle.pp_meaning.specs.Meaning.{data_words, naming}
use Rattle.pp_meaning.specs.Standing.{place_of, standing}
use Rattle.pp_meaning.proofs.statements.State.name_data.Goals as goal

pub returns-in-Some : goal.returns-in-Some
returns-in-Some c =
    let same : c.deref.result.now ≡ c.in-Some.words.items = search rules in
    let found : data_words c.args.symbols.now c.place.result c.args.operands.now ≡ Some c.in-Some.words.items = search rules in
    let words : data_words c.args.symbols.now (place_of (standing c.args.self.now)) c.args.operands.now ≡ Some c.deref.result.now =
    ap (λ place. data_words c.args.symbols.now place c.args.operands.now) (sym c.place.ensures) ∙ found ∙ ap Some (sym same) in
    subst (λ made. IfSome c.name_literal.result
    (λ done. naming c.args.literals.now (standing c.args.self.now) c.args.address (index_of c.args.literals.now made) ≡ Some
    (standing c.name_literal.new.self)))
    (sym words) c.name_literal.ensures
