-- Programs with parts of the rows, one behind another.
use Rattle.std.proofs.Common.{◌≡◌, ◌∙◌, ◌<◌, ◌+◌, ℕ, true, List, length, get_or, ap, subst, sym, take, drop}
use Rattle.std.proofs.lemmas.List.{drop_more}
use Rattle.pp_decks.specs.declared.lines.Lines.{Lines}
use Rattle.pp_meaning.specs.declared.statements.Unit.{Unit}
use Rattle.pp_source.specs.declared.vocabulary.Vocabulary.{Vocabulary}
use Rattle.pp_statements.specs.declared.scope.Row.{Row}
use Rattle.pp_assembler.specs.RowStatements.{AreOfRows, follow}

pub next_part : (lines : Lines) (words : Vocabulary) (units : List Unit) (rows left own later : List Row) (at end : ℕ) (unit none : Unit) →
    at < length units → unit ≡ get_or units at none → own ≡ take end left →
    follow lines words unit.statements.items 0 own ≡ true → later ≡ drop end left →
    (AreOfRows lines words (drop at units) left → AreOfRows lines words units rows) →
    AreOfRows lines words (drop (at + 1) units) later → AreOfRows lines words units rows
next_part lines words units rows left own later at end unit none inside unit_is own_is follows later_is before rest =
    before (subst (λ l. AreOfRows lines words l left) (sym (drop_more units at none inside)) (
      end,
      subst (λ one. follow lines words one.statements.items 0 (take end left) ≡ true) unit_is
          (ap (follow lines words unit.statements.items 0) (sym own_is) ∙ follows),
      subst (λ l. AreOfRows lines words (drop (at + 1) units) l) later_is rest,
    ))
