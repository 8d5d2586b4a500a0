use Rattle.pp_statements.proofs.Noting.{goes_on, says}
use Rattle.pp_statements.proofs.scope.Scope.field.Goals as goal

pub returns : goal.returns
returns c = λ plain.
    goes_on c.args.self.now.is_right c.checked_field-number.new.self c.reported.new.self (λ scope d. d) c.checked_field-number.result
    c.reported.result _ (says c.args.self.now c.checked_field-number.new.self _ _ (c.checked_field-number.ensures.number plain)
    (c.checked_field-number.ensures.unchanged plain)) c.reported.ensures.found
