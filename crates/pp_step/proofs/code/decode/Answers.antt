use Rattle.std.proofs.Common.{arith, ◌∙◌, ◌/◌, ◌≡◌, bit_and}
use Rattle.std.proofs.lemmas.Nat.{and_mask}
use Rattle.pp_step.proofs.Numbers.{number_of-code_of}
use Rattle.pp_step.proofs.code.decode.Goals as goal

pub returns-clause-number : goal.returns-clause-number
returns-clause-number c =
    let number = c.args.word / 0o100 in
    let masked : bit_and number 0o77 ≡ number = and_mask number 6 ∙ omega arith in
    rw (c.code_at.ensures, masked) (number_of-code_of number (omega arith))
