-- Codes and their numbers.
use Rattle.std.proofs.Common.{◌≡◌, ℕ, ◌<◌, [], sym, subst, ⊎_elim, ◌∙◌, zero-add}
use Rattle.std.proofs.lemmas.{Bool.cases_lt, List.get_or-map, List.get_or_past, List.FromFn.get_or-range_with_len}
use Rattle.pp_step.specs.{Codes.codes, Codes.code_of, Codes.number_of, Instruction.NoAddress, declared.code.Code.Code}
use Rattle.pp_step.specs.InstructionTable.{Row, row, rows, row_of}
use Rattle.pp_step.specs.declared.code.Code.TheVariants.{Fnc}

-- no two numbers from 00 to 77 have the same code
pub number_of-code_of : (n : ℕ) → n < 64 → number_of (code_of n) ≡ n
number_of-code_of n below = sym (get_or-map number_of codes n Fnc 0o77 below) ∙ get_or-range_with_len 0 64 n 0o77 below ∙ zero-add n

-- what is true of the row of each code, and of a wait, is true of the row of each number
pub each_row : (T : Row → Type 0) → ((code : Code) → T (row_of (number_of code))) →
    T (row Fnc NoAddress (λ i s. [])) → (n : ℕ) → T (row_of n)
each_row T each wait n = ⊎_elim (λ below. subst (λ k. T (row_of k)) (number_of-code_of n below) (each (code_of n)))
    (λ past. subst T (sym (get_or_past rows n (row Fnc NoAddress (λ i s. [])) past)) wait)
    (cases_lt n 64)
