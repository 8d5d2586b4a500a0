-- Codes as the digits of a number.
use Rattle.std.proofs.Common.{◌≡◌, ℕ, zero, suc, ◌+◌, ◌*◌, List, [], ◌∷◌, ◌++◌, add-one, refl, replicate}
use Rattle.pp_meaning.specs.Texts.{number_from_codes}

pub codes_append : (number : ℕ) (xs ys : List ℕ) →
    number_from_codes number (xs ++ ys) ≡ number_from_codes (number_from_codes number xs) ys
codes_append number [] ys = refl
codes_append number (code ∷ xs) ys = codes_append (number * 0o100 + code) xs ys

codes_after : (number count code : ℕ) →
    number_from_codes number (replicate (suc count) code) ≡ number_from_codes number (replicate count code) * 0o100 + code
codes_after number zero code = refl
codes_after number (suc count) code = codes_after (number * 0o100 + code) count code

pub codes_more : (number count code : ℕ) →
    number_from_codes number (replicate (count + 1) code) ≡ number_from_codes number (replicate count code) * 0o100 + code
codes_more number count code = rw (add-one count) (codes_after number count code)
