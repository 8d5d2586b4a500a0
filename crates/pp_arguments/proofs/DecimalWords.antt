-- Words that are read in decimal.
use Rattle.std.proofs.Common.{◌≡◌, ◌<◌, ◌^◌, ℕ, Bool, true, List, length, refl, arith, rules, ◌&&◌, Err, None, Option}
use Rattle.std.proofs.Common.{if◌then◌else◌, nat_le, nat_lt}
use Rattle.std.proofs.lemmas.{Bool.Decides.nat_tests, Str.Parse.IsNumeralModel, Str.Parse.numerals_by_value, Str.Parse.parse_digits}
use Rattle.std.specs.{Char.is_ascii_digit, List.list_all, Str.Parse.ParsesUnsigned, Str.Parse.digits_value}
use Rattle.pp_arguments.specs.Decimal.{decimal_read}

numerals : IsNumeralModel (λ word. list_all is_ascii_digit word ≡ true) (digits_value 10)
numerals = numerals_by_value _ (search rules)

both : (some all small : Bool) (number : Option ℕ) → (some ≡ true → small ≡ true → ⊥) →
    None ≡ (if (some && all) && small then number else None)
both some all small number never = grind arith

-- if digits do not parse, there are none, or their value is above every maximum that fits
pub decimal_read-unparsed : {E : Type 0} (word : List ℕ) (most : ℕ) (fault : E) →
    list_all is_ascii_digit word ≡ true → most < 2 ^ 32 → ParsesUnsigned 32 10 word (Err fault) → None ≡ decimal_read word most
decimal_read-unparsed word most fault digits fits unparsed =
    let not_number = parse_digits numerals 32 word (Err fault) unparsed digits in
    both (nat_lt 0 (length word)) (list_all is_ascii_digit word) (nat_le (digits_value 10 word) most) _ (λ some small.
    not_number (grind (arith, nat_tests), grind (arith, nat_tests)))
