-- A step taken again and again, as a loop takes it.
use Rattle.std.proofs.Common.{◌≡◌, ◌∙◌, ℕ, ◌+◌, ◌-◌, ◌<◌, ◌≤◌, suc, Option, Some, None, refl, sym, arith}
use Rattle.pp_statements.specs.Values.{repeated}

pub goes_on : {A : Type 0} (count i : ℕ) (step : A → Option A) (x y : A) (total : Option A) → i < count → step x ≡ Some y →
    repeated (count - i) step x ≡ total → repeated (count - (i + 1)) step y ≡ total
unfolding repeated
goes_on count i step x y total within taken so_far =
    let left : count - i ≡ suc (count - (i + 1)) = omega arith in
    let one : repeated (count - i) step x ≡ repeated (count - (i + 1)) step y = rw (left, taken) refl in
    sym one ∙ so_far

pub is_done : {A : Type 0} (count i : ℕ) (step : A → Option A) (x : A) (total : Option A) → count ≤ i →
    repeated (count - i) step x ≡ total → total ≡ Some x
unfolding repeated
is_done count i step x total done so_far =
    let left : count - i ≡ 0 = omega arith in
    let one : repeated (count - i) step x ≡ Some x = rw left refl in
    sym so_far ∙ one

pub fails : {A : Type 0} (count i : ℕ) (step : A → Option A) (x : A) (total : Option A) → i < count → step x ≡ None →
    repeated (count - i) step x ≡ total → total ≡ None
unfolding repeated
fails count i step x total within taken so_far =
    let left : count - i ≡ suc (count - (i + 1)) = omega arith in
    let one : repeated (count - i) step x ≡ None = rw (left, taken) refl in
    sym so_far ∙ one
