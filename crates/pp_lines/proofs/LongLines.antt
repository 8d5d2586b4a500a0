-- For a line that is too long, a kept prefix is as good as the whole line.
use Rattle.std.proofs.Common.{◌≡◌, ◌∙◌, ℕ, ◌+◌, ◌-◌, ◌<◌, ◌≤◌, Bool, true, false, List, length, take, refl, sym, ap, arith}
use Rattle.std.proofs.Common.{length-take, ltb-true, ltb-false, nat_lt, take_all}
use Rattle.pp_lines.specs.Lines.{without_return}

-- at most one byte is dropped
pub without_return-long : (line : List ℕ) → length line ≤ length (without_return line) + 1
without_return-long line = grind (arith, length-take (length line - 1) line)

-- if `read` has one result for all texts over a length, a prefix over that length has the result of the whole line
pub read-kept : {A : Type 0} (read : List ℕ → A) (long : A) (longest most : ℕ) (line : List ℕ) →
    ((text : List ℕ) → longest < length text → read text ≡ long) → longest + 1 < most →
    read (without_return (take most line)) ≡ read (without_return line)
read-kept read long longest most line is_long more = by_test (nat_lt most (length line)) refl
  where
    over : (line : List ℕ) → longest + 1 < length line → read (without_return line) ≡ long
    over line h = is_long (without_return line) (omega (arith, without_return-long line))

    by_test : (over : Bool) → nat_lt most (length line) ≡ over → read (without_return (take most line)) ≡ read (without_return line)
    by_test true e = let longer = ltb-true most (length line) e in
        over (take most line) (rw (length-take most line) (omega arith)) ∙ sym (over line (omega arith))
    by_test false e = ap (λ line. read (without_return line)) (take_all most line (ltb-false most (length line) e))
