-- Where a number comes from: an operation, and the places that it reads. A new number is made from the numbers that are read, and
-- from nothing else.
use Rattle.std.specs.Prelude.{ℕ, List, [], ◌∷◌, ◌*◌, ◌+◌, ◌-◌, ◌/◌, ◌%◌, ◌^◌, ◌==◌, ◌≡◌, map, slice_index, slice_index_or, bit_and}
use Rattle.std.specs.Prelude.{bit_xor, if◌then◌else◌}
use Rattle.pp_arith.specs.{Arith.add18, Arith.sub18, Arith.shift18, Arith.relative, Arith.index12, Words60.split60, Words60.join60}
use Rattle.pp_machine.specs.{Machine.Machine, Machine.number, Writes.Writes, declared.place.Place.Place}
use Rattle.pp_step.specs.Words.{cell_after, central_after, lower12}
use Rattle.pp_origins.specs.declared.origin.{Field.Field, Operation.Operation, Read.Read}
use Rattle.pp_origins.specs.declared.origin.Field.TheVariants.{Whole, Low, First, Second, Third, Fourth, Fifth, WithoutB0}
use Rattle.pp_origins.specs.declared.origin.Field.TheVariants.{ProgramAddress, UpperSix, LowerSix, Word, D, M}
use Rattle.pp_origins.specs.declared.origin.Operation.TheVariants as by

-- What is read of a number.
abbrev pub field_of : Field → ℕ → ℕ
field_of Whole n = n
field_of Low n = lower12 n
field_of First n = slice_index (split60 n) 0
field_of Second n = slice_index (split60 n) 1
field_of Third n = slice_index (split60 n) 2
field_of Fourth n = slice_index (split60 n) 3
field_of Fifth n = slice_index (split60 n) 4
field_of WithoutB0 n = n / 2 ^ 18 * 2 ^ 18
field_of ProgramAddress n = n / 2 ^ 36 % 2 ^ 18
field_of UpperSix n = n / 0o100
field_of LowerSix n = n % 0o100
field_of Word n = n
field_of D n = n % 0o100
field_of M n = n

-- The number that is read at a place.
abbrev pub read : Machine → Read → ℕ
read s r = field_of r.field (number s r.place)

-- This is the number of no place. It is what an operation makes from too many numbers or too few.
abbrev pub no_number : ℕ
no_number = 2 ^ 64

-- The operand: one number, or d and m, which are the number of 18 bits dm.
abbrev pub operand : List ℕ → ℕ
operand (n ∷ []) = n
operand (d ∷ m ∷ []) = d * 0o10000 + m
operand _ = no_number

-- The number that an operation makes from the numbers that are read. The deck of cards is fixed, and is no number of a place.
abbrev pub applied : List (List ℕ) → Operation → List ℕ → ℕ
applied deck by.Moved ns = operand ns
applied deck by.Joined (n ∷ o ∷ p ∷ q ∷ r ∷ []) = join60 (n ∷ o ∷ p ∷ q ∷ r ∷ [])
applied deck by.Sum (a ∷ ns) = add18 a (operand ns)
applied deck by.Difference (a ∷ ns) = sub18 a (operand ns)
applied deck by.LogicalDifference (a ∷ ns) = bit_xor a (operand ns)
applied deck by.LogicalProduct (a ∷ ns) = bit_and a (operand ns)
applied deck by.Cleared (a ∷ n ∷ []) = a - bit_and a n
applied deck by.Shifted (a ∷ n ∷ []) = shift18 a n
applied deck by.Complement (n ∷ []) = 0o777777 - n
applied deck by.OneMore (n ∷ []) = add18 n 1
applied deck by.OneLess (n ∷ []) = sub18 n 1
applied deck by.LowSum (a ∷ n ∷ []) = lower12 (add18 a n)
applied deck by.LowOneMore (n ∷ []) = lower12 (add18 n 1)
applied deck by.LowOneLess (n ∷ []) = lower12 (sub18 n 1)
applied deck by.After1 (p ∷ []) = cell_after p 1
applied deck by.After2 (p ∷ []) = cell_after p 2
applied deck by.After5 (p ∷ []) = cell_after p 5
applied deck by.Relative (p ∷ d ∷ []) = relative p d
applied deck by.Indexed (m ∷ n ∷ []) = index12 m n
applied deck by.AfterIndexed (m ∷ n ∷ []) = cell_after (index12 m n) 1
applied deck by.CentralAfter (a ∷ []) = central_after a 1
applied deck by.CountDown (n ∷ []) = n - 1
applied deck by.CountUp (n ∷ []) = n + 1
applied deck by.CountUp2 (n ∷ []) = n + 2
applied deck by.NextSlot (n ∷ []) = if n == 0o11 then 0 else n + 1
applied deck by.Punched (card ∷ column ∷ []) = slice_index (slice_index_or deck card []) column
applied deck by.NoWord [] = 0
applied deck by.Zero [] = 0
applied deck by.One [] = 1
applied deck by.Two [] = 2
applied deck by.Three [] = 3
applied deck by.LineEnd [] = 0o100
applied deck _ _ = no_number

-- Where a number comes from: the operation, and what it reads.
pub record Origin : Type 0 where
  pub operation : Operation
  pub reads : List Read

-- Places that are written, each with where its new number comes from.
abbrev pub Origins : Type 0
Origins = List (Place × Origin)

-- The new number.
abbrev pub result : Machine → Origin → ℕ
result s origin = applied s.reader.deck origin.operation (map (read s) origin.reads)

-- The places with their new numbers.
abbrev pub results : Machine → Origins → Writes Place
results s origins = map (λ w. (w.0, result s w.1)) origins

-- The number is moved: it is what one place has, or a field of it, and nothing is computed.
pub record IsMoved (origin : Origin) (from : Read) : Type 0 where
  pub operation : origin.operation ≡ by.Moved
  pub reads : origin.reads ≡ from ∷ []

-- A constant that is set: the state of a channel, the mode of a device, or a status, 0 to 3; or 100, the end of a line.
abbrev pub constant : ℕ → Operation
constant n =
    if n == 0 then by.Zero else (if n == 1 then by.One else (if n == 2 then by.Two else (if n == 3 then by.Three else
    (if n == 0o100 then by.LineEnd else by.Moved))))
