-- Rows of one processor: a number of steps leads from some numbers to others.
use Rattle.std.specs.Prelude.{ℕ, zero, suc, ◌+◌, ◌≡◌, List, [], ◌∷◌, ◌++◌, replicate}
use Rattle.pp_machine.specs.Writes.{Writes}
use Rattle.pp_step.specs.Step.{pp_writes}
use Rattle.pp_step.specs.View.{PpView, PpPlace, P, Cell, over, old_values}

-- a processor with its 4096 (decimal) cells, inactive channels and a central memory of 2000 words, all 0
abbrev pub blank : PpView
blank = record {
  a = 0;
  p = 0;
  q = 0;
  phase = 0;
  cells = replicate 0o10000 0;
  states = replicate 0o14 0;
  registers = replicate 0o14 0;
  clock = 0;
  central = replicate 0o2000 0;
  frame = replicate 0o20 0;
}

-- the state after this many steps
abbrev pub after : ℕ → PpView → PpView
after zero m = m
after (suc n) m = after n (over m (pp_writes m))

-- This many steps lead from the first numbers, with 0 at all other places, to a state with the second.
abbrev pub Leads : Writes PpPlace → ℕ → Writes PpPlace → Type 0
Leads before steps later = old_values (after steps (over blank before)) later ≡ later

-- words in the cells from a on
abbrev pub cells_from : ℕ → List ℕ → Writes PpPlace
cells_from a [] = []
cells_from a (word ∷ words) = (Cell a, word) ∷ cells_from (a + 1) words

-- This many steps of the program at 0100 lead from the first other numbers to the second.
abbrev pub Runs : ℕ → List ℕ → Writes PpPlace → Writes PpPlace → Type 0
Runs steps program before later = Leads ((P, 0o100) ∷ cells_from 0o100 program ++ before) steps later

-- One step performs this instruction at 0100. It leads from the first other numbers to the second.
abbrev pub Performs : ℕ → Writes PpPlace → Writes PpPlace → Type 0
Performs word before later = Runs 1 (word ∷ []) before later
