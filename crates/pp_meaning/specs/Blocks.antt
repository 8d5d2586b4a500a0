-- The blocks of USE. Each has counters of its own.
use Rattle.std.specs.Prelude.{ℕ, ◌+◌, ◌-◌, ◌==◌, ◌&&◌, nat_lt, Bool, true, false, Option, Some, None, List, [], ◌∷◌, ◌++◌, bytes_eq}
use Rattle.std.specs.Prelude.{codes, length, slice_get, slice_set, take, if◌then◌else◌}
use Rattle.pp_meaning.specs.Standing.{Standing}
use Rattle.pp_meaning.specs.declared.expressions.Operand.{Operand}
use Rattle.pp_meaning.specs.declared.expressions.Operand.TheVariants.{Word}
use Rattle.pp_meaning.specs.declared.statements.Block.{Block}
use Rattle.pp_meaning.specs.declared.statements.Counters.{Counters}

-- The present block is left: its counters are kept.
abbrev pub left : Standing → Standing
left s = record s { blocks = slice_set s.blocks s.block (record { location = s.location; origin = s.origin; reach = s.reach }) }

abbrev pub with_counters : Standing → ℕ → Option Counters → Option Standing
with_counters s index None = None
with_counters s index (Some counters) =
    Some (record s { block = index; location = counters.location; origin = counters.origin; reach = counters.reach; used = 0 })

-- A block goes on where it was left.
abbrev pub entered : Standing → ℕ → Option Standing
entered s index = with_counters s index (slice_get s.blocks index)

abbrev pub used_block : Standing → ℕ → Option Standing
used_block s index = entered (record (left s) { before = s.before ++ s.block ∷ [] }) index

-- USE * goes back to the block before, or to the nominal one.
abbrev pub block_before : Standing → Option ℕ → Option Standing
block_before s None = entered (left s) 0
block_before s (Some index) = entered (record (left s) { before = take (length s.before - 1) s.before }) index

-- Blocks are in the order in which they are named first, behind the nominal one.
abbrev pub named_block : Standing → Option ℕ → Option Standing
named_block s None = None
named_block s (Some index) =
    if nat_lt index s.named then used_block s (index + 1)
    else (if index == s.named then used_block (record s { named = index + 1 }) (index + 1) else None)

-- The index of the first block with a name, counted from one on.
abbrev pub block_from : ℕ → List Block → List ℕ → Option ℕ
block_from index [] name = None
block_from index (block ∷ blocks) name = if bytes_eq block.name.items name then Some index else block_from (index + 1) blocks name

-- USE 0 is the nominal block.
abbrev pub block_with_name : List Block → Standing → List ℕ → Option Standing
block_with_name blocks s name =
    if bytes_eq name (codes "0") then used_block s 0
    else (if bytes_eq name (codes "*") then block_before s (slice_get s.before (length s.before - 1)) else named_block s
    (block_from 0 blocks name))

-- USE without a name is the nominal block too.
abbrev pub block_used : List Block → Standing → List Operand → Option Standing
block_used blocks s [] = used_block s 0
block_used blocks s (Word name ∷ []) = block_with_name blocks s name.items
block_used blocks s operands = None

-- ORG is in the nominal block.
abbrev pub nominal : Standing → Option Standing
nominal s = if s.block == 0 then Some s else used_block s 0

-- The nominal block, behind the last statement.
abbrev pub closed : Option Standing → Option Standing
closed None = None
closed (Some s) = entered (left s) 0

-- Blocks lie one behind another, from a cell on.
abbrev pub lie_behind : ℕ → List Block → List Counters → Bool
lie_behind cell [] counters = true
lie_behind cell (block ∷ blocks) [] = false
lie_behind cell (block ∷ blocks) (own ∷ counters) = block.base == cell && lie_behind own.reach blocks counters
