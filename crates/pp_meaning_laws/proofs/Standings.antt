-- What there is so far with two tables: the same, but for memory, words and start.
use Rattle.std.proofs.Common.{◌≡◌, ◌+◌, ◌-◌, ◌==◌, ◌++◌, ℕ, List, [], ◌∷◌, Option, Some, None, bytes_eq, codes, if◌then◌else◌}
use Rattle.std.proofs.Common.{length, nat_lt, refl, slice_get, subst, sym, take}
use Rattle.pp_meaning.specs.Blocks.{block_before, block_from, block_used, block_with_name, closed, entered}
use Rattle.pp_meaning.specs.Blocks.{left, named_block, nominal}
use Rattle.pp_meaning.specs.Blocks.{used_block, with_counters}
use Rattle.pp_meaning.specs.Standing.{Standing}
use Rattle.pp_meaning.specs.declared.expressions.Operand.{Operand}
use Rattle.pp_meaning.specs.declared.expressions.Operand.TheVariants.{Word}
use Rattle.pp_meaning.specs.declared.expressions.Symbol.{Symbol}
use Rattle.pp_meaning.specs.declared.statements.Block.{Block}
use Rattle.pp_meaning.specs.declared.statements.Counters.{Counters}
use Rattle.pp_meaning_laws.proofs.Both.{Both, both_either, both_none}
use Rattle.pp_meaning_laws.proofs.Tables.{AreKnown}

abbrev pub other : Standing → List (Option ℕ) → List ℕ → Option ℕ → Standing
other s memory words start = record s { memory = memory; words = words; start = start }

-- As many words, and else the same; and the symbols that are defined have the same numbers.
pub record IsAlike (a b : List Symbol) (s t : Standing) : Type 0 where
  pub memory : List (Option ℕ)
  pub words : List ℕ
  pub start : Option ℕ
  pub size : length words ≡ length s.words
  pub same : t ≡ other s memory words start
  pub known : AreKnown a b s.defined

pub alike : {a b : List Symbol} {s : Standing} (memory : List (Option ℕ)) (words : List ℕ) (start : Option ℕ) →
    length words ≡ length s.words → AreKnown a b s.defined → IsAlike a b s (other s memory words start)
alike memory words start e known =
    record { memory = memory; words = words; start = start; size = e; same = refl; known = known }

-- What holds of all that is alike.
pub at_alike : (a b : List Symbol) (s : Standing) (P : Standing → Type 0) →
    ((m : List (Option ℕ)) (w : List ℕ) (r : Option ℕ) → length w ≡ length s.words → AreKnown a b s.defined → P (other s m w r)) →
    (t : Standing) → IsAlike a b s t → P t
at_alike a b s P h t like = subst P (sym like.same) (h like.memory like.words like.start like.size like.known)

-- A step that begins with something.
pub then_alike : (a b : List Symbol) (f g : Option Standing → Option Standing) → f None ≡ None → g None ≡ None →
    ((s t : Standing) → IsAlike a b s t → Both (IsAlike a b) (f (Some s)) (g (Some t))) → (o p : Option Standing) →
    Both (IsAlike a b) o p → Both (IsAlike a b) (f o) (g p)
then_alike a b f g none nothing h None p e = rw none tt
then_alike a b f g none nothing h (Some s) None e = rw nothing (both_none (IsAlike a b) (f (Some s)))
then_alike a b f g none nothing h (Some s) (Some t) e = h s t e

-- ---- blocks

counters_alike : (a b : List Symbol) (s t : Standing) → IsAlike a b s t → (i : ℕ) (o : Option Counters) →
    Both (IsAlike a b) (with_counters s i o) (with_counters t i o)
counters_alike a b s t like i None = tt
counters_alike a b s t like i (Some c) = at_alike a b s
    (λ t. Both (IsAlike a b) (with_counters s i (Some c)) (with_counters t i (Some c)))
    (λ m w r e known. alike m w r e known) t like

entered_alike : (a b : List Symbol) (s t : Standing) → IsAlike a b s t → (i : ℕ) →
    Both (IsAlike a b) (entered s i) (entered t i)
entered_alike a b s t like i = at_alike a b s (λ t. Both (IsAlike a b) (entered s i) (entered t i))
    (λ m w r e known. counters_alike a b s (other s m w r) (alike m w r e known) i (slice_get s.blocks i)) t like

left_alike : (a b : List Symbol) (s t : Standing) → IsAlike a b s t → IsAlike a b (left s) (left t)
left_alike a b s t like =
    at_alike a b s (λ t. IsAlike a b (left s) (left t)) (λ m w r e known. alike m w r e known) t like

used_alike : (a b : List Symbol) (s t : Standing) → IsAlike a b s t → (i : ℕ) →
    Both (IsAlike a b) (used_block s i) (used_block t i)
used_alike a b s t like i = at_alike a b s (λ t. Both (IsAlike a b) (used_block s i) (used_block t i))
    (λ m w r e known. entered_alike a b (record (left s) { before = s.before ++ s.block ∷ [] })
    (record (left (other s m w r)) { before = s.before ++ s.block ∷ [] }) (alike m w r e known) i) t like

before_alike : (a b : List Symbol) (s t : Standing) → IsAlike a b s t → (o : Option ℕ) →
    Both (IsAlike a b) (block_before s o) (block_before t o)
before_alike a b s t like None = entered_alike a b (left s) (left t) (left_alike a b s t like) 0
before_alike a b s t like (Some i) =
    at_alike a b s (λ t. Both (IsAlike a b) (block_before s (Some i)) (block_before t (Some i)))
    (λ m w r e known. entered_alike a b (record (left s) { before = take (length s.before - 1) s.before })
    (record (left (other s m w r)) { before = take (length s.before - 1) s.before }) (alike m w r e known) i) t like

named_alike : (a b : List Symbol) (s t : Standing) → IsAlike a b s t → (o : Option ℕ) →
    Both (IsAlike a b) (named_block s o) (named_block t o)
named_alike a b s t like None = tt
named_alike a b s t like (Some i) =
    at_alike a b s (λ t. Both (IsAlike a b) (named_block s (Some i)) (named_block t (Some i)))
    (λ m w r e known.
    let u = other s m w r in
    let next = record s { named = i + 1 } in
    let after = record u { named = i + 1 } in
    both_either (IsAlike a b) (nat_lt i s.named) (used_block s (i + 1))
    (if i == s.named then used_block next (i + 1) else None)
    (used_block u (i + 1)) (if i == s.named then used_block after (i + 1) else None)
    (used_alike a b s u (alike m w r e known) (i + 1))
    (both_either (IsAlike a b) (i == s.named) (used_block next (i + 1)) None (used_block after (i + 1)) None
    (used_alike a b next after (alike m w r e known) (i + 1)) tt)) t like

with_name_alike : (a b : List Symbol) (blocks : List Block) (name : List ℕ) (s t : Standing) → IsAlike a b s t →
    Both (IsAlike a b) (block_with_name blocks s name) (block_with_name blocks t name)
with_name_alike a b blocks name s t like =
    at_alike a b s (λ t. Both (IsAlike a b) (block_with_name blocks s name) (block_with_name blocks t name))
    (λ m w r e known.
    let u = other s m w r in
    let last = slice_get s.before (length s.before - 1) in
    let first = block_from 0 blocks name in
    both_either (IsAlike a b) (bytes_eq name (codes "0")) (used_block s 0)
    (if bytes_eq name (codes "*") then block_before s last else named_block s first)
    (used_block u 0)
    (if bytes_eq name (codes "*") then block_before u last else named_block u first)
    (used_alike a b s u (alike m w r e known) 0)
    (both_either (IsAlike a b) (bytes_eq name (codes "*")) (block_before s last) (named_block s first) (block_before u last)
    (named_block u first) (before_alike a b s u (alike m w r e known) last)
    (named_alike a b s u (alike m w r e known) first))) t like

pub block_alike : (a b : List Symbol) (blocks : List Block) (xs : List Operand) (s t : Standing) → IsAlike a b s t →
    Both (IsAlike a b) (block_used blocks s xs) (block_used blocks t xs)
block_alike a b blocks [] s t like = used_alike a b s t like 0
block_alike a b blocks (Word name ∷ []) s t like = with_name_alike a b blocks name.items s t like
block_alike a b blocks xs s t like = tt

pub nominal_alike : (a b : List Symbol) (s t : Standing) → IsAlike a b s t → Both (IsAlike a b) (nominal s) (nominal t)
nominal_alike a b s t like = at_alike a b s (λ t. Both (IsAlike a b) (nominal s) (nominal t))
    (λ m w r e known.
    let u = other s m w r in
    both_either (IsAlike a b) (s.block == 0) (Some s) (used_block s 0) (Some u) (used_block u 0) (alike m w r e known)
    (used_alike a b s u (alike m w r e known) 0)) t like

pub closed_alike : (a b : List Symbol) (o p : Option Standing) → Both (IsAlike a b) o p → Both (IsAlike a b) (closed o) (closed p)
closed_alike a b o p e = then_alike a b closed closed refl refl
    (λ s t like. entered_alike a b (left s) (left t) (left_alike a b s t like) 0) o p e
