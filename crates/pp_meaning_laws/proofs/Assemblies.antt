-- Programs with two tables.
use Rattle.std.proofs.Common.{◌≡◌, ◌∙◌, ◌+◌, ◌==◌, ◌&&◌, Bool, true, false, List, [], ◌∷◌, Option, Some}
use Rattle.std.proofs.Common.{None, ap, arith, drop, fold}
use Rattle.std.proofs.Common.{length, map, refl, replicate, subst}
use Rattle.pp_meaning.specs.Blocks.{closed, lie_behind}
use Rattle.pp_meaning.specs.Literals.{are_placed, words_of_literals}
use Rattle.pp_meaning.specs.Meaning.{with_blocks, with_literals, with_words}
use Rattle.pp_meaning.specs.Standing.{Standing}
use Rattle.pp_meaning.specs.Units.{AreAssembled, IsAssembled, Known, assembled, begun, first, left_by, nothing_known, performed}
use Rattle.pp_meaning.specs.Units.{then_left, with_system, with_unit, without_bases}
use Rattle.pp_meaning.specs.declared.statements.Image.{Image}
use Rattle.pp_meaning.specs.declared.expressions.Literal.{Literal}
use Rattle.pp_meaning.specs.declared.expressions.Symbol.{Symbol}
use Rattle.pp_meaning.specs.declared.statements.Block.{Block}
use Rattle.pp_meaning.specs.declared.statements.SystemText.{SystemText}
use Rattle.pp_meaning.specs.declared.statements.Unit.{Unit as Program}
use Rattle.pp_meaning_laws.proofs.Both.{Both, both_fold, both_if, both_none}
use Rattle.pp_meaning_laws.proofs.Standings.{IsAlike, alike, at_alike, closed_alike, other, then_alike}
use Rattle.pp_meaning_laws.proofs.Statements.{with_words_alike}
use Rattle.pp_meaning_laws.proofs.Steps.{all_alike}
use Rattle.pp_meaning_laws.proofs.Tables.{AreKnown, values_same}

-- Units leave the same, and the symbols that are defined have the same numbers.
record IsKnown (a b : List Symbol) (k l : Known) : Type 0 where
  same : k ≡ l
  known : AreKnown a b k.defined

-- ---- the statements of a unit

performed_alike : (a b : List Symbol) (is_system : Bool) (unit : Program) (k l : Known) → IsKnown a b k l →
    Both (IsAlike a b) (performed a is_system k unit) (performed b is_system l unit)
performed_alike a b is_system unit k l at =
    subst (λ l. Both (IsAlike a b) (performed a is_system k unit) (performed b is_system l unit)) at.same
    (all_alike a b unit.literals.items unit.blocks.items unit.statements.items (Some (first is_system unit.blocks.items k))
    (Some (first is_system unit.blocks.items k)) (alike (replicate 0o10000 None) [] None refl at.known))

-- ---- system texts

left_known : (a b : List Symbol) (s t : Standing) → IsAlike a b s t → IsKnown a b (left_by s) (left_by t)
left_known a b s t like = at_alike a b s (λ t. IsKnown a b (left_by s) (left_by t))
    (λ m w r e known. record { same = refl; known = known }) t like

then_left_known : (a b : List Symbol) (o p : Option Standing) → Both (IsAlike a b) o p →
    Both (IsKnown a b) (then_left o) (then_left p)
then_left_known a b None p e = tt
then_left_known a b (Some s) None e = tt
then_left_known a b (Some s) (Some t) e = left_known a b s t e

with_unit_known : (a b : List Symbol) (o p : Option Known) (unit : Program) → Both (IsKnown a b) o p →
    Both (IsKnown a b) (with_unit a o unit) (with_unit b p unit)
with_unit_known a b None p unit e = tt
with_unit_known a b (Some k) None unit e = both_none (IsKnown a b) (with_unit a (Some k) unit)
with_unit_known a b (Some k) (Some l) unit e = then_left_known a b (performed a true k unit) (performed b true l unit)
    (performed_alike a b true unit k l e)

without_known : (a b : List Symbol) (o p : Option Known) → Both (IsKnown a b) o p →
    Both (IsKnown a b) (without_bases o) (without_bases p)
without_known a b None p e = tt
without_known a b (Some k) None e = tt
without_known a b (Some k) (Some l) e = record {
  same = ap (λ (k : Known). record k { is_deck = false; base = None; bases = []; prefixes = [] }) e.same;
  known = e.known;
}

with_system_known : (a b : List Symbol) (o p : Option Known) (text : SystemText) → Both (IsKnown a b) o p →
    Both (IsKnown a b) (with_system a o text) (with_system b p text)
with_system_known a b o p text e =
    without_known a b (fold (with_unit a) o text.units.items) (fold (with_unit b) p text.units.items)
    (both_fold (IsKnown a b) (with_unit a) (with_unit b) (λ o p unit e. with_unit_known a b o p unit e) text.units.items o p e)

begun_known : (a b : List Symbol) (systems : List SystemText) → Both (IsKnown a b) (begun a systems) (begun b systems)
begun_known a b systems = both_fold (IsKnown a b) (with_system a) (with_system b)
    (λ o p text e. with_system_known a b o p text e) systems (Some nothing_known) (Some nothing_known)
    (record { same = refl; known = λ i below. absurd (omega (arith, below)) })

-- ---- the units of a source

literals_at : (a b : List Symbol) (literals : List Literal) (s t : Standing) → IsAlike a b s t →
    Both (IsAlike a b) (with_literals literals (Some s)) (with_literals literals (Some t))
literals_at a b [] s t like = like
literals_at a b (literal ∷ literals) s t like =
    at_alike a b s
    (λ t. Both (IsAlike a b) (with_literals (literal ∷ literals) (Some s)) (with_literals (literal ∷ literals) (Some t)))
    (λ m w r e known.
    let u = other s m w r in
    let all = literal ∷ literals in
    let is = s.literals == length all && are_placed s.reach all in
    let before = record s { origin = s.reach } in
    let begun = record u { origin = s.reach } in
    both_if (IsAlike a b) is is (with_words before (Some (words_of_literals all)))
    (with_words begun (Some (words_of_literals all)))
    (λ c d. with_words_alike a b before begun (alike m w r e known) (Some (words_of_literals all)) (Some (words_of_literals all))
    refl)) t like

literals_none : (literals : List Literal) → with_literals literals None ≡ None
literals_none literals = refl

blocks_at : (a b : List Symbol) (literals : List Literal) (blocks : List Block) (s t : Standing) → IsAlike a b s t →
    Both (IsAlike a b) (with_blocks literals blocks (Some s)) (with_blocks literals blocks (Some t))
blocks_at a b literals blocks s t like = at_alike a b s
    (λ t. Both (IsAlike a b) (with_blocks literals blocks (Some s)) (with_blocks literals blocks (Some t)))
    (λ m w r e known.
    let is = s.named == length blocks && lie_behind (s.reach + length (words_of_literals literals)) blocks (drop 1 s.blocks) in
    both_if (IsAlike a b) is is (Some s) (Some (other s m w r)) (λ c d. alike m w r e known)) t like

assembled_alike : (a b : List Symbol) (unit : Program) (k l : Known) → IsKnown a b k l →
    Both (IsAlike a b) (assembled a k unit) (assembled b l unit)
assembled_alike a b unit k l at =
    let literals = unit.literals.items in
    let blocks = unit.blocks.items in
    let o = performed a false k unit in
    let p = performed b false l unit in
    then_alike a b (with_blocks literals blocks) (with_blocks literals blocks) refl refl
    (λ s t like. blocks_at a b literals blocks s t like) (with_literals literals (closed o)) (with_literals literals (closed p))
    (then_alike a b (with_literals literals) (with_literals literals) refl refl
    (λ s t like. literals_at a b literals s t like) (closed o) (closed p)
    (closed_alike a b o p (performed_alike a b false unit k l at)))

-- What both are, if both are there.
pub both_are : {X Y : Type 0} (R : X → Y → Type 0) (o : Option X) (p : Option Y) (x : X) (y : Y) → o ≡ Some x → p ≡ Some y →
    Both R o p → R x y
both_are R o p x y e d h = subst (λ p. Both R (Some x) p) d (subst (λ o. Both R o p) e h)

units_same : (a b : List Symbol) (units : List Program) (k l : Known) (one two : List Image) → IsKnown a b k l →
    AreAssembled a k units one → AreAssembled b l units two →
    map (λ (symbol : Symbol). symbol.value) a ≡ map (λ (symbol : Symbol). symbol.value) b
units_same a b [] k l [] [] at all more =
    values_same a b k.defined at.known all (ap (λ (k : Known). k.defined) at.same ∙ more)
units_same a b [] k l [] (image ∷ two) at all more = absurd more
units_same a b [] k l (image ∷ one) two at all more = absurd all
units_same a b (unit ∷ units) k l [] two at all more = absurd all
units_same a b (unit ∷ units) k l (image ∷ one) [] at all more = absurd more
units_same a b (unit ∷ units) k l (image ∷ one) (shown ∷ two) at all more =
    units_same a b units (left_by all.0) (left_by more.0) one two
    (left_known a b all.0 more.0 (both_are (IsAlike a b) (assembled a k unit) (assembled b l unit) all.0 more.0 all.1 more.1
    (assembled_alike a b unit k l at))) all.3 more.3

pub one_table : (a b : List Symbol) (systems : List SystemText) (units : List Program) (one two : List Image) →
    IsAssembled a systems units one → IsAssembled b systems units two →
    map (λ (symbol : Symbol). symbol.value) a ≡ map (λ (symbol : Symbol). symbol.value) b
one_table a b systems units one two all more =
    units_same a b units all.before more.before one two
    (both_are (IsKnown a b) (begun a systems) (begun b systems) all.before more.before all.systems_leave more.systems_leave
    (begun_known a b systems)) all.units_make more.units_make
