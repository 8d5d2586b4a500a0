-- A statement with all that it says, with two tables.
use Rattle.std.proofs.Common.{◌+◌, ◌==◌, ℕ, Bool, true, false, List, [], ◌∷◌, Option, Some, None, bytes_eq, fold}
use Rattle.std.proofs.Common.{if◌then◌else◌, nat_lt, refl, slice_get}
use Rattle.pp_meaning.specs.Lines.{operation_name}
use Rattle.pp_meaning.specs.Literals.{index_of, is_at}
use Rattle.pp_meaning.specs.Blocks.{block_used}
use Rattle.pp_meaning.specs.Meaning.{after_any, data_words, datum, follow, in_order, naming, reached, then_after}
use Rattle.pp_meaning.specs.Meaning.{with_all_literals, with_literal, with_named, with_pool}
use Rattle.pp_meaning.specs.Qualifiers.{in_qualifier, present_prefix}
use Rattle.pp_meaning.specs.Standing.{Standing, place_of}
use Rattle.pp_meaning.specs.Synonyms.{meant_name, named, with_synonym}
use Rattle.pp_meaning.specs.declared.expressions.Item.{Item}
use Rattle.pp_meaning.specs.declared.expressions.Literal.{Literal}
use Rattle.pp_meaning.specs.declared.expressions.Operand.{Operand}
use Rattle.pp_meaning.specs.declared.expressions.Operand.TheVariants.{Literal as Named_literal, LiteralBits, Word}
use Rattle.pp_meaning.specs.declared.expressions.Symbol.{Symbol}
use Rattle.pp_meaning.specs.declared.statements.Block.{Block}
use Rattle.pp_meaning.specs.declared.statements.Label.{Label}
use Rattle.pp_meaning.specs.declared.statements.Operation.{Operation}
use Rattle.pp_meaning.specs.declared.statements.Operation.TheVariants.{Pool, Synonym, Use}
use Rattle.pp_meaning.specs.declared.statements.Statement.{Statement}
use Rattle.pp_meaning_laws.proofs.Both.{Both, both_either, both_fold, both_if}
use Rattle.pp_meaning_laws.proofs.Lengths.{data_same, datum_same}
use Rattle.pp_meaning_laws.proofs.Standings.{IsAlike, alike, at_alike, block_alike, other, then_alike}
use Rattle.pp_meaning_laws.proofs.Statements.{after_alike, then_labelled_alike}

-- ---- literals

with_named_alike : (a b : List Symbol) (is : Bool) (index : ℕ) (s t : Standing) → IsAlike a b s t →
    Both (IsAlike a b) (with_named s is index) (with_named t is index)
with_named_alike a b false index s t like = tt
with_named_alike a b true index s t like =
    at_alike a b s (λ t. Both (IsAlike a b) (with_named s true index) (with_named t true index))
    (λ m w r e known.
    let u = other s m w r in
    let next = record s { literals = s.literals + 1 } in
    let later = record u { literals = s.literals + 1 } in
    both_either (IsAlike a b) (nat_lt index s.literals) (Some s) (if index == s.literals then Some next else None) (Some u)
    (if index == s.literals then Some later else None) (alike m w r e known)
    (both_either (IsAlike a b) (index == s.literals) (Some next) None (Some later) None (alike m w r e known) tt)) t like

naming_alike : (a b : List Symbol) (literals : List Literal) (address : ℕ) (s t : Standing) → IsAlike a b s t → (o : Option ℕ) →
    Both (IsAlike a b) (naming literals s address o) (naming literals t address o)
naming_alike a b literals address s t like None = tt
naming_alike a b literals address s t like (Some index) =
    with_named_alike a b (is_at address (slice_get literals index)) index s t like

item_alike : (a b : List Symbol) (literals : List Literal) (address : ℕ) (item : Item) (s t : Standing) → IsAlike a b s t →
    Both (IsAlike a b) (naming literals s address (index_of literals (datum a (place_of s) item)))
    (naming literals t address (index_of literals (datum b (place_of t) item)))
item_alike a b literals address item s t like = at_alike a b s
    (λ t. Both (IsAlike a b) (naming literals s address (index_of literals (datum a (place_of s) item)))
    (naming literals t address (index_of literals (datum b (place_of t) item))))
    (λ m w r e known. rw (datum_same a b (place_of s) item) (naming_alike a b literals address s (other s m w r)
    (alike m w r e known) (index_of literals (datum b (place_of s) item)))) t like

pool_alike : (a b : List Symbol) (literals : List Literal) (address : ℕ) (xs : List Operand) (s t : Standing) → IsAlike a b s t →
    Both (IsAlike a b) (naming literals s address (index_of literals (data_words a (place_of s) xs)))
    (naming literals t address (index_of literals (data_words b (place_of t) xs)))
pool_alike a b literals address xs s t like = at_alike a b s
    (λ t. Both (IsAlike a b) (naming literals s address (index_of literals (data_words a (place_of s) xs)))
    (naming literals t address (index_of literals (data_words b (place_of t) xs))))
    (λ m w r e known. rw (data_same a b (place_of s) xs) (naming_alike a b literals address s (other s m w r)
    (alike m w r e known) (index_of literals (data_words b (place_of s) xs)))) t like

literal_at : (a b : List Symbol) (literals : List Literal) (x : Operand) (s t : Standing) → IsAlike a b s t →
    Both (IsAlike a b) (with_literal a literals (Some s) x) (with_literal b literals (Some t) x)
literal_at a b literals (Named_literal address item) s t like = item_alike a b literals address item s t like
literal_at a b literals (LiteralBits width address item) s t like = item_alike a b literals address item s t like
literal_at a b literals x s t like = like

literal_alike : (a b : List Symbol) (literals : List Literal) (o p : Option Standing) (x : Operand) → Both (IsAlike a b) o p →
    Both (IsAlike a b) (with_literal a literals o x) (with_literal b literals p x)
literal_alike a b literals o p x e =
    then_alike a b (λ o. with_literal a literals o x) (λ o. with_literal b literals o x) refl refl
    (λ s t like. literal_at a b literals x s t like) o p e

pool_at : (a b : List Symbol) (literals : List Literal) (operation : Operation) (xs : List Operand) (s t : Standing) →
    IsAlike a b s t → Both (IsAlike a b) (with_pool a literals (Some s) operation xs) (with_pool b literals (Some t) operation xs)
pool_at a b literals (Pool address) xs s t like = pool_alike a b literals address xs s t like
pool_at a b literals operation xs s t like = like

literals_alike : (a b : List Symbol) (literals : List Literal) (operation : Operation) (xs : List Operand) (o p : Option Standing) →
    Both (IsAlike a b) o p →
    Both (IsAlike a b) (with_all_literals a literals o operation xs) (with_all_literals b literals p operation xs)
literals_alike a b literals operation xs o p e =
    then_alike a b (λ o. with_pool a literals o operation xs) (λ o. with_pool b literals o operation xs) refl refl
    (λ s t like. pool_at a b literals operation xs s t like) (fold (with_literal a literals) o (in_order operation xs))
    (fold (with_literal b literals) p (in_order operation xs))
    (both_fold (IsAlike a b) (with_literal a literals) (with_literal b literals)
    (λ o p x e. literal_alike a b literals o p x e) (in_order operation xs) o p e)

-- ---- what is before and behind a statement

any_alike : (a b : List Symbol) (blocks : List Block) (label : Label) (operation : Operation) (xs : List Operand)
    (s t : Standing) → IsAlike a b s t →
    Both (IsAlike a b) (after_any a blocks s label operation xs) (after_any b blocks t label operation xs)
any_alike a b blocks label Use xs s t like = then_labelled_alike a b label (block_used blocks s xs) (block_used blocks t xs)
    (block_alike a b blocks xs s t like)
any_alike a b blocks label operation xs s t like = after_alike a b label operation xs s t like

then_after_alike : (a b : List Symbol) (blocks : List Block) (statement : Statement) (o p : Option Standing) →
    Both (IsAlike a b) o p → Both (IsAlike a b) (then_after a blocks o statement) (then_after b blocks p statement)
then_after_alike a b blocks statement o p e =
    then_alike a b (λ o. then_after a blocks o statement) (λ o. then_after b blocks o statement) refl refl
    (λ s t like. any_alike a b blocks statement.label statement.operation statement.operands.items s t like) o p e

named_alike : (a b : List Symbol) (statement : Statement) (o p : Option Standing) → Both (IsAlike a b) o p →
    Both (IsAlike a b) (named o statement) (named p statement)
named_alike a b statement o p e = then_alike a b (λ o. named o statement) (λ o. named o statement) refl refl
    (λ s t like. at_alike a b s (λ t. Both (IsAlike a b) (named (Some s) statement) (named (Some t) statement))
    (λ m w r e known.
    let is = bytes_eq (meant_name s.synonyms statement.name.items) (operation_name statement.operation) in
    both_if (IsAlike a b) is is (Some s) (Some (other s m w r)) (λ c d. alike m w r e known)) t like) o p e

qualifier_alike : (a b : List Symbol) (statement : Statement) (o p : Option Standing) → Both (IsAlike a b) o p →
    Both (IsAlike a b) (in_qualifier o statement) (in_qualifier p statement)
qualifier_alike a b statement o p e = then_alike a b (λ o. in_qualifier o statement) (λ o. in_qualifier o statement) refl refl
    (λ s t like. at_alike a b s (λ t. Both (IsAlike a b) (in_qualifier (Some s) statement) (in_qualifier (Some t) statement))
    (λ m w r e known.
    let is = bytes_eq statement.prefix.items (present_prefix s) in
    both_if (IsAlike a b) is is (Some s) (Some (other s m w r)) (λ c d. alike m w r e known)) t like) o p e

synonym_at : (a b : List Symbol) (name : List ℕ) (operation : Operation) (xs : List Operand) (s t : Standing) → IsAlike a b s t →
    Both (IsAlike a b) (with_synonym (Some s) name operation xs) (with_synonym (Some t) name operation xs)
synonym_at a b name Synonym (Word old ∷ []) s t like = at_alike a b s
    (λ t. Both (IsAlike a b) (with_synonym (Some s) name Synonym (Word old ∷ []))
    (with_synonym (Some t) name Synonym (Word old ∷ [])))
    (λ m w r e known. alike m w r e known) t like
synonym_at a b name operation xs s t like = like

synonym_alike : (a b : List Symbol) (name : List ℕ) (operation : Operation) (xs : List Operand) (o p : Option Standing) →
    Both (IsAlike a b) o p → Both (IsAlike a b) (with_synonym o name operation xs) (with_synonym p name operation xs)
synonym_alike a b name operation xs o p e =
    then_alike a b (λ o. with_synonym o name operation xs) (λ o. with_synonym o name operation xs) refl refl
    (λ s t like. synonym_at a b name operation xs s t like) o p e

reached_alike : (a b : List Symbol) (o p : Option Standing) → Both (IsAlike a b) o p → Both (IsAlike a b) (reached o) (reached p)
reached_alike a b o p e = then_alike a b reached reached refl refl
    (λ s t like. at_alike a b s (λ t. Both (IsAlike a b) (reached (Some s)) (reached (Some t)))
    (λ m w r e known. alike m w r e known) t like) o p e

-- ---- statements

follow_alike : (a b : List Symbol) (literals : List Literal) (blocks : List Block) (o p : Option Standing) (statement : Statement) →
    Both (IsAlike a b) o p → Both (IsAlike a b) (follow a literals blocks o statement) (follow b literals blocks p statement)
follow_alike a b literals blocks o p statement e =
    let operation = statement.operation in
    let xs = statement.operands.items in
    let o1 = named (in_qualifier o statement) statement in
    let p1 = named (in_qualifier p statement) statement in
    let e1 = named_alike a b statement (in_qualifier o statement) (in_qualifier p statement)
    (qualifier_alike a b statement o p e) in
    let o2 = with_all_literals a literals o1 operation xs in
    let p2 = with_all_literals b literals p1 operation xs in
    let e2 = literals_alike a b literals operation xs o1 p1 e1 in
    let o3 = then_after a blocks o2 statement in
    let p3 = then_after b blocks p2 statement in
    let e3 = then_after_alike a b blocks statement o2 p2 e2 in
    reached_alike a b (with_synonym o3 statement.word.items operation xs) (with_synonym p3 statement.word.items operation xs)
    (synonym_alike a b statement.word.items operation xs o3 p3 e3)

pub all_alike : (a b : List Symbol) (literals : List Literal) (blocks : List Block) (statements : List Statement)
    (o p : Option Standing) → Both (IsAlike a b) o p →
    Both (IsAlike a b) (fold (follow a literals blocks) o statements) (fold (follow b literals blocks) p statements)
all_alike a b literals blocks statements o p e = both_fold (IsAlike a b) (follow a literals blocks) (follow b literals blocks)
    (λ o p statement e. follow_alike a b literals blocks o p statement e) statements o p e
