-- Programs have the same words with tables that have the same numbers.
use Rattle.std.proofs.Common.{◌≡◌, ◌∙◌, ◌+◌, ◌==◌, ◌&&◌, ℕ, zero, suc, ℤ, pos, Bool, true, false, List, []}
use Rattle.std.proofs.Common.{◌∷◌, Option, Some, None, ap, fold}
use Rattle.std.proofs.Common.{if◌then◌else◌, length, map, refl, slice_get, sym}
use Rattle.pp_meaning.specs.Bits.{bits_left, with_bits, zeros_before}
use Rattle.pp_meaning.specs.Blocks.{block_used, closed, nominal}
use Rattle.pp_meaning.specs.Expressions.{address, chosen, decimal_above, value_above}
use Rattle.pp_meaning.specs.Fields.{operand_field}
use Rattle.pp_meaning.specs.Literals.{index_of}
use Rattle.pp_meaning.specs.Meaning.{after, after_any, at, bits_before, data_words, datum, define, ended, follow}
use Rattle.pp_meaning.specs.Meaning.{in_order, is_symbol, labelled}
use Rattle.pp_meaning.specs.Meaning.{moved, naming, put_bits, reached, then_after, then_at, then_bits, then_labelled, then_moved}
use Rattle.pp_meaning.specs.Meaning.{then_position, then_words, with_all_literals, with_blocks, with_literal}
use Rattle.pp_meaning.specs.Meaning.{with_literals, with_pool}
use Rattle.pp_meaning.specs.Meaning.{with_words, with_zeros, words_of}
use Rattle.pp_meaning.specs.Qualifiers.{in_qualifier, qualified}
use Rattle.pp_meaning.specs.Standing.{Standing, place_of}
use Rattle.pp_meaning.specs.Synonyms.{named, with_synonym}
use Rattle.pp_meaning.specs.Units.{AreAssembled, IsAssembled, IsImage, Known, assembled, begun, first}
use Rattle.pp_meaning.specs.Units.{left_by, nothing_known, performed}
use Rattle.pp_meaning.specs.Units.{then_left, with_system, with_unit, without_bases}
use Rattle.pp_meaning.specs.declared.statements.Image.{Image}
use Rattle.pp_meaning.specs.declared.expressions.Literal.{Literal}
use Rattle.pp_meaning.specs.declared.expressions.Operand.{Operand}
use Rattle.pp_meaning.specs.declared.expressions.Operand.TheVariants.{Literal as Named_literal, LiteralBits, Word}
use Rattle.pp_meaning.specs.declared.expressions.Symbol.{Symbol}
use Rattle.pp_meaning.specs.declared.statements.Block.{Block}
use Rattle.pp_meaning.specs.declared.statements.Label.{Label}
use Rattle.pp_meaning.specs.declared.statements.Label.TheVariants.{Empty, Minus, Named}
use Rattle.pp_meaning.specs.declared.statements.Operation.{Operation}
use Rattle.pp_meaning.specs.declared.statements.Operation.TheVariants.{Space, Origin}
use Rattle.pp_meaning.specs.declared.statements.Operation.TheVariants.{Location, Equate, Set, Choose, Count, SetBase, BaseBefore}
use Rattle.pp_meaning.specs.declared.statements.Operation.TheVariants.{Deck, Bits, Position, Pool, Use, Synonym}
use Rattle.pp_meaning.specs.declared.statements.Operation.TheVariants.{Qualify, End}
use Rattle.pp_meaning.specs.declared.statements.Statement.{Statement}
use Rattle.pp_meaning.specs.declared.statements.SystemText.{SystemText}
use Rattle.pp_meaning.specs.declared.statements.Unit.{Unit as Program}
use Rattle.pp_meaning_laws.specs.Images.{shown}
use Rattle.pp_meaning_laws.proofs.Assemblies.{both_are, one_table}
use Rattle.pp_meaning_laws.proofs.Both.{Both, Same, both_fold, both_if, both_none, same_map, same_refl}
use Rattle.pp_meaning_laws.proofs.Lengths.{data_same, datum_same}
use Rattle.pp_meaning_laws.proofs.Tables.{AreAlike, SameValue}
use Rattle.pp_meaning_laws.proofs.Values.{above_same, chosen_same, decimal_same}
use Rattle.pp_meaning_laws.proofs.Words.{all_known, field_same, fields_same, words_same}

-- A step that begins with something.
then_same : {X Y : Type 0} (f g : Option X → Option Y) → f None ≡ None → g None ≡ None →
    ((x : X) → Both Same (f (Some x)) (g (Some x))) → (o p : Option X) → Both Same o p → Both Same (f o) (g p)
then_same f g none nothing h None p e = rw none tt
then_same f g none nothing h (Some x) None e = rw nothing (both_none Same (f (Some x)))
then_same f g none nothing h (Some x) (Some y) e = rw e (h y)

-- ---- symbols

number_same : (a b : List Symbol) (is_set : Bool) (s : Standing) (i : ℕ) (number : ℤ) →
    Both Same (define a is_set s i (Some number)) (define b is_set s i (Some number))
number_same a b is_set s i number = both_if Same (i == s.defined && is_symbol s.is_system is_set number (slice_get a i))
    (i == s.defined && is_symbol s.is_system is_set number (slice_get b i)) (Some (record s { defined = s.defined + 1 }))
    (Some (record s { defined = s.defined + 1 })) (λ c d. refl)

define_same : (a b : List Symbol) (is_set : Bool) (s : Standing) (i : ℕ) (o q : Option ℤ) → Both Same o q →
    Both Same (define a is_set s i o) (define b is_set s i q)
define_same a b is_set s i o q e =
    then_same (define a is_set s i) (define b is_set s i) refl refl (λ n. number_same a b is_set s i n) o q e

label_same : (a b : List Symbol) (label : Label) (s : Standing) → Both Same (labelled a s label) (labelled b s label)
label_same a b (Named i) s = number_same a b false s i (pos s.location)
label_same a b label s = refl

then_label_same : (a b : List Symbol) (label : Label) (o p : Option Standing) → Both Same o p →
    Both Same (then_labelled a o label) (then_labelled b p label)
then_label_same a b label o p e = then_same (λ o. then_labelled a o label) (λ o. then_labelled b o label) refl refl
    (λ s. label_same a b label s) o p e

-- ---- each statement

above_at : (a b : List Symbol) → AreAlike a b → (s : Standing) (x : Operand) →
    Both Same (value_above a (place_of s) x) (value_above b (place_of s) x)
above_at a b like s x = above_same a b (place_of s) (all_known a b like s.defined) x

space_same : (a b : List Symbol) → AreAlike a b → (x : Operand) (o p : Option Standing) → Both Same o p →
    Both Same (then_moved a o x) (then_moved b p x)
space_same a b like x o p e = then_same (λ o. then_moved a o x) (λ o. then_moved b o x) refl refl
    (λ s. same_map (moved s) refl (value_above a (place_of s) x) (value_above b (place_of s) x) (above_at a b like s x)) o p e

origin_same : (o : Option Standing) (q r : Option ℕ) → Both Same q r → Both Same (then_at o q) (then_at o r)
origin_same o q r e = then_same (λ o. then_at o q) (λ o. then_at o r) refl refl
    (λ s. same_map (λ q. at s q q) refl q r e) o o (same_refl o)

bits_same : (a b : List Symbol) → AreAlike a b → (label : Label) (xs : List Operand) (o p : Option Standing) → Both Same o p →
    Both Same (then_bits a o label xs) (then_bits b p label xs)
bits_same a b like label xs o p e = then_same (λ o. then_bits a o label xs) (λ o. then_bits b o label xs) refl refl
    (λ s. by (length xs == 0) s) o p e
  where
    by : (c : Bool) (s : Standing) → Both Same
        (if c then None else put_bits s label (fold (with_bits a (place_of s)) (Some (bits_before s label)) xs))
        (if c then None else put_bits s label (fold (with_bits b (place_of s)) (Some (bits_before s label)) xs))
    by true s = tt
    by false s = same_map (put_bits s label) refl (fold (with_bits a (place_of s)) (Some (bits_before s label)) xs)
        (fold (with_bits b (place_of s)) (Some (bits_before s label)) xs)
        (fields_same a b like (place_of s) xs (bits_before s label))

position_same : (a b : List Symbol) → AreAlike a b → (label : Label) (x : Operand) (o p : Option Standing) → Both Same o p →
    Both Same (then_position a o label x) (then_position b p label x)
position_same a b like label x o p e = then_same (λ o. then_position a o label x) (λ o. then_position b o label x) refl refl
    (λ s. same_map (λ (n : Option ℤ). put_bits s label (with_zeros (bits_before s label)
    (zeros_before (bits_left (length (bits_before s label))) n))) refl (decimal_above a (place_of s) x)
    (decimal_above b (place_of s) x)
    (decimal_same a b (place_of s) (all_known a b like s.defined) x)) o p e

then_words_same : (a b : List Symbol) → AreAlike a b → (operation : Operation) (xs : List Operand) (o p : Option Standing) →
    Both Same o p → Both Same (then_words a o operation xs) (then_words b p operation xs)
then_words_same a b like operation xs o p e =
    then_same (λ o. then_words a o operation xs) (λ o. then_words b o operation xs) refl refl
    (λ s. same_map (with_words s) refl (words_of a (place_of s) operation xs) (words_of b (place_of s) operation xs)
    (words_same a b like (place_of s) operation xs)) o p e

after_same : (a b : List Symbol) → AreAlike a b → (label : Label) (operation : Operation) (xs : List Operand) (s : Standing) →
    Both Same (after a s label operation xs) (after b s label operation xs)
after_same a b like label Space (x ∷ []) s =
    space_same a b like x (labelled a s label) (labelled b s label) (label_same a b label s)
after_same a b like label Origin (x ∷ []) s = then_label_same a b label
    (then_at (nominal s) (address (value_above a (place_of s) x))) (then_at (nominal s) (address (value_above b (place_of s) x)))
    (origin_same (nominal s) (address (value_above a (place_of s) x)) (address (value_above b (place_of s) x))
    (same_map address refl (value_above a (place_of s) x) (value_above b (place_of s) x) (above_at a b like s x)))
after_same a b like label Location (x ∷ []) s = then_label_same a b label
    (at s (Some s.origin) (address (value_above a (place_of s) x))) (at s (Some s.origin) (address (value_above b (place_of s) x)))
    (same_map (λ (n : Option ℤ). at s (Some s.origin) (address n)) refl (value_above a (place_of s) x)
    (value_above b (place_of s) x)
    (above_at a b like s x))
after_same a b like (Named i) (Equate is_sign) (x ∷ []) s =
    define_same a b false s i (value_above a (place_of s) x) (value_above b (place_of s) x) (above_at a b like s x)
after_same a b like (Named i) Set (x ∷ []) s =
    define_same a b true s i (value_above a (place_of s) x) (value_above b (place_of s) x) (above_at a b like s x)
after_same a b like (Named i) (Choose is_greatest) xs s =
    define_same a b true s i (chosen a (place_of s) is_greatest xs) (chosen b (place_of s) is_greatest xs)
    (chosen_same a b (place_of s) (all_known a b like s.defined) is_greatest xs)
after_same a b like (Named i) (Count number) (Word name ∷ []) s = number_same a b true s i (pos number)
after_same a b like label Bits xs s = bits_same a b like label xs (labelled a s label) (labelled b s label) (label_same a b label s)
after_same a b like label Position (x ∷ []) s =
    position_same a b like label x (labelled a s label) (labelled b s label) (label_same a b label s)
after_same a b like (Named i) (Pool address) xs s = number_same a b false s i (pos address)
after_same a b like Empty (Pool address) xs s = refl
after_same a b like Minus (Pool address) xs s = refl
after_same a b like Empty (SetBase base more) [] s = refl
after_same a b like Empty BaseBefore [] s = same_refl (after a s Empty BaseBefore [])
after_same a b like Empty Deck [] s = refl
after_same a b like Empty Synonym (Word old ∷ []) s = refl
after_same a b like Empty (Qualify left right) xs s = same_refl (qualified s xs)
after_same a b like Empty End [] s = refl
after_same a b like Empty End (x ∷ []) s = same_map (ended s) refl (operand_field 12 a (place_of s) x)
    (operand_field 12 b (place_of s) x) (field_same a b like 12 (place_of s) x)
after_same a b like label operation xs s =
    then_words_same a b like operation xs (labelled a s label) (labelled b s label) (label_same a b label s)

any_same : (a b : List Symbol) → AreAlike a b → (blocks : List Block) (label : Label) (operation : Operation) (xs : List Operand)
    (s : Standing) → Both Same (after_any a blocks s label operation xs) (after_any b blocks s label operation xs)
any_same a b like blocks label Use xs s =
    then_label_same a b label (block_used blocks s xs) (block_used blocks s xs) (same_refl (block_used blocks s xs))
any_same a b like blocks label operation xs s = after_same a b like label operation xs s

-- ---- literals

literal_at : (a b : List Symbol) (literals : List Literal) (x : Operand) (s : Standing) →
    Both Same (with_literal a literals (Some s) x) (with_literal b literals (Some s) x)
literal_at a b literals (Named_literal address item) s = rw (datum_same a b (place_of s) item)
    (same_refl (naming literals s address (index_of literals (datum b (place_of s) item))))
literal_at a b literals (LiteralBits width address item) s = rw (datum_same a b (place_of s) item)
    (same_refl (naming literals s address (index_of literals (datum b (place_of s) item))))
literal_at a b literals x s = refl

pool_at : (a b : List Symbol) (literals : List Literal) (operation : Operation) (xs : List Operand) (s : Standing) →
    Both Same (with_pool a literals (Some s) operation xs) (with_pool b literals (Some s) operation xs)
pool_at a b literals (Pool address) xs s = rw (data_same a b (place_of s) xs)
    (same_refl (naming literals s address (index_of literals (data_words b (place_of s) xs))))
pool_at a b literals operation xs s = refl

literals_same : (a b : List Symbol) (literals : List Literal) (operation : Operation) (xs : List Operand) (o p : Option Standing) →
    Both Same o p → Both Same (with_all_literals a literals o operation xs) (with_all_literals b literals p operation xs)
literals_same a b literals operation xs o p e =
    then_same (λ o. with_pool a literals o operation xs) (λ o. with_pool b literals o operation xs) refl refl
    (λ s. pool_at a b literals operation xs s) (fold (with_literal a literals) o (in_order operation xs))
    (fold (with_literal b literals) p (in_order operation xs))
    (both_fold Same (with_literal a literals) (with_literal b literals)
    (λ o p x e. then_same (λ o. with_literal a literals o x) (λ o. with_literal b literals o x) refl refl
    (λ s. literal_at a b literals x s) o p e) (in_order operation xs) o p e)

-- ---- statements

follow_same : (a b : List Symbol) → AreAlike a b → (literals : List Literal) (blocks : List Block) (o p : Option Standing)
    (statement : Statement) → Both Same o p →
    Both Same (follow a literals blocks o statement) (follow b literals blocks p statement)
follow_same a b like literals blocks o p statement e =
    let operation = statement.operation in
    let xs = statement.operands.items in
    let word = statement.word.items in
    let o1 = named (in_qualifier o statement) statement in
    let p1 = named (in_qualifier p statement) statement in
    let e1 : Both Same o1 p1 = same_map (λ (o : Option Standing). named (in_qualifier o statement) statement) refl o p e in
    let o2 = with_all_literals a literals o1 operation xs in
    let p2 = with_all_literals b literals p1 operation xs in
    let e2 = literals_same a b literals operation xs o1 p1 e1 in
    let o3 = then_after a blocks o2 statement in
    let p3 = then_after b blocks p2 statement in
    let e3 : Both Same o3 p3 = then_same (λ (o : Option Standing). then_after a blocks o statement)
    (λ (o : Option Standing). then_after b blocks o statement) refl refl
    (λ s. any_same a b like blocks statement.label operation xs s) o2 p2 e2 in
    same_map (λ (o : Option Standing). reached (with_synonym o word operation xs)) refl o3 p3 e3

performed_same : (a b : List Symbol) → AreAlike a b → (is_system : Bool) (unit : Program) (k : Known) →
    Both Same (performed a is_system k unit) (performed b is_system k unit)
performed_same a b like is_system unit k = both_fold Same (follow a unit.literals.items unit.blocks.items)
    (follow b unit.literals.items unit.blocks.items)
    (λ o p statement e. follow_same a b like unit.literals.items unit.blocks.items o p statement e) unit.statements.items
    (Some (first is_system unit.blocks.items k)) (Some (first is_system unit.blocks.items k)) refl

-- ---- programs

with_unit_same : (a b : List Symbol) → AreAlike a b → (o p : Option Known) (unit : Program) → Both Same o p →
    Both Same (with_unit a o unit) (with_unit b p unit)
with_unit_same a b like o p unit e = then_same (λ o. with_unit a o unit) (λ o. with_unit b o unit) refl refl
    (λ k. same_map then_left refl (performed a true k unit) (performed b true k unit) (performed_same a b like true unit k)) o p e

with_system_same : (a b : List Symbol) → AreAlike a b → (o p : Option Known) (text : SystemText) → Both Same o p →
    Both Same (with_system a o text) (with_system b p text)
with_system_same a b like o p text e =
    same_map without_bases refl (fold (with_unit a) o text.units.items) (fold (with_unit b) p text.units.items)
    (both_fold Same (with_unit a) (with_unit b) (λ o p unit e. with_unit_same a b like o p unit e) text.units.items o p e)

begun_same : (a b : List Symbol) → AreAlike a b → (systems : List SystemText) → Both Same (begun a systems) (begun b systems)
begun_same a b like systems = both_fold Same (with_system a) (with_system b)
    (λ o p text e. with_system_same a b like o p text e) systems (Some nothing_known) (Some nothing_known) refl

assembled_same : (a b : List Symbol) → AreAlike a b → (k : Known) (unit : Program) →
    Both Same (assembled a k unit) (assembled b k unit)
assembled_same a b like k unit = same_map
    (λ (o : Option Standing). with_blocks unit.literals.items unit.blocks.items (with_literals unit.literals.items (closed o))) refl
    (performed a false k unit) (performed b false k unit) (performed_same a b like false unit k)

image_same : (s t : Standing) (one two : Image) → s ≡ t → IsImage s one → IsImage t two → shown one ≡ shown two
image_same s t one two e is has =
    let memory : one.memory.items ≡ two.memory.items = sym is.memory ∙ ap (λ (s : Standing). s.memory) e ∙ has.memory in
    let words : one.words.items ≡ two.words.items = sym is.words ∙ ap (λ (s : Standing). s.words) e ∙ has.words in
    let start : one.start ≡ two.start = sym is.start ∙ ap (λ (s : Standing). s.start) e ∙ has.start in
    rw (memory, words, start) refl

units_shown : (a b : List Symbol) → AreAlike a b → (units : List Program) (k l : Known) (one two : List Image) → k ≡ l →
    AreAssembled a k units one → AreAssembled b l units two → map shown one ≡ map shown two
units_shown a b like [] k l [] [] e all more = refl
units_shown a b like [] k l [] (image ∷ two) e all more = absurd more
units_shown a b like [] k l (image ∷ one) two e all more = absurd all
units_shown a b like (unit ∷ units) k l [] two e all more = absurd all
units_shown a b like (unit ∷ units) k l (image ∷ one) [] e all more = absurd more
units_shown a b like (unit ∷ units) k l (image ∷ one) (next ∷ two) e all more =
    let made : assembled b k unit ≡ Some more.0 = rw e more.1 in
    let after : all.0 ≡ more.0 =
    both_are Same (assembled a k unit) (assembled b k unit) all.0 more.0 all.1 made (assembled_same a b like k unit) in
    let here : shown image ≡ shown next = image_same all.0 more.0 image next after all.2 more.2 in
    rw here (ap (λ l. shown next ∷ l)
    (units_shown a b like units (left_by all.0) (left_by more.0) one two (ap left_by after) all.3 more.3))

-- ---- tables

alike_from : (a b : List Symbol) → map (λ (symbol : Symbol). symbol.value) a ≡ map (λ (symbol : Symbol). symbol.value) b →
    AreAlike a b
alike_from [] b e i = tt
alike_from (x ∷ a) [] e i = both_none SameValue (slice_get (x ∷ a) i)
alike_from (x ∷ a) (y ∷ b) e zero = cc
alike_from (x ∷ a) (y ∷ b) e (suc i) =
    let rest : map (λ (symbol : Symbol). symbol.value) a ≡ map (λ (symbol : Symbol). symbol.value) b = cc in
    alike_from a b rest i

pub one_image : (a b : List Symbol) (systems : List SystemText) (units : List Program) (one two : List Image) →
    IsAssembled a systems units one → IsAssembled b systems units two → map shown one ≡ map shown two
one_image a b systems units one two all more =
    let like = alike_from a b (one_table a b systems units one two all more) in
    units_shown a b like units all.before more.before one two
    (both_are Same (begun a systems) (begun b systems) all.before more.before all.systems_leave more.systems_leave
    (begun_same a b like systems)) all.units_make more.units_make
