-- What statements do with two tables.
use Rattle.std.proofs.Common.{◌≡◌, ◌∙◌, ◌+◌, ◌-◌, ◌==◌, ◌&&◌, ◌++◌, ℕ, ℤ, pos, Bool, true, false, List, [], ◌∷◌, Option, Some, None}
use Rattle.std.proofs.Common.{ap, arith, fold, if◌then◌else◌, int_eq, length, min, nat_le, refl, slice_get, slice_set}
use Rattle.std.proofs.Common.{subst, sym, take}
use Rattle.std.proofs.lemmas.Bool.{and_parts, eqb-true}
use Rattle.std.proofs.lemmas.Bool.Decides.{Decides-int_eq}
use Rattle.std.proofs.lemmas.List.{length-append, length-take}
use Rattle.pp_meaning.specs.Bits.{bits_left, words_of_bits, with_bits, zeros_before}
use Rattle.pp_meaning.specs.Expressions.{address, chosen, decimal_above, value_above}
use Rattle.pp_meaning.specs.Fields.{operand_field}
use Rattle.pp_meaning.specs.Blocks.{nominal}
use Rattle.pp_meaning.specs.Meaning.{after, at, base_before, bits_before, bits_used, cells_on, define, ended, goes_on, is_symbol}
use Rattle.pp_meaning.specs.Meaning.{labelled, may_make, moved, opened, put_bits, store, then_at}
use Rattle.pp_meaning.specs.Meaning.{then_bits, then_labelled, then_moved}
use Rattle.pp_meaning.specs.Meaning.{then_position, then_words, with_words, with_zeros, without_last, words_of}
use Rattle.pp_meaning.specs.Qualifiers.{is_in_qualifier, prefixes_after, qualified}
use Rattle.pp_meaning.specs.Standing.{Standing, place_of}
use Rattle.pp_meaning.specs.declared.expressions.Base.{Base}
use Rattle.pp_meaning.specs.declared.expressions.Operand.{Operand}
use Rattle.pp_meaning.specs.declared.expressions.Operand.TheVariants.{Word}
use Rattle.pp_meaning.specs.declared.expressions.Symbol.{Symbol}
use Rattle.pp_meaning.specs.declared.statements.Label.{Label}
use Rattle.pp_meaning.specs.declared.statements.Label.TheVariants.{Empty, Minus, Named}
use Rattle.pp_meaning.specs.declared.statements.Operation.{Operation}
use Rattle.pp_meaning.specs.declared.statements.Operation.TheVariants.{Space, Origin}
use Rattle.pp_meaning.specs.declared.statements.Operation.TheVariants.{Location, Equate, Set, Choose, Count, SetBase, BaseBefore}
use Rattle.pp_meaning.specs.declared.statements.Operation.TheVariants.{Deck, Bits, Position, Pool, Synonym}
use Rattle.pp_meaning.specs.declared.statements.Operation.TheVariants.{Qualify, End}
use Rattle.std.specs.List.{list_all}
use Rattle.pp_meaning_laws.proofs.BitLengths.{fields_length, used_same, words_of_same, zeros_length}
use Rattle.pp_meaning_laws.proofs.Both.{Both, Same, SameLength, both_if, both_none, same_map}
use Rattle.pp_meaning_laws.proofs.Lengths.{words_length}
use Rattle.pp_meaning_laws.proofs.Standings.{IsAlike, alike, at_alike, nominal_alike, other, then_alike}
use Rattle.pp_meaning_laws.proofs.Tables.{AreKnown, SameValue, known_more}
use Rattle.pp_meaning_laws.proofs.Values.{above_same, chosen_same, decimal_same}

-- ---- words

stored_on : (words : List ℕ) (cell : ℕ) (memory : List (Option ℕ)) →
    (fold store (cell, memory) words).0 ≡ cell + length words
stored_on [] cell memory = omega arith
stored_on (word ∷ words) cell memory =
    stored_on words (cell + 1) (slice_set memory cell (Some word)) ∙ omega arith

-- What words make of what there is.
abbrev put_at : Standing → List (Option ℕ) → List ℕ → Option ℕ → ℕ → ℕ → Standing
put_at s memory words start origin count = record s {
  origin = origin;
  location = s.location + count;
  memory = memory;
  words = words;
  start = start;
  used = if count == 0 then s.used else 0;
}

put_same : (s : Standing) (memory : List (Option ℕ)) (words : List ℕ) (start : Option ℕ) (origin cell count number : ℕ) →
    origin ≡ cell → count ≡ number → put_at s memory words start origin count ≡ put_at s memory words start cell number
put_same s memory words start origin cell count number e d =
    ap (λ n. put_at s memory words start n count) e ∙ ap (λ n. put_at s memory words start cell n) d

put_alike : (a b : List Symbol) (s : Standing) (m : List (Option ℕ)) (w : List ℕ) (r : Option ℕ) (xs ys : List ℕ) →
    length w ≡ length s.words → AreKnown a b s.defined → length xs ≡ length ys →
    IsAlike a b (put_at s (fold store (s.origin, s.memory) xs).1 (s.words ++ xs) s.start (fold store (s.origin, s.memory) xs).0
    (length xs))
    (put_at s (fold store (s.origin, m) ys).1 (w ++ ys) r (fold store (s.origin, m) ys).0 (length ys))
put_alike a b s m w r xs ys e known d = record {
  memory = (fold store (s.origin, m) ys).1;
  words = w ++ ys;
  start = r;
  size = simp length-append (omega (arith, e, d));
  same = put_same s (fold store (s.origin, m) ys).1 (w ++ ys) r (fold store (s.origin, m) ys).0
      (fold store (s.origin, s.memory) xs).0 (length ys) (length xs)
      (stored_on ys s.origin m ∙ ap (λ n. s.origin + n) (sym d) ∙ sym (stored_on xs s.origin s.memory)) (sym d);
  known = known;
}

words_alike : (a b : List Symbol) (s t : Standing) → IsAlike a b s t → (xs ys : List ℕ) → length xs ≡ length ys →
    Both (IsAlike a b) (with_words s (Some xs)) (with_words t (Some ys))
words_alike a b s t like xs ys d =
    at_alike a b s (λ t. Both (IsAlike a b) (with_words s (Some xs)) (with_words t (Some ys)))
    (λ m w r e known. both_if (IsAlike a b) (nat_le (length xs) (0o10000 - s.origin)) (nat_le (length ys) (0o10000 - s.origin))
    (Some (put_at s (fold store (s.origin, s.memory) xs).1 (s.words ++ xs) s.start (fold store (s.origin, s.memory) xs).0
    (length xs)))
    (Some (put_at s (fold store (s.origin, m) ys).1 (w ++ ys) r (fold store (s.origin, m) ys).0 (length ys)))
    (λ c f. put_alike a b s m w r xs ys e known d)) t like

pub with_words_alike : (a b : List Symbol) (s t : Standing) → IsAlike a b s t → (o q : Option (List ℕ)) → Both SameLength o q →
    Both (IsAlike a b) (with_words s o) (with_words t q)
with_words_alike a b s t like None q e = tt
with_words_alike a b s t like (Some xs) None e = both_none (IsAlike a b) (with_words s (Some xs))
with_words_alike a b s t like (Some xs) (Some ys) e = words_alike a b s t like xs ys e

-- ---- symbols

value_of : (symbol : Symbol) (is_system is_set : Bool) (number : ℤ) → is_symbol is_system is_set number (Some symbol) ≡ true →
    symbol.value ≡ number
value_of symbol is_system is_set number is =
    (Decides-int_eq symbol.value number).0
    (and_parts (int_eq symbol.value number) (may_make is_system is_set symbol.validity) is).0

one_value : (is_system is_set : Bool) (number : ℤ) (o q : Option Symbol) → is_symbol is_system is_set number o ≡ true →
    is_symbol is_system is_set number q ≡ true → Both SameValue o q
one_value is_system is_set number None q is has = tt
one_value is_system is_set number (Some x) None is has = tt
one_value is_system is_set number (Some x) (Some y) is has =
    value_of x is_system is_set number is ∙ sym (value_of y is_system is_set number has)

number_alike : (a b : List Symbol) (is_set : Bool) (s t : Standing) → IsAlike a b s t → (index : ℕ) (number : ℤ) →
    Both (IsAlike a b) (define a is_set s index (Some number)) (define b is_set t index (Some number))
number_alike a b is_set s t like index number = at_alike a b s
    (λ t. Both (IsAlike a b) (define a is_set s index (Some number)) (define b is_set t index (Some number)))
    (λ m w r e known.
    let u = other s m w r in
    both_if (IsAlike a b) (index == s.defined && is_symbol s.is_system is_set number (slice_get a index))
    (index == s.defined && is_symbol s.is_system is_set number (slice_get b index))
    (Some (record s { defined = s.defined + 1 })) (Some (record u { defined = s.defined + 1 }))
    (λ c d.
    let one = and_parts (index == s.defined) (is_symbol s.is_system is_set number (slice_get a index)) c in
    let two = and_parts (index == s.defined) (is_symbol s.is_system is_set number (slice_get b index)) d in
    alike m w r e (known_more a b s.defined known
    (subst (λ i. Both SameValue (slice_get a i) (slice_get b i)) (eqb-true index s.defined one.0)
    (one_value s.is_system is_set number (slice_get a index) (slice_get b index) one.1 two.1))))) t like

pub define_alike : (a b : List Symbol) (is_set : Bool) (s t : Standing) → IsAlike a b s t → (index : ℕ) (o q : Option ℤ) →
    Both Same o q → Both (IsAlike a b) (define a is_set s index o) (define b is_set t index q)
define_alike a b is_set s t like index None q e = tt
define_alike a b is_set s t like index (Some n) None e = both_none (IsAlike a b) (define a is_set s index (Some n))
define_alike a b is_set s t like index (Some n) (Some k) e = rw e (number_alike a b is_set s t like index k)

pub labelled_alike : (a b : List Symbol) (label : Label) (s t : Standing) → IsAlike a b s t →
    Both (IsAlike a b) (labelled a s label) (labelled b t label)
labelled_alike a b (Named index) s t like =
    at_alike a b s (λ t. Both (IsAlike a b) (labelled a s (Named index)) (labelled b t (Named index)))
    (λ m w r e known. number_alike a b false s (other s m w r) (alike m w r e known) index (pos s.location)) t like
labelled_alike a b label s t like = like

pub then_labelled_alike : (a b : List Symbol) (label : Label) (o p : Option Standing) → Both (IsAlike a b) o p →
    Both (IsAlike a b) (then_labelled a o label) (then_labelled b p label)
then_labelled_alike a b label o p e = then_alike a b (λ o. then_labelled a o label) (λ o. then_labelled b o label) refl refl
    (λ s t like. labelled_alike a b label s t like) o p e

-- ---- counters

at_cells : (a b : List Symbol) (s t : Standing) → IsAlike a b s t → (o q : Option ℕ) →
    Both (IsAlike a b) (at s o q) (at t o q)
at_cells a b s t like None q = tt
at_cells a b s t like (Some x) None = tt
at_cells a b s t like (Some x) (Some y) = at_alike a b s (λ t. Both (IsAlike a b) (at s (Some x) (Some y)) (at t (Some x) (Some y)))
    (λ m w r e known. alike m w r e known) t like

-- the same counters
at_both : (a b : List Symbol) (s t : Standing) → IsAlike a b s t → (o p q r : Option ℕ) → Both Same o p → Both Same q r →
    Both (IsAlike a b) (at s o q) (at t p r)
at_both a b s t like None p q r e d = tt
at_both a b s t like (Some x) p None r e d = tt
at_both a b s t like (Some x) None (Some y) r e d = both_none (IsAlike a b) (at s (Some x) (Some y))
at_both a b s t like (Some x) (Some z) (Some y) None e d = both_none (IsAlike a b) (at s (Some x) (Some y))
at_both a b s t like (Some x) (Some z) (Some y) (Some k) e d = rw (e, d) (at_cells a b s t like (Some z) (Some k))

moved_alike : (a b : List Symbol) (s t : Standing) → IsAlike a b s t → (o q : Option ℤ) → Both Same o q →
    Both (IsAlike a b) (moved s o) (moved t q)
moved_alike a b s t like None q d = tt
moved_alike a b s t like (Some n) None d = both_none (IsAlike a b) (moved s (Some n))
moved_alike a b s t like (Some n) (Some k) d = rw d (at_alike a b s (λ t. Both (IsAlike a b) (moved s (Some k)) (moved t (Some k)))
    (λ m w r e known. at_cells a b s (other s m w r) (alike m w r e known) (cells_on s.origin k) (cells_on s.location k)) t like)

-- what is read from names above
place_same : (a b : List Symbol) (s t : Standing) → IsAlike a b s t → (x : Operand) →
    Both Same (value_above a (place_of s) x) (value_above b (place_of t) x)
place_same a b s t like x = at_alike a b s (λ t. Both Same (value_above a (place_of s) x) (value_above b (place_of t) x))
    (λ m w r e known. above_same a b (place_of s) known x) t like

address_same : (a b : List Symbol) (s t : Standing) → IsAlike a b s t → (x : Operand) →
    Both Same (address (value_above a (place_of s) x)) (address (value_above b (place_of t) x))
address_same a b s t like x = same_map address refl (value_above a (place_of s) x) (value_above b (place_of t) x)
    (place_same a b s t like x)

space_alike : (a b : List Symbol) (s t : Standing) → IsAlike a b s t → (x : Operand) →
    Both (IsAlike a b) (moved s (value_above a (place_of s) x)) (moved t (value_above b (place_of t) x))
space_alike a b s t like x = moved_alike a b s t like (value_above a (place_of s) x) (value_above b (place_of t) x)
    (place_same a b s t like x)

then_at_alike : (a b : List Symbol) (o p : Option Standing) → Both (IsAlike a b) o p → (q r : Option ℕ) → Both Same q r →
    Both (IsAlike a b) (then_at o q) (then_at p r)
then_at_alike a b o p e q r d = then_alike a b (λ o. then_at o q) (λ o. then_at o r) refl refl
    (λ s t like. at_both a b s t like q r q r d d) o p e

origin_same : (a b : List Symbol) (s t : Standing) → IsAlike a b s t → Both Same (Some s.origin) (Some t.origin)
origin_same a b s t like = at_alike a b s (λ t. Both Same (Some s.origin) (Some t.origin)) (λ m w r e known. refl) t like

-- ---- bits

bits_before_same : (a b : List Symbol) (label : Label) (s t : Standing) → IsAlike a b s t →
    length (bits_before s label) ≡ length (bits_before t label)
bits_before_same a b label s t like = at_alike a b s (λ t. length (bits_before s label) ≡ length (bits_before t label))
    (λ m w r e known. by label m w r e) t like
  where
    last : (m : List (Option ℕ)) (w : List ℕ) (r : Option ℕ) → length w ≡ length s.words →
        length (bits_used s.used (slice_get s.words (length s.words - 1))) ≡ length (bits_used s.used (slice_get w (length w - 1)))
    last m w r e = rw e (used_same s.used (length s.words - 1) s.words w (sym e))

    either : (c : Bool) (xs ys : List ℕ) → length xs ≡ length ys →
        length (if c then xs else []) ≡ length (if c then ys else [])
    either true xs ys e = e
    either false xs ys e = refl

    by : (label : Label) (m : List (Option ℕ)) (w : List ℕ) (r : Option ℕ) → length w ≡ length s.words →
        length (bits_before s label) ≡ length (bits_before (other s m w r) label)
    by label m w r e = either (goes_on s label) (bits_used s.used (slice_get s.words (length s.words - 1)))
        (bits_used s.used (slice_get w (length w - 1))) (last m w r e)

begun_alike : (a b : List Symbol) (c : Bool) (s t : Standing) → IsAlike a b s t →
    IsAlike a b (if c then without_last s else s) (if c then without_last t else t)
begun_alike a b true s t like = at_alike a b s (λ t. IsAlike a b (without_last s) (without_last t))
    (λ m w r e known. alike m (take (length w - 1) w) r
    (simp length-take (ap (λ n. min (n - 1) n) e)) known) t like
begun_alike a b false s t like = like

opened_alike : (a b : List Symbol) (count number : ℕ) → count ≡ number → (o p : Option Standing) → Both (IsAlike a b) o p →
    Both (IsAlike a b) (opened count o) (opened number p)
opened_alike a b count number d o p e = rw d (then_alike a b (opened number) (opened number) refl refl
    (λ s t like. at_alike a b s (λ t. Both (IsAlike a b) (opened number (Some s)) (opened number (Some t)))
    (λ m w r e known. alike m w r e known) t like) o p e)

put_bits_alike : (a b : List Symbol) (label : Label) (s t : Standing) → IsAlike a b s t → (o q : Option (List ℕ)) →
    Both SameLength o q → Both (IsAlike a b) (put_bits s label o) (put_bits t label q)
put_bits_alike a b label s t like None q d = tt
put_bits_alike a b label s t like (Some xs) None d = both_none (IsAlike a b) (put_bits s label (Some xs))
put_bits_alike a b label s t like (Some xs) (Some ys) d =
    at_alike a b s (λ t. Both (IsAlike a b) (put_bits s label (Some xs)) (put_bits t label (Some ys)))
    (λ m w r e known.
    let u = other s m w r in
    let before = if goes_on s label then without_last s else s in
    let begun = if goes_on s label then without_last u else u in
    opened_alike a b (length xs) (length ys) d (with_words before (Some (words_of_bits xs)))
    (with_words begun (Some (words_of_bits ys)))
    (words_alike a b before begun (begun_alike a b (goes_on s label) s u (alike m w r e known)) (words_of_bits xs)
    (words_of_bits ys) (words_of_same xs ys d))) t like

fields_alike : (a b : List Symbol) (label : Label) (xs : List Operand) (s t : Standing) → IsAlike a b s t →
    Both (IsAlike a b) (put_bits s label (fold (with_bits a (place_of s)) (Some (bits_before s label)) xs))
    (put_bits t label (fold (with_bits b (place_of t)) (Some (bits_before t label)) xs))
fields_alike a b label xs s t like =
    put_bits_alike a b label s t like (fold (with_bits a (place_of s)) (Some (bits_before s label)) xs)
    (fold (with_bits b (place_of t)) (Some (bits_before t label)) xs)
    (at_alike a b s (λ t. length (bits_before s label) ≡ length (bits_before t label) →
    Both SameLength (fold (with_bits a (place_of s)) (Some (bits_before s label)) xs)
    (fold (with_bits b (place_of t)) (Some (bits_before t label)) xs))
    (λ m w r e known d. fields_length a b (place_of s) known xs (bits_before s label) (bits_before (other s m w r) label) d) t like
    (bits_before_same a b label s t like))

bits_alike : (a b : List Symbol) (label : Label) (xs : List Operand) (o p : Option Standing) → Both (IsAlike a b) o p →
    Both (IsAlike a b) (then_bits a o label xs) (then_bits b p label xs)
bits_alike a b label xs o p e = then_alike a b (λ o. then_bits a o label xs) (λ o. then_bits b o label xs) refl refl
    (λ s t like. by (length xs == 0) s t like) o p e
  where
    by : (c : Bool) (s t : Standing) → IsAlike a b s t → Both (IsAlike a b)
        (if c then None else put_bits s label (fold (with_bits a (place_of s)) (Some (bits_before s label)) xs))
        (if c then None else put_bits t label (fold (with_bits b (place_of t)) (Some (bits_before t label)) xs))
    by true s t like = tt
    by false s t like = fields_alike a b label xs s t like

zeros_same : (count number : ℕ) → count ≡ number → (o q : Option ℤ) → Both Same o q →
    Both Same (zeros_before (bits_left count) o) (zeros_before (bits_left number) q)
zeros_same count number d o q e = rw d (same_map (zeros_before (bits_left number)) refl o q e)

position_at : (a b : List Symbol) (label : Label) (x : Operand) (s t : Standing) → IsAlike a b s t →
    Both (IsAlike a b) (then_position a (Some s) label x) (then_position b (Some t) label x)
position_at a b label x s t like =
    let xs = bits_before s label in
    let ys = bits_before t label in
    let same = bits_before_same a b label s t like in
    let more = zeros_before (bits_left (length xs)) (decimal_above a (place_of s) x) in
    let most = zeros_before (bits_left (length ys)) (decimal_above b (place_of t) x) in
    let number : Both Same (decimal_above a (place_of s) x) (decimal_above b (place_of t) x) =
    at_alike a b s (λ t. Both Same (decimal_above a (place_of s) x) (decimal_above b (place_of t) x))
    (λ m w r e known. decimal_same a b (place_of s) known x) t like in
    put_bits_alike a b label s t like (with_zeros xs more) (with_zeros ys most)
    (zeros_length xs ys more most same (zeros_same (length xs) (length ys) same (decimal_above a (place_of s) x)
    (decimal_above b (place_of t) x) number))

position_alike : (a b : List Symbol) (label : Label) (x : Operand) (o p : Option Standing) → Both (IsAlike a b) o p →
    Both (IsAlike a b) (then_position a o label x) (then_position b p label x)
position_alike a b label x o p e = then_alike a b (λ o. then_position a o label x) (λ o. then_position b o label x) refl refl
    (λ s t like. position_at a b label x s t like) o p e

-- ---- other statements

then_words_alike : (a b : List Symbol) (operation : Operation) (xs : List Operand) (o p : Option Standing) →
    Both (IsAlike a b) o p → Both (IsAlike a b) (then_words a o operation xs) (then_words b p operation xs)
then_words_alike a b operation xs o p e =
    then_alike a b (λ o. then_words a o operation xs) (λ o. then_words b o operation xs) refl refl
    (λ s t like. with_words_alike a b s t like (words_of a (place_of s) operation xs) (words_of b (place_of t) operation xs)
    (at_alike a b s (λ t. Both SameLength (words_of a (place_of s) operation xs) (words_of b (place_of t) operation xs))
    (λ m w r e known. words_length a b (place_of s) known operation xs) t like)) o p e

base_alike : (a b : List Symbol) (s t : Standing) → IsAlike a b s t → (o : Option (Option Base)) →
    Both (IsAlike a b) (base_before s o) (base_before t o)
base_alike a b s t like None = tt
base_alike a b s t like (Some base) =
    at_alike a b s (λ t. Both (IsAlike a b) (base_before s (Some base)) (base_before t (Some base)))
    (λ m w r e known. alike m w r e known) t like

base_before_alike : (a b : List Symbol) (s t : Standing) → IsAlike a b s t →
    Both (IsAlike a b) (base_before s (slice_get s.bases (length s.bases - 1)))
    (base_before t (slice_get t.bases (length t.bases - 1)))
base_before_alike a b s t like = at_alike a b s (λ t. Both (IsAlike a b)
    (base_before s (slice_get s.bases (length s.bases - 1))) (base_before t (slice_get t.bases (length t.bases - 1))))
    (λ m w r e known. base_alike a b s (other s m w r) (alike m w r e known) (slice_get s.bases (length s.bases - 1))) t like

set_base_alike : (a b : List Symbol) (base : Base) (s t : Standing) → IsAlike a b s t →
    IsAlike a b (record s { base = Some base; bases = s.bases ++ s.base ∷ [] })
    (record t { base = Some base; bases = t.bases ++ t.base ∷ [] })
set_base_alike a b base s t like = at_alike a b s
    (λ t. IsAlike a b (record s { base = Some base; bases = s.bases ++ s.base ∷ [] })
    (record t { base = Some base; bases = t.bases ++ t.base ∷ [] }))
    (λ m w r e known. alike m w r e known) t like

deck_alike : (a b : List Symbol) (s t : Standing) → IsAlike a b s t →
    IsAlike a b (record s { is_deck = true }) (record t { is_deck = true })
deck_alike a b s t like = at_alike a b s (λ t. IsAlike a b (record s { is_deck = true }) (record t { is_deck = true }))
    (λ m w r e known. alike m w r e known) t like

-- where a processor begins may differ
ended_alike : (a b : List Symbol) (s t : Standing) → IsAlike a b s t → (o q : Option ℕ) →
    Both (IsAlike a b) (ended s o) (ended t q)
ended_alike a b s t like None q = tt
ended_alike a b s t like (Some x) None = tt
ended_alike a b s t like (Some x) (Some y) = at_alike a b s (λ t. Both (IsAlike a b) (ended s (Some x)) (ended t (Some y)))
    (λ m w r e known. alike m w (Some y) e known) t like

qualified_alike : (a b : List Symbol) (xs : List Operand) (s t : Standing) → IsAlike a b s t →
    Both (IsAlike a b) (qualified s xs) (qualified t xs)
qualified_alike a b [] s t like = at_alike a b s (λ t. Both (IsAlike a b) (qualified s []) (qualified t []))
    (λ m w r e known. alike m w r e known) t like
qualified_alike a b (Word name ∷ []) s t like =
    at_alike a b s (λ t. Both (IsAlike a b) (qualified s (Word name ∷ [])) (qualified t (Word name ∷ [])))
    (λ m w r e known.
    let u = other s m w r in
    let is = list_all is_in_qualifier name.items in
    both_if (IsAlike a b) is is (Some (record s { prefixes = prefixes_after s.prefixes name.items }))
    (Some (record u { prefixes = prefixes_after s.prefixes name.items })) (λ c d. alike m w r e known)) t like
qualified_alike a b xs s t like = tt

chosen_alike : (a b : List Symbol) (is_greatest : Bool) (xs : List Operand) (s t : Standing) → IsAlike a b s t →
    Both Same (chosen a (place_of s) is_greatest xs) (chosen b (place_of t) is_greatest xs)
chosen_alike a b is_greatest xs s t like = at_alike a b s
    (λ t. Both Same (chosen a (place_of s) is_greatest xs) (chosen b (place_of t) is_greatest xs))
    (λ m w r e known. chosen_same a b (place_of s) known is_greatest xs) t like

-- ---- each statement

pub after_alike : (a b : List Symbol) (label : Label) (operation : Operation) (xs : List Operand) (s t : Standing) →
    IsAlike a b s t → Both (IsAlike a b) (after a s label operation xs) (after b t label operation xs)
after_alike a b label Space (x ∷ []) s t like = then_alike a b (λ o. then_moved a o x) (λ o. then_moved b o x) refl refl
    (λ s t like. space_alike a b s t like x) (labelled a s label) (labelled b t label) (labelled_alike a b label s t like)
after_alike a b label Origin (x ∷ []) s t like = then_labelled_alike a b label
    (then_at (nominal s) (address (value_above a (place_of s) x))) (then_at (nominal t) (address (value_above b (place_of t) x)))
    (then_at_alike a b (nominal s) (nominal t) (nominal_alike a b s t like) (address (value_above a (place_of s) x))
    (address (value_above b (place_of t) x)) (address_same a b s t like x))
after_alike a b label Location (x ∷ []) s t like = then_labelled_alike a b label
    (at s (Some s.origin) (address (value_above a (place_of s) x))) (at t (Some t.origin) (address (value_above b (place_of t) x)))
    (at_both a b s t like (Some s.origin) (Some t.origin) (address (value_above a (place_of s) x))
    (address (value_above b (place_of t) x)) (origin_same a b s t like) (address_same a b s t like x))
after_alike a b (Named index) (Equate is_sign) (x ∷ []) s t like =
    define_alike a b false s t like index (value_above a (place_of s) x) (value_above b (place_of t) x) (place_same a b s t like x)
after_alike a b (Named index) Set (x ∷ []) s t like =
    define_alike a b true s t like index (value_above a (place_of s) x) (value_above b (place_of t) x) (place_same a b s t like x)
after_alike a b (Named index) (Choose is_greatest) xs s t like =
    define_alike a b true s t like index (chosen a (place_of s) is_greatest xs) (chosen b (place_of t) is_greatest xs)
    (chosen_alike a b is_greatest xs s t like)
after_alike a b (Named index) (Count number) (Word name ∷ []) s t like = number_alike a b true s t like index (pos number)
after_alike a b label Bits xs s t like =
    bits_alike a b label xs (labelled a s label) (labelled b t label) (labelled_alike a b label s t like)
after_alike a b label Position (x ∷ []) s t like =
    position_alike a b label x (labelled a s label) (labelled b t label) (labelled_alike a b label s t like)
after_alike a b (Named index) (Pool address) xs s t like = number_alike a b false s t like index (pos address)
after_alike a b Empty (Pool address) xs s t like = like
after_alike a b Minus (Pool address) xs s t like = like
after_alike a b Empty (SetBase base more) [] s t like = set_base_alike a b base s t like
after_alike a b Empty BaseBefore [] s t like = base_before_alike a b s t like
after_alike a b Empty Deck [] s t like = deck_alike a b s t like
after_alike a b Empty Synonym (Word old ∷ []) s t like = like
after_alike a b Empty (Qualify left right) xs s t like = qualified_alike a b xs s t like
after_alike a b Empty End [] s t like = like
after_alike a b Empty End (x ∷ []) s t like =
    ended_alike a b s t like (operand_field 12 a (place_of s) x) (operand_field 12 b (place_of t) x)
after_alike a b label operation xs s t like = then_words_alike a b operation xs (labelled a s label) (labelled b t label)
    (labelled_alike a b label s t like)
