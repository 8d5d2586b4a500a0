-- Expressions with a value are right.
use Rattle.std.proofs.Common.{◌≡◌, ◌∙◌, ℕ, ℤ, zero, suc, pos, negsuc, ◌==◌, ◌&&◌, ◌≤◌, Bool, true, false, List, [], ◌∷◌, ◌++◌, Option}
use Rattle.std.proofs.Common.{Some, None, ap, arith, bytes_eq, codes, drop, fold, if◌then◌else◌, inl, inr, length, nat_le, refl}
use Rattle.std.proofs.Common.{slice_get, subst, sym, take}
use Rattle.std.proofs.lemmas.Bool.{and_from, and_parts, cases_Bool, cond-false, cond-true, false≢true, le-leb, leb-true, or_cases}
use Rattle.std.proofs.lemmas.Bool.Decides.{Decides-eqb}
use Rattle.std.proofs.lemmas.Slice.Eq.{bytes_eq-Decides, starts_is}
use Rattle.std.specs.List.{AllByRecursion, list_all, list_any}
use Rattle.pp_meaning.specs.Expressions.{are_signed, atom_value, named_value, plus, product, shifted, sum, times, with_factor}
use Rattle.pp_meaning.specs.Expressions.{with_term}
use Rattle.pp_meaning.specs.Lines.{name_at, symbol_name}
use Rattle.pp_meaning.specs.Names.{AreNames, begins, has_name_behind, is_behind_slash, is_full_name, is_name, is_sign}
use Rattle.pp_meaning.specs.Numbers.{are_digits, decimal_number, number_value, octal_number, small, value_from}
use Rattle.pp_meaning.specs.Qualifiers.{Names, full_text, has_prefix, is_hidden, is_in_qualifier, is_prefixed}
use Rattle.pp_meaning.specs.Qualifiers.{prefix_with, short_text, without_prefix}
use Rattle.pp_meaning.specs.Texts.{are_codes, is_exact, number_from_codes}
use Rattle.pp_meaning.specs.declared.expressions.Atom.{Atom}
use Rattle.pp_meaning.specs.declared.expressions.Atom.TheVariants.{Number, Name, Qualified, Here, LocationCounter}
use Rattle.pp_meaning.specs.declared.expressions.Atom.TheVariants.{OriginCounter, Nothing, Symbols, Shifted}
use Rattle.pp_meaning.specs.declared.expressions.Base.{Base}
use Rattle.pp_meaning.specs.declared.expressions.Base.TheVariants.{Octal, Decimal, Mixed}
use Rattle.pp_meaning.specs.declared.expressions.Expression.{Expression}
use Rattle.pp_meaning.specs.declared.expressions.Factor.{Factor}
use Rattle.pp_meaning.specs.declared.expressions.Place.{Place}
use Rattle.pp_meaning.specs.declared.expressions.Radix.{Radix}
use Rattle.pp_meaning.specs.declared.expressions.Radix.TheVariants.{B, O, D, Plain}
use Rattle.pp_meaning.specs.declared.expressions.Sign.{Sign}
use Rattle.pp_meaning.specs.declared.expressions.Sign.TheVariants.{Plus, Minus, Differ}
use Rattle.pp_meaning.specs.declared.expressions.Symbol.{Symbol}
use Rattle.pp_meaning.specs.declared.expressions.Term.{Term}
use Rattle.pp_meaning_laws.proofs.Readings.{differs}
use Rattle.pp_meaning_laws.specs.Cuts.{IsPrefix, IsRight, is_plain, is_right_atom, is_right_term, is_written}

-- Whether there is a value.
abbrev there : {X : Type 0} → Option X → Bool
there None = false
there (Some x) = true

if_there : {X : Type 0} (b : Bool) (x : X) → there (if b then Some x else None) ≡ true → b ≡ true
if_there true x is = refl
if_there false x is = absurd (false≢true is)

-- ---- numbers

abbrev is_digit : ℕ → ℕ → Bool
is_digit last byte = nat_le 48 byte && nat_le byte last

wider : (xs : List ℕ) → list_all (is_digit 55) xs ≡ true → list_all (is_digit 57) xs ≡ true
wider [] all = refl
wider (x ∷ xs) all =
    let parts = and_parts (is_digit 55 x) (list_all (is_digit 55) xs) all in
    let both = and_parts (nat_le 48 x) (nat_le x 55) parts.0 in
    let below : x ≤ 55 = leb-true x 55 both.1 in
    let above : nat_le x 57 ≡ true = le-leb x 57 (omega arith) in
    rw (both.0, above) (wider xs parts.1)

octal_there : (xs : List ℕ) → there (octal_number xs) ≡ true → are_digits 57 xs ≡ true
octal_there [] is = absurd (false≢true is)
octal_there (x ∷ xs) is = wider (x ∷ xs) (if_there (are_digits 55 (x ∷ xs)) (pos (value_from 8 0 (x ∷ xs))) is)

decimal_there : (xs : List ℕ) → there (decimal_number xs) ≡ true → are_digits 57 xs ≡ true
decimal_there xs is = if_there (are_digits 57 xs) (pos (value_from 10 0 xs)) is

small_there : (o : Option ℤ) → there (small o) ≡ true → there o ≡ true
small_there None is = is
small_there (Some n) is = refl

number_there : (base : Option Base) (xs : List ℕ) (radix : Radix) → there (number_value base xs radix) ≡ true →
    are_digits 57 xs ≡ true
number_there base xs B is = octal_there xs is
number_there base xs O is = octal_there xs is
number_there base xs D is = decimal_there xs is
number_there None xs Plain is = decimal_there xs (small_there (decimal_number xs) is)
number_there (Some Octal) xs Plain is = octal_there xs is
number_there (Some Decimal) xs Plain is = decimal_there xs is
number_there (Some Mixed) xs Plain is = octal_there xs is

shifted_there : (o p : Option ℤ) → there (shifted o p) ≡ true → (there o ≡ true) × (there p ≡ true)
shifted_there None p is = absurd (false≢true is)
shifted_there (Some n) None is = absurd (false≢true is)
shifted_there (Some n) (Some (pos bits)) is = (refl, refl)
shifted_there (Some n) (Some (negsuc bits)) is = (refl, refl)

-- ---- names

named_there : (place : Place) (index : ℕ) (o : Option Symbol) → there (named_value place index o) ≡ true → there o ≡ true
named_there place index None is = is
named_there place index (Some symbol) is = refl

full_at : (symbols : List Symbol) (index : ℕ) → AllByRecursion (λ (symbol : Symbol). is_full_name symbol.name.items ≡ true) symbols →
    there (slice_get symbols index) ≡ true → is_full_name (symbol_name (slice_get symbols index)) ≡ true
full_at [] index all is = absurd (false≢true is)
full_at (symbol ∷ symbols) zero all is = all.0
full_at (symbol ∷ symbols) (suc index) all is = full_at symbols index all.1 is

taken_there : (count : ℕ) (symbols : List Symbol) (index : ℕ) → there (slice_get (take count symbols) index) ≡ true →
    there (slice_get symbols index) ≡ true
taken_there zero symbols index is = absurd (false≢true is)
taken_there (suc count) [] index is = absurd (false≢true is)
taken_there (suc count) (symbol ∷ symbols) zero is = refl
taken_there (suc count) (symbol ∷ symbols) (suc index) is = taken_there count symbols index is

-- A byte of a qualifier is no slash.
no_slash : (x : ℕ) → is_in_qualifier x ≡ true → (x == 47) ≡ false
no_slash x is = differs is_in_qualifier x 47 is refl

slash_behind : (xs : List ℕ) → is_behind_slash xs ≡ true → has_name_behind xs ≡ true
slash_behind [] is = absurd (false≢true is)
slash_behind (x ∷ xs) is =
    cond-false (x == 47) (is_name xs) (is_in_qualifier x && has_name_behind xs)
    (no_slash x (and_parts (is_in_qualifier x) (has_name_behind xs) is).0) ∙ is

name_written : (xs : List ℕ) → is_name xs ≡ true → is_written xs ≡ true
name_written [] is = absurd (false≢true is)
name_written (x ∷ xs) is =
    let signs : list_all is_sign (x ∷ xs) ≡ true =
    (and_parts (begins (x ∷ xs) && nat_le (length (x ∷ xs)) 8) (list_all is_sign (x ∷ xs)) is).1 in
    cond-false (x == 47) (has_name_behind xs) (is_name (x ∷ xs))
    (differs is_sign x 47 (and_parts (is_sign x) (list_all is_sign xs) signs).0 refl) ∙ is

full_is_written : (xs : List ℕ) → is_full_name xs ≡ true → is_written xs ≡ true
full_is_written [] is = is
full_is_written (x ∷ xs) is = elim (cases_Bool (x == 47)) [
  | inl slash ↦ cond-true (x == 47) (has_name_behind xs) (is_name (x ∷ xs)) slash
      ∙ slash_behind xs (sym (cond-true (x == 47) (is_behind_slash xs) (is_name (x ∷ xs)) slash) ∙ is)
  | inr other ↦ cond-false (x == 47) (has_name_behind xs) (is_name (x ∷ xs)) other
      ∙ (sym (cond-false (x == 47) (is_behind_slash xs) (is_name (x ∷ xs)) other) ∙ is)
]

full_text_written : (xs : List ℕ) → is_full_name xs ≡ true → is_written (full_text xs) ≡ true
full_text_written [] is = absurd (false≢true is)
full_text_written (x ∷ xs) is = elim (cases_Bool (x == 47)) [
  | inl slash ↦ ap is_written (cond-true (x == 47) (x ∷ xs) (47 ∷ 47 ∷ x ∷ xs) slash) ∙ full_is_written (x ∷ xs) is
  | inr other ↦ ap is_written (cond-false (x == 47) (x ∷ xs) (47 ∷ 47 ∷ x ∷ xs) other)
      ∙ (sym (cond-false (x == 47) (is_behind_slash xs) (is_name (x ∷ xs)) other) ∙ is)
]

-- What is behind a qualifier is a name.
behind_qualifier : (xs rest : List ℕ) → list_all is_in_qualifier xs ≡ true →
    has_name_behind ((xs ++ (47 ∷ [])) ++ rest) ≡ true → is_name rest ≡ true
behind_qualifier [] rest all is = is
behind_qualifier (x ∷ xs) rest all is =
    let parts = and_parts (is_in_qualifier x) (list_all is_in_qualifier xs) all in
    let more : (is_in_qualifier x && has_name_behind ((xs ++ (47 ∷ [])) ++ rest)) ≡ true =
    sym (cond-false (x == 47) (is_name ((xs ++ (47 ∷ [])) ++ rest))
    (is_in_qualifier x && has_name_behind ((xs ++ (47 ∷ [])) ++ rest)) (no_slash x parts.0)) ∙ is in
    behind_qualifier xs rest parts.1 (and_parts (is_in_qualifier x) (has_name_behind ((xs ++ (47 ∷ [])) ++ rest)) more).1

behind_prefix : (x : ℕ) (xs rest : List ℕ) → list_all is_in_qualifier (x ∷ xs) ≡ true →
    is_full_name (prefix_with (x ∷ xs) ++ rest) ≡ true → is_name rest ≡ true
behind_prefix x xs rest all is = behind_qualifier xs rest (and_parts (is_in_qualifier x) (list_all is_in_qualifier xs) all).1
    (and_parts (is_in_qualifier x) (has_name_behind ((xs ++ (47 ∷ [])) ++ rest)) is).1

abbrev names_with : List Symbol → List ℕ → Names
names_with symbols prefix = record { symbols = symbols; prefix = prefix }

after_prefix : (symbols : List Symbol) (x : ℕ) (xs name : List ℕ) → list_all is_in_qualifier (x ∷ xs) ≡ true →
    is_full_name name ≡ true → has_prefix (names_with symbols (prefix_with (x ∷ xs))) name ≡ true →
    is_name (without_prefix (names_with symbols (prefix_with (x ∷ xs))) name) ≡ true
after_prefix symbols x xs name all full has =
    let names = names_with symbols (prefix_with (x ∷ xs)) in
    let split : name ≡ prefix_with (x ∷ xs) ++ drop (length (prefix_with (x ∷ xs))) name =
    (starts_is Decides-eqb name (prefix_with (x ∷ xs)) (has_prefix names name) refl).0 has in
    behind_prefix x xs (drop (length (prefix_with (x ∷ xs))) name) all (subst (λ ys. is_full_name ys ≡ true) split full)

-- A name that one with the present qualifier hides is a name without one.
hidden_name : (all symbols : List Symbol) (x : ℕ) (xs name : List ℕ) → list_all is_in_qualifier (x ∷ xs) ≡ true →
    AllByRecursion (λ (symbol : Symbol). is_full_name symbol.name.items ≡ true) symbols →
    list_any (is_prefixed (names_with all (prefix_with (x ∷ xs))) name) symbols ≡ true → is_name name ≡ true
hidden_name all [] x xs name each full is = absurd (false≢true is)
hidden_name all (symbol ∷ symbols) x xs name each full is =
    let names = names_with all (prefix_with (x ∷ xs)) in
    elim (or_cases (is_prefixed names name symbol) (list_any (is_prefixed names name) symbols) is) [
      | inl here ↦
          let parts = and_parts (has_prefix names symbol.name.items)
          (bytes_eq (without_prefix names symbol.name.items) name) here in
          subst (λ ys. is_name ys ≡ true)
          ((bytes_eq-Decides (without_prefix names symbol.name.items) name).0 parts.1)
          (after_prefix all x xs symbol.name.items each full.0 parts.0)
      | inr later ↦ hidden_name all symbols x xs name each full.1 later
    ]

short_with : (symbols : List Symbol) (qualifier name : List ℕ) → list_all is_in_qualifier qualifier ≡ true →
    AllByRecursion (λ (symbol : Symbol). is_full_name symbol.name.items ≡ true) symbols → is_full_name name ≡ true →
    is_written (short_text (names_with symbols (prefix_with qualifier)) name) ≡ true
short_with symbols [] name each all full = full_is_written name full
short_with symbols (x ∷ xs) name each all full =
    let names = names_with symbols (prefix_with (x ∷ xs)) in
    let long = if is_hidden names name then codes "//" ++ name else name in
    elim (cases_Bool (has_prefix names name)) [
      | inl has ↦ ap is_written (cond-true (has_prefix names name) (without_prefix names name) long has)
          ∙ name_written (without_prefix names name) (after_prefix symbols x xs name each full has)
      | inr apart ↦ ap is_written (cond-false (has_prefix names name) (without_prefix names name) long apart)
          ∙ elim (cases_Bool (is_hidden names name)) [
            | inl hidden ↦ ap is_written (cond-true (is_hidden names name) (codes "//" ++ name) name hidden)
                ∙ hidden_name symbols symbols x xs name each all hidden
            | inr seen ↦ ap is_written (cond-false (is_hidden names name) (codes "//" ++ name) name seen) ∙ full_is_written name full
          ]
    ]

short_written : (names : Names) (name : List ℕ) → AreNames names.symbols → IsPrefix names.prefix → is_full_name name ≡ true →
    is_written (short_text names name) ≡ true
short_written names name are prefix full =
    subst (λ ys. is_written (short_text (names_with names.symbols ys) name) ≡ true) (sym prefix.written)
    (short_with names.symbols prefix.qualifier name prefix.each are.each full)

-- ---- atoms

name_there : (names : Names) (count : ℕ) (place : Place) (index : ℕ) → AreNames names.symbols →
    there (named_value place index (slice_get (take count names.symbols) index)) ≡ true → is_full_name (name_at names index) ≡ true
name_there names count place index are is = full_at names.symbols index are.each
    (taken_there count names.symbols index (named_there place index (slice_get (take count names.symbols) index) is))

atom_there : (names : Names) (count : ℕ) (place : Place) (x : Atom) → AreNames names.symbols → IsPrefix names.prefix →
    there (atom_value (take count names.symbols) place x) ≡ true → is_right_atom names x ≡ true
atom_there names count place (Number digits radix) are prefix is = number_there place.base digits.items radix is
atom_there names count place (Name index) are prefix is =
    short_written names (name_at names index) are prefix (name_there names count place index are is)
atom_there names count place (Qualified index) are prefix is = full_text_written (name_at names index) (name_there names count place index are is)
atom_there names count place Here are prefix is = refl
atom_there names count place LocationCounter are prefix is = refl
atom_there names count place OriginCounter are prefix is = refl
atom_there names count place Nothing are prefix is = refl
atom_there names count place (Shifted digits radix shift) are prefix is =
    let parts = shifted_there (number_value place.base digits.items radix) (decimal_number shift.items) is in
    and_from (are_digits 57 digits.items) (are_digits 57 shift.items) (number_there place.base digits.items radix parts.0)
    (decimal_there shift.items parts.1)
atom_there names count place (Symbols digits items) are prefix is =
    if_there (are_codes items.items && is_exact (decimal_number digits.items) (length items.items))
    (pos (number_from_codes 0 items.items)) is

-- ---- terms

times_there : (is_quotient : Bool) (o p : Option ℤ) → there (times is_quotient o p) ≡ true → (there o ≡ true) × (there p ≡ true)
times_there is_quotient None p is = absurd (false≢true is)
times_there is_quotient (Some a) None is = absurd (false≢true is)
times_there is_quotient (Some a) (Some b) is = (refl, refl)

plus_there : (sign : Sign) (o p : Option ℤ) → there (plus sign o p) ≡ true → (there o ≡ true) × (there p ≡ true)
plus_there Plus None p is = absurd (false≢true is)
plus_there Plus (Some a) None is = absurd (false≢true is)
plus_there Plus (Some a) (Some b) is = (refl, refl)
plus_there Minus None p is = absurd (false≢true is)
plus_there Minus (Some a) None is = absurd (false≢true is)
plus_there Minus (Some a) (Some b) is = (refl, refl)
plus_there Differ None p is = absurd (false≢true is)
plus_there Differ (Some a) None is = absurd (false≢true is)
plus_there Differ (Some a) (Some b) is = (refl, refl)

-- If the result of a fold is there, each step has what it needs.
all_there : {X Z : Type 0} (f : Option X → Z → Option X) (ok : Z → Bool) →
    ((o : Option X) (z : Z) → there (f o z) ≡ true → (there o ≡ true) × (ok z ≡ true)) →
    (zs : List Z) (o : Option X) → there (fold f o zs) ≡ true → (there o ≡ true) × (list_all ok zs ≡ true)
all_there f ok step [] o is = (is, refl)
all_there f ok step (z ∷ zs) o is =
    let later = all_there f ok step zs (f o z) is in
    let here = step o z later.0 in
    (here.0, and_from (ok z) (list_all ok zs) here.1 later.1)

term_there : (names : Names) (count : ℕ) (place : Place) (term : Term) → AreNames names.symbols → IsPrefix names.prefix →
    there (product (take count names.symbols) place term) ≡ true → is_right_term names term ≡ true
term_there names count place term are prefix is =
    let parts = all_there (with_factor (take count names.symbols) place) (λ (factor : Factor). is_right_atom names factor.atom)
    (λ o factor have. let both = times_there factor.is_quotient o (atom_value (take count names.symbols) place factor.atom) have in
    (both.0, atom_there names count place factor.atom are prefix both.1))
    term.factors.items (atom_value (take count names.symbols) place term.atom) is in
    and_from (is_right_atom names term.atom)
    (list_all (λ (factor : Factor). is_right_atom names factor.atom) term.factors.items)
    (atom_there names count place term.atom are prefix parts.0) parts.1

pub valued_right : (names : Names) (count : ℕ) (place : Place) (x : Expression) (number : ℤ) → AreNames names.symbols →
    IsPrefix names.prefix → list_all is_plain x.terms.items ≡ true → sum (take count names.symbols) place x ≡ Some number → IsRight names x
valued_right names count place x number are prefix plain e =
    let total = fold (with_term (take count names.symbols) place) (Some (pos 0)) x.terms.items in
    let is : there (sum (take count names.symbols) place x) ≡ true = ap there e in
    elim (cases_Bool (are_signed x.has_sign x.terms.items)) [
      | inl signed ↦
          let have : there total ≡ true =
          sym (ap there (cond-true (are_signed x.has_sign x.terms.items) total None signed)) ∙ is in
          record {
            signed = signed;
            atoms = (all_there (with_term (take count names.symbols) place) (is_right_term names)
                (λ o term now. let both = plus_there term.sign o (product (take count names.symbols) place term) now in
                (both.0, term_there names count place term are prefix both.1)) x.terms.items (Some (pos 0)) have).1;
            plain = plain;
          }
      | inr unsigned ↦ absurd (false≢true
          (sym (ap there (cond-false (are_signed x.has_sign x.terms.items) total None unsigned)) ∙ is))
    ]
