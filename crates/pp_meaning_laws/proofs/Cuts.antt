-- Terms are read from their text in one way.
use Rattle.std.proofs.Common.{◌≡◌, ◌∙◌, ℕ, ◌&&◌, not, Bool, true, false, List, [], ◌∷◌, ◌++◌, ap, append_assoc, codes, drop}
use Rattle.std.proofs.Common.{if◌then◌else◌, map, refl, sym}
use Rattle.std.proofs.lemmas.Bool.{and_parts, false≢true, not-true}
use Rattle.std.proofs.lemmas.List.{append_cancel_left}
use Rattle.std.specs.List.{flat_map, list_all}
use Rattle.pp_meaning.specs.Expressions.{are_signed, is_plus}
use Rattle.pp_meaning.specs.Lines.{atom_text, factor_text, letter, sign_text, sum_text, term_text}
use Rattle.pp_meaning.specs.Qualifiers.{Names}
use Rattle.pp_notation.specs.DisplayCode.{symbol}
use Rattle.pp_meaning.specs.declared.expressions.Atom.{Atom}
use Rattle.pp_meaning.specs.declared.expressions.Atom.TheVariants.{Number, Name, Qualified, Here, LocationCounter}
use Rattle.pp_meaning.specs.declared.expressions.Atom.TheVariants.{OriginCounter, Nothing, Symbols, Shifted}
use Rattle.pp_meaning.specs.declared.expressions.Expression.{Expression}
use Rattle.pp_meaning.specs.declared.expressions.Factor.{Factor}
use Rattle.pp_meaning.specs.declared.expressions.Sign.{Sign}
use Rattle.pp_meaning.specs.declared.expressions.Sign.TheVariants.{Plus, Minus, Differ}
use Rattle.pp_meaning.specs.declared.expressions.Term.{Term}
use Rattle.pp_meaning_laws.specs.Cuts.{SeenAtom, Digits, Written, Star, StarL, StarO, StarStar, ShiftedDigits, Codes, seen_atom}
use Rattle.pp_meaning_laws.specs.Cuts.{IsRight, are_plain, cut_of, is_nothing, is_plain, is_right_atom, is_right_term, seen_factor}
use Rattle.pp_meaning_laws.specs.Cuts.{seen_term}
use Rattle.pp_meaning_laws.proofs.Readings.{Rest, Stop, Signed, Factored, Fits, atom_at, atom_begin, atom_read, is_end, rest_at}
use Rattle.pp_meaning_laws.proofs.Readings.{rest_back, rest_same, rest_text}

-- ---- the atoms of terms

-- An atom and its factors are right, and none but the last is **.
abbrev are_right : Names → Atom → List Factor → Bool
are_right names atom [] = is_right_atom names atom
are_right names atom (factor ∷ factors) =
    is_right_atom names atom && not (is_nothing atom) && are_right names factor.atom factors

abbrev are_right_terms : Names → List Term → Bool
are_right_terms names [] = true
are_right_terms names (term ∷ terms) = are_right names term.atom term.factors.items && are_right_terms names terms

right_from : (names : Names) (x : Atom) (factors : List Factor) → is_right_atom names x ≡ true →
    list_all (λ (factor : Factor). is_right_atom names factor.atom) factors ≡ true → are_plain x factors ≡ true →
    are_right names x factors ≡ true
right_from names x [] right all plain = right
right_from names x (factor ∷ factors) right all plain =
    let parts = and_parts (is_right_atom names factor.atom)
    (list_all (λ (factor : Factor). is_right_atom names factor.atom) factors) all in
    let also = and_parts (not (is_nothing x)) (are_plain factor.atom factors) plain in
    rw (right, also.0) (right_from names factor.atom factors parts.0 parts.1 also.1)

terms_right : (names : Names) (terms : List Term) → list_all (is_right_term names) terms ≡ true → list_all is_plain terms ≡ true →
    are_right_terms names terms ≡ true
terms_right names [] all plain = refl
terms_right names (term ∷ terms) all plain =
    let parts = and_parts (is_right_term names term) (list_all (is_right_term names) terms) all in
    let atoms = and_parts (is_right_atom names term.atom)
    (list_all (λ (factor : Factor). is_right_atom names factor.atom) term.factors.items) parts.0 in
    let also = and_parts (is_plain term) (list_all is_plain terms) plain in
    rw (right_from names term.atom term.factors.items atoms.0 atoms.1 also.0) (terms_right names terms parts.1 also.1)

-- ---- what is behind an atom

-- An atom with its factors, and the terms behind it.
abbrev chain : Names → Atom → List Factor → List Term → List ℕ
chain names x factors terms =
    (atom_text names x ++ flat_map (factor_text names) factors) ++ flat_map (term_text names) terms

abbrev rest_of : Names → List Factor → List Term → Rest
rest_of names [] [] = Stop
rest_of names [] (term ∷ terms) = Signed term.sign (chain names term.atom term.factors.items terms)
rest_of names (factor ∷ factors) terms = Factored factor.is_quotient (chain names factor.atom factors terms)

signed_text : (sign : Sign) (a b c : List ℕ) → ((sign_text sign ++ a) ++ b) ++ c ≡ rest_text (Signed sign ((a ++ b) ++ c))
signed_text Plus a b c = refl
signed_text Minus a b c = refl
signed_text Differ a b c = refl

factored_text : (is_quotient : Bool) (a b c : List ℕ) →
    (((if is_quotient then codes "/" else codes "*") ++ a) ++ b) ++ c ≡ rest_text (Factored is_quotient ((a ++ b) ++ c))
factored_text true a b c = refl
factored_text false a b c = refl

rest_is : (names : Names) (factors : List Factor) (terms : List Term) →
    flat_map (factor_text names) factors ++ flat_map (term_text names) terms ≡ rest_text (rest_of names factors terms)
rest_is names [] [] = refl
rest_is names [] (term ∷ terms) = signed_text term.sign (atom_text names term.atom)
    (flat_map (factor_text names) term.factors.items) (flat_map (term_text names) terms)
rest_is names (factor ∷ factors) terms = factored_text factor.is_quotient (atom_text names factor.atom)
    (flat_map (factor_text names) factors) (flat_map (term_text names) terms)

chain_is : (names : Names) (x : Atom) (factors : List Factor) (terms : List Term) →
    chain names x factors terms ≡ atom_text names x ++ rest_text (rest_of names factors terms)
chain_is names x factors terms =
    append_assoc (atom_text names x) (flat_map (factor_text names) factors) (flat_map (term_text names) terms)
    ∙ ap (λ r. atom_text names x ++ r) (rest_is names factors terms)

first_right : (names : Names) (x : Atom) (factors : List Factor) → are_right names x factors ≡ true → is_right_atom names x ≡ true
first_right names x [] right = right
first_right names x (factor ∷ factors) right = (and_parts (is_right_atom names x) (not (is_nothing x))
    (and_parts (is_right_atom names x && not (is_nothing x)) (are_right names factor.atom factors) right).0).0

chain_begins : (names : Names) (x : Atom) (factors : List Factor) (terms : List Term) → are_right names x factors ≡ true →
    is_end (chain names x factors terms) ≡ false
chain_begins names x factors terms right = ap is_end (chain_is names x factors terms)
    ∙ atom_begin names x (rest_text (rest_of names factors terms)) (first_right names x factors right)

rest_fits : (names : Names) (x : Atom) (factors : List Factor) (terms : List Term) → are_right names x factors ≡ true →
    Fits (rest_of names factors terms) x
rest_fits names x [] [] right = tt
rest_fits names x [] (term ∷ terms) right = tt
rest_fits names x (factor ∷ factors) terms right =
    let parts = and_parts (is_right_atom names x && not (is_nothing x)) (are_right names factor.atom factors) right in (
      not-true (is_nothing x) (and_parts (is_right_atom names x) (not (is_nothing x)) parts.0).1,
      chain_begins names factor.atom factors terms parts.1,
    )

chain_read : (names : Names) (x : Atom) (factors : List Factor) (terms : List Term) → are_right names x factors ≡ true →
    atom_at (chain names x factors terms) ≡ seen_atom names x
chain_read names x factors terms right = ap atom_at (chain_is names x factors terms)
    ∙ atom_read names x (rest_of names factors terms) (first_right names x factors right) (rest_fits names x factors terms right)

-- ---- the text of what is seen

abbrev text_of : SeenAtom → List ℕ
text_of (Digits digits radix) = digits ++ letter radix
text_of (Written name) = name
text_of Star = codes "*"
text_of StarL = codes "*L"
text_of StarO = codes "*O"
text_of StarStar = codes "**"
text_of (ShiftedDigits digits radix shift) = digits ++ letter radix ++ codes "S" ++ shift
text_of (Codes digits items) = digits ++ codes "R" ++ map symbol items

text_back : (names : Names) (x : Atom) → text_of (seen_atom names x) ≡ atom_text names x
text_back names (Number digits radix) = refl
text_back names (Name index) = refl
text_back names (Qualified index) = refl
text_back names Here = refl
text_back names LocationCounter = refl
text_back names OriginCounter = refl
text_back names Nothing = refl
text_back names (Shifted digits radix shift) = refl
text_back names (Symbols digits items) = refl

-- ---- two readings

atom_same : (names : Names) (x y : Atom) (factors others : List Factor) (terms more : List Term) →
    are_right names x factors ≡ true → are_right names y others ≡ true →
    chain names x factors terms ≡ chain names y others more →
    (seen_atom names x ≡ seen_atom names y) × (rest_of names factors terms ≡ rest_of names others more)
atom_same names x y factors others terms more right also e =
    let seen : seen_atom names x ≡ seen_atom names y =
    sym (chain_read names x factors terms right) ∙ ap atom_at e ∙ chain_read names y others more also in
    let text : atom_text names x ≡ atom_text names y =
    sym (text_back names x) ∙ ap text_of seen ∙ text_back names y in
    let r = rest_text (rest_of names factors terms) in
    let s = rest_text (rest_of names others more) in
    let whole : atom_text names y ++ r ≡ atom_text names y ++ s =
    sym (ap (λ a. a ++ r) text) ∙ (sym (chain_is names x factors terms) ∙ e ∙ chain_is names y others more) in
    (seen, rest_same (rest_of names factors terms) (rest_of names others more) (append_cancel_left (atom_text names y) r s whole))

factors_same : (names : Names) (x y : Atom) (factors others : List Factor) (terms more : List Term) →
    are_right names x factors ≡ true → are_right names y others ≡ true →
    rest_of names factors terms ≡ rest_of names others more →
    (map (seen_factor names) factors ≡ map (seen_factor names) others) × (rest_of names [] terms ≡ rest_of names [] more)
factors_same names x y [] [] terms more right also e = (refl, e)
factors_same names x y [] (g ∷ others) [] more right also e = absurd cc
factors_same names x y [] (g ∷ others) (term ∷ terms) more right also e = absurd cc
factors_same names x y (f ∷ factors) [] terms [] right also e = absurd cc
factors_same names x y (f ∷ factors) [] terms (term ∷ more) right also e = absurd cc
factors_same names x y (f ∷ factors) (g ∷ others) terms more right also e =
    let quotient : f.is_quotient ≡ g.is_quotient = cc in
    let text : chain names f.atom factors terms ≡ chain names g.atom others more = cc in
    let first = (and_parts (is_right_atom names x && not (is_nothing x)) (are_right names f.atom factors) right).1 in
    let other = (and_parts (is_right_atom names y && not (is_nothing y)) (are_right names g.atom others) also).1 in
    let here = atom_same names f.atom g.atom factors others terms more first other text in
    let later = factors_same names f.atom g.atom factors others terms more first other here.1 in
    (rw (quotient, here.0, later.0) refl, later.1)

terms_same : (names : Names) (terms more : List Term) → are_right_terms names terms ≡ true → are_right_terms names more ≡ true →
    rest_of names [] terms ≡ rest_of names [] more → map (seen_term names) terms ≡ map (seen_term names) more
terms_same names [] [] right also e = refl
terms_same names [] (u ∷ more) right also e = absurd cc
terms_same names (t ∷ terms) [] right also e = absurd cc
terms_same names (t ∷ terms) (u ∷ more) right also e =
    let sign : t.sign ≡ u.sign = cc in
    let text : chain names t.atom t.factors.items terms ≡ chain names u.atom u.factors.items more = cc in
    let first = and_parts (are_right names t.atom t.factors.items) (are_right_terms names terms) right in
    let other = and_parts (are_right names u.atom u.factors.items) (are_right_terms names more) also in
    let here = atom_same names t.atom u.atom t.factors.items u.factors.items terms more first.0 other.0 text in
    let later = factors_same names t.atom u.atom t.factors.items u.factors.items terms more first.0 other.0 here.1 in
    let rest = terms_same names terms more first.1 other.1 later.1 in
    rw (sign, here.0, later.0, rest) refl

-- ---- the first sign

abbrev written : Names → Bool → List Term → List ℕ
written names has_sign terms = drop (if has_sign then 0 else 1) (flat_map (term_text names) terms)

signed_end : (sign : Sign) (bytes : List ℕ) → is_end (rest_text (Signed sign bytes)) ≡ true
signed_end Plus bytes = refl
signed_end Minus bytes = refl
signed_end Differ bytes = refl

dropped : (sign : Sign) (a b c : List ℕ) → is_plus sign ≡ true →
    Signed sign ((a ++ b) ++ c) ≡ Signed Plus (drop 1 (((sign_text sign ++ a) ++ b) ++ c))
dropped Plus a b c is = refl
dropped Minus a b c is = absurd (false≢true is)
dropped Differ a b c is = absurd (false≢true is)

-- The terms with the first sign, from those without.
abbrev with_sign : Bool → List ℕ → Rest
with_sign true bytes = rest_at bytes
with_sign false bytes = Signed Plus bytes

signed_is : (names : Names) (has_sign : Bool) (terms : List Term) → are_signed has_sign terms ≡ true →
    rest_of names [] terms ≡ with_sign has_sign (written names has_sign terms)
signed_is names true terms signed = sym (rest_back (rest_of names [] terms)) ∙ ap rest_at (sym (rest_is names [] terms))
signed_is names false [] signed = absurd (false≢true signed)
signed_is names false (term ∷ terms) signed = dropped term.sign (atom_text names term.atom)
    (flat_map (factor_text names) term.factors.items) (flat_map (term_text names) terms) signed

sign_seen : (names : Names) (has_sign : Bool) (terms : List Term) → are_signed has_sign terms ≡ true →
    are_right_terms names terms ≡ true → is_end (written names has_sign terms) ≡ has_sign
sign_seen names has_sign [] signed right = absurd (false≢true signed)
sign_seen names true (term ∷ terms) signed right = ap is_end (rest_is names [] (term ∷ terms))
    ∙ signed_end term.sign (chain names term.atom term.factors.items terms)
sign_seen names false (term ∷ terms) signed right =
    let e : Signed term.sign (chain names term.atom term.factors.items terms) ≡ Signed Plus (written names false (term ∷ terms)) =
    signed_is names false (term ∷ terms) signed in
    let text : written names false (term ∷ terms) ≡ chain names term.atom term.factors.items terms = cc in
    ap is_end text ∙ chain_begins names term.atom term.factors.items terms
    (and_parts (are_right names term.atom term.factors.items) (are_right_terms names terms) right).0

pub cut_once : (names : Names) (x y : Expression) → IsRight names x → IsRight names y → sum_text names x ≡ sum_text names y →
    (x.has_sign ≡ y.has_sign) × (cut_of names x ≡ cut_of names y)
cut_once names x y right also e =
    let xs = x.terms.items in
    let ys = y.terms.items in
    let all = terms_right names xs right.atoms right.plain in
    let others = terms_right names ys also.atoms also.plain in
    let sign : x.has_sign ≡ y.has_sign =
    sym (sign_seen names x.has_sign xs right.signed all) ∙ ap is_end e
    ∙ sign_seen names y.has_sign ys also.signed others in
    let first = signed_is names x.has_sign xs right.signed in
    let other = signed_is names y.has_sign ys also.signed in
    let rest : rest_of names [] xs ≡ rest_of names [] ys = first
    ∙ ap (λ b. with_sign b (written names x.has_sign xs)) sign
    ∙ ap (with_sign y.has_sign) e ∙ sym other in
    (sign, terms_same names xs ys all others rest)
