-- The texts of lines of a source.
use Rattle.std.proofs.Common.{◌≡◌, ◌∙◌, ◌≤◌, ℕ, ◌-◌, Bool, true, false, List, [], ◌∷◌, ◌++◌, if◌then◌else◌, map, length, get_or, take, drop, refl, ap, sym, arith}
use Rattle.std.specs.List.{flat_map}
use Rattle.std.proofs.lemmas.List.{drop-map, take-map}
use Rattle.std.proofs.lemmas.Grind.{common_steps}
use Rattle.pp_notation.specs.Columns.{between}
use Rattle.pp_decks.specs.Cuts.{continued, first_part, joined, read_text}
use Rattle.pp_decks.specs.Places.{text_in}
use Rattle.pp_decks.specs.declared.spans.Span.{Span}

pub flat_map_of_map : {X Y Z : Type 0} (f : Y → List Z) (g : X → Y) (xs : List X) → flat_map f (map g xs) ≡ flat_map (λ x. f (g x)) xs
flat_map_of_map f g [] = refl
flat_map_of_map f g (x ∷ xs) = ap (λ ys. f (g x) ++ ys) (flat_map_of_map f g xs)

length_of_map : {X Y : Type 0} (g : X → Y) (xs : List X) → length (map g xs) ≡ length xs
length_of_map g xs = grind (arith, common_steps)

if_of_map : {X Y : Type 0} (g : X → Y) (b : Bool) (xs : List X) → (if b then map g xs else []) ≡ map g (if b then xs else [])
if_of_map g true xs = refl
if_of_map g false xs = refl

pub between_of_map : {X Y : Type 0} (g : X → Y) (xs : List X) (first end : ℕ) →
    between (map g xs) first end ≡ map g (between xs first end)
between_of_map g xs first end =
    rw (length_of_map g xs, drop-map g first xs, take-map g (end - first) (drop first xs)) (if_of_map g _ (take (end - first) (drop first xs)))

take_all : {X : Type 0} (xs : List X) (at : ℕ) → length xs ≤ at → take at xs ≡ xs
take_all xs at end = grind (arith, common_steps)

pub flat_map_of_all : {X Z : Type 0} (f : X → List Z) (xs : List X) (at : ℕ) → length xs ≤ at → flat_map f (take at xs) ≡ flat_map f xs
flat_map_of_all f xs at end = ap (flat_map f) (take_all xs at end)

-- the text of a line with others that continue it
abbrev none : Span
none = record { first = 0; end = 0 }

of_two : (number : ℕ) (source : List ℕ) (spans : List Span) (text line : List ℕ) → 2 ≤ length spans →
    text ≡ text_in source (get_or spans 0 none) → line ≡ read_text number text → joined number (map (text_in source) spans)
    ≡ first_part line ++ flat_map (λ span. continued (text_in source span)) (drop 1 spans)
of_two number source [] text line some first is = grind (arith, some)
of_two number source (span ∷ []) text line some first is = grind (arith, some)
of_two number source (span ∷ (other ∷ spans)) text line some first is =
    rw (is, first) (ap (λ more. first_part (read_text number (text_in source span)) ++ (continued (text_in source other) ++ more))
    (flat_map_of_map continued (text_in source) spans))

rest_of : (spans : List Span) → take (length spans - 1) (drop 1 spans) ≡ drop 1 spans
rest_of spans = take_all (drop 1 spans) (length spans - 1) (grind (arith, common_steps))

pub joined_of_two : (number : ℕ) (source : List ℕ) (spans : List Span) (text line : List ℕ) → 2 ≤ length spans →
    text ≡ text_in source (get_or spans 0 none) → line ≡ read_text number text → joined number (map (text_in source) spans)
    ≡ first_part line ++ flat_map (λ span. continued (text_in source span)) (take (length spans - 1) (drop 1 spans))
joined_of_two number source spans text line some first is =
    of_two number source spans text line some first is
    ∙ ap (λ others. first_part line ++ flat_map (λ span. continued (text_in source span)) others) (sym (rest_of spans))

-- the text of a part of the lines
pub joined_between : (source : List ℕ) (spans own : List Span) (number first end : ℕ) (made text : List ℕ) → text ≡ made →
    made ≡ joined number (map (text_in source) own) → own ≡ between spans first end →
    text ≡ joined number (between (map (text_in source) spans) first end)
joined_between source spans own number first end made text same joined_is own_is =
    same ∙ joined_is ∙ ap (λ some. joined number (map (text_in source) some)) own_is
    ∙ ap (joined number) (sym (between_of_map (text_in source) spans first end))
