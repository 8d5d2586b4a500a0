-- A fold, one element on.
use Rattle.std.proofs.Common.{◌≡◌, ◌∙◌, ℕ, suc, ◌+◌, ◌<◌, List, ◌∷◌, length, fold, drop, drop-cons, get_or, map, add-one, ap, sym}

pub fold_on : {A X : Type 0} (f : A → X → A) (a b : A) (xs : List X) (i : ℕ) (x : X) →
    i < length xs → x ≡ get_or xs i x → f a x ≡ b → fold f b (drop (i + 1) xs) ≡ fold f a (drop i xs)
fold_on f a b xs i x within is e =
    rw (add-one i) (sym (ap (fold f a) (drop-cons xs i x within ∙ ap (λ y. y ∷ drop (suc i) xs) (sym is)) ∙ ap
    (λ s. fold f s (drop (suc i) xs)) e))

-- The same of a list that is mapped.
pub fold_map_on : {A X Y : Type 0} (f : A → Y → A) (g : X → Y) (a b : A) (xs : List X) (i : ℕ) (x : X) →
    i < length xs → x ≡ get_or xs i x → f a (g x) ≡ b → fold f b (map g (drop (i + 1) xs)) ≡ fold f a (map g (drop i xs))
fold_map_on f g a b xs i x within is e =
    rw (add-one i) (sym (ap (λ ys. fold f a (map g ys)) (drop-cons xs i x within ∙ ap (λ y. y ∷ drop (suc i) xs) (sym is)) ∙ ap
    (λ s. fold f s (map g (drop (suc i) xs))) e))
