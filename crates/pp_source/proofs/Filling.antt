-- Texts, and what fills them.
use Rattle.std.proofs.Common.{◌≡◌, ℕ, zero, suc, ◌+◌, ◌-◌, ◌*◌, ◌<◌, ◌≤◌, ◌^◌, Bool, true, false, List, [], ◌∷◌, ◌++◌, None, pos, ap, arith, drop, get_or, if◌then◌else◌, length, length-append, map, min, refl, replicate, take}
use Rattle.std.proofs.lemmas.List.{drop-drop, drop_min, length-map, length-replicate, take-take}
use Rattle.std.proofs.lemmas.List.Sums.{fold_more}
use Rattle.pp_notation.specs.Digits.{number_of_codes, with_code}
use Rattle.pp_source.specs.Numbers.{kept}
use Rattle.pp_source.specs.Texts.{code_or_blank, codes_of, fill, filled, is_at_end}
use Rattle.pp_source.proofs.Digits.{grows_on, more_digits}
use Rattle.pp_source.proofs.Kept.{is_not_kept}

-- What fills a text behind it.
pub is_same : (n i a : ℕ) → get_or (replicate n a) i a ≡ a
is_same zero i a = refl
is_same (suc n) zero a = refl
is_same (suc n) (suc i) a = is_same n i a

pub behind : (items : List ℕ) (n i a : ℕ) → get_or (items ++ replicate n a) i a ≡ get_or items i a
behind [] n i a = is_same n i a
behind (x ∷ items) n zero a = refl
behind (x ∷ items) n (suc i) a = behind items n i a

-- What fills it before it.
pub before : (n i a d : ℕ) (items : List ℕ) → i < n → get_or (replicate n a ++ items) i d ≡ a
before zero i a d items within = absurd (omega arith)
before (suc n) zero a d items within = refl
before (suc n) (suc i) a d items within = before n i a d items (omega arith)

pub after : (n i a d : ℕ) (items : List ℕ) → n ≤ i → get_or (replicate n a ++ items) i d ≡ get_or items (i - n) d
after zero i a d items within = let e : i - 0 ≡ i = omega arith in rw e refl
after (suc n) zero a d items within = absurd (omega arith)
after (suc n) (suc i) a d items within =
    let e : suc i - suc n ≡ i - n = omega arith in
    rw e (after n i a d items (omega arith))

pub is_given : (n i a d : ℕ) → i < n → get_or (replicate n a) i d ≡ a
is_given zero i a d within = absurd (omega arith)
is_given (suc n) zero a d within = refl
is_given (suc n) (suc i) a d within = is_given n i a d (omega arith)

-- Symbols, and the blanks behind them.
pub own : (f : ℕ → ℕ) (symbols : List ℕ) (n i a d : ℕ) → i < length symbols →
    get_or (map f symbols ++ replicate n a) i d ≡ f (get_or symbols i 0)
own f [] n i a d within = absurd (omega arith)
own f (x ∷ symbols) n zero a d within = refl
own f (x ∷ symbols) n (suc i) a d within = own f symbols n i a d (omega arith)

pub lost : (f : ℕ → ℕ) (symbols : List ℕ) (n i a d : ℕ) → length symbols ≤ i → i < length symbols + n →
    get_or (map f symbols ++ replicate n a) i d ≡ a
lost f [] n i a d far within = is_given n i a d (omega arith)
lost f (x ∷ symbols) n zero a d far within = absurd (omega arith)
lost f (x ∷ symbols) n (suc i) a d far within = lost f symbols n i a d (omega arith) (omega arith)

pub beyond : (f : ℕ → ℕ) (symbols : List ℕ) (n i a d : ℕ) → length symbols ≤ i → length symbols + n ≤ i →
    get_or (map f symbols ++ replicate n a) i d ≡ d
beyond f [] zero i a d far end = refl
beyond f [] (suc n) zero a d far end = absurd (omega arith)
beyond f [] (suc n) (suc i) a d far end = beyond f [] n i a d (omega arith) (omega arith)
beyond f (x ∷ symbols) n zero a d far end = absurd (omega arith)
beyond f (x ∷ symbols) n (suc i) a d far end = beyond f symbols n i a d (omega arith) (omega arith)

-- What is behind so many symbols that begin at a column.
pub from_column : (line : List ℕ) (first size : ℕ) → drop (min (first + size) (length line)) line ≡ drop size (drop first line)
from_column line first size = rw (drop_min, drop-drop) refl

-- A filled text has its size at least.
either : (b : Bool) (more items : List ℕ) → length (if b then more ++ items else items ++ more) ≡ length more + length items
either true more items = length-append more items
either false more items = omega (arith, length-append items more)

pub is_long : (size kind count : ℕ) (symbols : List ℕ) → size ≤ length (filled size kind count symbols)
is_long size kind count symbols =
    let all = either (is_at_end kind) (replicate (size - count) (fill kind)) (codes_of symbols count) in
    let own = length-append (map code_or_blank symbols) (replicate (count - length symbols) 0o55) in
    omega (arith, all, own, length-map symbols code_or_blank, length-replicate (size - count) (fill kind), length-replicate {A = ℕ} (count - length symbols) 0o55)

-- Codes that make too great a number do so with others behind them.
pub are_too_many : (items : List ℕ) (size i number d : ℕ) → i < size → i < length items → number ≡ number_of_codes (take i items) →
    2 ^ 63 ≤ number * 0o100 + get_or items i d → kept (pos (number_of_codes (take size items))) ≡ None
are_too_many items size i number d early within read great =
    let one = fold_more with_code 0 items i d within in
    let some : take (i + 1) (take size items) ≡ take (i + 1) items = take-take (i + 1) size items (omega arith) in
    let rest = grows_on with_code (λ n x. more_digits 0o100 n x (omega arith)) 0 (take size items) (i + 1) in
    let same : number_of_codes (take (i + 1) (take size items)) ≡ number_of_codes (take (i + 1) items) = ap number_of_codes some in
    is_not_kept (pos (number_of_codes (take size items))) (omega (arith, one, rest, same))

-- What is at an index of a text that is filled before it, or behind.
pub at_behind : (b : Bool) (n i a : ℕ) (items : List ℕ) → b ≡ false →
    get_or (if b then replicate n a ++ items else items ++ replicate n a) i a ≡ get_or items i a
at_behind b n i a items e = rw e (behind items n i a)

pub at_before : (b : Bool) (n i a : ℕ) (items : List ℕ) → b ≡ true → i < n →
    get_or (if b then replicate n a ++ items else items ++ replicate n a) i a ≡ a
at_before b n i a items e within = rw e (before n i a a items within)

pub at_after : (b : Bool) (n i a : ℕ) (items : List ℕ) → b ≡ true → n ≤ i →
    get_or (if b then replicate n a ++ items else items ++ replicate n a) i a ≡ get_or items (i - n) a
at_after b n i a items e within = rw e (after n i a a items within)
