-- Write lists in which no place occurs twice.
use Rattle.std.proofs.Common.{◌≡◌, ◌≢◌, ◌∙◌, ℕ, ◌&&◌, Bool, true, false, if◌then◌else◌, [], ◌∷◌, Some, None, sym, subst}
use Rattle.std.proofs.Common.{arith, Option}
use Rattle.std.specs.List.{All, AllPairs}
use Rattle.std.proofs.lemmas.{Bool.and_parts, Bool.false≢true, List.Elements.All-cons, List.Elements.All-nil}
use Rattle.std.proofs.lemmas.List.Kept.{AllPairs-cons}
use Rattle.pp_machine.specs.Writes.{Writes, lookup_by, places}

abbrev pub is_none : Option ℕ → Bool
is_none None = true
is_none (Some v) = false

not_found : (b : Bool) (v : ℕ) (o : Option ℕ) → is_none (if b then Some v else o) ≡ true → (b ≡ false) × (is_none o ≡ true)
not_found b v o h = grind arith

module _ {P : Type 0} (same : P → P → Bool) where
  -- whether no place occurs twice
  abbrev pub once : Writes P → Bool
  once [] = true
  once (pair ∷ rest) = is_none (lookup_by same rest pair.0) && once rest

  -- no place occurs twice
  pub record IsOnce (ws : Writes P) : Type 0 where
    pub holds : once ws ≡ true

  pub either : (b : Bool) (x y : Writes P) → IsOnce x → IsOnce y → IsOnce (if b then x else y)
  either true x y h k = h
  either false x y h k = k

  module _ (self : (x : P) → same x x ≡ true) where
    apart : (x : P) (ws : Writes P) → is_none (lookup_by same ws x) ≡ true → All (λ y. x ≢ y) (places ws)
    apart x [] h = All-nil (λ y. x ≢ y)
    apart x (pair ∷ rest) h =
        let missed = not_found (same pair.0 x) pair.1 (lookup_by same rest x) h in
        let other : x ≢ pair.0 = λ equal. false≢true (sym missed.0 ∙ subst (λ y. same y x ≡ true) equal (self x)) in
        All-cons (λ y. x ≢ y) pair.0 (places rest) other (apart x rest missed.1)

    pub each-once : (ws : Writes P) → once ws ≡ true → AllPairs (λ one other. one ≢ other) (places ws)
    each-once [] h = λ i j d lt within. absurd (omega (arith, within))
    each-once (pair ∷ rest) h = let parts = and_parts (is_none (lookup_by same rest pair.0)) (once rest) h in
        AllPairs-cons (λ one other. one ≢ other) pair.0 (places rest) (apart pair.0 rest parts.0) (each-once rest parts.1)
