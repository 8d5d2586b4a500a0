-- Single writes to the machine: how they behave, and how the old values undo any list of writes.
use Rattle.std.proofs.Common.{ap, zero, suc, ℕ, ◌≡◌, ◌==◌, true, false, List, [], ◌∷◌, get_or, set, refl, arith}
use Rattle.std.proofs.lemmas.Bool.{and_parts, eqb-true, eqb-false, false≢true, Decides.nat_tests}
use Rattle.std.proofs.lemmas.List.{set-set, set_comm, set-get_or}
use Rattle.pp_machine.proofs.Prelude.{Machine, ProcessorNumbers, over, old_values, number, put, processor, no_processor, Writes}
use Rattle.pp_machine.proofs.Prelude.{same_place, Place, Cell, RegA, RegP, RegQ, Phase, Slot, Commute, eqb-false_sym, store-by}
use Rattle.pp_machine.proofs.Prelude.{undone-by-old-values}

-- ---- one of several processors changed

-- processor n changed
abbrev changed : List ProcessorNumbers → ℕ → (ProcessorNumbers → ProcessorNumbers) → List ProcessorNumbers
changed ps n f = set ps n (f (get_or ps n no_processor))

module _ (f g : ProcessorNumbers → ProcessorNumbers) where
  -- two changes in either order, if those of one processor may be made in either order
  changed-swap : (ps : List ProcessorNumbers) (n k : ℕ) → (n ≡ k → (x : ProcessorNumbers) → g (f x) ≡ f (g x)) →
      changed (changed ps n f) k g ≡ changed (changed ps k g) n f
  changed-swap [] n k e = refl
  changed-swap (x ∷ ps) zero zero e = ap (λ y. y ∷ ps) (e refl x)
  changed-swap (x ∷ ps) (suc n) (suc k) e = grind (arith, changed-swap ps n k (λ same. e (ap suc same)))
  changed-swap _ _ _ e = refl

  -- changes of two processors, in either order
  changed-apart : (ps : List ProcessorNumbers) (n k : ℕ) → (n == k) ≡ false →
      changed (changed ps n f) k g ≡ changed (changed ps k g) n f
  changed-apart ps n k e = changed-swap ps n k (λ same. absurd (eqb-false n k e same))

  -- a change that overwrites the change before it
  changed-again : ((x : ProcessorNumbers) → g (f x) ≡ g x) →
      (ps : List ProcessorNumbers) (n : ℕ) → changed (changed ps n f) n g ≡ changed ps n g
  changed-again e [] n = refl
  changed-again e (x ∷ ps) zero = ap (λ y. y ∷ ps) (e x)
  changed-again e (x ∷ ps) (suc n) = ap (λ t. x ∷ t) (changed-again e ps n)

-- ---- single writes

abbrev with_processors : Machine → List ProcessorNumbers → Machine
with_processors s ps = record s { processors = ps }

-- a write to the processor that has the place
abbrev own_put : Place → ℕ → ProcessorNumbers → ProcessorNumbers
own_put (Cell n a) v x = record x { cells = set x.cells a v }
own_put (RegA n) v x = record x { a = v }
own_put (RegP n) v x = record x { p = v }
own_put (RegQ n) v x = record x { q = v }
own_put (Phase n) v x = record x { phase = v }
own_put _ v x = x

-- the test of places finds only equal ones the same
equal : (x y : Place) → same_place x y ≡ true → x ≡ y
equal Slot Slot e = refl
equal _ Slot e = cc
equal (Cell n a) (Cell k b) e = let both = and_parts (n == k) (a == b) e in search eqb-true
equal _ _ e = search (eqb-true, false≢true)

-- writes to different places, in either order
commute : (x y : Place) → same_place x y ≡ false → Commute put x y
commute Slot Slot e = cc
commute _ Slot e = λ s v w. refl
commute (Cell n a) (Cell k b) e = λ s v w.
    ap (with_processors s) (changed-swap (own_put (Cell n a) v) (own_put (Cell k b) w) s.processors n k
    (λ same x i. record x { cells = set_comm x.cells a b v w (λ equal. grind (arith, nat_tests, e)) i }))
commute x y e = λ s v w.
    search (set_comm, eqb-false, eqb-false_sym, changed-apart (own_put x v) (own_put y w), changed-swap (own_put x v) (own_put y w))

-- of two writes to a place, the second counts
again : (s : Machine) (x : Place) (v w : ℕ) → put (put s x v) x w ≡ put s x w
again s (Cell n a) v w = ap (with_processors s) (changed-again (own_put (Cell n a) v)
    (own_put (Cell n a) w) (λ x i. record x { cells = set-set x.cells a v w i }) s.processors n)
again s x v w = first_of (search (changed-again (own_put x v) (own_put x w)), search set-set)

own-processor : (s : Machine) (n : ℕ) (x : ProcessorNumbers) → x ≡ processor s n → with_processors s (set s.processors n x) ≡ s
own-processor s n x e = rw e (ap (with_processors s) (set-get_or s.processors n no_processor))

-- writing a place's own number changes nothing
own : (s : Machine) (x : Place) → put s x (number s x) ≡ s
own s Slot = refl
own s x = search (own-processor s, set-get_or)

-- the old values undo a list of writes
pub taken_back : (m : Machine) (w : Writes Place) → over (over m w) (old_values m w) ≡ m
taken_back = undone-by-old-values Machine Place number put (store-by number put same_place equal commute again own)
