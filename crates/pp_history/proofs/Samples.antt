-- Samples of a machine before each of many steps.
use Rattle.pp_history.proofs.Names.{◌≡◌, ◌∙◌, ℕ, zero, suc, ◌+◌, ◌<◌, List, [], ◌∷◌, ◌++◌, Ghosts, ap, append_assoc, arith, length}
use Rattle.pp_history.proofs.Names.{machine_after, refl, set, sym, take}
use Rattle.pp_history.specs.Sampling.{samples}
use Rattle.std.proofs.lemmas.List.{take_more_set}

module _ {A R P M H X : Type 0} (rules : Ghosts M A R P H) (action : A) (sample_of : M → X) where
  abbrev step : M → M
  step s = rules.after_act s action

  abbrev pub taken_before : ℕ → M → List X
  taken_before = samples step sample_of

  -- the first of some steps is as good as the last
  step_first : (count : ℕ) (s : M) → machine_after rules count action (step s) ≡ step (machine_after rules count action s)
  step_first zero s = refl
  step_first (suc count) s = ap step (step_first count s)

  -- more steps behind others
  pub samples_add : (count more : ℕ) (s : M) →
      taken_before (count + more) s ≡ taken_before count s ++ taken_before more (machine_after rules count action s)
  unfolding samples
  samples_add zero more s = let none : zero + more ≡ more = omega arith in rw none refl
  samples_add (suc count) more s =
      let next : suc count + more ≡ suc (count + more) = omega arith in
      rw (next, samples_add count more (step s), step_first count s) refl

  -- once more
  pub sampled_more : (count first : ℕ) (s machine : M) (taken taken' : List X) →
      take (first + count) taken' ≡ take first taken ++ taken_before count s → machine ≡ machine_after rules count action s →
      first + count < length taken' → take (first + (count + 1)) (set taken' (first + count) (sample_of machine))
      ≡ take first taken ++ taken_before (count + 1) s
  unfolding samples
  sampled_more count first s machine taken taken' was is within =
      let next : first + (count + 1) ≡ first + count + 1 = omega arith in
      rw (next, samples_add count 1 s) (take_more_set taken' (first + count) (sample_of machine) within
      ∙ ap (λ samples. samples ++ sample_of machine ∷ []) was
      ∙ append_assoc (take first taken) (taken_before count s) (sample_of machine ∷ [])
      ∙ ap (λ s'. take first taken ++ (taken_before count s ++ sample_of s' ∷ [])) is)
