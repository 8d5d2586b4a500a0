-- Texts that are written piece by piece.
use Rattle.std.proofs.Common.{◌∙◌, ℕ, List, [], ◌++◌, refl, ap, Result, Ok, Err}
use Rattle.pp_console.proofs.Prelude.{Ghosts, Puts, Appends-again, front_longer}
use Rattle.pp_lines.proofs.Writing.{Appends-nothing, front_after}
use Rattle.pp_lines.specs.Device.{one_more}

module _ {W T E U F : Type 0} {sink : Ghosts W} {first second : W} where
  -- a text, and then another one or a prefix of it
  pub Puts-after : {third : W} {value : U} {text more : List ℕ} (result : Result T E) →
      Puts {E = F} sink first second (Ok value) text → Puts sink second third result more →
      Puts sink first third result (text ++ more)
  Puts-after {text = text} {more = more} (Ok value) p q =
      record { text = Appends-again _ (sink.text second) _ text more p.text q.text; counts = q.counts ∙ p.counts }
  Puts-after {text = text} {more = more} (Err fault) p q =
      record { text = front_after _ (sink.text second) _ text more p.text q.text; counts = q.counts ∙ ap one_more p.counts }

  -- the sink failed, and more text would have followed
  pub Puts-longer : {fault : E} {other : F} {text : List ℕ} (more : List ℕ) →
      Puts {T = T} sink first second (Err fault) text → Puts {T = U} sink first second (Err other) (text ++ more)
  Puts-longer {text = text} more p = record { text = front_longer _ _ text more p.text; counts = p.counts }

-- nothing is written
pub Puts-nothing : {W T E : Type 0} {sink : Ghosts W} {now : W} {value : T} → Puts {E = E} sink now now (Ok value) []
Puts-nothing = record { text = Appends-nothing _; counts = refl }
