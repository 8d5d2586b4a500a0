-- Texts that are gathered in pieces.
use Rattle.std.proofs.Common.{◌≡◌, ◌∙◌, ℕ, List, [], ◌++◌, refl, ap, sym, append_assoc, append-nil, Result, Ok, Err}
use Rattle.pp_console.proofs.{Prelude.Ghosts, Prelude.Puts, Shown.Puts-after, Shown.Puts-longer, Shown.Puts-nothing}
use Rattle.pp_console.specs.Inner.Gathering.{Gathers}
use Rattle.pp_lines.specs.declared.device.Failed.{Failed}

module _ {W : Type 0} (sink : Ghosts W) where
  -- what is left is all that the whole text still lacks
  abbrev pub CompletesPiece : W → W → List ℕ → List ℕ → List ℕ → List ℕ → Type 0
  CompletesPiece old now first piece whole left = (later : W) (last : List ℕ) (result : Result (Unit {0}) Failed) →
      Gathers sink now later piece last result left → Gathers sink old later first last result whole

-- a text after a first part and the rest
all-after : (old text sent rest more : List ℕ) → old ++ text ≡ sent ++ rest → old ++ (text ++ more) ≡ sent ++ (rest ++ more)
all-after old text sent rest more e = sym (append_assoc old text more) ∙ ap (λ front. front ++ more) e ∙ append_assoc sent rest more

module _ {W T E U F : Type 0} {sink : Ghosts W} {first second : W} {old new text : List ℕ} where
  -- a text, and then another one
  pub Gathers-after : {third : W} {last : List ℕ} {value : U} {more : List ℕ} (result : Result T E) →
      Gathers {E = F} sink first second old new (Ok value) text → Gathers sink second third new last result more →
      Gathers sink first third old last result (text ++ more)
  Gathers-after {more = more} result p q = record {
    sent = p.sent ++ q.sent;
    rest = q.rest;
    puts = Puts-after result p.puts q.puts;
    all = all-after old text p.sent p.rest more p.all
        ∙ ap (λ rest. p.sent ++ rest) (ap (λ piece. piece ++ more) (sym p.piece) ∙ q.all) ∙ sym (append_assoc p.sent q.sent q.rest);
    piece = q.piece;
  }

  -- the sink failed, and more text would have followed
  pub Gathers-longer : {fault : E} {other : F} (more : List ℕ) → Gathers {T = T} sink first second old new (Err fault) text →
      Gathers {T = U} sink first second old new (Err other) (text ++ more)
  Gathers-longer more p = record {
    sent = p.sent;
    rest = p.rest ++ more;
    puts = record { text = p.puts.text; counts = p.puts.counts };
    all = all-after old text p.sent p.rest more p.all;
    piece = tt;
  }

  -- a text was gathered, and then the piece was written
  pub Puts-piece : {third : W} {value : U} (result : Result T E) → Gathers {E = F} sink first second old new (Ok value) text →
      Puts sink second third result new → Puts sink first third result (old ++ text)
  Puts-piece result p q = rw p.all (Puts-after result p.puts (rw p.piece at q))

  -- the sink failed while a text was gathered
  pub Puts-failed : {fault : E} {other : F} → Gathers {T = T} sink first second old new (Err fault) text →
      Puts {T = U} sink first second (Err other) (old ++ text)
  Puts-failed p = rw p.all (Puts-longer p.rest p.puts)

-- nothing is gathered
pub Gathers-nothing : {W T E : Type 0} {sink : Ghosts W} {now : W} {value : T} {old : List ℕ} →
    Gathers {E = E} sink now now old old (Ok value) []
Gathers-nothing {old = old} = record { sent = []; rest = old; puts = Puts-nothing; all = append-nil old; piece = refl }
