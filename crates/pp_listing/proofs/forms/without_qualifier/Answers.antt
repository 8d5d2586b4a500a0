use Rattle.std.proofs.Common.{◌≡◌, ◌∙◌, ◌==◌, ◌-◌, List, [], ◌∷◌, ℕ, ap, arith, drop}
use Rattle.std.proofs.Common.{false, length, refl, sym, take, take_all, true}
use Rattle.std.specs.List.{list_any}
use Rattle.pp_listing.specs.Texts.{unqualified}
use Rattle.pp_listing.proofs.forms.without_qualifier.Goals as goal

shorter : (name : List ℕ) → list_any (λ one. one == 47) name ≡ true →
    unqualified (take (length name - 1) (drop 1 name)) ≡ unqualified name
unfolding unqualified
shorter [] h = refl
shorter (symbol ∷ name) h = rw h (ap unqualified (take_all (length (symbol ∷ name) - 1) name (omega arith)))

whole : (name : List ℕ) → list_any (λ one. one == 47) name ≡ false → unqualified name ≡ name
unfolding unqualified
whole [] h = refl
whole (symbol ∷ name) h = rw h refl

pub loop-name-preserved : goal.loop-name-preserved
loop-name-preserved c = shorter c.loop-name.name.now (sym c.contains.ensures.value ∙ c.loop-name-test.true) ∙ c.loop-name.invariant

pub returns : goal.returns
returns c = sym (whole c.loop-name.name.now (sym c.contains.ensures.value ∙ c.loop-name-test.false)) ∙ c.loop-name.invariant
