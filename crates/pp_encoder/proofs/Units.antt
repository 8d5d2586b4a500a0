-- The images of units, one more.
use Rattle.std.proofs.Common.{◌≡◌, ◌∙◌, ℕ, suc, ◌+◌, ◌<◌, List, ◌∷◌, [], ◌++◌, Some, add-one, ap, append_assoc, drop, drop-cons}
use Rattle.std.proofs.Common.{append-nil, get_or, length, subst, sym}
use Rattle.std.proofs.Common.{◌≤◌}
use Rattle.std.proofs.lemmas.List.{drop_all}
use Rattle.pp_meaning.specs.Standing.{Standing}
use Rattle.pp_meaning.specs.Units.{AreAssembled, IsImage, Known, assembled, left_by}
use Rattle.pp_meaning.specs.declared.statements.Image.{Image}
use Rattle.pp_meaning.specs.declared.expressions.Symbol.{Symbol}
use Rattle.pp_meaning.specs.declared.statements.Unit.{Unit}

pub assembled_on : (symbols : List Symbol) (start before left : Known) (units : List Unit) (index : ℕ) (unit : Unit)
    (images : List Image) (image : Image) (after : Standing) →
    ((rest : List Image) → AreAssembled symbols before (drop index units) rest → AreAssembled symbols start units (images ++ rest)) →
    index < length units → unit ≡ get_or units index unit → assembled symbols before unit ≡ Some after → IsImage after image →
    left ≡ left_by after →
    (rest : List Image) → AreAssembled symbols left (drop (index + 1) units) rest →
    AreAssembled symbols start units ((images ++ image ∷ []) ++ rest)
assembled_on symbols start before left units index unit images image after so_far within is made same leaves rest others =
    subst (λ l. AreAssembled symbols start units l) (sym (append_assoc images (image ∷ []) rest))
    (so_far (image ∷ rest)
    (subst (λ l. AreAssembled symbols before l (image ∷ rest))
    (sym (drop-cons units index unit within ∙ ap (λ u. u ∷ drop (suc index) units) (sym is))) (
      after,
      made,
      same,
      subst (λ l. AreAssembled symbols l (drop (suc index) units) rest) leaves
          (subst (λ n. AreAssembled symbols left (drop n units) rest) (add-one index) others),
    )))

pub all_assembled : (symbols : List Symbol) (start left : Known) (units : List Unit) (index : ℕ) (images : List Image) →
    ((rest : List Image) → AreAssembled symbols left (drop index units) rest → AreAssembled symbols start units (images ++ rest)) →
    length units ≤ index → left.defined ≡ length symbols → AreAssembled symbols start units images
all_assembled symbols start left units index images so_far over all =
    subst (λ l. AreAssembled symbols start units l) (append-nil images)
    (so_far [] (subst (λ l. AreAssembled symbols left l []) (sym (drop_all index units over)) all))
