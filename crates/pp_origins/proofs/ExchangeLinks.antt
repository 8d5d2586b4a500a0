-- The links of an exchange, one after another.
use Rattle.std.proofs.Common.{◌≡◌, ℕ, ◌+◌, ◌-◌, ◌<◌, ◌==◌, Bool, true, false, if◌then◌else◌, []}
use Rattle.std.proofs.Common.{◌∷◌, ◌++◌, ap, ◌∙◌, nat_lt, refl, arith, suc}
use Rattle.std.specs.List.{range_with_len}
use Rattle.pp_machine.proofs.PushedLists.{pushed_lists}
use Rattle.pp_machine.specs.declared.place.Place.TheVariants.{Central, FrameWord}
use Rattle.pp_step.specs.Words.{central_after}
use Rattle.pp_origins.proofs.LinkLists.{links-append}
use Rattle.pp_origins.specs.Links.{links_of}
use Rattle.pp_origins.specs.Origin.{Origins}
use Rattle.pp_origins.specs.Rows.{frame_origins, from, part, whole, word_origins}
use Rattle.pp_origins.specs.declared.situation.Situation.{Situation}
use Rattle.pp_origins.specs.declared.origin.Field.TheVariants.{Whole, WithoutB0}
use Rattle.pp_origins.specs.declared.origin.Operation.TheVariants as by

range_step : (i : ℕ) → i < 16 → range_with_len i (16 - i) ≡ i ∷ range_with_len (i + 1) (16 - (i + 1))
range_step i h = let e : 16 - i ≡ suc (16 - (i + 1)) = omega (arith, h) in ap (range_with_len i) e

pub next_frame : (c : Situation) (i : ℕ) → i < 16 → links_of (frame_origins c (range_with_len i (16 - i)))
    ≡ links_of ((FrameWord i, part (if i == 0 then WithoutB0 else Whole) (central_after c.a i) c) ∷ [])
    ++ links_of (frame_origins c (range_with_len (i + 1) (16 - (i + 1))))
next_frame c i h = ap (λ ks. links_of (frame_origins c ks)) (range_step i h)
    ∙ links-append ((FrameWord i, part (if i == 0 then WithoutB0 else Whole) (central_after c.a i) c) ∷ [])
    (frame_origins c (range_with_len (i + 1) (16 - (i + 1))))

word_if : (i address : ℕ) (c : Situation) (b : Bool) (rest : Origins) →
    links_of (if b then (Central address, from by.Moved ((λ c. whole (FrameWord i)) ∷ []) c) ∷ rest else rest)
    ≡ (if b then links_of ((Central address, from by.Moved ((λ c. whole (FrameWord i)) ∷ []) c) ∷ []) else []) ++ links_of rest
word_if i address c true rest = refl
word_if i address c false rest = refl

pub next_word : (c : Situation) (i : ℕ) → i < 16 → links_of (word_origins c (range_with_len i (16 - i)))
    ≡ (if nat_lt (central_after c.a i) c.size
    then links_of ((Central (central_after c.a i), from by.Moved ((λ c. whole (FrameWord i)) ∷ []) c) ∷ []) else [])
    ++ links_of (word_origins c (range_with_len (i + 1) (16 - (i + 1))))
next_word c i h =
    let address = central_after c.a i in
    ap (λ ks. links_of (word_origins c ks)) (range_step i h)
    ∙ word_if i address c (nat_lt address c.size) (word_origins c (range_with_len (i + 1) (16 - (i + 1))))

-- what the lists of links need
pub ruleset exchange_links = (pushed_lists, next_frame, next_word, links-append)
