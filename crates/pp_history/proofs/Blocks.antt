-- Blocks hold the heads of a log, and continue to hold them.
use Rattle.pp_history.proofs.Names.{◌≡◌, ℕ, suc, ◌+◌, ◌-◌, ◌*◌, ◌/◌, ◌%◌, ◌<◌, ◌≤◌, min, List, [], ◌∷◌, ◌++◌, length, take}
use Rattle.pp_history.proofs.Names.{drop, reverse, set, Option, Some, slice_get, Vec, Global, refl, sym, ◌∙◌, ap, arith}
use Rattle.pp_history.proofs.Names.{length-take, length-drop, length-append, length-reverse, take_all, drop_all, append-nil}
use Rattle.pp_history.proofs.Names.{append_assoc, take-append-le, take-set, drop-set, reverse-append, cases_lt, flat_map}
use Rattle.pp_history.proofs.Names.{flat_map-append, slice_get_within, slice_get-append_left, slice_get-append_right}
use Rattle.pp_history.proofs.Names.{slice_get-drop, slice_get-take, AllByRecursion, div-add-mod, common_steps, All-get_or}
use Rattle.pp_history.proofs.Names.{All-take, get_or-flat_map, get_or_from_slice_get, add-one, get_or, slice_get_read, Heads}
use Rattle.pp_history.proofs.Names.{IsHeads, behind, before, halves, others_in}
use Rattle.pp_history.proofs.Joins.{drop-at, take-one}

module _ {B X : Type 0} (items : B → List X) where
  abbrev AreWhole : List B → Type 0
  AreWhole blocks = AllByRecursion (λ block. length (items block) ≡ 256) blocks

  length_slots : (blocks : List B) → AreWhole blocks → length (flat_map items blocks) ≡ 256 * length blocks
  length_slots [] whole = refl
  length_slots (block ∷ blocks) whole = omega
      (arith, length-append (items block) (flat_map items blocks), whole.0, length_slots blocks whole.1)

  pub block_whole : (blocks : List B) (k : ℕ) (block : B) → AreWhole blocks → slice_get blocks k ≡ Some block →
      length (items block) ≡ 256
  block_whole blocks k block whole found =
      grind (
        arith,
        All-get_or (λ block. length (items block) ≡ 256) blocks k block,
        get_or_from_slice_get blocks k block block,
        slice_get_within blocks k block found,
      )

  -- the slots behind and before a place between two blocks, with the one of them or the other in use
  module _ (here there : B) (rest : List B) (n : ℕ) (long : length (items there) ≡ 256) (whole : AreWhole rest)
      (few : n ≤ 256 * (length rest + 1)) where
    abbrev slots : List X
    slots = flat_map items rest

    all : flat_map items (rest ++ there ∷ []) ≡ slots ++ items there
    all = flat_map-append items rest (there ∷ []) ∙ ap (λ xs. slots ++ xs) (append-nil (items there))

    turned_behind : length (items here) ≡ 256 → take n (items here ++ flat_map items (rest ++ there ∷ []))
        ≡ take n (drop 256 (items there) ++ (items here ++ slots))
    turned_behind same = rw (all, drop_all 256 (items there) (omega (arith, long)), ← append_assoc (items here) slots (items there))
        (take-append-le n (items here ++ slots) (items there)
        (omega (arith, length-append (items here) slots, length_slots rest whole, same, few)))

    turned_before : take n (reverse (flat_map items (rest ++ there ∷ []) ++ []))
        ≡ take n (reverse ((items here ++ slots) ++ take 256 (items there)))
    turned_before =
        let other = slots ++ items there in
        let many : length (reverse other) ≡ 256 * (length rest + 1) =
        omega (arith, length-reverse other, length-append slots (items there), length_slots rest whole, long) in
        rw (
          all,
          append-nil other,
          take_all 256 (items there) (omega (arith, long)),
          append_assoc (items here) slots (items there),
          reverse-append (items here) other,
        )
        (sym (take-append-le n (reverse other) (reverse (items here)) (omega (arith, many, few))))

-- one more item in front of the first len ones, at most n
first_taken : {X : Type 0} (len n : ℕ) (x : X) (xs : List X) → take (min (len + 1) n) (x ∷ xs) ≡ take n (x ∷ take len xs)
first_taken len n x xs = grind (arith, common_steps, cases_lt len n)

module _ {H : Type 0} where
  abbrev items : Vec (Option H) Global → List (Option H)
  items = λ block. block.items

  -- the one of two blocks is in use or the other, at the place between them
  pub turned : (one two : Heads H) (rest : List (Vec (Option H) Global)) → one.others.items ≡ rest ++ two.block ∷ [] →
      two.others.items ≡ one.block ∷ rest → IsHeads one → IsHeads two → one.capacity ≡ two.capacity →
      (kept ahead : ℕ) → kept ≤ one.capacity → ahead ≤ one.capacity → halves one 0 kept ahead ≡ halves two 256 kept ahead
  turned one two rest is goes whole whole' same kept ahead few few' =
      let many : 256 * length two.others.items ≡ 256 * (length rest + 1) = omega (arith, ap length goes) in
      let all = rw goes at whole'.others in
      let enough : one.capacity ≤ 256 * (length rest + 1) = omega (arith, whole'.enough, same, many) in
      rw (
        is,
        goes,
        same,
        turned_behind items one.block two.block rest kept whole'.block all.1 (omega (arith, few, enough)) whole.block,
        turned_before items one.block two.block rest ahead whole'.block all.1 (omega (arith, few', enough)),
      ) refl

  module _ (heads : Heads H) (n : ℕ) (x : Option H) where
    -- the head of a slot is the first behind it, and the last before the next one
    module _ (found : slice_get heads.block.items n ≡ Some x) (kept ahead : ℕ) where
      pub halves_behind : halves heads n (suc kept) ahead ≡ record (halves heads n kept ahead)
          { kept = x ∷ take kept (behind heads (n + 1)) }
      halves_behind = grind (arith, drop-at n heads.block.items x found)

      pub halves_before : halves heads (n + 1) kept (suc ahead) ≡ record (halves heads (n + 1) kept ahead)
          { ahead = x ∷ take ahead (before heads n) }
      halves_before = rw (
        add-one,
        take-one n heads.block.items x found,
        ← append_assoc (others_in heads) (take n heads.block.items) (x ∷ []),
        reverse-append (others_in heads ++ take n heads.block.items) (x ∷ []),
      ) refl

    -- a head more was written in front of the kept ones
    pub halves_written : (block : Vec (Option H) Global) → n < length heads.block.items → block.items ≡ set heads.block.items n x →
        (kept kept' ahead : ℕ) → kept' ≡ min (kept + 1) heads.capacity → halves (record heads { block = block }) n kept' ahead
        ≡ record (halves heads n kept ahead) { kept = take heads.capacity (x ∷ take kept (behind heads (n + 1))) }
    halves_written block within is kept kept' ahead more =
        grind (
          arith,
          common_steps,
          drop-set heads.block.items n x within,
          take-set heads.block.items n x,
          first_taken kept
              heads.capacity x (drop (n + 1) heads.block.items ++ others_in heads),
        )

-- other blocks of the same sizes
pub is_still : {H : Type 0} {old new : Heads H} → IsHeads old → length new.block.items ≡ 256 → AreWhole items new.others.items →
    length new.others.items ≡ length old.others.items → new.others.capacity ≡ old.others.capacity → new.capacity ≡ old.capacity →
    IsHeads new
is_still is long whole many room same = grind arith

module _ {H : Type 0} (heads : Heads H) (is : IsHeads heads) (n : ℕ) (within : n ≤ 256) where
  enough_slots : (heads.capacity ≤ length (behind heads n)) × (heads.capacity ≤ length (before heads n))
  enough_slots = grind (arith, common_steps, length_slots items heads.others.items is.others)

  pub length_halves : (kept ahead : ℕ) → ahead + kept ≤ heads.capacity →
      (length (halves heads n kept ahead).kept ≡ kept) × (length (halves heads n kept ahead).ahead ≡ ahead)
  length_halves kept ahead full = grind (arith, length-take kept (behind heads n), length-take ahead (before heads n), enough_slots)

  -- the k-th slot behind a place, in the block in use and in another one
  module _ (k slot : ℕ) (x : Option H) (at : slot ≡ n + k) (kept : ℕ) (less : k < kept) where
    pub slot_here : slot < 256 → x ≡ get_or heads.block.items slot x → slice_get (take kept (behind heads n)) k ≡ Some x
    slot_here within here =
        slice_get-take kept (behind heads n) k less ∙ slice_get-append_left (drop n heads.block.items) (others_in heads) k
        (omega (arith, at, within, length-drop n heads.block.items, is.block))
        ∙ slice_get-drop n heads.block.items k slot at ∙ slice_get_read heads.block.items 256 slot x (sym is.block) within here

    pub slot_there : (block : Vec (Option H) Global) → 256 ≤ slot → slice_get heads.others.items (slot / 256 - 1) ≡ Some block →
        x ≡ get_or block.items (slot % 256) x → slice_get (take kept (behind heads n)) k ≡ Some x
    slot_there block past found here =
        let blocks = heads.others.items in
        let q = slot / 256 - 1 in
        let some = slice_get_within blocks q block found in
        let many = length_slots items (take q blocks) (All-take (λ block. length block.items ≡ 256) q blocks is.others) in
        let before : length (flat_map items (take q blocks)) + slot % 256 ≡ slot - 256 = omega
        (arith, past, many, some, length-take q blocks, div-add-mod slot 256) in
        let read : x ≡ get_or (others_in heads) (slot - 256) x =
        grind (
          arith,
          before,
          get_or-flat_map items blocks q (slot % 256) block x some,
          get_or_from_slice_get blocks q block block
              found,
          block_whole items blocks q block is.others found,
        ) in
        slice_get-take kept (behind heads n) k less
        ∙ slice_get-append_right (drop n heads.block.items) (others_in heads) k (slot - 256)
        (omega (arith, at, past, length-drop n heads.block.items, is.block, within))
        ∙ slice_get_read (others_in heads) (256 * length blocks) (slot - 256) x (sym (length_slots items blocks is.others))
        (omega (arith, past, some, div-add-mod slot 256)) read
