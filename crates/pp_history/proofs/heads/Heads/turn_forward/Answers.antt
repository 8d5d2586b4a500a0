use Rattle.pp_history.proofs.Names.{◌≡◌, ◌-◌, ◌∙◌, ◌++◌, ◌∷◌, [], suc, length, take, arith, refl, sym, length-take, take_all}
use Rattle.pp_history.proofs.Names.{slice_get_within, All-take, buffer}
use Rattle.pp_history.proofs.{Blocks.block_whole, Blocks.is_still, Blocks.turned, Joins.take-one}
use Rattle.pp_history.proofs.heads.Heads.turn_forward.Goals as goal

pub returns : goal.returns
returns g c =
    let old = c.args.self.now in
    let others = old.others.items in
    let next = c.unwrap-next.result in
    let found = sym c.pop_back.ensures.value ∙ c.unwrap-next.ensures in
    let rest = take (length others - 1) others in
    let some = slice_get_within others (length others - 1) next found in
    let many : length (old.block ∷ rest) ≡ length others = omega (arith, some, length-take (length others - 1) others) in
    let split : others ≡ rest ++ next ∷ [] = sym (take_all (suc (length others - 1)) others (omega (arith, some))) ∙ take-one
    (length others - 1) others next found in
    let pushed = rw (c.pop_back.ensures.items, c.replace.ensures.value) at c.push_front.ensures.items in
    let now : c.push_front.new.self ≡ buffer (old.block ∷ rest) old.others.capacity = grind
    (arith, pushed, many, c.requires.is.all, take_all) in
    let is = is_still c.requires.is (block_whole (λ block. block.items) others _ next c.requires.is.others found)
    (c.requires.is.block, All-take (λ block. length block.items ≡ 256) (length others - 1) others c.requires.is.others) many refl
    refl in
    let same = turned old _ rest split refl c.requires.is is refl in
    rw (now, c.replace.ensures.after) (record
    { is = is; same = record { capacity = refl; halves = λ kept ahead few few'. sym (same kept ahead few few') } })
