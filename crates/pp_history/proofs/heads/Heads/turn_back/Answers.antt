use Rattle.pp_history.proofs.Names.{◌≡◌, ◌∙◌, ◌++◌, ◌∷◌, [], length, drop, arith, refl, sym, length-append, length-drop}
use Rattle.pp_history.proofs.Names.{slice_get_within, All-drop, All-push, buffer}
use Rattle.pp_history.proofs.{Blocks.block_whole, Blocks.is_still, Blocks.turned, Joins.drop-at}
use Rattle.pp_history.proofs.heads.Heads.turn_back.Goals as goal

pub returns : goal.returns
returns g c =
    let old = c.args.self.now in
    let others = old.others.items in
    let next = c.unwrap-next.result in
    let found = sym c.pop_front.ensures.value ∙ c.unwrap-next.ensures in
    let rest = drop 1 others in
    let some = slice_get_within others 0 next found in
    let many : length (rest ++ old.block ∷ []) ≡ length others = omega
    (arith, some, length-append rest (old.block ∷ []), length-drop 1 others) in
    let pushed = rw (c.pop_front.ensures.items, c.replace.ensures.value) at c.push_back.ensures.items in
    let now : c.push_back.new.self ≡ buffer (rest ++ old.block ∷ []) old.others.capacity = grind
    (arith, pushed, many, c.requires.is.all) in
    let is = is_still c.requires.is (block_whole (λ block. block.items) others 0 next c.requires.is.others found)
    (All-push (λ block. length block.items ≡ 256) rest old.block
    (All-drop (λ block. length block.items ≡ 256) 1 others c.requires.is.others) c.requires.is.block) many refl refl in
    rw (now, c.replace.ensures.after) (record {
      is = is;
      same = record {
        capacity = refl;
        halves = turned _ old rest refl (drop-at 0 others next found) is c.requires.is refl;
      };
    })
