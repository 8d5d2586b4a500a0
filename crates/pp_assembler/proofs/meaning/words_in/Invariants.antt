use Rattle.std.proofs.Common.{◌≡◌, take}
use Rattle.std.specs.List.{flat_map}
use Rattle.pp_assembler.proofs.meaning.words_in.Given as goal

abbrev pub invariant-loop-image : goal.invariant-loop-image
invariant-loop-image l = l.words.items ≡ flat_map (λ image. image.words.items) (take l.image-index l.images)
