use Rattle.std.proofs.Common.{ℕ, ◌<◌, List, replicate, set, lit<}
use Rattle.std.proofs.lemmas.List.Elements.{All-replicate, All-set}
use Rattle.test_machine.proofs.reader.card.Goals as goal

pub returns : goal.returns
returns c =
    let fits : ℕ → Type 0 = λ x. x < 0o10000 in
    let blank : List ℕ = replicate 80 0 in
    All-set fits (set (set blank 0 1) 1 2) 2 3 (lit< tt)
    (All-set fits (set blank 0 1) 1 2 (lit< tt) (All-set fits blank 0 1 (lit< tt) (All-replicate fits 80 0 (lit< tt))))
