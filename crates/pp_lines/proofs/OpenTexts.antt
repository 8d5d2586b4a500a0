-- Texts without a line feed, and the first line feed of a text.
use Rattle.std.proofs.{lemmas.Bool.Decides.nat_tests, lemmas.List.Quantifiers.position-Some, lemmas.List.Sums.position_or_len_is}
use Rattle.std.proofs.Common.{add-one, ◌≡◌, ℕ, zero, suc, ◌-◌, ◌<◌, eqb, false, List, [], ◌∷◌, ◌++◌, length, take, drop, refl}
use Rattle.std.proofs.Common.{arith, None, Some, ◌==◌, position, drop-drop, take_all}
use Rattle.std.specs.List.{position_or_len}
use Rattle.pp_lines.specs.Lines.{finished, unfinished}
use Rattle.pp_lines.proofs.{WordCuts.len-stop, WordCuts.len-more, Writing.slice_from}

-- its prefixes have no line feed either
pub open-take : (n : ℕ) (text : List ℕ) → finished text ≡ [] → finished (take n text) ≡ []
open-take zero text h = refl
open-take (suc n) [] h = refl
open-take (suc n) (byte ∷ text) h = grind (arith, open-take n text)

-- it finishes no line
pub finished-text : (bytes text : List ℕ) → finished text ≡ [] → finished (bytes ++ text) ≡ finished bytes
finished-text [] text h = h
finished-text (byte ∷ bytes) text h = grind (arith, finished-text bytes text)

-- it extends the unfinished line
pub unfinished-text : (bytes text : List ℕ) → finished text ≡ [] → unfinished (bytes ++ text) ≡ unfinished bytes ++ text
unfinished-text [] [] h = refl
unfinished-text [] (byte ∷ text) h = grind (arith, unfinished-text [] text)
unfinished-text (byte ∷ bytes) text h = grind (arith, unfinished-text bytes text, finished-text bytes text)

-- the number of bytes before the first line feed
abbrev before_feed : List ℕ → ℕ
before_feed = position_or_len (λ byte. byte == 10)

-- the bytes before the first line feed contain no line feed
before-open : (text : List ℕ) → finished (take (before_feed text) text) ≡ []
before-open [] = refl
before-open (byte ∷ text) =
    grind (arith, nat_tests, len-more (λ byte. byte == 10) byte text, len-stop (λ byte. byte == 10) byte text, before-open text)

-- a text is cut at its first line feed
feed-splits : (text : List ℕ) → before_feed text < length text →
    text ≡ take (before_feed text) text ++ 10 ∷ drop (suc (before_feed text)) text
feed-splits [] less = absurd (omega arith)
feed-splits (byte ∷ text) less =
    grind (arith, nat_tests, len-stop (λ byte. byte == 10) byte text, len-more (λ byte. byte == 10) byte text, feed-splits text)

-- the line feed found is the first one
feed-found : (text : List ℕ) (feed : ℕ) → position (λ byte. byte == 10) text ≡ Some feed → before_feed text ≡ feed
feed-found text feed e = let (within, found, before) = position-Some (λ byte. byte == 10) text feed 0 e in
    position_or_len_is (λ byte. byte == 10) text feed 0 (omega (arith, within)) before (λ _. found)

-- a text in which no line feed is found
pub feed-none : (text : List ℕ) → position (λ byte. byte == 10) text ≡ None → finished text ≡ []
feed-none text e = grind (arith, nat_tests, take_all (before_feed text) text, before-open text)

-- a text that is cut at the line feed found
pub feed-cut : (text : List ℕ) (feed : ℕ) → position (λ byte. byte == 10) text ≡ Some feed →
    text ≡ take feed text ++ 10 ∷ take (length (drop feed text) - 1) (drop 1 (drop feed text))
feed-cut text feed e =
    let first = position-Some (λ byte. byte == 10) text feed 0 e in
    let found = feed-found text feed e in
    rw (slice_from 1 (drop feed text), ← found)
    (rw (drop-drop 1 (before_feed text) text, add-one) (feed-splits text (omega (arith, found, first.0))))

-- no line feed comes before it
pub feed-open : (text : List ℕ) (feed : ℕ) → position (λ byte. byte == 10) text ≡ Some feed → finished (take feed text) ≡ []
feed-open text feed e = rw (← feed-found text feed e) (before-open text)

-- what a cut at the first line feed needs
pub ruleset feed_cuts = (feed-none, feed-cut, feed-open)
