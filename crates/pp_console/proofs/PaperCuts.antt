-- The lines of the paper, one after another.
use Rattle.std.proofs.Common.{◌≡◌, ◌∙◌, ℕ, ◌-◌, List, [], ◌∷◌, ◌++◌, arith, length, take, drop, refl, sym, ap, append_assoc, None}
use Rattle.std.proofs.Common.{◌==◌, Some, map, position, codes}
use Rattle.std.proofs.lemmas.List.{drop-map, length-map, take-map}
use Rattle.std.specs.List.{position_or_len, flat_map}
use Rattle.pp_lines.proofs.OpenTexts.{feed-cut, feed-none, feed-open, unfinished-text}
use Rattle.pp_lines.specs.Lines.{finished, unfinished, last_line}
use Rattle.pp_console.specs.{DisplayCode.character, Paper.marked, Paper.paper_text}
use Rattle.pp_console.specs.Inner.PaperCuts.{is_line_end, rest_text}

-- a line feed after a text without one ends the first line
feed-first : (line later : List ℕ) → finished line ≡ [] →
    (finished (line ++ 10 ∷ later) ≡ line ∷ finished later) × (unfinished (line ++ 10 ∷ later) ≡ unfinished later)
feed-first [] later none = (refl, refl)
feed-first (byte ∷ line) later none = (grind (arith, feed-first line later), grind (arith, feed-first line later))

-- the lines of a paper with these characters
abbrev lines_of_paper : List ℕ → List ℕ
lines_of_paper text = flat_map (marked (codes "|")) (finished text) ++ flat_map (marked (codes "/")) (last_line (unfinished text))

-- the first line of the paper, and the others
paper-first : (line later : List ℕ) → finished line ≡ [] →
    lines_of_paper (line ++ 10 ∷ later) ≡ marked (codes "|") line ++ lines_of_paper later
paper-first line later none = let first = feed-first line later none in simp (first.0, first.1, append_assoc)

-- the first line end is the first line feed of the characters
ends : (symbols : List ℕ) → position_or_len (λ byte. byte == 10) (map character symbols) ≡ position_or_len is_line_end symbols
ends [] = refl
ends (symbol ∷ symbols) = rw (ends symbols) refl

first-end : (symbols : List ℕ) → position (λ byte. byte == 10) (map character symbols) ≡ position is_line_end symbols
first-end symbols = rw (ends symbols, length-map) refl

-- a paper that is cut at its first line end
pub paper-cut : (symbols : List ℕ) (end : ℕ) → position is_line_end symbols ≡ Some end →
    paper_text symbols ≡ marked (codes "|") (map character (take end symbols)) ++
    paper_text (take (length (drop end symbols) - 1) (drop 1 (drop end symbols)))
unfolding paper_text
paper-cut symbols end e =
    let text = map character symbols in
    let later = take (length (drop end text) - 1) (drop 1 (drop end text)) in
    let here : map character (take end symbols) ≡ take end text = sym (take-map character end symbols) in
    let there : map character (take (length (drop end symbols) - 1) (drop 1 (drop end symbols))) ≡ later =
    simp (length-map, drop-map, take-map) in
    let found = first-end symbols ∙ e in
    rw (here, there) (ap lines_of_paper (feed-cut text end found) ∙ paper-first (take end text) later (feed-open text end found))

-- a paper that has no line end
pub paper-uncut : (symbols : List ℕ) → position is_line_end symbols ≡ None → paper_text symbols ≡ rest_text symbols
unfolding paper_text
paper-uncut symbols e = let none = feed-none (map character symbols) (first-end symbols ∙ e) in
    rw (none, unfinished-text [] (map character symbols) none) refl

-- what a cut at the first line end needs
pub ruleset paper_cuts = (paper-cut, paper-uncut)
