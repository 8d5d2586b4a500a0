-- The texts of the lines of a source, of which a part has been read.
use Rattle.std.proofs.Common.{◌≡◌, ℕ, ◌+◌, ◌-◌, ◌<◌, ◌≤◌, List, [], ◌∷◌, ◌++◌, length, map}
use Rattle.std.proofs.Common.{refl, eqb, false, arith, take, drop, get_or}
use Rattle.std.proofs.lemmas.{Bool.ne_eqb, Grind.common_steps}
use Rattle.std.proofs.lemmas.List.{map-append}
use Rattle.pp_notation.specs.Columns.{between}
use Rattle.pp_lines.specs.Lines.{finished, unfinished, last_line, lines}
use Rattle.pp_lines.proofs.LineCuts.{finished-feed, unfinished-feed, finished-byte, unfinished-byte, lines_split}
use Rattle.pp_decks.specs.{Places.text_in, declared.spans.Span.Span}

-- A part of a source has been read: the texts of its finished lines, and where the line begins that is not finished.
pub record HasCut (source : List ℕ) (spans : List Span) (first at : ℕ) : Type 0 where
  pub done : map (text_in source) spans ≡ finished (take at source)
  pub begun : between source first at ≡ unfinished (take at source)
  pub first_at : first ≤ at
  pub within : at ≤ length source

-- what is between two places, byte by byte
between_none : (source : List ℕ) (at : ℕ) → at ≤ length source → between source at at ≡ []
between_none source at within = grind (arith, common_steps)

take_next : (source : List ℕ) (at : ℕ) → at < length source → take (at + 1) source ≡ take at source ++ get_or source at 0 ∷ []
take_next source at within = grind (arith, common_steps)

between_is : (source : List ℕ) (first at : ℕ) → first ≤ at → at ≤ length source → between source first at ≡ take (at - first) (drop first source)
between_is source first at order within = grind (arith, common_steps)

get_or_drop : (source : List ℕ) (first at : ℕ) → first ≤ at → get_or (drop first source) (at - first) 0 ≡ get_or source at 0
get_or_drop source first at order = grind (arith, common_steps)

between_next : (source : List ℕ) (first at : ℕ) → first ≤ at → at < length source →
    between source first (at + 1) ≡ between source first at ++ get_or source at 0 ∷ []
between_next source first at order within =
    let size : at + 1 - first ≡ at - first + 1 = omega (arith, order) in
    let rest : at - first < length (drop first source) = grind (arith, common_steps, order, within) in
    rw (
      between_is source first (at + 1) (omega (arith, order)) (omega (arith, within)),
      between_is source first at order (omega (arith, within)),
      size,
      take_next (drop first source) (at - first) rest,
      get_or_drop source first at order,
    ) refl

take_whole : (source : List ℕ) (at : ℕ) → length source ≤ at → take at source ≡ source
take_whole source at end = grind (arith, common_steps)

pub HasCut-feed : (source : List ℕ) (spans more : List Span) (first at begun : ℕ) → HasCut source spans first at →
    at < length source → get_or source at 0 ≡ 10 → more ≡ spans ++ record { first = first; end = at } ∷ [] → begun ≡ at + 1 →
    HasCut source more begun (at + 1)
HasCut-feed source spans more first at begun cut inside feed pushed begins = record {
  done = rw (
    pushed,
    take_next source at inside,
    feed,
    finished-feed (take at source),
    map-append (text_in source) spans (record { first = first; end = at } ∷ []),
    cut.done,
    cut.begun,
  ) refl;
  begun = rw (begins, take_next source at inside, feed, unfinished-feed (take at source)) (between_none source (at + 1) (omega (arith, inside)));
  first_at = omega (arith, begins);
  within = omega (arith, inside);
}

pub HasCut-byte : (source : List ℕ) (spans more : List Span) (first at begun : ℕ) → HasCut source spans first at →
    at < length source → (get_or source at 0 ≡ 10 → ⊥) → more ≡ spans → begun ≡ first → HasCut source more begun (at + 1)
HasCut-byte source spans more first at begun cut inside other same begins =
    let no_feed : eqb (get_or source at 0) 10 ≡ false = ne_eqb (get_or source at 0) 10 other in record {
      done = rw (same, take_next source at inside, finished-byte (take at source) (get_or source at 0) no_feed) cut.done;
      begun = rw (
        begins,
        take_next source at inside,
        unfinished-byte (take at source) (get_or source at 0) no_feed,
        between_next source first at cut.first_at inside,
        cut.begun,
      ) refl;
      first_at = omega (arith, begins, cut.first_at);
      within = omega (arith, inside);
    }

-- at the end the bytes after the last line feed are a line, if there are any
length_between : (source : List ℕ) (first : ℕ) → first ≤ length source → length (between source first (length source)) ≡ length source - first
length_between source first order = grind (arith, common_steps)

last_of_none : (rest : List ℕ) → length rest ≡ 0 → last_line rest ≡ []
last_of_none [] h = refl
last_of_none (byte ∷ rest) h = grind arith

last_of_some : (rest : List ℕ) → 0 < length rest → last_line rest ≡ rest ∷ []
last_of_some [] h = grind arith
last_of_some (byte ∷ rest) h = refl

pub HasCut-ended : (source : List ℕ) (spans more : List Span) (first at : ℕ) → HasCut source spans first at →
    length source ≤ at → length source ≤ first → more ≡ spans → map (text_in source) more ≡ lines source
HasCut-ended source spans more first at cut whole end same =
    let all = take_whole source at whole in
    let here : at ≡ length source = omega (arith, whole, cut.within) in
    let rest : between source first (length source) ≡ unfinished source = grind (arith, cut.begun, here, all) in
    let size = length_between source first (omega (arith, cut.first_at, here)) in
    let none : length (unfinished source) ≡ 0 = grind (arith, size, rest, end) in
    rw (same, lines_split source, last_of_none (unfinished source) none) (grind (arith, common_steps, cut.done, all))

pub HasCut-begun : (source : List ℕ) (spans more : List Span) (first at : ℕ) → HasCut source spans first at →
    length source ≤ at → first < length source → more ≡ spans ++ record { first = first; end = length source } ∷ [] →
    map (text_in source) more ≡ lines source
HasCut-begun source spans more first at cut whole begun pushed =
    let all = take_whole source at whole in
    let here : at ≡ length source = omega (arith, whole, cut.within) in
    let rest : between source first (length source) ≡ unfinished source = grind (arith, cut.begun, here, all) in
    let size = length_between source first (omega (arith, begun)) in
    let some : 0 < length (unfinished source) = grind (arith, size, rest, begun) in
    rw (
      pushed,
      map-append (text_in source) spans (record { first = first; end = length source } ∷ []),
      lines_split source,
      last_of_some (unfinished source) some,
      rest,
    ) (grind (arith, common_steps, cut.done, all))
