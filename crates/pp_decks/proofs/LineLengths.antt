-- The lengths of the lines of a source, of which a part has been read.
use Rattle.std.proofs.Common.{◌≡◌, ◌∙◌, ℕ, ◌+◌, ◌-◌, ◌<◌, ◌≤◌, List, [], ◌∷◌, ◌++◌, length, map}
use Rattle.std.proofs.Common.{refl, ap, sym, eqb, false, arith, take, get_or}
use Rattle.std.proofs.lemmas.{Bool.ne_eqb, Grind.common_steps}
use Rattle.std.proofs.Common.{length-append}
use Rattle.std.proofs.lemmas.List.{map-append}
use Rattle.pp_lines.specs.Lines.{finished, unfinished, last_line}
use Rattle.pp_lines.proofs.LineCuts.{finished-feed, unfinished-feed, finished-byte, unfinished-byte, lines_split}
use Rattle.pp_decks.specs.{Places.length_of, Places.line_lengths, declared.spans.Span.Span}

-- A part of a source has been read: the lengths of its finished lines, and where the line begins that is not finished.
pub record HasRead (bytes : List ℕ) (lengths : List ℕ) (first at : ℕ) : Type 0 where
  pub done : lengths ≡ map length (finished bytes)
  pub begun : first + length (unfinished bytes) ≡ at

-- a line feed ends a line
pub HasRead-feed : (bytes lengths : List ℕ) (first at : ℕ) → HasRead bytes lengths first at →
    HasRead (bytes ++ 10 ∷ []) (lengths ++ (at - first) ∷ []) (at + 1) (at + 1)
HasRead-feed bytes lengths first at read =
    let ended : at - first ≡ length (unfinished bytes) = omega (arith, read.begun) in record {
      done = rw (read.done, ended, finished-feed bytes) (sym (map-append length (finished bytes) (unfinished bytes ∷ [])));
      begun = rw (unfinished-feed bytes) (omega arith);
    }

-- any other byte does not
pub HasRead-byte : (bytes lengths : List ℕ) (first at next : ℕ) → eqb next 10 ≡ false → HasRead bytes lengths first at →
    HasRead (bytes ++ next ∷ []) lengths first (at + 1)
HasRead-byte bytes lengths first at next h read = record {
  done = read.done ∙ ap (map length) (sym (finished-byte bytes next h));
  begun = rw (unfinished-byte bytes next h) (grind (arith, length-append, read.begun));
}

-- at the end nothing is begun
last-none : (rest : List ℕ) → length rest ≡ 0 → map length (last_line rest) ≡ []
last-none [] h = refl
last-none (byte ∷ rest) h = grind arith

last-one : (rest : List ℕ) → 0 < length rest → map length (last_line rest) ≡ length rest ∷ []
last-one [] h = grind arith
last-one (byte ∷ rest) h = refl

lengths-split : (bytes : List ℕ) → line_lengths bytes ≡ map length (finished bytes) ++ map length (last_line (unfinished bytes))
lengths-split bytes = rw (lines_split bytes) (map-append length (finished bytes) (last_line (unfinished bytes)))

-- at the end of a source whose last line is ended
pub HasRead-ended : (bytes lengths : List ℕ) (first at : ℕ) → HasRead bytes lengths first at → at ≤ first →
    lengths ≡ line_lengths bytes
HasRead-ended bytes lengths first at read end =
    let none = last-none (unfinished bytes) (omega (arith, read.begun)) in
    rw (lengths-split bytes, none, read.done) (grind (arith, common_steps))

-- at the end of a source whose last line is not ended
pub HasRead-begun : (bytes lengths : List ℕ) (first at : ℕ) → HasRead bytes lengths first at → first < at →
    lengths ++ (at - first) ∷ [] ≡ line_lengths bytes
HasRead-begun bytes lengths first at read end =
    let one = last-one (unfinished bytes) (omega (arith, read.begun)) in
    let size : at - first ≡ length (unfinished bytes) = omega (arith, read.begun) in
    rw (lengths-split bytes, one, read.done, size) refl

-- ---- the same at an index of a source

pub HasRead-feed_at : (source : List ℕ) (spans more : List Span) (first at begun : ℕ) →
    HasRead (take at source) (map length_of spans) first at → at < length source → get_or source at 0 ≡ 10 →
    more ≡ spans ++ record { first = first; end = at } ∷ [] → begun ≡ at + 1 →
    HasRead (take (at + 1) source) (map length_of more) begun (at + 1)
HasRead-feed_at source spans more first at begun read within feed pushed begins =
    let next : take (at + 1) source ≡ take at source ++ 10 ∷ [] = grind (arith, common_steps) in
    rw (pushed, begins, next, map-append length_of spans (record { first = first; end = at } ∷ []))
    (HasRead-feed (take at source) (map length_of spans) first at read)

pub HasRead-byte_at : (source : List ℕ) (spans more : List Span) (first at begun : ℕ) →
    HasRead (take at source) (map length_of spans) first at → at < length source → (get_or source at 0 ≡ 10 → ⊥) →
    more ≡ spans → begun ≡ first → HasRead (take (at + 1) source) (map length_of more) begun (at + 1)
HasRead-byte_at source spans more first at begun read within other same begins =
    let no_feed : eqb (get_or source at 0) 10 ≡ false = ne_eqb (get_or source at 0) 10 other in
    let next : take (at + 1) source ≡ take at source ++ get_or source at 0 ∷ [] = grind (arith, common_steps) in
    rw (same, begins, next) (HasRead-byte (take at source) (map length_of spans) first at (get_or source at 0) no_feed read)

take-whole : (source : List ℕ) (at : ℕ) → length source ≤ at → take at source ≡ source
take-whole source at end = grind (arith, common_steps)

pub HasRead-ended_at : (source : List ℕ) (spans more : List Span) (first at : ℕ) →
    HasRead (take at source) (map length_of spans) first at → length source ≤ at → at ≤ length source → length source ≤ first →
    more ≡ spans → map length_of more ≡ line_lengths source
HasRead-ended_at source spans more first at read whole within end same =
    let all = take-whole source at whole in
    rw same (rw all at (HasRead-ended (take at source) (map length_of spans) first at read (omega (arith, whole, within, end))))

pub HasRead-begun_at : (source : List ℕ) (spans more : List Span) (first at : ℕ) →
    HasRead (take at source) (map length_of spans) first at → length source ≤ at → at ≤ length source → first < length source →
    more ≡ spans ++ record { first = first; end = length source } ∷ [] → map length_of more ≡ line_lengths source
HasRead-begun_at source spans more first at read whole within begun pushed =
    let all = take-whole source at whole in
    let same : at ≡ length source = omega (arith, whole, within) in
    let last = HasRead-begun (take at source) (map length_of spans) first at read (omega (arith, whole, begun)) in
    rw (pushed, map-append length_of spans (record { first = first; end = length source } ∷ []))
    (rw (all, same) at last)
