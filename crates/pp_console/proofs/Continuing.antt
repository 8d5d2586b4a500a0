-- A script that was answered so far, and one more line.
use Rattle.std.proofs.Common.{◌≡◌, ◌∙◌, ℕ, ◌+◌, ◌-◌, ◌<◌, ◌≤◌, ◌⊎◌, List, [], ◌∷◌, ◌++◌, Bool, ap, arith, drop, inl, inr, length}
use Rattle.std.proofs.Common.{length-append, length-drop, length-take, not, refl, sym, take, take-append-drop, take_all}
use Rattle.std.proofs.{lemmas.Grind.common_steps, lemmas.List.drop_all, Math.Seq.take-add}
use Rattle.std.specs.{Int.from_bool, Prelude.Some}
use Rattle.pp_console.proofs.{FirstLines.lines_apart, FirstLines.unfinished_apart, Following.bool-counts, Following.outcome-line}
use Rattle.pp_console.proofs.Prelude.{IsAt, rules, State, Value, LINE_LIMIT, BYTE_LIMIT}
use Rattle.pp_console.specs.{AnswerRoom.line_room, declared.answering.Answered.Answered, declared.room.Room.Room}
use Rattle.pp_console.specs.Answering.{AnswersPart, Fits, HasSame, IsEnd, IsSameSlice, left_in}
use Rattle.pp_console.specs.Script.{answer_line, outcome, script}
use Rattle.pp_lines.specs.Lines.{lines, unfinished}

-- these bytes were answered
pub record SoFar (session : State) (room : Room) (start : Value) (bytes : List ℕ) (count refused : ℕ) : Type 0 where
  pub text : take room.count room.bytes.now ≡ (script start bytes).text
  pub leaves : IsAt rules session (script start bytes).value
  pub counts_lines : count ≡ length (lines bytes)
  pub counts_refused : refused ≡ (script start bytes).refused

-- before the first line
pub so_far_none : (session : State) (room : Room) (start : Value) → IsAt rules session start → room.count ≡ 0 →
    SoFar session room start [] 0 0
unfolding outcome lines
so_far_none session room start at none = record { text = rw none refl; leaves = at; counts_lines = refl; counts_refused = refl }

-- one more line
pub so_far_more : (session later : State) (room next : Room) (start : Value) (bytes more line : List ℕ) (count refused : ℕ)
    (performed : Bool) →
    SoFar session room start bytes count refused → unfinished bytes ≡ [] → lines more ≡ line ∷ [] →
    Fits later room next (script start bytes).value (answer_line (script start bytes).value line)
    (line_room (script start bytes).value line) (Some performed) →
    SoFar later next start (bytes ++ more) (count + 1) (refused + from_bool (not performed))
so_far_more session later room next start bytes more line count refused performed so_far ended one (at, is, text) =
    let all : lines (bytes ++ more) ≡ lines bytes ++ line ∷ [] = lines_apart bytes more ended ∙ ap (λ ls. lines bytes ++ ls) one in
    let step = outcome-line start (lines bytes) line line (λ v. refl) in
    record {
      text = rw (all, step) (text ∙ ap (λ xs. xs ++ (answer_line (script start bytes).value line).text) so_far.text);
      leaves = rw (all, step) at;
      counts_lines = rw (all, length-append) (ap (λ n. n + 1) so_far.counts_lines);
      counts_refused = rw (all, step, is, ← bool-counts) (ap (λ n. n + from_bool (not performed)) so_far.counts_refused);
    }

-- the lines of a text are those of its first bytes, and the others
pub cut_lines : (taken : ℕ) (text : List ℕ) → unfinished (take taken text) ≡ [] →
    lines text ≡ lines (take taken text) ++ lines (drop taken text)
cut_lines taken text ended = ap lines (sym (take-append-drop taken text)) ∙ lines_apart (take taken text) (drop taken text) ended

lines_none : lines [] ≡ []
unfolding lines
lines_none = refl

-- the rest of a text begins with this line
pub next_lines : (rest line : List ℕ) (n : ℕ) → lines (take n rest) ≡ line ∷ [] →
    (unfinished (take n rest) ≡ []) ⊎ (n ≡ length rest) → lines rest ≡ line ∷ lines (drop n rest)
next_lines rest line n one ends =
    grind (arith, common_steps, one, cut_lines n rest, take_all n rest, drop_all n rest, lines_none)

-- while bytes are left the lines before them have ended
pub still_open : (taken n : ℕ) (ended : List ℕ) → (ended ≡ []) ⊎ (taken ≡ n) → taken < n → ended ≡ []
still_open taken n ended either less = grind arith

-- after one more line they have ended too, or no bytes are left
pub ends_after : (typed : List ℕ) (taken n : ℕ) → taken ≤ length typed → unfinished (take taken typed) ≡ [] →
    (unfinished (take n (drop taken typed)) ≡ []) ⊎ (n ≡ length (drop taken typed)) →
    (unfinished (take (taken + n) typed) ≡ []) ⊎ (taken + n ≡ length typed)
ends_after typed taken n within opened (inl ended) =
    inl (ap unfinished (take-add taken n typed) ∙ unfinished_apart (take taken typed) (take n (drop taken typed)) opened ∙ ended)
ends_after typed taken n within opened (inr all) = inr (omega (arith, all, within, length-drop taken typed))

pub same_again : (first second third : Room) → IsSameSlice first second → IsSameSlice second third → IsSameSlice first third
same_again first second third a b = record { name = b.name ∙ a.name; length = b.length ∙ a.length; failures = b.failures }

pub one_at_most : (b : Bool) → from_bool b ≤ 1
one_at_most b = grind arith

-- a line that was not performed leaves all as it was
pub so_far_same : (session later : State) (room next : Room) (start : Value) (bytes : List ℕ) (count refused : ℕ) →
    SoFar session room start bytes count refused → IsAt rules later (script start bytes).value → HasSame room next →
    SoFar later next start bytes count refused
so_far_same session later room next start bytes count refused so_far at same =
    record { text = same ∙ so_far.text; leaves = at; counts_lines = so_far.counts_lines; counts_refused = so_far.counts_refused }

-- the room is as it was
pub same_left : (room next : Room) (needs : ℕ) → HasSame room next → length next.bytes.now ≡ length room.bytes.now →
    left_in room < needs → left_in next < needs
same_left room next needs same size less =
    let counts = ap length same in
    grind (
      arith,
      counts,
      size,
      less,
      room.within,
      next.within,
      length-take next.count next.bytes.now,
      length-take room.count
          room.bytes.now,
    )

pub past_next : (count taken n size : ℕ) → (count ≡ LINE_LIMIT) ⊎ (BYTE_LIMIT < taken + n) → n ≤ size + 1 →
    (count ≡ LINE_LIMIT) ⊎ (BYTE_LIMIT < taken + (size + 1))
past_next count taken n size past short = grind arith

-- all lines that were answered, and those that are left
whole_lines : (taken : ℕ) (typed : List ℕ) → (unfinished (take taken typed) ≡ []) ⊎ (taken ≡ length typed) →
    lines typed ≡ lines (take taken typed) ++ lines (drop taken typed)
whole_lines taken typed ends =
    grind (arith, common_steps, cut_lines taken typed, take_all taken typed, drop_all taken typed, lines_none)

-- the result
pub answers_part : (session : State) (room : Room) (typed : List ℕ) (start : Value) (answered : Answered) →
    SoFar session room start (take answered.taken typed) answered.lines answered.refused →
    (unfinished (take answered.taken typed) ≡ []) ⊎ (answered.taken ≡ length typed) → answered.taken ≤ length typed →
    answered.count ≡ room.count →
    IsEnd answered.end typed (length room.bytes.now) (script start (take answered.taken typed)).value answered →
    AnswersPart session typed room.bytes.now start answered
answers_part session room typed start answered so_far ended within count end = record {
  within = (within, rw count room.within);
  text = rw count so_far.text;
  leaves = so_far.leaves;
  counts_lines = so_far.counts_lines;
  counts_refused = so_far.counts_refused;
  whole_lines = whole_lines answered.taken typed ended;
  end = end;
}
