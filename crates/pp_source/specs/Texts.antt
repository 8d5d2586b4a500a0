-- Texts in display code, read from left to right: 3HABC, 0HABC up to a comma or a blank, H*ABC* between two equal symbols.
use Rattle.std.specs.Prelude.{ℕ, ◌+◌, ◌-◌, ◌%◌, ◌==◌, ◌&&◌, ◌||◌, nat_le, not, Bool, Option, Some, None, Result, Ok, Err, List, [], ◌∷◌, ◌++◌}
use Rattle.std.specs.Prelude.{codes, drop, length, map, min, option_map, replicate, take, if◌then◌else◌}
use Rattle.std.specs.List.{position, prefix_len}
use Rattle.std.specs.Option.{is_some, unwrap_or}
use denote.Ref.{Bor}
use Rattle.pp_decks.specs.Blanks.{is_among}
use Rattle.pp_notation.specs.Digits.{number_in}
use Rattle.pp_notation.specs.DisplayCode.{code}
use Rattle.pp_source.specs.Scan.{digits_size, index_of, is_alphanumeric, is_blank}
use Rattle.pp_source.specs.declared.message.Stop.{Stop}
use Rattle.pp_source.specs.declared.texts.DisplayText.{DisplayText}

-- ---- how texts are written

-- A text: its letter, its symbols, how many it has with blanks that the line has lost at its end, and what follows.
pub record Text : Type 0 where
  pub kind : ℕ
  pub symbols : List ℕ
  pub count : ℕ
  pub rest : List ℕ

-- A text that ends before a column of a line.
abbrev pub text_in : List ℕ → DisplayText → Text
text_in line text = record {
  kind = text.kind;
  symbols = text.symbols.now;
  count = text.count;
  rest = drop text.end line;
}

-- A text of the next so many symbols.
abbrev pub taken : ℕ → ℕ → List ℕ → Text
taken kind size text = record { kind = kind; symbols = take size text; count = size; rest = drop size text }

-- How many symbols a text has before the first comma or blank.
abbrev pub word_size : List ℕ → ℕ
word_size text = prefix_len (λ c. not (is_blank c) && not (c == 44)) text

-- A text with a count. Its line may have lost so many blanks at its end. 0 is the count of one word.
abbrev pub counted : ℕ → ℕ → ℕ → List ℕ → Option Text
counted lost count kind text =
    let size = if count == 0 then word_size text else count in
    if nat_le size (length text + lost) then Some (taken kind size text) else None

-- The text before the next mark, of which there must be one.
abbrev pub before_mark : ℕ → ℕ → List ℕ → Option Text
before_mark kind mark text =
    option_map (λ size. record (taken kind size text) { rest = drop (size + 1) text }) (index_of mark text)

-- Two equal symbols are marks, if they are no letters, digits or blanks. Else this is no text.
abbrev pub marked : ℕ → List ℕ → Option (Option Text)
marked kind [] = Some None
marked kind (mark ∷ text) =
    if is_alphanumeric mark || mark == 32 then Some None else option_map Some (before_mark kind mark text)

abbrev pub is_kind : ℕ → Bool
is_kind c = is_among (codes "HLRACZ") c

-- The text whose letter comes next, behind so many digits of its count.
abbrev pub text_behind : ℕ → Bool → ℕ → ℕ → List ℕ → Option (Option Text)
text_behind lost may_be_marked digits count [] = Some None
text_behind lost may_be_marked digits count (kind ∷ text) =
    if not (is_kind kind) then Some None
    else (if not (digits == 0) then option_map Some (counted lost count kind text)
    else (if may_be_marked then marked kind text else Some None))

-- The text that comes next, if one does; or nothing at all, if it has no end.
unfoldable pub text_at : ℕ → Bool → List ℕ → Option (Option Text)
text_at lost may_be_marked text =
    let digits = min 9 (digits_size text) in
    text_behind lost may_be_marked digits (number_in 10 (take digits text)) (drop digits text)

-- What was read of a line, or nothing.
abbrev pub read_of : List ℕ → Result (Option DisplayText) Stop → Option (Option Text)
read_of line (Ok text) = Some (option_map (text_in line) text)
read_of line (Err stop) = None

abbrev pub symbols_read : Result (Bor (List ℕ)) Stop → Option (List ℕ)
symbols_read (Ok symbols) = Some symbols.now
symbols_read (Err stop) = None

-- ---- their codes

-- A symbol without a code counts as a blank, after a message.
abbrev pub code_or_blank : ℕ → ℕ
code_or_blank c = unwrap_or (code c) 0o55

abbrev pub has_no_code : ℕ → Bool
has_no_code c = not (is_some (code c))

abbrev pub are_in_code : List ℕ → Bool
are_in_code symbols = not (is_some (position has_no_code symbols))

-- The codes of symbols, and of the blanks that the line has lost behind them.
abbrev pub codes_of : List ℕ → ℕ → List ℕ
codes_of symbols count = map code_or_blank symbols ++ replicate (count - length symbols) 0o55

-- H and A are filled with blanks, the others with zeros.
abbrev pub fill : ℕ → ℕ
fill kind = if is_among (codes "HA") kind then 0o55 else 0

abbrev pub is_at_end : ℕ → Bool
is_at_end kind = is_among (codes "RA") kind

-- A text filled up to a size: what fills it is before R and A, and behind the others.
abbrev pub filled : ℕ → ℕ → ℕ → List ℕ → List ℕ
filled size kind count symbols =
    let more = replicate (size - count) (fill kind) in
    if is_at_end kind then more ++ codes_of symbols count else codes_of symbols count ++ more

-- C ends in a word of zero, and Z in a symbol of zero at least.
abbrev pub least_size : ℕ → ℕ → ℕ
least_size kind count = if kind == 67 then count + 2 else (if kind == 90 then count + 1 else count)

-- Whole words have an even number of codes.
abbrev pub size_in_words : ℕ → ℕ → ℕ
size_in_words kind count = let size = least_size kind count in size + size % 2
