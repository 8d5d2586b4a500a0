-- Texts in display code: how they are written, and their words. A text is given by the codes of its symbols.
use Rattle.std.specs.Prelude.{ℕ, ℤ, pos, ◌+◌, ◌-◌, ◌*◌, ◌%◌, ◌==◌, ◌&&◌, nat_le, nat_lt, not, Bool, false, Option, Some, None, List}
use Rattle.std.specs.Prelude.{[], ◌∷◌, ◌++◌, length, map, replicate, if◌then◌else◌}
use Rattle.std.specs.List.{list_all}
use Rattle.pp_notation.specs.DisplayCode.{symbol}
use Rattle.pp_meaning.specs.Numbers.{decimal_number}
use Rattle.pp_meaning.specs.declared.texts.Cut.{Cut}
use Rattle.pp_meaning.specs.declared.texts.Cut.TheVariants.{Counted, Marked}
use Rattle.pp_meaning.specs.declared.texts.Kind.{Kind}
use Rattle.pp_meaning.specs.declared.texts.Kind.TheVariants.{A, C, H, R, Z}
use Rattle.pp_meaning.specs.declared.texts.Text.{Text}

-- ---- how texts are written

-- The symbols of a text, with a count before its letter, or between two marks. DIS has a comma in place of the letter.
abbrev pub text_after : List ℕ → List ℕ → Cut → List ℕ
text_after letter symbols (Counted digits) = digits.items ++ letter ++ symbols
text_after letter symbols (Marked mark) = letter ++ mark ∷ symbols ++ mark ∷ []

abbrev pub text_with : List ℕ → Text → List ℕ
text_with letter text = text_after letter (map symbol text.codes.items) text.cut

abbrev pub are_codes : List ℕ → Bool
are_codes items = list_all (λ code. nat_lt code 0o100) items

-- Whether no symbol of a text is a mark.
abbrev pub is_without : ℕ → List ℕ → Bool
is_without mark items = list_all (λ code. not (symbol code == mark)) items

-- Whether a text has no comma and no blank.
abbrev pub is_word : List ℕ → Bool
is_word items = list_all (λ code. not (code == 0o55) && not (code == 0o56)) items

-- With a count of 0 a text is one word; else it has as many symbols as its count.
abbrev pub is_whole : Option ℤ → List ℕ → Bool
is_whole (Some (pos n)) items = if n == 0 then is_word items else length items == n
is_whole _ items = false

-- A mark is no letter, digit or blank.
abbrev pub is_mark : ℕ → Bool
is_mark byte = not (nat_le 48 byte && nat_le byte 57) && not (nat_le 65 byte && nat_le byte 90) && not (byte == 32)

-- Whether a text ends where its count or its mark says.
abbrev pub is_cut : Cut → List ℕ → Bool
is_cut (Counted digits) items = is_whole (decimal_number digits.items) items
is_cut (Marked mark) items = is_mark mark && is_without mark items

abbrev pub is_ended : Cut → List ℕ → Bool
is_ended cut items = are_codes items && is_cut cut items

-- Codes as the digits of a number, after those that are a number.
abbrev pub number_from_codes : ℕ → List ℕ → ℕ
number_from_codes number [] = number
number_from_codes number (code ∷ items) = number_from_codes (number * 0o100 + code) items

-- R in a sum: a count, and so many symbols as a number. No symbol at all is 0.
abbrev pub is_exact : Option ℤ → ℕ → Bool
is_exact (Some (pos n)) count = count == n
is_exact _ count = false

abbrev pub text_number : List ℕ → List ℕ → Option ℤ
text_number digits items =
    if are_codes items && is_exact (decimal_number digits) (length items) then Some (pos (number_from_codes 0 items)) else None

-- ---- words

-- Two codes a word.
abbrev pub pairs : List ℕ → List ℕ
pairs (upper ∷ lower ∷ items) = (upper * 0o100 + lower) ∷ pairs items
pairs _ = []

-- A text up to a size: H has blanks at its end, and A before it; R has zeros before it, and the others at their end.
abbrev pub filled_with : Kind → ℕ → List ℕ → List ℕ
filled_with H more items = items ++ replicate more 0o55
filled_with A more items = replicate more 0o55 ++ items
filled_with R more items = replicate more 0 ++ items
filled_with _ more items = items ++ replicate more 0

abbrev pub filled : Kind → ℕ → List ℕ → List ℕ
filled kind size items = filled_with kind (size - length items) items

-- C ends in a word of zero, and Z in a symbol of zero.
abbrev pub least_size : Kind → ℕ → ℕ
least_size C count = count + 2
least_size Z count = count + 1
least_size _ count = count

-- The words of a text that is whole words.
abbrev pub whole_words : Kind → List ℕ → List ℕ
whole_words kind items = let size = least_size kind (length items) in pairs (filled kind (size + size % 2) items)

-- The words of a text of DATA.
abbrev pub text_words : Text → Option (List ℕ)
text_words text = if is_ended text.cut text.codes.items then Some (whole_words text.kind text.codes.items) else None

-- DIS n,text has so many words.
abbrev pub count_words : Option ℤ → List ℕ → Option (List ℕ)
count_words (Some (pos n)) items =
    if nat_le (length items) (n * 2) && nat_le n 0o7777 then Some (pairs (filled H (n * 2) items)) else None
count_words _ items = None

-- DIS ,*text* ends in a word of zero.
abbrev pub display_words : Cut → List ℕ → Option (List ℕ)
display_words (Counted digits) items = count_words (decimal_number digits.items) items
display_words (Marked mark) items = if is_without mark items then Some (whole_words C items) else None

abbrev pub display : Text → Option (List ℕ)
display text = if are_codes text.codes.items then display_words text.cut text.codes.items else None

-- What follows the text of DIS: a comment, if the text has all its symbols.
abbrev pub has_all : ℕ → Option ℤ → Bool
has_all count (Some (pos n)) = count == n * 2
has_all count _ = false
