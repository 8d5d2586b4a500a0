-- What the lines that load a program ask for.
use Rattle.std.proofs.Common.{◌≡◌, ◌∙◌, ℕ, suc, ◌+◌, ◌<◌, ◌≤◌, ◌^◌, nat_lt, nat_le, true, false, List, [], ◌∷◌, ◌++◌, Some, Ok}
use Rattle.std.proofs.Common.{codes, length, refl, sym, ap, arith, append_assoc, append-nil, Result}
use Rattle.std.specs.List.{list_all}
use Rattle.std.proofs.lemmas.Bool.Decides.{nat_tests}
use Rattle.pp_arith.specs.Octal.{octal_text, is_octal}
use Rattle.pp_notation.specs.declared.program.Cell.{Cell}
use Rattle.pp_lines.specs.{Lines.finished, Words.words}
use Rattle.pp_actions.specs.declared.action.Action.TheVariants.{SetCells, SetP}
use Rattle.pp_command.specs.CommandLine.{command, makes, sentence, request_of, setting, set_cells, is_printable}
use Rattle.pp_command.specs.Numbers.{WordList, if_octal, number_read, numbers, two}
use Rattle.pp_command.specs.declared.fault.LineFault.{LineFault}
use Rattle.pp_lines.specs.Results.{◌>>=◌}
use Rattle.pp_command.specs.declared.request.Request.TheVariants.{Act}
use Rattle.pp_notation.specs.Rows.{IsRow}
use Rattle.pp_loading.specs.Inner.Rows.{cells_line, start_line, words_text, word_text}
use Rattle.pp_loading.proofs.LineWords.{AreWords, IsWord, is_of_line, length-spaced, line-of_line, list_all-implied}
use Rattle.pp_loading.proofs.LineWords.{finished-of_line, number-word, number_text, spaced, without_return-of_line, words-line}

-- the words of cells, in octal
abbrev pub texts : List Cell → WordList
texts [] = []
texts (cell ∷ row) = octal_text cell.word 1 ∷ texts row

-- the words of cells
abbrev pub values : List Cell → List ℕ
values [] = []
values (cell ∷ row) = cell.word ∷ values row

-- ---- a line of words

of_line-printable : (byte : ℕ) → is_of_line byte ≡ true → is_printable byte ≡ true
of_line-printable byte h = grind (arith, nat_tests)

command-words : (text : List ℕ) → list_all is_of_line text ≡ true → length text ≤ 255 → command text ≡ sentence (words text)
unfolding command
command-words text h short =
    let within : nat_lt 255 (length text) ≡ false = grind (arith, nat_tests) in
    rw (without_return-of_line text h, within, list_all-implied is_of_line is_printable of_line-printable text h) refl

set_word : IsWord (codes "SET")
set_word = record { some = omega arith; short = omega arith; plain = refl }

letter_word : (letter : ℕ) → 65 ≤ letter → letter ≤ 90 → IsWord (letter ∷ [])
letter_word letter h k = record { some = omega arith; short = omega arith; plain = grind (arith, nat_tests) }

-- what a line SET asks for: a letter, and at most ten numbers
command-set : (letter : ℕ) (given : WordList) → 65 ≤ letter → letter ≤ 90 → AreWords given → length given ≤ 10 →
    command (codes "SET" ++ spaced ((letter ∷ []) ∷ given)) ≡ sentence (codes "SET" ∷ (letter ∷ []) ∷ given)
command-set letter given h k are few =
    let all : AreWords ((letter ∷ []) ∷ given) = (letter_word letter h k, are) in
    let short : length (codes "SET" ++ spaced ((letter ∷ []) ∷ given)) ≤ 255 = omega (arith, length-spaced given are) in
    command-words (codes "SET" ++ spaced ((letter ∷ []) ∷ given)) (line-of_line (codes "SET") ((letter ∷ []) ∷ given) set_word all)
    short
    ∙ ap sentence (words-line (codes "SET") ((letter ∷ []) ∷ given) set_word all)

-- ---- numbers

number_of : (most value : ℕ) → value ≤ most → value < 2 ^ 64 → number_read most (octal_text value 1) ≡ Ok value
number_of most value h fits = let number = number_text value fits in
    let within : nat_le value most ≡ true = grind (arith, nat_tests) in
    rw (number.octal, number.value, within) refl

octal_of : (value : ℕ) → value < 2 ^ 64 → is_octal (octal_text value 1) ≡ true
octal_of value h = (number_text value h).octal

word_of : (value : ℕ) → value < 2 ^ 64 → IsWord (octal_text value 1)
word_of value h = number-word (octal_text value 1) value (number_text value h)

-- ---- the words of a row

pub row-words : (address : ℕ) (row : List Cell) → IsRow address row → AreWords (texts row)
row-words address [] h = tt
row-words address (cell ∷ row) h = (word_of cell.word (omega (arith, h.2)), row-words (address + 1) row h.3)

row-octal : (address : ℕ) (row : List Cell) → IsRow address row → list_all is_octal (texts row) ≡ true
row-octal address [] h = refl
row-octal address (cell ∷ row) h = rw (octal_of cell.word (omega (arith, h.2)), row-octal (address + 1) row h.3) refl

row-numbers : (address : ℕ) (row : List Cell) → IsRow address row → numbers 0o7777 (texts row) ≡ Ok (values row)
row-numbers address [] h = refl
row-numbers address (cell ∷ row) h =
    rw (number_of 0o7777 cell.word (omega (arith, h.2)) (omega (arith, h.2)), row-numbers (address + 1) row h.3) refl

pub row-in_range : (address : ℕ) (row : List Cell) → IsRow address row → list_all (λ value. nat_le value 0o7777) (values row) ≡ true
row-in_range address [] h = refl
row-in_range address (cell ∷ row) h =
    let within : nat_le cell.word 0o7777 ≡ true = grind (arith, nat_tests, h.2) in
    rw (within, row-in_range (address + 1) row h.3) refl

length-texts : (row : List Cell) → length (texts row) ≡ length row
length-texts [] = refl
length-texts (cell ∷ row) = ap suc (length-texts row)

words-spaced_texts : (row : List Cell) → words_text row ≡ spaced (texts row)
words-spaced_texts [] = refl
words-spaced_texts (cell ∷ row) = ap (λ rest. word_text cell.word ++ rest) (words-spaced_texts row)

-- ---- the requests

sentence-cells : (given : WordList) → sentence (codes "SET" ∷ codes "M" ∷ given) ≡ makes Some set_cells given
unfolding request_of setting
sentence-cells given = refl

sentence-start : (given : WordList) →
    sentence (codes "SET" ∷ codes "P" ∷ given) ≡ makes Some (makes (λ (n, v). Act (SetP n v)) (two 0o11 0o7777)) given
unfolding request_of setting
sentence-start given = refl

-- the numbers are read if all words are octal
if_octal-read : {A : Type 0} (given : WordList) (read : Result A LineFault) → list_all is_octal given ≡ true →
    if_octal given read ≡ read
if_octal-read given read h = rw h refl

two_octal : (n address : ℕ) (others : WordList) → n < 10 → address < 0o10000 → list_all is_octal others ≡ true →
    list_all is_octal (octal_text n 1 ∷ octal_text address 1 ∷ others) ≡ true
two_octal n address others h k octals = rw (octal_of n (omega arith), octal_of address (omega arith), octals) refl

request-cells : (n : ℕ) (cell : Cell) (row : List Cell) → n < 10 → IsRow cell.address (cell ∷ row) → length row ≤ 7 →
    set_cells (octal_text n 1 ∷ octal_text cell.address 1 ∷ texts (cell ∷ row))
    ≡ Ok (Act (SetCells n cell.address (values (cell ∷ row))))
unfolding set_cells
request-cells n cell row h are few =
    let count : nat_lt 7 (length (texts row)) ≡ false = grind (arith, nat_tests, length-texts row) in
    let octals = row-octal cell.address (cell ∷ row) are in
    let all = two_octal n cell.address (texts (cell ∷ row)) h (omega (arith, are.1)) octals in
    let numbers = row-numbers cell.address (cell ∷ row) are in
    rw count (if_octal-read (octal_text n 1 ∷ octal_text cell.address 1 ∷ texts (cell ∷ row)) _ all
    ∙ rw (
      number_of 0o11 n (omega arith) (omega arith),
      number_of 0o7777 cell.address (omega (arith, are.1)) (omega (arith, are.1)),
      numbers,
    ) refl)

request-start : (n address : ℕ) → n < 10 → address < 0o10000 →
    makes (λ (n, v). Act (SetP n v)) (two 0o11 0o7777) (octal_text n 1 ∷ octal_text address 1 ∷ []) ≡ Ok (Act (SetP n address))
unfolding two
request-start n address h k =
    let all = two_octal n address [] h k refl in
    let read : two 0o11 0o7777 (octal_text n 1 ∷ octal_text address 1 ∷ []) ≡ Ok (n, address) =
    if_octal-read (octal_text n 1 ∷ octal_text address 1 ∷ []) _ all
    ∙ rw (number_of 0o11 n (omega arith) (omega arith), number_of 0o7777 address (omega arith) (omega arith)) refl in
    ap (λ (r : Result (ℕ × ℕ) LineFault). r >>= λ (n, v). Ok (Act (SetP n v))) read

-- ---- the lines

-- the words after the letter
cells_words : ℕ → Cell → List Cell → WordList
cells_words n cell row = octal_text n 1 ∷ octal_text cell.address 1 ∷ texts (cell ∷ row)

cells_line-words : (n : ℕ) (cell : Cell) (row : List Cell) →
    cells_line n (cell ∷ row) ≡ codes "SET" ++ spaced (codes "M" ∷ cells_words n cell row)
unfolding cells_words
cells_line-words n cell row =
    ap (λ rest. codes "SET M" ++ word_text n ++ word_text cell.address ++ rest) (words-spaced_texts (cell ∷ row))
    ∙ ap (λ rest. codes "SET M " ++ rest)
    (append_assoc (octal_text n 1) (word_text cell.address) (spaced (texts (cell ∷ row))))

are_cells_words : (n : ℕ) (cell : Cell) (row : List Cell) → n < 10 → IsRow cell.address (cell ∷ row) →
    AreWords (cells_words n cell row)
unfolding cells_words
are_cells_words n cell row h are = (
  word_of n (omega arith),
  (word_of cell.address (omega (arith, are.1)), row-words cell.address (cell ∷ row) are),
)

length-cells_words : (n : ℕ) (cell : Cell) (row : List Cell) → length row ≤ 7 → length (cells_words n cell row) ≤ 10
unfolding cells_words
length-cells_words n cell row few = omega (arith, length-texts row)

pub command-cells : (n : ℕ) (cell : Cell) (row : List Cell) → n < 10 → IsRow cell.address (cell ∷ row) → length row ≤ 7 →
    command (cells_line n (cell ∷ row)) ≡ Ok (Some (Act (SetCells n cell.address (values (cell ∷ row)))))
unfolding cells_words
command-cells n cell row h are few = ap command (cells_line-words n cell row)
    ∙ command-set 77 (cells_words n cell row) (omega arith) (omega arith) (are_cells_words n cell row h are)
    (length-cells_words n cell row few)
    ∙ sentence-cells (cells_words n cell row) ∙ rw (request-cells n cell row h are few) refl

start_words : ℕ → ℕ → WordList
start_words n address = octal_text n 1 ∷ octal_text address 1 ∷ []

start_line-words : (n address : ℕ) → start_line n address ≡ codes "SET" ++ spaced (codes "P" ∷ start_words n address)
unfolding start_words
start_line-words n address =
    ap (λ rest. codes "SET P " ++ (octal_text n 1 ++ 32 ∷ rest)) (sym (append-nil (octal_text address 1)))

pub command-start : (n address : ℕ) → n < 10 → address < 0o10000 → command (start_line n address) ≡ Ok (Some (Act (SetP n address)))
unfolding start_words
command-start n address h k = ap command (start_line-words n address)
    ∙ command-set 80 (start_words n address) (omega arith) (omega arith)
    (word_of n (omega arith), (word_of address (omega arith), tt)) (omega arith)
    ∙ sentence-start (start_words n address) ∙ rw (request-start n address h k) refl

-- ---- no line feed

pub cells_line-unbroken : (n : ℕ) (cell : Cell) (row : List Cell) → n < 10 → IsRow cell.address (cell ∷ row) →
    finished (cells_line n (cell ∷ row)) ≡ []
cells_line-unbroken n cell row h are = ap finished (cells_line-words n cell row)
    ∙ finished-of_line (codes "SET" ++ spaced (codes "M" ∷ cells_words n cell row))
    (line-of_line (codes "SET") (codes "M" ∷ cells_words n cell row) set_word
    (letter_word 77 (omega arith) (omega arith), are_cells_words n cell row h are))

pub start_line-unbroken : (n address : ℕ) → n < 10 → address < 0o10000 → finished (start_line n address) ≡ []
unfolding start_words
start_line-unbroken n address h k = ap finished (start_line-words n address)
    ∙ finished-of_line (codes "SET" ++ spaced (codes "P" ∷ start_words n address))
    (line-of_line (codes "SET") (codes "P" ∷ start_words n address) set_word
    (letter_word 80 (omega arith) (omega arith), (word_of n (omega arith), (word_of address (omega arith), tt))))
