-- Which part of a turn writes which places.
use Rattle.std.proofs.Common.{◌≡◌, ℕ, ◌+◌, ◌==◌, ◌&&◌, Bool, true, false, not, if◌then◌else◌, [], ◌∷◌, ◌++◌, ap, sym, ◌∙◌, refl}
use Rattle.std.proofs.Common.{arith, nat_le, nat_lt, Option, Some, None, is_some}
use Rattle.std.proofs.lemmas.Bool.{and_parts, eqb-true, false≢true}
use Rattle.pp_machine.specs.declared.place.Place.{Place}
use Rattle.pp_machine.specs.Prelude.{Machine, Writes, first_of_two, has_function, is_in_state, lookup, lookup-append, number}
use Rattle.pp_machine.specs.Prelude.{old_values, over, put, renamed, same_place}
use Rattle.pp_machine.specs.{Printer.fit, Printer.printer_step, Printer.word_writes, PrinterNumbers.PrinterNumbers}
use Rattle.pp_machine.specs.{PrinterNumbers.printer_mode_number, Reader.reader_step, ReaderNumbers.reader_mode_number}
use Rattle.pp_machine.specs.declared.channel.ChannelState.TheVariants.{Empty, Full}
use Rattle.pp_machine.specs.declared.place.Place.TheVariants as place
use Rattle.pp_machine.specs.declared.printer.PrinterMode.TheVariants as printing
use Rattle.pp_machine.specs.declared.reader.ReaderMode.TheVariants as reading
use Rattle.pp_rig.specs.Turn.{clock_step, pp_of, processor_step, slot_step}
use Rattle.pp_step.specs.{Step.pp_writes, View.PpPlace, View.pp_place}
use Rattle.pp_step.specs.View as pp

-- ---- lists

-- each place of a list passes
abbrev pub all_of : (Place → Bool) → Writes Place → Bool
all_of f [] = true
all_of f (pair ∷ w) = f pair.0 && all_of f w

equal : (x y : Place) → same_place x y ≡ true → x ≡ y
equal place.Slot place.Slot e = refl
equal _ place.Slot e = cc
equal (place.Cell n a) (place.Cell k b) e = let both = and_parts (n == k) (a == b) e in search eqb-true
equal _ _ e = search (eqb-true, false≢true)

apart_if : (f : Place → Bool) (x y : Place) (b : Bool) → same_place x y ≡ b → f x ≡ true → f y ≡ false → same_place x y ≡ false
apart_if f x y true e h k = absurd (false≢true (sym k ∙ ap f (sym (equal x y e)) ∙ h))
apart_if f x y false e h k = e

apart : (f : Place → Bool) (x y : Place) → f x ≡ true → f y ≡ false → same_place x y ≡ false
apart f x y h k = apart_if f x y (same_place x y) refl h k

past_if : (b : Bool) (n : ℕ) (o : Option ℕ) → b ≡ false → (if b then Some n else o) ≡ o
past_if true n o h = absurd (false≢true (sym h))
past_if false n o h = refl

-- a place that does not pass is not in the list
pub none_of : (f : Place → Bool) (w : Writes Place) (p : Place) → all_of f w ≡ true → f p ≡ false → lookup w p ≡ None
none_of f [] p h k = refl
none_of f (pair ∷ w) p h k =
    let parts = and_parts (f pair.0) (all_of f w) h in
    past_if (same_place pair.0 p) pair.1 (lookup w p) (apart f pair.0 p parts.0 k) ∙ none_of f w p parts.1 k

some_if : (b : Bool) (m n : ℕ) (x y : Option ℕ) → is_some x ≡ is_some y →
    is_some (if b then Some m else x) ≡ is_some (if b then Some n else y)
some_if true m n x y h = refl
some_if false m n x y h = h

-- old values are at the same places
pub old_there : (s : Machine) (w : Writes Place) (p : Place) → is_some (lookup (old_values s w) p) ≡ is_some (lookup w p)
old_there s [] p = refl
old_there s (pair ∷ w) p = some_if (same_place pair.0 p) _ _ _ _ (old_there s w p)

is_none : (o : Option ℕ) → is_some o ≡ false → o ≡ None
is_none None h = refl
is_none (Some n) h = absurd (false≢true (sym h))

pub old_none : (s : Machine) (w : Writes Place) (p : Place) → lookup w p ≡ None → lookup (old_values s w) p ≡ None
old_none s w p h = is_none _ (old_there s w p ∙ ap is_some h)

pub skipped : (p : Place) (late early : Writes Place) → lookup late p ≡ None → lookup (late ++ early) p ≡ lookup early p
skipped p late early h = lookup-append same_place late early p ∙ ap (λ o. first_of_two o (lookup early p)) h

first_alone : (o : Option ℕ) → first_of_two o None ≡ o
first_alone None = refl
first_alone (Some n) = refl

pub alone : (p : Place) (late early : Writes Place) → lookup early p ≡ None → lookup (late ++ early) p ≡ lookup late p
alone p late early h = lookup-append same_place late early p ∙ ap (first_of_two (lookup late p)) h ∙ first_alone (lookup late p)

-- ---- parts

if_all : (f : Place → Bool) (b : Bool) (x y : Writes Place) → all_of f x ≡ true → all_of f y ≡ true →
    all_of f (if b then x else y) ≡ true
if_all f true x y h k = h
if_all f false x y h k = k

-- what a processor's step may write
abbrev pub is_processors : Place → Bool
is_processors (place.Cell n a) = true
is_processors (place.RegA n) = true
is_processors (place.RegP n) = true
is_processors (place.RegQ n) = true
is_processors (place.Phase n) = true
is_processors (place.ChannelMode c) = true
is_processors (place.ChannelWord c) = true
is_processors (place.Central a) = true
is_processors (place.FrameWord i) = true
is_processors _ = false

own_place : (n : ℕ) (x : PpPlace) → is_processors (pp_place n x) ≡ true
own_place n pp.A = refl
own_place n _ = refl

lifted : (n : ℕ) (w : Writes PpPlace) → all_of is_processors (renamed (pp_place n) w) ≡ true
lifted n [] = refl
lifted n (pair ∷ w) = cc (own_place n pair.0, lifted n w)

pub by_processor : (s : Machine) → all_of is_processors (processor_step s) ≡ true
by_processor s = lifted s.slot (pp_writes (pp_of s.slot s))

-- what the reader on channel c may write
abbrev pub is_readers : ℕ → Place → Bool
is_readers c (place.ChannelMode k) = k == c
is_readers c (place.ChannelWord k) = k == c
is_readers c place.Card = true
is_readers c place.CardColumn = true
is_readers c place.ReaderMode = true
is_readers c _ = false

same_channel : (c : ℕ) → (c == c) ≡ true
same_channel c = grind arith

pub by_reader : (s : Machine) → all_of (is_readers s.setup.reader_channel) (reader_step s) ≡ true
by_reader s =
    let c = s.setup.reader_channel in
    let r = s.reader in
    let f = is_readers c in
    let one : ((c == c) && true) ≡ true = ap (λ b. b && true) (same_channel c) in
    let two : ((c == c) && ((c == c) && true)) ≡ true = ap (λ b. b && (b && true)) (same_channel c) in
    let is_reading = is_in_state s c Empty && r.mode == reader_mode_number reading.Reading in
    if_all f (has_function s c 0o0001 && nat_lt 0 r.column) _ _ one
    (if_all f (has_function s c 0o0001) _ _ one
    (if_all f (has_function s c 0o0002) _ _ one
    (if_all f (is_reading && nat_lt r.column 80) _ _ two
    (if_all f is_reading _ _ one
    (if_all f (is_in_state s c Empty && r.mode == reader_mode_number reading.Status) _ _ two
    (if_all f (is_in_state s c Empty && r.mode == reader_mode_number reading.Sent) _ _ one refl))))))

-- what the printer on channel c may write
abbrev pub is_printers : ℕ → Place → Bool
is_printers c (place.ChannelMode k) = k == c
is_printers c (place.ChannelWord k) = k == c
is_printers c place.PaperLength = true
is_printers c place.PaperColumn = true
is_printers c place.PrinterMode = true
is_printers c (place.PaperSymbol k) = true
is_printers c _ = false

of_word : (c : ℕ) (p : PrinterNumbers) (word : ℕ) → all_of (is_printers c) (word_writes c p word) ≡ true
of_word c p word =
    let one : ((c == c) && true) ≡ true = ap (λ b. b && true) (same_channel c) in
    if_all (is_printers c) (nat_le (p.column + 2) 136) _ _ one
    (if_all (is_printers c) (nat_le (p.column + 1) 136) _ _ one one)

pub by_printer : (s : Machine) → all_of (is_printers s.setup.printer_channel) (printer_step s) ≡ true
by_printer s =
    let c = s.setup.printer_channel in
    let p = s.printer in
    let f = is_printers c in
    let one : ((c == c) && true) ≡ true = ap (λ b. b && true) (same_channel c) in
    let two : ((c == c) && ((c == c) && true)) ≡ true = ap (λ b. b && (b && true)) (same_channel c) in
    if_all f (has_function s c 0o0001) _ _ one
    (if_all f (has_function s c 0o0002) _ _ one
    (if_all f (has_function s c 0o0003 && fit p 1) _ _ one
    (if_all f (is_in_state s c Full && (p.mode == printer_mode_number printing.Printing && fit p 2)) _ _
    (of_word c p (number s (place.ChannelWord c)))
    (if_all f (is_in_state s c Empty && p.mode == printer_mode_number printing.Status) _ _ two
    (if_all f (is_in_state s c Empty && p.mode == printer_mode_number printing.Sent) _ _ one refl)))))

-- what the end of a turn writes
abbrev pub is_end : Place → Bool
is_end place.Clock = true
is_end place.Slot = true
is_end _ = false

pub by_clock : (s : Machine) → all_of is_end (clock_step s) ≡ true
by_clock s = if_all is_end (s.slot == 0o11) _ _ refl refl

pub by_slot : (s : Machine) → all_of is_end (slot_step s) ≡ true
by_slot s = refl

-- ---- the paper

abbrev is_paper : Place → Bool
is_paper place.PaperLength = true
is_paper place.PaperColumn = true
is_paper place.PrinterMode = true
is_paper (place.PaperSymbol k) = true
is_paper _ = false

not_true : (b : Bool) → not b ≡ true → b ≡ false
not_true true h = absurd (false≢true h)
not_true false h = refl

weaker : (f g : Place → Bool) → ((p : Place) → f p ≡ true → g p ≡ true) → (w : Writes Place) → all_of f w ≡ true → all_of g w ≡ true
weaker f g h [] k = refl
weaker f g h (pair ∷ w) k = let parts = and_parts (f pair.0) (all_of f w) k in cc (h pair.0 parts.0, weaker f g h w parts.1)

printer_put : (s : Machine) (p : Place) (v : ℕ) → is_paper p ≡ false → (put s p v).printer ≡ s.printer
printer_put s place.PaperLength v h = absurd (false≢true (sym h))
printer_put s place.PaperColumn v h = absurd (false≢true (sym h))
printer_put s place.PrinterMode v h = absurd (false≢true (sym h))
printer_put s (place.PaperSymbol k) v h = absurd (false≢true (sym h))
printer_put s _ v h = refl

printer_over : (s : Machine) (w : Writes Place) → all_of (λ p. not (is_paper p)) w ≡ true → (over s w).printer ≡ s.printer
printer_over s [] h = refl
printer_over s (pair ∷ w) h =
    let parts = and_parts (not (is_paper pair.0)) (all_of (λ p. not (is_paper p)) w) h in
    printer_put (over s w) pair.0 pair.1 (not_true (is_paper pair.0) parts.0) ∙ printer_over s w parts.1

not_paper : (p : Place) → is_processors p ≡ true → not (is_paper p) ≡ true
not_paper place.Slot h = refl
not_paper _ h = cc

not_paper2 : (c : ℕ) (p : Place) → is_readers c p ≡ true → not (is_paper p) ≡ true
not_paper2 c place.Slot h = refl
not_paper2 c _ h = cc

-- the printer before its step is the one before the turn
pub printer_waits : (s : Machine) → let s1 = over s (processor_step s) in (over s1 (reader_step s1)).printer ≡ s.printer
printer_waits s =
    let s1 = over s (processor_step s) in
    printer_over s1 (reader_step s1) (weaker (is_readers s1.setup.reader_channel) (λ p. not (is_paper p))
    (not_paper2 s1.setup.reader_channel)
    (reader_step s1) (by_reader s1))
    ∙ printer_over s (processor_step s) (weaker is_processors (λ p. not (is_paper p)) not_paper (processor_step s) (by_processor s))

-- ---- the slot

slot_put : (s : Machine) (p : Place) (v : ℕ) → is_end p ≡ false → (put s p v).slot ≡ s.slot
slot_put s place.Slot v h = absurd (false≢true (sym h))
slot_put s _ v h = refl

slot_over : (s : Machine) (w : Writes Place) → all_of (λ p. not (is_end p)) w ≡ true → (over s w).slot ≡ s.slot
slot_over s [] h = refl
slot_over s (pair ∷ w) h =
    let parts = and_parts (not (is_end pair.0)) (all_of (λ p. not (is_end p)) w) h in
    slot_put (over s w) pair.0 pair.1 (not_true (is_end pair.0) parts.0) ∙ slot_over s w parts.1

not_end : (p : Place) → is_processors p ≡ true → not (is_end p) ≡ true
not_end place.Slot h = h
not_end _ h = cc

not_end2 : (c : ℕ) (p : Place) → is_readers c p ≡ true → not (is_end p) ≡ true
not_end2 c place.Slot h = h
not_end2 c _ h = cc

not_end3 : (c : ℕ) (p : Place) → is_printers c p ≡ true → not (is_end p) ≡ true
not_end3 c place.Slot h = h
not_end3 c _ h = cc

-- the slot is the same until the end
pub slot_waits : (s : Machine) →
    let s1 = over s (processor_step s) in let s2 = over s1 (reader_step s1) in (over s2 (printer_step s2)).slot ≡ s.slot
slot_waits s =
    let s1 = over s (processor_step s) in
    let s2 = over s1 (reader_step s1) in
    slot_over s2 (printer_step s2) (weaker (is_printers s2.setup.printer_channel) (λ p. not (is_end p))
    (not_end3 s2.setup.printer_channel)
    (printer_step s2) (by_printer s2))
    ∙ slot_over s1 (reader_step s1) (weaker (is_readers s1.setup.reader_channel) (λ p. not (is_end p))
    (not_end2 s1.setup.reader_channel)
    (reader_step s1) (by_reader s1))
    ∙ slot_over s (processor_step s) (weaker is_processors (λ p. not (is_end p)) not_end (processor_step s) (by_processor s))
