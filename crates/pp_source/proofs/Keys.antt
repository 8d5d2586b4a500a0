-- Keys of symbols, and their numbers.
use Rattle.std.proofs.Common.{◌≡◌, ◌∙◌, ℕ, zero, suc, ◌-◌, ◌≤◌, Bool, true, false, true≢false, List, [], ◌∷◌, ◌++◌, Option, Some, None, ap, drop, drop_of_length-le, length, map, refl, set, sym, take, arith, ⊎_elim, append_assoc, take-append-drop}
use Rattle.std.proofs.lemmas.Bool.{and_parts, and_from, cases_Bool, eq-eqb, leb-true, le-leb}
use Rattle.std.proofs.lemmas.List.{drop-append-le, length-append, length-drop, map-append, take-append-le, take_all}
use Rattle.std.proofs.lemmas.List.Folds.{list_all-append}
use Rattle.std.proofs.lemmas.Option.{get_or_from_slice_get, slice_get-map}
use Rattle.std.proofs.lemmas.Slice.Eq.{bytes_eq-Decides}
use Rattle.std.specs.Prelude.{bytes_eq, nat_le, option_map, slice_get, if◌then◌else◌}
use Rattle.std.specs.BTreeMap.{BTreeMap}
use Rattle.pp_notation.specs.Columns.{between}
use Rattle.pp_source.specs.Index.{IsIndex, IsTable, are_in, has_number, number_in, number_of, numbers_in}
use Rattle.pp_source.specs.Names.{has_key, has_key_at, is_joined, kept_text}
use Rattle.pp_source.specs.declared.symbols.Symbol.{Symbol}
use Rattle.pp_source.specs.declared.symbols.Symbols.{Symbols}

-- A text with more behind it has the same parts.
same_part : (text more : List ℕ) (first end : ℕ) → end ≤ length text → between (text ++ more) first end ≡ between text first end
same_part text more first end within =
    let long : nat_le end (length text) ≡ true = le-leb end (length text) within in
    let longer : nat_le end (length (text ++ more)) ≡ true = le-leb end (length (text ++ more)) (omega (arith, length-append text more)) in
    ⊎_elim (λ is_so.
    let ordered = leb-true first end is_so in
    let one = drop-append-le first text more (omega arith) in
    let two = take-append-le (end - first) (drop first text) more (omega (arith, length-drop first text)) in
    rw (is_so, long, longer, one) two)
    (λ is_not. rw is_not refl)
    (cases_Bool (nat_le first end))

pub more_text : (text more : List ℕ) (symbols : List Symbol) → are_in text symbols ≡ true →
    (are_in (text ++ more) symbols ≡ true) × (numbers_in (text ++ more) symbols ≡ numbers_in text symbols)
more_text text more [] kept = (refl, refl)
more_text text more (symbol ∷ symbols) kept =
    let parts = and_parts (nat_le symbol.key.end (length text)) (are_in text symbols) kept in
    let within = leb-true symbol.key.end (length text) parts.0 in
    let rest = more_text text more symbols parts.1 in
    let longer : nat_le symbol.key.end (length (text ++ more)) ≡ true =
    le-leb symbol.key.end (length (text ++ more)) (omega (arith, length-append text more)) in
    let number = ap number_of (same_part text more symbol.key.first symbol.key.end within) in
    (and_from (nat_le symbol.key.end (length (text ++ more))) (are_in (text ++ more) symbols) longer rest.0, rw (number, rest.1) refl)

-- A symbol with another meaning has the same key.
pub same_keys : (text : List ℕ) (symbols : List Symbol) (at : ℕ) (old new : Symbol) → slice_get symbols at ≡ Some old → new.key ≡ old.key →
    (are_in text (set symbols at new) ≡ are_in text symbols) × (numbers_in text (set symbols at new) ≡ numbers_in text symbols)
same_keys text [] at old new found same = (refl, refl)
same_keys text (symbol ∷ symbols) zero old new found same =
    let one : symbol ≡ old = grind arith in
    let key : new.key ≡ symbol.key = rw one same in
    (rw key refl, rw key refl)
same_keys text (symbol ∷ symbols) (suc at) old new found same =
    let rest = same_keys text symbols at old new found same in
    (rw rest.0 refl, rw rest.1 refl)

-- A key is a prefix and a name if its parts are the same.
pub joined : (text prefix name : List ℕ) → is_joined text prefix name ≡ true → text ≡ prefix ++ name
joined text prefix name same =
    let parts = and_parts (bytes_eq (take (length prefix) text) prefix) (bytes_eq (drop (length prefix) text) name) same in
    let front = (bytes_eq-Decides (take (length prefix) text) prefix).0 parts.0 in
    let back = (bytes_eq-Decides (drop (length prefix) text) name).0 parts.1 in
    sym (take-append-drop (length prefix) text) ∙ rw (front, back) refl

by_symbol : (symbols : Symbols) (prefix name : List ℕ) (at : ℕ) (found : Option Symbol) → slice_get symbols.all.items at ≡ found →
    has_key symbols prefix name found ≡ true →
    has_number (numbers_in symbols.text.items symbols.all.items) (number_of (prefix ++ name)) at ≡ true
by_symbol symbols prefix name at None found same = absurd (true≢false (sym same))
by_symbol symbols prefix name at (Some symbol) found same =
    let number = number_in symbols.text.items in
    let one = slice_get-map number symbols.all.items at ∙ ap (option_map number) found in
    let two = get_or_from_slice_get (map number symbols.all.items) at (number symbol) 0 one in
    eq-eqb _ _ (two ∙ ap number_of (joined (kept_text symbols symbol.key) prefix name same))

-- A key has the number of its prefix and name.
pub has_its_number : (symbols : Symbols) (prefix name : List ℕ) (at : ℕ) → has_key_at symbols prefix name at ≡ true →
    has_number (numbers_in symbols.text.items symbols.all.items) (number_of (prefix ++ name)) at ≡ true
has_its_number symbols prefix name at same = by_symbol symbols prefix name at (slice_get symbols.all.items at) refl same

-- One more symbol, whose key is within the text.
pub one_more : (text : List ℕ) (symbols : List Symbol) (symbol : Symbol) → are_in text symbols ≡ true → symbol.key.end ≤ length text →
    (are_in text (symbols ++ symbol ∷ []) ≡ true)
    × (numbers_in text (symbols ++ symbol ∷ []) ≡ numbers_in text symbols ++ number_in text symbol ∷ [])
one_more text symbols symbol kept within =
    let one : nat_le symbol.key.end (length text) ≡ true = le-leb symbol.key.end (length text) within in
    let all = list_all-append (λ (symbol : Symbol). nat_le symbol.key.end (length text)) symbols (symbol ∷ []) in
    (all ∙ rw (kept, one) refl, map-append (number_in text) symbols (symbol ∷ []))

-- What has come behind a text is between its end and that of the whole.
pub new_key : (text more : List ℕ) → between (text ++ more) (length text) (length (text ++ more)) ≡ more
new_key text more =
    let size = length-append text more in
    let ordered : nat_le (length text) (length (text ++ more)) ≡ true = le-leb (length text) (length (text ++ more)) (omega (arith, size)) in
    let whole : nat_le (length (text ++ more)) (length (text ++ more)) ≡ true =
    le-leb (length (text ++ more)) (length (text ++ more)) (omega arith) in
    let none : drop (length text) text ≡ [] = drop_of_length-le text {i = length text} (omega arith) in
    let behind : drop (length text) (text ++ more) ≡ more = drop-append-le (length text) text more (omega arith) ∙ rw none refl in
    rw (ordered, whole, behind) (take_all (length (text ++ more) - length text) more (omega (arith, size)))

-- ---- what keeps a table

pub longer : (text text' more : List ℕ) (b : Bool) (symbols : List Symbol) (last : BTreeMap ℕ ℕ) (before : List (Option ℕ)) →
    text' ≡ (if b then text ++ more else text) → IsTable text symbols last before → IsTable text' symbols last before
longer text text' more true symbols last before same table =
    let kept = more_text text more symbols table.0 in
    rw same (kept.0, rw kept.1 table.1)
longer text text' more false symbols last before same table = rw same table

pub renewed : (text : List ℕ) (symbols : List Symbol) (last : BTreeMap ℕ ℕ) (before : List (Option ℕ)) (at : ℕ) (old new : Symbol) →
    slice_get symbols at ≡ Some old → new.key ≡ old.key → IsTable text symbols last before → IsTable text (set symbols at new) last before
renewed text symbols last before at old new found same table =
    let kept = same_keys text symbols at old new found same in
    (kept.0 ∙ table.0, rw kept.1 table.1)

-- A symbol is pushed before its number, and popped if that can't be.
pub grown : (text : List ℕ) (symbols symbols' : List Symbol) (symbol : Symbol) (number : ℕ) (last last' : BTreeMap ℕ ℕ)
    (before before' : List (Option ℕ)) → symbols' ≡ symbols ++ symbol ∷ [] → symbol.key.end ≤ length text → number ≡ number_in text symbol →
    ((numbers : List ℕ) → IsIndex numbers last before → IsIndex (numbers ++ number ∷ []) last' before') →
    IsTable text symbols last before → IsTable text symbols' last' before'
grown text symbols symbols' symbol number last last' before before' more within its adds table =
    let kept = one_more text symbols symbol table.0 within in
    let added = adds (numbers_in text symbols) table.1 in
    rw more (kept.0, rw (kept.1, ← its) added)

pub popped : (text : List ℕ) (symbols symbols' symbols'' : List Symbol) (symbol : Symbol) (last last' : BTreeMap ℕ ℕ)
    (before before' : List (Option ℕ)) (count : ℕ) → symbols' ≡ symbols ++ symbol ∷ [] → count ≡ length symbols' →
    symbols'' ≡ take (count - 1) symbols' → ((numbers : List ℕ) → IsIndex numbers last before → IsIndex numbers last' before') →
    IsTable text symbols last before → IsTable text symbols'' last' before'
popped text symbols symbols' symbols'' symbol last last' before before' count more all less keeps table =
    let longer : length symbols' ≡ length (symbols ++ symbol ∷ []) = ap length more in
    let size : count - 1 ≡ length symbols = omega (arith, all, longer, length-append symbols (symbol ∷ [])) in
    let one : take (count - 1) symbols' ≡ take (length symbols) (symbols ++ symbol ∷ []) = rw (size, more) refl in
    let two = take-append-le (length symbols) symbols (symbol ∷ []) (omega arith) in
    let same : symbols'' ≡ symbols = less ∙ (one ∙ (two ∙ take_all (length symbols) symbols (omega arith))) in
    rw same (table.0, keeps (numbers_in text symbols) table.1)

pub number_of_new : (text text' text'' prefix name : List ℕ) (first end number : ℕ) → text' ≡ text ++ prefix → text'' ≡ text' ++ name →
    first ≡ length text → end ≡ length text'' → number ≡ number_of (prefix ++ name) → number ≡ number_of (between text'' first end)
number_of_new text text' text'' prefix name first end number one two begin ends its =
    let assoc : (text ++ prefix) ++ name ≡ text ++ (prefix ++ name) = simp append_assoc in
    let whole : text'' ≡ text ++ (prefix ++ name) = two ∙ (ap (λ (t : List ℕ). t ++ name) one ∙ assoc) in
    rw (begin, ends, whole) (its ∙ ap number_of (sym (new_key text (prefix ++ name))))
