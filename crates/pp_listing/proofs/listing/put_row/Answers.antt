use Rattle.std.proofs.Common.{◌≡◌, ◌∙◌, ◌<◌, ◌≤◌, ◌∷◌, ◌++◌, List, [], ℕ, ap, append-nil}
use Rattle.std.proofs.Common.{append_assoc, arith, drop, length, refl, slice_get, sym}
use Rattle.pp_listing.specs.Listing.{address_fields, further_lines, listed_row, text_of}
use Rattle.pp_listing.specs.Listing.{two_on, value_field, without_tabs, words_field}
use Rattle.pp_notation.specs.Columns.{ended}
use Rattle.pp_listing.specs.Texts.{row_words}
use Rattle.pp_statements.specs.declared.scope.Row.{Row}
use Rattle.pp_assembler.specs.declared.program.Assembly.{Assembly}
use Rattle.pp_listing.proofs.listing.put_row.Goals as goal

further : (row : Row) (words : List ℕ) → 2 < length words → further_lines row words ≡
    ended (address_fields (two_on row) ++ words_field (drop 2 words)) ++ further_lines (two_on row) (drop 2 words)
unfolding further_lines
further row [] some = absurd (omega arith)
further row (first ∷ []) some = absurd (omega arith)
further row (first ∷ second ∷ []) some = absurd (omega arith)
further row (first ∷ second ∷ word ∷ words) some = refl

no-further : (row : Row) (words : List ℕ) → length words ≤ 2 → further_lines row words ≡ []
unfolding further_lines
no-further row [] few = refl
no-further row (first ∷ []) few = refl
no-further row (first ∷ second ∷ []) few = refl
no-further row (first ∷ second ∷ word ∷ words) few = absurd (omega arith)

after-line : (out new all words others : List ℕ) (row next : Row) → 2 < length words → out ++ further_lines row words ≡ all →
    next ≡ two_on row → others ≡ drop 2 words → new ≡ out ++ ended (address_fields next ++ words_field others) →
    new ++ further_lines next others ≡ all
after-line out new all words others row next some before is_next are_others written = rw (written, is_next, are_others)
    (append_assoc out _ _ ∙ (sym (ap (λ rest. out ++ rest) (further row words some)) ∙ before))

all-lines : (out first words text : List ℕ) (made : Assembly) (row : Row) → words ≡ row_words made row →
    text ≡ text_of made (slice_get made.lines.all.items row.statement) →
    first ≡ out ++ ended (address_fields row ++ value_field row words row.value ++ without_tabs 0 text) →
    first ++ further_lines row words ≡ out ++ listed_row made row
all-lines out first words text made row are is written = rw (written, are, is) (append_assoc out _ _)

pub loop-words-preserved : goal.loop-words-preserved
loop-words-preserved c = after-line c.loop-words.out.items _ _ c.loop-words.words.now _ c.loop-words.next _ c.loop-words-test.true
    c.loop-words.invariant c.two_on-next.ensures c.others-words.ensures c.in_ok-put_further.ensures

pub returns : goal.returns
returns c = sym (append-nil c.loop-words.out.items)
    ∙ (ap (λ rest. c.loop-words.out.items ++ rest)
    (sym (no-further c.loop-words.next c.loop-words.words.now c.loop-words-test.false))
    ∙ (c.loop-words.invariant ∙ all-lines c.args.out.now.items _ _ _ c.args.made.now c.args.row.now c.words_of-words.ensures
    c.text_of.ensures
    c.in_ok-put_first.ensures))
