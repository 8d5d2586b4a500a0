use Rattle.std.proofs.Common.{◌≡◌, ◌∙◌, ◌+◌, ◌-◌, ◌<◌, ◌≤◌, ◌==◌, ◌%◌, ◌∷◌, ◌++◌, List, [], ℕ, ap, add-one, append-nil}
use Rattle.std.proofs.Common.{append_assoc, arith, bit_and, drop, drop-cons, get_or, if◌then◌else◌, length, refl, replicate, sym}
use Rattle.std.proofs.lemmas.{Bool.ne_eqb, Grind.common_steps, List.drop_all}
use Rattle.pp_listing.specs.Listing.{without_tabs}
use Rattle.pp_listing.proofs.listing.put_text.Goals as goal
use Rattle.pp_listing.proofs.listing.put_text.Goals.{then-byte-eq9+in_ok-put_field, else-byte-eq9+in_ok-push}

at-tab : (column at : ℕ) (text : List ℕ) → at < length text → get_or text at 0 ≡ 9 →
    without_tabs column (drop at text) ≡ replicate (8 - column) 32 ++ without_tabs 0 (drop (at + 1) text)
unfolding without_tabs
at-tab column at text within tab = ap (without_tabs column) (drop-cons text at 0 within) ∙ rw (tab, add-one at) refl

at-byte : (column at : ℕ) (text : List ℕ) → at < length text → (get_or text at 0 ≡ 9 → ⊥) →
    without_tabs column (drop at text) ≡
    get_or text at 0 ∷ without_tabs (if bit_and (get_or text at 0) 0o300 == 0o200 then column else (column + 1) % 8)
    (drop (at + 1) text)
unfolding without_tabs
at-byte column at text within other = ap (without_tabs column) (drop-cons text at 0 within) ∙ rw
    (ne_eqb (get_or text at 0) 9 other, add-one at) refl

after-tab : (out new all text : List ℕ) (column at : ℕ) → at < length text → get_or text at 0 ≡ 9 →
    out ++ without_tabs column (drop at text) ≡ all → new ≡ out ++ replicate (8 - column - 0) 32 →
    new ++ without_tabs 0 (drop (at + 1) text) ≡ all
after-tab out new all text column at within tab before written =
    let e = at-tab column at text within tab in grind (arith, common_steps, e)

after-byte : (out new all text : List ℕ) (column next at : ℕ) → at < length text → (get_or text at 0 ≡ 9 → ⊥) →
    out ++ without_tabs column (drop at text) ≡ all → new ≡ out ++ get_or text at 0 ∷ [] →
    next ≡ (if bit_and (get_or text at 0) 0o300 == 0o200 then column else (column + 1) % 8) →
    new ++ without_tabs next (drop (at + 1) text) ≡ all
after-byte out new all text column next at within other before written is_next =
    let e = at-byte column at text within other in rw (written, is_next)
    (append_assoc out (get_or text at 0 ∷ []) _ ∙ (sym (ap (λ rest. out ++ rest) e) ∙ before))

at-end : (column at : ℕ) (text : List ℕ) → length text ≤ at → without_tabs column (drop at text) ≡ []
unfolding without_tabs
at-end column at text end = ap (without_tabs column) (drop_all at text end)

pub loop-byte-preserved : goal.loop-byte-preserved
loop-byte-preserved c = elim c.if-byte-eq9.branch [
  | then-byte-eq9+in_ok-put_field w ↦ record {
    below = omega (arith, w.column-is);
    written = rw w.column-is (after-tab c.loop-byte.out.items _ _ c.args.text.now c.loop-byte.column c.loop-byte.byte-index
        c.loop-byte-test.true w.if-byte-eq9.true c.loop-byte.invariant.written (rw w.out-is w.in_ok-put_field.ensures));
  }
  | else-byte-eq9+in_ok-push w ↦ record {
    below = omega (arith, w.column-is, w.next_column-column.ensures.below);
    written = after-byte c.loop-byte.out.items _ _ c.args.text.now c.loop-byte.column _ c.loop-byte.byte-index c.loop-byte-test.true
        w.if-byte-eq9.false c.loop-byte.invariant.written (rw w.out-is w.in_ok-push.ensures.items)
        (w.column-is ∙ w.next_column-column.ensures.next);
  }
]

pub returns : goal.returns
returns c = sym (append-nil c.loop-byte.out.items)
    ∙ (ap (λ rest. c.loop-byte.out.items ++ rest)
    (sym (at-end c.loop-byte.column c.loop-byte.byte-index c.args.text.now c.loop-byte-test.false))
    ∙ c.loop-byte.invariant.written)
