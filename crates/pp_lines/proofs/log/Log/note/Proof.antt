-- The body is empty. The borrow is opened, and closed with another ghost value.
use Rattle.pp_lines.proofs.Walks.{List, [], ◌∷◌, refl, ◌++◌, length, Ura, named, Val, vunit, vptr, SProp, emp, via, fst∗, id⊢}
use Rattle.pp_lines.proofs.Walks.{ftrue, flft, Memory, Routine, WpFn, Tables, Logic, Fun, tables, tables_of, ‵, ◌⊛◌, ◌$◌, ◌∵◌, ! }
use Rattle.pp_lines.proofs.Walks.{qed, move, keep, drop, use1, split, join, fsplit, fsplit3, fjoin, fjoin3, feq_i, suffices, frame}
use Rattle.pp_lines.proofs.Walks.{done, unit_lit, of_opd, returns, enter, alloc_all, pass_all, free_all, look_at, sets, WpFn-mono}
use Rattle.pp_lines.proofs.Walks.{owns, MutRef, mut_vals, mut_Tells, plain, opens, closes, Meets, triple_of, entered, says, Stays}
use Rattle.pp_lines.proofs.Walks.{stay_ref, Goes-ref, ends_at, walked, walk_Meets, u8, yes, ShrSlice, slice_val, shr_slice_vals}
use Rattle.pp_lines.proofs.Walks.{shr_slice_Tells, stay_none_slice, Goes-none_slice, take, stay_none, Goes-none, usize, w64, vint}
use Rattle.pp_lines.proofs.Walks.{uint_vals, uint_Tells}
use Rattle.std.specs.Prelude.{Some}
use Rattle.pp_lines.specs.{Device.is_at_end, declared.log.Log.Log}
use Rattle.pp_lines.specs.contracts.log.Log as T
use Rattle.pp_lines.specs.contracts.log.Log.note.Key.{name as #it}
use Rattle.pp_lines.specs.contracts.log.Log.note as it
use Rattle.pp_lines.proofs.log.Log.note.Statement as stated
use Rattle.pp_lines.proofs.log.Log.note.Code as code

abbrev stayed : Stays (it.ended).signature.params (it.ended).kept
stayed = (
  stay_ref (0 ∷ []) tt (plain (λ _. T.the_row)),
  (stay_none_slice (1 ∷ []) tt (plain (λ _. u8)) yes, (stay_none (λ _. usize) yes, tt)),
)

meets : {M : Type 1} {𝓤 : Ura M} (𝓛 : Logic 𝓤) → (at_mem : Memory → SProp 𝓤) (run : Routine → Fun 𝓤) (𝓣 : Tables 𝓤 𝓛.H)
    → Meets 𝓛 it.signature (WpFn 𝓤 𝓛.H 𝓣.C 𝓣.Λ code.function) (it.spec 𝓛 at_mem run)
meets {𝓤 = 𝓤} 𝓛 at_mem run 𝓣 = walk_Meets 𝓛 it.ended stayed (
  Goes-ref 𝓛 2 0 tt (plain (λ _. T.the_row)),
  (Goes-none_slice 𝓛 2 (1 ∷ []) tt (plain (λ _. u8)) yes, (Goes-none 𝓛 2 (λ _. usize) yes (λ κs x w. refl), tt)),
) (it.clauses 𝓛 at_mem run) (WpFn 𝓤 𝓛.H 𝓣.C 𝓣.Λ code.function)
    (WpFn-mono 𝓤 𝓛.H 𝓛.laws 𝓣 code.function)
    (walked 𝓛 it.ended stayed (it.clauses 𝓛 at_mem run) (WpFn 𝓤 𝓛.H 𝓣.C 𝓣.Λ code.function)
    (λ κs. (mut_vals, (shr_slice_vals, (uint_vals w64, tt))))
    (λ κs. (mut_Tells (named 0) κs.0 T.the_row, (shr_slice_Tells (named 1) κs.1.0 u8, (uint_Tells w64, tt))))
    (λ κs qs bounds a g are. via 𝓤 _ (fst∗ 𝓤 _ (emp 𝓤)) (
    let place : Val = vptr a.0.ref_ptr.0 a.0.ref_ptr.1 in let text : Val = slice_val a.1.0.ref_ptr (length a.1.0.now) in
    let after : Log = record {
      marker = a.0.now.marker;
      bytes = a.0.now.bytes ++ take a.1.1.0 a.1.0.now;
      ended = is_at_end a.0.now.ended a.1.1.0 a.1.0.now;
      calls = Some (take a.1.1.0 a.1.0.now) ∷ a.0.now.calls;
    } in let count : Val = vint w64 a.1.1.0 in
    qed 𝓛 ((‵ (flft κs.0 qs.0) ⊛ (‵ (flft κs.1.0 qs.1.0) ⊛ ‵ ftrue)) ∷
    ‵ (owns (MutRef (named 0) κs.0 T.the_row ∷ ShrSlice (named 1) κs.1.0 u8 ∷ usize ∷ []) a
    (place ∷ [], (text ∷ [], (count ∷ [], tt)))) ∷ []) ∵
    split ! $ move ! (2 ∷ []) $ fsplit ! $ fsplit3 ! $ drop ! $ move ! (0 ∷ 1 ∷ 3 ∷ []) $
    enter ! 𝓣.C 𝓣.Λ code.function (place ∷ text ∷ count ∷ []) _ $
    alloc_all ! (λ l. pass_all ! refl
    ((tt, tt), ((tt, (tt, (record { fits = are.1.0.0.1.0 }, tt))), ((tt, record { fits = are.1.1.0.1 }), tt))) $
    move ! (0 ∷ 1 ∷ 2 ∷ []) $
    opens ! tt T.the_row {h = a.0.now} a.0.ref_ptr.0 a.0.ref_ptr.1 (λ vs. sets ! (of_opd ! (unit_lit !)) refl (tt, tt) $
    move ! (1 ∷ []) $ use1 𝓛 (‵ ((T.the_row).own_val after vs)) (id⊢ 𝓤 _) $
    move ! (1 ∷ 0 ∷ []) $ closes ! tt T.the_row after vs a.0.ref_ptr.0 a.0.ref_ptr.1 $
    returns ! (look_at ! 0 refl) $ free_all ! refl $ keep ! (0 ∷ 1 ∷ 2 ∷ 3 ∷ 4 ∷ []) $
    suffices ! _ (ends_at 𝓛 it.ended stayed (it.clauses 𝓛 at_mem run)
    ((κs, qs, tt, a, (place ∷ [], (text ∷ [], (count ∷ [], tt)))), tt) vunit tt
    (after, (tt, (tt, tt))) (tt, (tt, (tt, tt)))) $ says ! (refl, refl, refl) $ move ! (2 ∷ 4 ∷ []) $ join ! $
    frame ! $ feq_i ! (List Val) (place ∷ []) (place ∷ []) refl $ fjoin3 ! $ fjoin ! $
    feq_i ! (List Val) (vunit ∷ []) (vunit ∷ []) refl $ move ! (1 ∷ 0 ∷ []) $ done !)))))

pub note_spec : {M : Type 1} → stated.statement M
unfolding tables_of
note_spec 𝓤 𝓛 𝓜 𝓡 wired = entered 𝓤 𝓛.H (triple_of 𝓛 it.signature (it.spec 𝓛 𝓜.mem 𝓡.returns))
    (tables 𝓤 𝓛.H 𝓜 𝓡 𝓡.env).C (tables 𝓤 𝓛.H 𝓜 𝓡 𝓡.env).Λ #it code.function (code.unfolded 𝓤 𝓛.H 𝓜 𝓡 wired)
    (meets 𝓛 𝓜.mem 𝓡.returns (tables_of 𝓤 𝓛.H 𝓜 (tables 𝓤 𝓛.H 𝓜 𝓡 𝓡.env)))
