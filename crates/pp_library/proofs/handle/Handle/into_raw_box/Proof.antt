-- `into_raw_box` tests the pointer: null means no session, and else two fields move, and what they own goes with them.
use mathlib.Core.Path.{◌≡◌, refl, sym, subst, ap, ◌∙◌}
use Rattle.std.specs.Prelude.{Option, None, Some}
use Rattle.std.proofs.Common.{lit<}
use Rattle.pp_library.specs.contracts.handle.Handle as Handle
use Rattle.pp_library.specs.contracts.console.Console as Held
use Rattle.pp_library.specs.contracts.raw_box.RawBox as RawBox
use mathlib.Core.List.{List, [], ◌∷◌, ◌++◌}
use lib.Dec.{T}
use seplogic.Ra.Ura.{Ura}
use mir.Val.{Val, vptr, vnull, vstruct, vcons, vnil, of_list, has_ty}
use mir.Raw.{raw as bare}
use base.Logic.{SProp, ent, emp, id⊢, via, fst∗}
use base.Fml.{ftrue, fsep}
use prog.Memory.{Memory}
use prog.Routine.{Routine}
use prog.Wp.{WpFn, Tables}
use types.Logic.{Logic, sem}
use contract.Monad.{Fun, fact_use}
use contract.Running.{tables, tables_of}
use sound.WpLaws.{WpFn-mono}
use types.Kit.{Item, at_ret, ‵, raw, ◌⊛◌, ◌$◌, ◌∵◌, !, qed, by, move, keep, drop, use0, use1, join, split, fsplit, fjoin, fpick}
use types.Kit.{feq_l, suffices, rewrite, done}
use types.Match.{live}
use types.Part.{whole, sub, agg}
use types.Run.{stop, fld, lit, bin, no_more, and_then, of_opd, returns, enter, first, branches, exec}
use types.ByLocal.{alloc_all, pass_all, free_all, look_at, get, get_in, sets, sets_last, env}
use denote.Exit.{yes}
use denote.RattleType.{RattleType}
use denote.RawPtr.{Testable, block_ptr, null_ptr, ptr_val, tests_null}
use denote.Signature.{type_at}
use denote.Steps.{nothing}
use denote.Triple.Spec.{triple_of}
use denote.Triple.Table.{entered}
use denote.Triple.Walked.{says, Stays, stay_dropped, walk_of, ends_at, Goes-dropped, walk_Meets}
use Rattle.core.proofs.alloc.Calls.{α, token, handle_tells}
use Rattle.core.proofs.alloc.Shapes.{after}
use Rattle.core.proofs.cell.Inside.{Good}
use denote.Param.{layout}
use Rattle.core.proofs.option.Made.{Some-of, none_of}
use Rattle.std.proofs.GlobalToken.{dealloc_token-Testable}
use Rattle.std_alloc.proofs.ResultValues.{and_tt}
use Rattle.std_alloc.proofs.BoxSteps.Form.{D, R, τ, handle, word, box_typed}
use Rattle.std_alloc.proofs.BoxSteps.Steps.{box_out, box_in}
use denote.Memory.{part_at}
use base.Fraction.{full_share}
use Rattle.std_heap.specs.contracts.Global as Heap
use Rattle.std_heap.specs.contracts.GlobalAllocator.TheImpl.{ghosts}
use Rattle.pp_library.proofs.AsBox.{E, FromHandle as From}
use Rattle.pp_library.specs.contracts.handle.Handle.into_raw_box as F
use Rattle.pp_library.specs.contracts.handle.Handle.into_raw_box.Key.{name as #self}
use Rattle.pp_library.proofs.handle.Handle.into_raw_box.Statement as stated
use Rattle.pp_library.proofs.handle.Handle.into_raw_box.Code as code

abbrev stayed : Stays (F.ended).signature.params (F.ended).kept
stayed = (stay_dropped From yes, tt)

abbrev Taken : RattleType
Taken = RawBox.the_row Held.the_row Heap.the_row ghosts

-- the words of a handle without a session
abbrev empty : Val → Val
empty hv = vstruct (vcons vnull (vcons hv vnil))

module _ {M : Type 1} {𝓤 : Ura M} (𝓛 : Logic 𝓤) (at_mem : Memory → SProp 𝓤) (run : Routine → Fun 𝓤) (𝓣 : Tables 𝓤 𝓛.H) where
  open 𝓛 use {H}

  at_value : (z : (walk_of 𝓛 F.ended stayed (F.clauses 𝓛 at_mem run)).Ghost) (o : Option Held.the_row.Denot) → z.0.3.0.value ≡ o
      → ent 𝓤 ((walk_of 𝓛 F.ended stayed (F.clauses 𝓛 at_mem run)).pre z)
      (WpFn 𝓤 H 𝓣.C 𝓣.Λ code.function (z.0.4.0 ++ []) ((walk_of 𝓛 F.ended stayed (F.clauses 𝓛 at_mem run)).post z))
  at_value z None none =
      let Post = (walk_of 𝓛 F.ended stayed (F.clauses 𝓛 at_mem run)).post z in
      let To = type_at (F.signature).result tt in
      qed 𝓛 ((‵ ftrue ⊛ ‵ (fsep (Handle.the_row.own_val z.0.3.0 z.0.4.0) ftrue)) ∷ raw (emp 𝓤) ∷ []) ∵ split ! $ drop ! $ fsplit ! $
      rewrite ! 0 (λ (o : Option Held.the_row.Denot). ‵
      (Handle.the_row.own_val (record { at = z.0.3.0.at; alloc = z.0.3.0.alloc; value = o }) z.0.4.0)) none refl $
      fsplit ! $ fpick ! (λ vss. fsplit ! $ feq_l ! (λ ev. fsplit ! $ feq_l ! (λ ep. fsplit ! $
      handle_tells E.al ! z.0.3.0.alloc vss.1.0 (λ hv ea fa.
      drop ! $ drop ! $ fpick ! (λ null. drop ! $ drop ! $ drop ! $
      let w = empty hv in
      let ws : z.0.4.0 ≡ w ∷ [] = ev ∙ ap (λ (ps : List Val). vstruct (of_list (ps ++ (vss.1.0 ++ []))) ∷ []) ep ∙ ap
      (λ (hs : List Val). vstruct (of_list (ptr_val z.0.3.0.at ∷ (hs ++ []))) ∷ []) ea
      ∙ ap (λ (p : denote.RawPtr.Ptr). vstruct (of_list (ptr_val p ∷ hv ∷ [])) ∷ []) null in
      by ! (subst (λ (us : List Val). ent 𝓤 (types.Kit.⋆ 𝓛 []) (WpFn 𝓤 H 𝓣.C 𝓣.Λ code.function (us ++ []) Post)) (sym ws)
      (qed 𝓛 [] ∵ enter ! 𝓣.C 𝓣.Λ code.function (w ∷ []) _ $
      alloc_all ! (λ ls. pass_all ! refl ((and_tt (has_ty (α E.al) hv) fa.0, (record { fits = lit< tt }, (fa.1, tt))), tt) $
      sets ! (of_opd ! (get_in ! (fld ! refl (stop !)) (sub ! 0 refl (whole !)))) refl (tt, record { fits = lit< tt }) $
      sets ! (of_opd ! (get_in ! (fld ! refl (stop !)) (sub ! 1 refl (whole !)))) refl fa $
      sets ! (bin ! (get ! refl) (lit ! tt) tt) refl (tt, tt) $ first ! $ branches ! (get ! refl)
      (λ _. sets_last ! (agg ! (and_then ! (lit ! tt) (no_more !))) refl (tt, (record { fits = lit< tt }, tt)) $
      exec ! 𝓣.C 𝓣.Λ (env code.function.locals ls) (after 4 code.function.body) (at_ret (env code.function.locals ls) Post) $
      sets ! (of_opd ! (get ! refl)) refl (tt, (record { fits = lit< tt }, tt)) $
      use0 𝓛 (‵ (To.own_val None (live 0 vnil ∷ []))) (none_of 𝓛 Taken) $ returns ! (look_at ! 0 refl) $ free_all ! refl $
      suffices ! _ (ends_at 𝓛 F.ended stayed (F.clauses 𝓛 at_mem run) z (live 0 vnil) None (tt, tt) (tt, tt)) $ says ! (sym none) $
      nothing ! $ nothing ! $ fjoin ! $ join ! $ nothing ! $ join ! $ done !) (λ wrong. absurd wrong)))))))))
  at_value z (Some held) some =
      let Post = (walk_of 𝓛 F.ended stayed (F.clauses 𝓛 at_mem run)).post z in
      let v : D E = record { ptr = z.0.3.0.at; alloc = z.0.3.0.alloc; value = held } in
      let To = type_at (F.signature).result tt in
      let made : Taken.Denot = record { ptr = v.ptr; alloc = v.alloc; value = v.value } in
      qed 𝓛 ((‵ ftrue ⊛ ‵ (fsep (Handle.the_row.own_val z.0.3.0 z.0.4.0) ftrue)) ∷ raw (emp 𝓤) ∷ []) ∵ split ! $ drop ! $ fsplit ! $
      rewrite ! 0 (λ (o : Option Held.the_row.Denot). ‵
      (Handle.the_row.own_val (record { at = v.ptr; alloc = v.alloc; value = o }) z.0.4.0)) some refl $
      box_out E ! v z.0.4.0 (λ b o hv e ws fa. keep ! (1 ∷ 0 ∷ 2 ∷ []) $
      let w = word E hv b o in let chosen : Val = live 1 (vcons w vnil) in let token_here = token E.al v.alloc (bare (τ E))
      (block_ptr b o) in
      let others : List (Item 𝓤) = ‵ (part_at (R E) full_share v.value b o) ∷ ‵ (handle E v.alloc hv) ∷ [] in
      let Γ : List (Item 𝓤) = ‵ token_here ∷ others in
      let typed = box_typed E hv b o fa in
      let chosen_typed : Good (layout To) chosen = (and_tt _ typed.0, (record { fits = lit< tt }, (typed.1, tt))) in
      by ! (subst (λ (us : List Val). ent 𝓤 (types.Kit.⋆ 𝓛 Γ) (WpFn 𝓤 H 𝓣.C 𝓣.Λ code.function (us ++ []) Post)) (sym ws)
      (fact_use 𝓤 (Testable (block_ptr b o)) (via 𝓤 (sem 𝓛 token_here) (fst∗ 𝓤 (sem 𝓛 token_here) (types.Kit.⋆ 𝓛 others))
      (dealloc_token-Testable 𝓛 v.alloc (bare (τ E)) (block_ptr b o))) (λ may.
      qed 𝓛 Γ ∵ move ! (1 ∷ 0 ∷ 2 ∷ []) $ box_in E ! v b o v.value e refl $ use1 𝓛 (‵ (Taken.own_val made (w ∷ []))) (id⊢ 𝓤 _) $
      enter ! 𝓣.C 𝓣.Λ code.function (w ∷ []) _ $ alloc_all ! (λ ls. pass_all ! refl (typed, tt) $
      sets ! (of_opd ! (get_in ! (fld ! refl (stop !)) (sub ! 0 refl (whole !)))) refl (tt, tt) $
      sets ! (of_opd ! (get_in ! (fld ! refl (stop !)) (sub ! 1 refl (whole !)))) refl fa $
      sets ! (bin ! (get ! refl) (lit ! tt) (tests_null (block_ptr b o) may)) refl (tt, tt) $ first ! $
      branches ! (get ! refl) (λ wrong. absurd wrong) (λ _.
      sets ! (of_opd ! (get ! refl)) refl (tt, tt) $
      sets ! (agg ! (and_then ! (get ! refl) (and_then ! (get ! refl) (no_more !)))) refl typed $
      sets_last ! (agg ! (and_then ! (lit ! tt) (and_then ! (get ! refl) (no_more !)))) refl chosen_typed $
      exec ! 𝓣.C 𝓣.Λ (env code.function.locals ls) (after 4 code.function.body) (at_ret (env code.function.locals ls) Post) $
      sets ! (of_opd ! (get ! refl)) refl chosen_typed $
      use1 𝓛 (‵ (To.own_val (Some made) (chosen ∷ []))) (Some-of 𝓛 Taken made w) $ returns ! (look_at ! 0 refl) $ free_all ! refl $
      suffices ! _ (ends_at 𝓛 F.ended stayed (F.clauses 𝓛 at_mem run) z chosen (Some made) (tt, tt) (tt, tt)) $ says ! (sym some) $
      nothing ! $ nothing ! $ fjoin ! $ join ! $ nothing ! $ join ! $ done !))))))

  walk : (z : (walk_of 𝓛 F.ended stayed (F.clauses 𝓛 at_mem run)).Ghost)
      → ent 𝓤 ((walk_of 𝓛 F.ended stayed (F.clauses 𝓛 at_mem run)).pre z)
      (WpFn 𝓤 H 𝓣.C 𝓣.Λ code.function (z.0.4.0 ++ []) ((walk_of 𝓛 F.ended stayed (F.clauses 𝓛 at_mem run)).post z))
  walk z = at_value z z.0.3.0.value refl

pub into_raw_box_spec : {M : Type 1} → stated.statement M
unfolding tables_of
into_raw_box_spec 𝓤 𝓛 𝓜 𝓡 wired =
    let 𝓣 : Tables 𝓤 𝓛.H = tables_of 𝓤 𝓛.H 𝓜 (tables 𝓤 𝓛.H 𝓜 𝓡 𝓡.env) in
    entered 𝓤 𝓛.H (triple_of 𝓛 F.signature (F.spec 𝓛 𝓜.mem 𝓡.returns)) 𝓣.C 𝓣.Λ #self code.function (code.unfolded 𝓤 𝓛.H 𝓜 𝓡 wired)
    (walk_Meets 𝓛 F.ended stayed (Goes-dropped 𝓛 0 From yes (λ κs x f. refl), tt) (F.clauses 𝓛 𝓜.mem 𝓡.returns)
    (WpFn 𝓤 𝓛.H 𝓣.C 𝓣.Λ code.function) (WpFn-mono 𝓤 𝓛.H 𝓛.laws 𝓣 code.function)
    (walk 𝓛 𝓜.mem 𝓡.returns 𝓣))
