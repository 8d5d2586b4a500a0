-- The body is empty. The borrow is opened, and closed with another ghost value.
use Rattle.pp_lines.proofs.Walks.{refl, [], ◌∷◌, named, vunit, ftrue, flft, ‵, ◌⊛◌, ◌$◌, ◌∵◌, !, qed, done, move, keep, split}
use Rattle.pp_lines.proofs.Walks.{join, fsplit3, feq_i, suffices, frame, group, enter, of_opd, unit_lit, returns, alloc_all}
use Rattle.pp_lines.proofs.Walks.{pass_all, free_all, look_at, sets, MutRef, mut_vals, mut_Tells, plain, nothing, opens, closes}
use Rattle.pp_lines.proofs.Walks.{Stays, says, stay_ref, Goes-ref, ends_at, proved}
use Rattle.std.specs.Prelude.{None}
use Rattle.pp_lines.specs.{declared.log.Log.Log, contracts.log.Log.the_row as Row}
use Rattle.pp_lines.specs.contracts.log.Log.note_failure as it
use Rattle.pp_lines.proofs.log.Log.note_failure.{Statement.statement, Code.function, Code.unfolded}

pub note_failure_spec : {M : Type 1} → statement M
note_failure_spec 𝓤 𝓛 𝓜 𝓡 wired =
    let c = it.clauses 𝓛 𝓜.mem 𝓡.returns in
    let stayed : Stays (it.ended).signature.params (it.ended).kept = (stay_ref (0 ∷ []) tt (plain (λ _. Row)), tt) in
    proved 𝓛 it.ended stayed c 𝓜 𝓡 (Goes-ref 𝓛 1 0 tt (plain (λ _. Row)), tt)
    it.Key.name function (unfolded 𝓤 𝓛.H 𝓜 𝓡 wired)
    (λ κs. (mut_vals, tt)) (λ κs. (mut_Tells (named 0) κs.0 Row, tt)) (λ κs qs bounds a g are.
    let b = a.0.ref_ptr.0 in let o = a.0.ref_ptr.1 in let vs = mut_vals a.0 in
    let after : Log = record a.0.now { calls = None ∷ a.0.now.calls } in
    qed 𝓛 (((‵ (flft κs.0 qs.0) ⊛ ‵ ftrue) ⊛ ‵ ((MutRef (named 0) κs.0 Row).own_val a.0 vs) ⊛ ‵ ftrue) ∷ ‵ ftrue ∷ []) ∵
    split ! $ split ! $ move ! (2 ∷ []) $ split ! $ keep ! (0 ∷ 2 ∷ []) $
    enter ! _ _ _ _ _ $ alloc_all ! (λ l. pass_all ! refl ((tt, tt), tt) $
    fsplit3 ! $ move ! (1 ∷ 2 ∷ 3 ∷ []) $ opens ! tt Row b o (λ us. closes ! tt Row after us b o $
    sets ! (of_opd ! (unit_lit !)) refl (tt, tt) $ returns ! (look_at ! 0 refl) $ free_all ! refl $ move ! (3 ∷ []) $
    suffices ! _ (ends_at 𝓛 it.ended stayed c ((κs, qs, bounds, a, (vs, tt)), g) vunit tt (after, tt) (tt, tt)) $
    says ! (refl, refl, refl) $ group ! 3 $ nothing ! $ move ! (1 ∷ 0 ∷ []) $ join ! $ nothing ! $ move ! (2 ∷ 0 ∷ []) $
    join ! $ frame ! $ frame ! $ feq_i ! _ (vunit ∷ []) _ refl $ done !)))
