use Rattle.pp_lines.proofs.Walks.{refl, [], ◌∷◌, ◌++◌, Ura, named, Val, vptr, vstruct, vnil, SProp, emp, via, fst∗, Memory, Routine}
use Rattle.pp_lines.proofs.Walks.{WpFn, Tables, Logic, Fun, tables, tables_of, WpFn-mono, ‵, raw, ◌$◌, ◌∵◌, !, qed, move, suffices}
use Rattle.pp_lines.proofs.Walks.{done, no_more, returns, enter, agg, alloc_all, pass_all, free_all, look_at, sets, yes, owns}
use Rattle.pp_lines.proofs.Walks.{shr_vals, shr_Tells, pure_i, plain, types_at, alive, Meets, triple_of, entered, says}
use Rattle.pp_lines.proofs.Walks.{stay_none_ref, Stays, ends_at, walked, Goes-none_ref, walk_Meets}
use Rattle.pp_host.specs.{FileEvent.event_of, declared.file_log.FileEvent.FileEvent, declared.file_log.FileLog.FileLog}
use Rattle.pp_lines.specs.declared.log.Log.{Log}
use Rattle.pp_host.specs.contracts.file_log.FileLog.with.Key.{name as key}
use Rattle.pp_host.specs.contracts.file_log.FileLog.with as f
use Rattle.pp_host.proofs.file_log.FileLog.with.Statement as stated
use Rattle.pp_host.proofs.file_log.FileLog.with.Code as code
use Rattle.pp_host.specs.contracts.file_log.FileLog as trail
use Rattle.pp_host.specs.contracts.file_log.FileEvent as event
use Rattle.pp_lines.specs.contracts.log.Log as moved

abbrev stayed : Stays (f.ended).signature.params (f.ended).kept
stayed = (
  stay_none_ref (0 ∷ []) tt (plain (λ _. trail.the_row)) yes,
  (stay_none_ref (1 ∷ []) tt (plain (λ _. event.the_row)) yes, (stay_none_ref (2 ∷ []) tt (plain (λ _. moved.the_row)) yes, tt)),
)

-- the log with one more event
abbrev longer : FileLog → FileEvent → Log → FileLog
longer before happened bytes = record { events = before.events ++ event_of happened bytes ∷ [] }

meets : {M : Type 1} {𝓤 : Ura M} (𝓛 : Logic 𝓤) (mem : Memory → SProp 𝓤) (run : Routine → Fun 𝓤) (𝓣 : Tables 𝓤 𝓛.H)
    → Meets 𝓛 f.signature (WpFn 𝓤 𝓛.H 𝓣.C 𝓣.Λ code.function) (f.spec 𝓛 mem run)
meets {𝓤 = 𝓤} 𝓛 mem run 𝓣 = walk_Meets 𝓛 f.ended stayed (
  Goes-none_ref 𝓛 3 (0 ∷ []) tt (plain (λ _. trail.the_row)) yes,
  (
    Goes-none_ref 𝓛 3 (1 ∷ []) tt (plain (λ _. event.the_row)) yes,
    (Goes-none_ref 𝓛 3 (2 ∷ []) tt (plain (λ _. moved.the_row)) yes, tt),
  ),
) (f.clauses 𝓛 mem run) (WpFn 𝓤 𝓛.H 𝓣.C 𝓣.Λ code.function)
    (WpFn-mono 𝓤 𝓛.H 𝓛.laws 𝓣 code.function)
    (walked 𝓛 f.ended stayed (f.clauses 𝓛 mem run) (WpFn 𝓤 𝓛.H 𝓣.C 𝓣.Λ code.function)
    (λ κs. (shr_vals, (shr_vals, (shr_vals, tt))))
    (λ κs. (
      shr_Tells (named 0) κs.0 trail.the_row,
      (
        shr_Tells (named 1) κs.1.0 event.the_row,
        (shr_Tells (named 2) κs.1.1.0 moved.the_row, tt),
      ),
    ))
    (λ κs qs bounds a g are. via 𝓤 _ (fst∗ 𝓤 _ (emp 𝓤)) (
    let before : Val = vptr a.0.ref_ptr.0 a.0.ref_ptr.1 in let happened : Val = vptr a.1.0.ref_ptr.0 a.1.0.ref_ptr.1 in
    let bytes : Val = vptr a.1.1.0.ref_ptr.0 a.1.1.0.ref_ptr.1 in
    let after : FileLog = longer a.0.now a.1.0.now a.1.1.0.now in
    qed 𝓛 (raw (alive 𝓛 f.signature κs qs)
    ∷ ‵ (owns (types_at f.signature.params κs) a (before ∷ [], (happened ∷ [], (bytes ∷ [], tt)))) ∷ []) ∵
    enter ! 𝓣.C 𝓣.Λ code.function (before ∷ happened ∷ bytes ∷ []) _ $
    alloc_all ! (λ l. pass_all ! refl ((tt, tt), ((tt, tt), ((tt, tt), tt))) $ sets ! (agg ! (no_more !)) refl (tt, tt) $
    returns ! (look_at ! 0 refl) $ free_all ! refl $
    suffices ! _ (ends_at 𝓛 f.ended stayed (f.clauses 𝓛 mem run)
    ((κs, qs, tt, a, (before ∷ [], (happened ∷ [], (bytes ∷ [], tt)))), tt)
    (vstruct vnil) after (tt, (tt, (tt, tt))) (tt, (tt, (tt, tt)))) $
    says ! refl $ pure_i ! (trail.the_row.own_val after (vstruct vnil ∷ [])) ((λ vss. (tt, tt)), tt) ((tt, (refl, tt)), tt) $
    move ! (1 ∷ 2 ∷ 0 ∷ []) $ done !))))

pub with_spec : {M : Type 1} → stated.statement M
unfolding tables_of
with_spec 𝓤 𝓛 𝓜 𝓡 wired = entered 𝓤 𝓛.H (triple_of 𝓛 f.signature (f.spec 𝓛 𝓜.mem 𝓡.returns))
    (tables 𝓤 𝓛.H 𝓜 𝓡 𝓡.env).C (tables 𝓤 𝓛.H 𝓜 𝓡 𝓡.env).Λ key code.function (code.unfolded 𝓤 𝓛.H 𝓜 𝓡 wired)
    (meets 𝓛 𝓜.mem 𝓡.returns (tables_of 𝓤 𝓛.H 𝓜 (tables 𝓤 𝓛.H 𝓜 𝓡 𝓡.env)))
