-- `new` returns a value of size zero whose ghost list is empty.
use Rattle.pp_lines.proofs.Walks.{refl, [], ◌∷◌, Ura, vstruct, vnil, SProp, Memory, Routine, WpFn, Tables, Logic, Fun, tables}
use Rattle.pp_lines.proofs.Walks.{tables_of, WpFn-mono, raw, ◌$◌, ◌∵◌, !, qed, keep, join, nothing, suffices, done, no_more}
use Rattle.pp_lines.proofs.Walks.{returns, enter, agg, alloc_all, pass_all, free_all, look_at, sets, pure_i, on_entry, Meets}
use Rattle.pp_lines.proofs.Walks.{triple_of, entered, says, ends_at, walked, walk_Meets}
use Rattle.pp_lines.specs.contracts.dialogue_log.DialogueLog.new.Key.{name as key}
use Rattle.pp_lines.specs.contracts.dialogue_log.DialogueLog.new as f
use Rattle.pp_lines.proofs.dialogue_log.DialogueLog.new.Statement as stated
use Rattle.pp_lines.proofs.dialogue_log.DialogueLog.new.Code as code
use Rattle.pp_lines.specs.contracts.dialogue_log.DialogueLog as made

meets : {M : Type 1} {𝓤 : Ura M} (𝓛 : Logic 𝓤) (mem : Memory → SProp 𝓤) (run : Routine → Fun 𝓤) (𝓣 : Tables 𝓤 𝓛.H)
    → Meets 𝓛 f.signature (WpFn 𝓤 𝓛.H 𝓣.C 𝓣.Λ code.function) (f.spec 𝓛 mem run)
meets {𝓤 = 𝓤} 𝓛 mem run 𝓣 =
    walk_Meets 𝓛 f.ended tt tt (f.clauses 𝓛 mem run) (WpFn 𝓤 𝓛.H 𝓣.C 𝓣.Λ code.function) (WpFn-mono 𝓤 𝓛.H 𝓛.laws 𝓣 code.function)
    (walked 𝓛 f.ended tt (f.clauses 𝓛 mem run) (WpFn 𝓤 𝓛.H 𝓣.C 𝓣.Λ code.function) (λ κs. tt) (λ κs. tt) (λ κs qs bounds a g _.
    qed 𝓛 (raw (on_entry 𝓛 f.signature κs qs a tt) ∷ raw ((f.clauses 𝓛 mem run κs a).requires g) ∷ []) ∵ keep ! [] $
    enter ! 𝓣.C 𝓣.Λ code.function [] _ $ alloc_all ! (λ l. pass_all ! refl tt $ sets ! (agg ! (no_more !)) refl (tt, tt) $
    returns ! (look_at ! 0 refl) $ free_all ! refl $
    pure_i ! (made.the_row.own_val (record { at_reads = [] }) (vstruct vnil ∷ [])) ((λ vss. (tt, tt)), tt) ((tt, (refl, tt)), tt) $
    suffices ! _ (ends_at 𝓛 f.ended tt (f.clauses 𝓛 mem run)
    ((κs, qs, bounds, a, tt), g) (vstruct vnil) (record { at_reads = [] }) tt tt) $ says ! refl $
    nothing ! $ join ! $ nothing ! $ done !)))

pub new_spec : {M : Type 1} → stated.statement M
unfolding tables_of
new_spec 𝓤 𝓛 𝓜 𝓡 wired = entered 𝓤 𝓛.H (triple_of 𝓛 f.signature (f.spec 𝓛 𝓜.mem 𝓡.returns))
    (tables 𝓤 𝓛.H 𝓜 𝓡 𝓡.env).C (tables 𝓤 𝓛.H 𝓜 𝓡 𝓡.env).Λ key code.function (code.unfolded 𝓤 𝓛.H 𝓜 𝓡 wired)
    (meets 𝓛 𝓜.mem 𝓡.returns (tables_of 𝓤 𝓛.H 𝓜 (tables 𝓤 𝓛.H 𝓜 𝓡 𝓡.env)))
