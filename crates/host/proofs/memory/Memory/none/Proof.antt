-- No memory: a null pointer that owns nothing.
use Rattle.std.proofs.Common.{[], ◌∷◌, refl, lit<}
use base.Fml.{ftrue}
use types.Kit.{‵, raw, ◌$◌, ◌∵◌, !, qed, done, move, keep, use0, fjoin, suffices}
use types.Part.{agg}
use types.Run.{enter, lit, no_more, and_then, returns}
use types.ByLocal.{alloc_all, pass_all, free_all, look_at, sets}
use denote.RawPtr.{null_ptr}
use denote.Steps.{nothing}
use denote.Triple.Entry.{on_entry}
use denote.Triple.Walked.{Stays, walk_of, says, ends_at}
use Rattle.std.proofs.raw_atomic.Walks.{proved}
use Rattle.linked_list_allocator.proofs.Values.{list_val, list_own, list_made}
use Rattle.host.specs.contracts.memory.Memory.none as f
use Rattle.host.proofs.memory.Memory.none.Statement.{statement}
use Rattle.host.proofs.memory.Memory.none.Code as code

abbrev stayed : Stays f.ended.signature.params f.ended.kept
stayed = tt

pub none_spec : {M : Type 1} → statement M
none_spec 𝓤 𝓛 𝓜 𝓡 wired =
    let c = f.clauses 𝓛 𝓜.mem 𝓡.returns in let W = walk_of 𝓛 f.ended stayed c in
    proved 𝓛 f.ended stayed c 𝓜 𝓡 tt
    f.Key.name code.function (code.unfolded 𝓤 𝓛.H 𝓜 𝓡 wired)
    (λ κs. tt) (λ κs. tt) (λ κs qs bounds a _ are.
    let y : W.Ghost = ((κs, qs, bounds, a, tt), tt) in
    qed 𝓛 (raw (on_entry 𝓛 f.signature κs qs a y.0.4) ∷ ‵ ftrue ∷ []) ∵ keep ! [] $
    enter ! _ _ _ _ _ $ alloc_all ! (λ l. pass_all ! refl tt $
    sets ! (agg ! (and_then ! (lit ! tt) (no_more !))) refl (tt, (record { fits = lit< tt }, tt)) $
    returns ! (look_at ! 0 refl) $ free_all ! refl $
    suffices ! _ (ends_at 𝓛 f.ended stayed c y (list_val null_ptr) (record { at = null_ptr; size = 0 }) tt tt) $ says ! refl $
    use0 𝓛 (‵ (list_own null_ptr (list_val null_ptr ∷ []))) (list_made 𝓛 null_ptr tt) $
    nothing ! $ move ! (1 ∷ 0 ∷ []) $ fjoin ! $ nothing ! $ nothing ! $ done !))
