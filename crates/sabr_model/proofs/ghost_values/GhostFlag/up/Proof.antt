-- The flag is up.
use Rattle.sabr_model.proofs.ListLemmas.CountWalks.{[], ◌∷◌, refl, proved, ftrue, raw, ‵, ◌$◌, ◌∵◌, !, qed, done, keep, fjoin, suffices, enter, no_more, returns, alloc_all, pass_all, free_all, look_at, sets, nothing, owned, move, on_entry, walk_of, says, ends_at, agg, true, vstruct, vnil, Is, Struct, Struct-Makes, shape}
use Rattle.sabr_model.specs.contracts.ghost_values.GhostFlag.up as f
use Rattle.sabr_model.proofs.ghost_values.GhostFlag.up.Statement.{statement}
use Rattle.sabr_model.proofs.ghost_values.GhostFlag.up.Code as code
use Rattle.sabr_model.specs.contracts.ghost_values.GhostFlag.{the_type}

pub up_spec : {M : Type 1} → statement M
up_spec 𝓤 𝓛 𝓜 𝓡 wired =
    let c = f.clauses 𝓛 𝓜.mem 𝓡.returns in let W = walk_of 𝓛 f.ended tt c in
    proved 𝓛 f.ended tt c 𝓜 𝓡 tt
    f.Key.name code.function (code.unfolded 𝓤 𝓛.H 𝓜 𝓡 wired)
    (λ κs. tt) (λ κs. tt) (λ κs qs bounds a _ are.
    let y : W.Ghost = ((κs, qs, bounds, a, tt), tt) in
    qed 𝓛 (raw (on_entry 𝓛 f.signature κs qs a y.0.4) ∷ ‵ ftrue ∷ []) ∵ keep ! [] $
    enter ! _ _ _ _ _ $ alloc_all ! (λ l. pass_all ! refl tt $
    sets ! (agg ! (no_more !)) refl (tt, tt) $ returns ! (look_at ! 0 refl) $ free_all ! refl $
    suffices ! _ (ends_at 𝓛 f.ended tt c y (vstruct vnil) (record { is_up = true }) tt tt) $ says ! refl $
    owned ! (Struct (shape the_type)) (Is (Struct (shape the_type))) (Struct-Makes 𝓛 (shape the_type) tt) tt (vstruct vnil ∷ []) (tt, (refl, tt)) $
    nothing ! $ move ! (1 ∷ []) $ fjoin ! $ nothing ! $ nothing ! $ done !))
