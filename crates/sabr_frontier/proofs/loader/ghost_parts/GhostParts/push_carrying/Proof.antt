-- A part more stands after the others. No memory is touched.
use Rattle.sabr_frontier.proofs.LoadingLemmas.GhostWalks.{[], ◌∷◌, refl, proved, yes, u32, ftrue, flft, named, vunit, ‵, ◌⊛◌, ◌$◌, ◌∵◌, !, qed, done, move, keep, split, join, fsplit, fsplit3, fjoin, feq_i, suffices, frame, group, enter, of_opd, unit_lit, returns, alloc_all, pass_all, free_all, look_at, sets, MutRef, mut_vals, mut_Tells, ShrSlice, shr_slice_vals, shr_slice_Tells, plain, nothing, opens, closes, Stays, walk_of, says, stay_ref, Goes-ref, stay_none_slice, Goes-none_slice, ends_at}
use Rattle.sabr_frontier.proofs.Names.{◌++◌, Some, part_with}
use Rattle.sabr_frontier.specs.contracts.loader.ghost_parts.GhostParts.push_carrying as f
use Rattle.sabr_frontier.proofs.loader.ghost_parts.GhostParts.push_carrying.Statement.{statement}
use Rattle.sabr_frontier.proofs.loader.ghost_parts.GhostParts.push_carrying.Code as code
use Rattle.sabr_frontier.specs.contracts.loader.ghost_parts.GhostParts.{the_row as R}

abbrev stayed : Stays f.ended.signature.params f.ended.kept
stayed = (stay_ref (0 ∷ []) tt (plain (λ _. R)), (stay_none_slice (1 ∷ []) tt (plain (λ _. u32)) yes, (stay_none_slice (2 ∷ []) tt (plain (λ _. u32)) yes, (stay_none_slice (3 ∷ []) tt (plain (λ _. u32)) yes, tt))))

pub push_carrying_spec : {M : Type 1} → statement M
push_carrying_spec 𝓤 𝓛 𝓜 𝓡 wired =
    let c = f.clauses 𝓛 𝓜.mem 𝓡.returns in let W = walk_of 𝓛 f.ended stayed c in
    proved 𝓛 f.ended stayed c 𝓜 𝓡 (Goes-ref 𝓛 4 0 tt (plain (λ _. R)), (Goes-none_slice 𝓛 4 (1 ∷ []) tt (plain (λ _. u32)) yes, (Goes-none_slice 𝓛 4 (2 ∷ []) tt (plain (λ _. u32)) yes, (Goes-none_slice 𝓛 4 (3 ∷ []) tt (plain (λ _. u32)) yes, tt))))
    f.Key.name code.function (code.unfolded 𝓤 𝓛.H 𝓜 𝓡 wired)
    (λ κs. (mut_vals, (shr_slice_vals, (shr_slice_vals, (shr_slice_vals, tt))))) (λ κs. (mut_Tells (named 0) κs.0 R, (shr_slice_Tells (named 1) κs.1.0 u32, (shr_slice_Tells (named 2) κs.1.1.0 u32, (shr_slice_Tells (named 3) κs.1.1.1.0 u32, tt))))) (λ κs qs bounds a _ are.
    let b = a.0.ref_ptr.0 in let o = a.0.ref_ptr.1 in let h = a.0.now in let vs = mut_vals a.0 in
    let more = record h { items = h.items ++ part_with a.1.0.now a.1.1.0.now (Some a.1.1.1.0.now) ∷ [] } in
    let y : W.Ghost = ((κs, qs, bounds, a, (vs, (shr_slice_vals a.1.0, (shr_slice_vals a.1.1.0, (shr_slice_vals a.1.1.1.0, tt))))), tt) in
    qed 𝓛 (((‵ (flft κs.0 qs.0) ⊛ ‵ (flft κs.1.0 qs.1.0) ⊛ ‵ (flft κs.1.1.0 qs.1.1.0) ⊛ ‵ (flft κs.1.1.1.0 qs.1.1.1.0) ⊛ ‵ ftrue) ⊛ ‵ ((MutRef (named 0) κs.0 R).own_val a.0 vs) ⊛ ‵ ((ShrSlice (named 1) κs.1.0 u32).own_val a.1.0 (shr_slice_vals a.1.0)) ⊛ ‵ ((ShrSlice (named 2) κs.1.1.0 u32).own_val a.1.1.0 (shr_slice_vals a.1.1.0)) ⊛ ‵ ((ShrSlice (named 3) κs.1.1.1.0 u32).own_val a.1.1.1.0 (shr_slice_vals a.1.1.1.0)) ⊛ ‵ ftrue) ∷ ‵ ftrue ∷ []) ∵
    split ! $ split ! $ move ! (1 ∷ []) $ split ! $ move ! (1 ∷ []) $ split ! $ move ! (1 ∷ []) $ split ! $ move ! (5 ∷ []) $ split ! $ move ! (1 ∷ []) $ split ! $ move ! (1 ∷ []) $ split ! $ move ! (1 ∷ []) $ split ! $ keep ! (0 ∷ 2 ∷ 3 ∷ 4 ∷ 5 ∷ 7 ∷ 8 ∷ 9 ∷ []) $ move ! (3 ∷ 7 ∷ 6 ∷ 5 ∷ 4 ∷ 2 ∷ 1 ∷ 0 ∷ []) $
    enter ! _ _ _ _ _ $ alloc_all ! (λ l. pass_all ! refl ((tt, tt), ((tt, (tt, (record { fits = are.1.0.0.1.0 }, tt))), ((tt, (tt, (record { fits = are.1.1.0.0.1.0 }, tt))), ((tt, (tt, (record { fits = are.1.1.1.0.0.1.0 }, tt))), tt)))) $
    fsplit3 ! $ move ! (1 ∷ 2 ∷ 3 ∷ []) $ opens ! tt R b o (λ us.
    move ! (1 ∷ []) $ fsplit ! $ fjoin ! $ move ! (1 ∷ []) $ closes ! tt R more us b o $
    sets ! (of_opd ! (unit_lit !)) refl (tt, tt) $
    returns ! (look_at ! 0 refl) $ free_all ! refl $ move ! (3 ∷ []) $
    suffices ! _ (ends_at 𝓛 f.ended stayed c y vunit tt (more, (tt, (tt, (tt, tt)))) (tt, (tt, (tt, (tt, tt))))) $ says ! refl $ group ! 3 $
    nothing ! $ move ! (8 ∷ 0 ∷ []) $ join ! $ move ! (7 ∷ 0 ∷ []) $ join ! $ move ! (6 ∷ 0 ∷ []) $ join ! $ move ! (1 ∷ 0 ∷ []) $ join ! $
    nothing ! $ move ! (5 ∷ 0 ∷ []) $ join ! $ move ! (4 ∷ 0 ∷ []) $ join ! $ move ! (3 ∷ 0 ∷ []) $ join ! $ move ! (2 ∷ 0 ∷ []) $ join ! $ frame ! $ frame ! $
    feq_i ! _ (vunit ∷ []) _ refl $ done !)))
