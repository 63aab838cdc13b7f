-- The room that comes back is turned into the memory that was lent, and given to the cell.
use Rattle.std.proofs.Common.{◌≡◌, List, [], ◌∷◌, refl, ap, w64}
use mir.Val.{Val, vunit}
use base.Logic.{emp, id⊢, apply∗}
use base.Fml.{ftrue}
use prog.Memory.{size, align, capped}
use contract.Monad.{fact, fact_i}
use contract.Running.{tables}
use types.Logic.{sem}
use types.Kit.{‵, raw, ◌⊛◌, some, later, ◌$◌, ◌∵◌, !, qed, by, move, keep, drop, use0, use1, use2, split, split3, join, pick, fsplit, fjoin, feq_l, feq_i, await}
use types.Part.{agg}
use types.Run.{unit_lit, of_opd, no_more, and_then, returns, enter}
use types.ByLocal.{alloc_all, pass_all, free_all, look_at, get, sets, lands_as}
use denote.Builtin.{usize, unit, RawPtr, RefOf}
use denote.Exit.{yes}
use denote.Plain.{uint_vals, uint_Tells}
use denote.RattleType.{owns}
use denote.RawPtr.{room_for, rawptr_vals, rawptr_Tells}
use denote.Ref.{shr_vals}
use denote.Signature.{Slot, plain, types_at}
use denote.Steps.{nothing, only, heard}
use denote.Triple.Call.{calls_at}
use denote.Triple.Clauses.{Lasts, lasts}
use denote.Triple.Entry.{alive}
use denote.Triple.Spec.{triple_of}
use denote.Triple.Table.{framed}
use denote.Triple.Walked.{Stays, stay_dropped, walk_of, Goes-dropped}
use Rattle.std.proofs.raw_atomic.Walks.{proved, leaves}
use Rattle.linked_list_allocator.proofs.Values.{ptr_typed, list_val, list_own, list_made, list_typed}
use Rattle.host.specs.Lending.{lent_at, gives_back}
use Rattle.host.specs.contracts.lent_memory.LentMemory as lent_memory
use Rattle.host.specs.contracts.memory.Memory as memory
use Rattle.host.specs.contracts.lent_memory.LentMemoryAllocator.deallocate as f
use Rattle.host.proofs.lent_memory.LentMemoryAllocator.deallocate.Statement.{statement}
use Rattle.host.proofs.lent_memory.LentMemoryAllocator.deallocate.Code as code
use Rattle.host.specs.contracts.lent_memory.LentMemory.give as g
use Rattle.host.proofs.lent_memory.LentMemory.give.Met.{met}

abbrev self : Slot 1
self = RefOf (0 ∷ []) tt (plain (λ _. lent_memory.the_row)) (λ _. tt)

abbrev stayed : Stays f.ended.signature.params f.ended.kept
stayed = (stay_dropped _ yes, (stay_dropped _ yes, (stay_dropped _ yes, (stay_dropped _ yes, tt))))

pub deallocate_spec : {M : Type 1} → statement M
deallocate_spec 𝓤 𝓛 𝓜 𝓡 wired =
    let c = f.clauses 𝓛 𝓜.mem 𝓡.returns in let W = walk_of 𝓛 f.ended stayed c in
    let number = Goes-dropped 𝓛 1 (plain (λ _. usize)) yes (λ κs x w. refl) in
    proved 𝓛 f.ended stayed c 𝓜 𝓡 (Goes-dropped 𝓛 1 self yes (λ κs x w. refl), (Goes-dropped 𝓛 1 (plain (λ _. RawPtr)) yes (λ κs x w. refl), (number, (number, tt))))
    f.Key.name code.function (code.unfolded 𝓤 𝓛.H 𝓜 𝓡 wired)
    (λ κs. (shr_vals, (rawptr_vals, (uint_vals w64, (uint_vals w64, tt))))) (λ κs. ((λ r vs s. s.0), (rawptr_Tells, (uint_Tells w64, (uint_Tells w64, tt))))) (λ κs qs bounds a τ are.
    let lent = a.0.now in let p = a.1.0 in
    let y : W.Ghost = ((κs, qs, bounds, a, (shr_vals a.0, (rawptr_vals p, (uint_vals w64 a.1.1.0, (uint_vals w64 a.1.1.1.0, tt))))), τ) in
    let Asked : Type 0 = (capped (size τ) ≡ a.1.1.0) × (capped (align τ) ≡ a.1.1.1.0) in
    qed 𝓛 ((raw (alive 𝓛 f.signature κs qs) ⊛ ‵ (owns (types_at f.signature.params κs) a y.0.4)) ∷ (raw (fact 𝓤 Asked) ⊛ ‵ (room_for τ p) ⊛ ‵ (gives_back lent.size τ p)) ∷ []) ∵
    move ! (1 ∷ []) $ split3 ! $ heard ! Asked (λ _.
    use2 𝓛 (‵ (lent_at p lent.size)) (apply∗ 𝓤 (sem 𝓛 (room_for τ p)) (sem 𝓛 (lent_at p lent.size))) $
    move ! (1 ∷ []) $ split ! $ move ! (1 ∷ []) $ fsplit ! $ keep ! (2 ∷ 0 ∷ 3 ∷ []) $
    -- [the tokens; self; the memory]
    enter ! _ _ _ _ _ $
    alloc_all ! (λ l. pass_all ! refl ((tt, tt), (ptr_typed p, ((tt, record { fits = are.1.1.0.1 }), ((tt, record { fits = are.1.1.1.0.1 }), tt)))) $
    sets ! (agg ! (and_then ! (get ! refl) (no_more !))) refl (list_typed p tt) $
    let G = triple_of 𝓛 g.signature (g.spec 𝓛 𝓜.mem 𝓡.returns) in
    let m : (memory.the_row).Denot = record { at = p; size = lent.size } in
    let z : G.Ghost = ((κs, qs, bounds, (a.0, (m, tt)), (shr_vals a.0, (list_val p ∷ [], tt))), tt) in
    let Same : Type 0 = lent.size ≡ lent.size in
    use0 𝓛 (‵ (list_own p (list_val p ∷ []))) (list_made 𝓛 p tt) $ move ! (0 ∷ 3 ∷ []) $ fjoin ! $
    nothing ! $ move ! (1 ∷ 0 ∷ []) $ fjoin ! $ move ! (2 ∷ 0 ∷ []) $ fjoin ! $ move ! (1 ∷ 0 ∷ []) $ join ! $
    use0 𝓛 (raw (fact 𝓤 Same)) (fact_i 𝓤 Same (emp 𝓤) refl) $ move ! (1 ∷ 0 ∷ []) $ join ! $ use1 𝓛 (raw (G.pre z)) (id⊢ 𝓤 _) $
    calls_at ! (framed 𝓤 𝓛.H 𝓜 (tables 𝓤 𝓛.H 𝓜 𝓡 𝓡.env)) G (met 𝓤 𝓛 𝓜 𝓡 (code.calls-host::lent_memory::LentMemory::give 𝓡.env wired)) z
    (and_then ! (get ! refl) (and_then ! (get ! refl) (no_more !))) (λ v.
    use1 𝓛 (later (some (λ (t : Unit {0}). (raw (alive 𝓛 f.signature κs qs) ⊛ ‵ (unit.own_val t (v ∷ []))) ⊛
    some (λ (ls : Lasts g.ended κs z.0.3). ‵ (lasts g.ended κs z.0.3 ls) ⊛ ‵ ftrue)))) (id⊢ 𝓤 _) $
    await ! tt $ pick ! (λ t. split ! $ move ! (1 ∷ []) $ drop ! $ split ! $ move ! (1 ∷ []) $ feq_l ! (λ is_unit.
    lands_as ! (ap only is_unit) refl (tt, tt) $
    sets ! (of_opd ! (unit_lit !)) refl (tt, tt) $
    returns ! (look_at ! 0 refl) $ free_all ! refl $
    feq_i ! (List Val) (vunit ∷ []) (vunit ∷ []) refl $ nothing ! $ nothing ! $ nothing ! $ fjoin ! $ nothing ! $ fjoin ! $ nothing ! $ fjoin ! $ nothing ! $ fjoin ! $ move ! (3 ∷ 0 ∷ 2 ∷ 1 ∷ []) $
    by ! (leaves 𝓛 f.ended stayed c y vunit tt (tt, (tt, (tt, (tt, tt)))) (tt, (tt, (tt, (tt, tt)))))))))))
