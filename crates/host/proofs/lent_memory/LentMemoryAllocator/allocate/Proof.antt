-- The memory that `take` answers is handed out as room for the type that was asked for, with the right to give it back.
use Rattle.std.proofs.Common.{◌≡◌, true, false, ◌<◌, ◌≤◌, [], ◌∷◌, IfSome, refl, subst, ap, ◌∙◌, lit<, w64, Ok, Err}
use mir.Val.{Val, vcons, vnil}
use base.Logic.{SProp, id⊢}
use prog.Memory.{size, align, capped}
use prog.Wp.{Env}
use contract.Monad.{fact}
use contract.Running.{tables}
use types.Kit.{‵, raw, ◌⊛◌, some, later, at_ret, ◌$◌, ◌∵◌, !, qed, by, move, keep, drop, use0, use1, split, join, pick, rewrite, fsplit, fjoin, await}
use types.Match.{live, vrt, in_variant}
use types.Part.{whole, sub, agg}
use types.Run.{stop, fld, lit, of_opd, no_more, and_then, first, switches_on, exec, returns, enter}
use types.ByLocal.{alloc_all, pass_all, free_all, look_at, get, get_in, get_tag, sets, sets_last, lands_as, env}
use denote.Builtin.{usize, RefOf}
use denote.Exit.{yes}
use denote.Plain.{uint_vals, uint_Tells}
use denote.RattleType.{owns}
use denote.RawPtr.{block_ptr}
use denote.Ref.{shr_vals}
use denote.Signature.{Slot, plain, types_at}
use denote.Steps.{nothing, heard}
use denote.Triple.Call.{calls_at}
use denote.Triple.Clauses.{Lasts, lasts}
use denote.Triple.Entry.{alive}
use denote.Triple.Spec.{triple_of}
use denote.Triple.Table.{framed}
use denote.Triple.Walked.{Stays, stay_dropped, walk_of, Goes-dropped}
use Rattle.std.proofs.alloc.Shapes.{after, arm_body, head}
use Rattle.linked_list_allocator.proofs.Walks.{then_runs}
use Rattle.std.proofs.alloc.Calls.{Answer, answer_val, Answer-typed, Answer-Ok, Answer-err}
use Rattle.std.proofs.raw_atomic.Walks.{proved, leaves}
use Rattle.linked_list_allocator.proofs.Values.{list_val}
use Rattle.host.specs.Lending.{lent_at}
use Rattle.host.proofs.LentLemmas.{Taken, fits_in, lends, taken}
use Rattle.host.specs.contracts.lent_memory.LentMemory as lent_memory
use Rattle.host.specs.contracts.lent_memory.LentMemoryAllocator.allocate as f
use Rattle.host.proofs.lent_memory.LentMemoryAllocator.allocate.Statement.{statement}
use Rattle.host.proofs.lent_memory.LentMemoryAllocator.allocate.Code as code
use Rattle.host.specs.contracts.lent_memory.LentMemory.take as g
use Rattle.host.proofs.lent_memory.LentMemory.take.Met.{met}

abbrev self : Slot 1
self = RefOf (0 ∷ []) tt (plain (λ _. lent_memory.the_row)) (λ _. tt)

abbrev stayed : Stays f.ended.signature.params f.ended.kept
stayed = (stay_dropped self yes, (stay_dropped (plain (λ _. usize)) yes, (stay_dropped (plain (λ _. usize)) yes, tt)))

pub allocate_spec : {M : Type 1} → statement M
allocate_spec 𝓤 𝓛 𝓜 𝓡 wired =
    let c = f.clauses 𝓛 𝓜.mem 𝓡.returns in let W = walk_of 𝓛 f.ended stayed c in let 𝓣 = tables 𝓤 𝓛.H 𝓜 𝓡 𝓡.env in
    let number = Goes-dropped 𝓛 1 (plain (λ _. usize)) yes (λ κs x w. refl) in
    proved 𝓛 f.ended stayed c 𝓜 𝓡 (Goes-dropped 𝓛 1 self yes (λ κs x w. refl), (number, (number, tt)))
    f.Key.name code.function (code.unfolded 𝓤 𝓛.H 𝓜 𝓡 wired)
    (λ κs. (shr_vals, (uint_vals w64, (uint_vals w64, tt)))) (λ κs. ((λ r vs s. s.0), (uint_Tells w64, (uint_Tells w64, tt)))) (λ κs qs bounds a τ are.
    let lent = a.0.now in let n = a.1.0 in
    let y : W.Ghost = ((κs, qs, bounds, a, (shr_vals a.0, (uint_vals w64 n, (uint_vals w64 a.1.1.0, tt)))), τ) in
    let Asked : Type 0 = (capped (size τ) ≡ n) × (capped (align τ) ≡ a.1.1.0) in
    qed 𝓛 ((raw (alive 𝓛 f.signature κs qs) ⊛ ‵ (owns (types_at f.signature.params κs) a y.0.4)) ∷ raw (fact 𝓤 Asked) ∷ []) ∵
    move ! (1 ∷ []) $ heard ! Asked (λ asked. split ! $ move ! (1 ∷ []) $ fsplit ! $ move ! (1 ∷ []) $ fsplit ! $ keep ! (3 ∷ 2 ∷ 0 ∷ []) $
    -- [the tokens; self; the size]
    enter ! _ _ _ _ _ $
    alloc_all ! (λ l. pass_all ! refl ((tt, tt), ((tt, record { fits = are.1.0.1 }), ((tt, record { fits = are.1.1.0.1 }), tt))) $
    let G = triple_of 𝓛 g.signature (g.spec 𝓛 𝓜.mem 𝓡.returns) in
    let z : G.Ghost = ((κs, qs, bounds, (a.0, (n, tt)), (shr_vals a.0, (uint_vals w64 n, tt))), tt) in
    let Told : Taken.Denot → Type 0 = λ x. IfSome x (λ m. (m.size ≡ lent.size) × (0 < m.size) × (n ≤ m.size)) in
    let fn = code.function in let En : Env 𝓤 𝓛.H = env fn.locals l in let Post : Val → SProp 𝓤 = W.post y in
    nothing ! $ move ! (3 ∷ 0 ∷ []) $ fjoin ! $ move ! (2 ∷ 0 ∷ []) $ fjoin ! $ move ! (1 ∷ 0 ∷ []) $ join ! $ nothing ! $ move ! (1 ∷ 0 ∷ []) $ join ! $
    use1 𝓛 (raw (G.pre z)) (id⊢ 𝓤 _) $
    calls_at ! (framed 𝓤 𝓛.H 𝓜 𝓣) G (met 𝓤 𝓛 𝓜 𝓡 (code.calls-host::lent_memory::LentMemory::take 𝓡.env wired)) z
    (and_then ! (get ! refl) (and_then ! (get ! refl) (no_more !))) (λ v.
    use1 𝓛 (later (some (λ (x : Taken.Denot). (raw (alive 𝓛 f.signature κs qs) ⊛ ‵ (Taken.own_val x (v ∷ []))) ⊛
    some (λ (ls : Lasts g.ended κs z.0.3). ‵ (lasts g.ended κs z.0.3 ls) ⊛ raw (fact 𝓤 (Told x)))))) (id⊢ 𝓤 _) $
    await ! tt $ pick ! (λ x. split ! $ move ! (1 ∷ []) $ pick ! (λ _. split ! $ drop ! $ heard ! (Told x) (λ told. split ! $ move ! (1 ∷ []) $
    taken ! x v
    (λ m is holds.
    let says : (m.size ≡ lent.size) × (0 < m.size) × (n ≤ m.size) = subst Told is told in
    rewrite ! 0 (λ k. ‵ (lent_at m.at k)) says.0 refl $
    lends ! m.at τ lent.size lent.fits (subst (λ k. 0 < k) says.0 says.1) (fits_in τ n lent.size asked.0 (subst (λ k. n ≤ k) says.0 says.2) lent.fits.1) (λ b o at.
    -- [the room; the right to give it back; the tokens]
    lands_as ! (holds ∙ ap (λ p. live 1 (vcons (list_val p) vnil)) at) refl (tt, (record { fits = lit< tt }, ((tt, tt), tt))) $
    first ! $ switches_on ! (get_tag ! (vrt ! refl (fld ! refl (stop !))) (whole !)) $ exec ! 𝓣.C 𝓣.Λ En (arm_body 0 (head (after 1 fn.body))) (then_runs 𝓛 𝓣.C 𝓣.Λ En (after 2 fn.body) (at_ret En Post)) $
    sets ! (of_opd ! (get_in ! (vrt ! refl (fld ! refl (fld ! refl (stop !)))) (sub ! 0 refl (in_variant ! 1 0 refl refl (whole !))))) refl (tt, tt) $
    sets_last ! (agg ! (and_then ! (lit ! tt) (and_then ! (get ! refl) (no_more !)))) refl (Answer-typed true b o) $
    exec ! 𝓣.C 𝓣.Λ En (after 2 fn.body) (at_ret En Post) $ sets ! (of_opd ! (get ! refl)) refl (Answer-typed true b o) $
    returns ! (look_at ! 0 refl) $ free_all ! refl $
    move ! (0 ∷ 1 ∷ []) $ fjoin ! $ use0 𝓛 (‵ (Answer.own_val (Ok (block_ptr b o)) (answer_val true b o ∷ []))) (Answer-Ok 𝓛 b o) $
    nothing ! $ nothing ! $ fjoin ! $ nothing ! $ fjoin ! $ nothing ! $ fjoin ! $ move ! (3 ∷ 0 ∷ 1 ∷ 2 ∷ []) $
    by ! (leaves 𝓛 f.ended stayed c y (answer_val true b o) (Ok (block_ptr b o)) (tt, (tt, (tt, tt))) (tt, (tt, (tt, tt))))))
    (λ holds.
    lands_as ! holds refl (tt, (record { fits = lit< tt }, tt)) $
    first ! $ switches_on ! (get_tag ! (vrt ! refl (fld ! refl (stop !))) (whole !)) $ exec ! 𝓣.C 𝓣.Λ En (arm_body 1 (head (after 1 fn.body))) (then_runs 𝓛 𝓣.C 𝓣.Λ En (after 2 fn.body) (at_ret En Post)) $
    sets ! (agg ! (no_more !)) refl (tt, tt) $
    sets_last ! (agg ! (and_then ! (lit ! tt) (and_then ! (get ! refl) (no_more !)))) refl (Answer-typed false 0 0) $
    exec ! 𝓣.C 𝓣.Λ En (after 2 fn.body) (at_ret En Post) $ sets ! (of_opd ! (get ! refl)) refl (Answer-typed false 0 0) $
    returns ! (look_at ! 0 refl) $ free_all ! refl $
    nothing ! $ use0 𝓛 (‵ (Answer.own_val (Err (record {})) (answer_val false 0 0 ∷ []))) (Answer-err 𝓛) $
    nothing ! $ nothing ! $ fjoin ! $ nothing ! $ fjoin ! $ nothing ! $ fjoin ! $ move ! (3 ∷ 0 ∷ 1 ∷ 2 ∷ []) $
    by ! (leaves 𝓛 f.ended stayed c y (answer_val false 0 0) (Err (record {})) (tt, (tt, (tt, tt))) (tt, (tt, (tt, tt))))))))))))
