-- The steps of the allocator's walks: what `take` answers, taken apart, and lent memory as room for a type.
use Rattle.std.proofs.Common.{◌≡◌, ℕ, ◌^◌, ◌<◌, ◌≤◌, zero, suc, List, [], ◌∷◌, ◌++◌, None, Some, refl, sym, ap, subst, ◌∙◌, arith}
use seplogic.Ra.Ura.{Ura}
use mir.Syntax.{Ty, Width, w8, w16, w32, w64, w128}
use mir.Val.{Val, vcons, vnil, of_list, bytes}
use base.Logic.{id⊢}
use base.Fml.{froom}
use prog.Capped.{capped_is, capped_small}
use prog.Memory.{size, align, capped}
use prog.Align.{Dv, align_w, align-bytes}
use types.Logic.{Logic}
use types.Kit.{Item, Goal, Seq, ‵, ◌⊛◌, ◌$◌, move, drop, use1, split, fsplit, fpick, feq_l}
use types.Match.{live}
use denote.RattleType.{RattleType}
use denote.RawPtr.{Ptr, block_ptr, in_a_block}
use denote.Shadow.{pure_l}
use denote.Steps.{only}
use Rattle.std.specs.contracts.option.Option as option
use Rattle.linked_list_allocator.proofs.Nodes.{retypes}
use Rattle.linked_list_allocator.proofs.Values.{list_val, list_own, list_told}
use Rattle.linked_list_allocator.specs.Ownership.{bytes_at}
use Rattle.host.specs.Lending.{IsSize, lent_at, gives_back}
use Rattle.host.specs.contracts.memory.Memory as memory

abbrev pub Taken : RattleType
Taken = option.the_row memory.the_row

-- an alignment is a power of two of at most 16
divides_16 : (w : Width) → Dv (bytes w) 16
divides_16 w8 = tt
divides_16 w16 = tt
divides_16 w32 = tt
divides_16 w64 = tt
divides_16 w128 = tt

aligns : (τ : Ty) → Dv (align τ) 16
aligns τ = subst (λ n. Dv n 16) (sym (align-bytes τ)) (divides_16 (align_w τ))

-- a type fits, if the request for it does
pub fits_in : (τ : Ty) (n m : ℕ) → capped (size τ) ≡ n → n ≤ m → m < 2 ^ 63 → size τ ≤ m
fits_in τ n m asked fits small =
    let short : size τ < 2 ^ 63 = capped_small (size τ) (omega (arith, asked, fits, small)) in
    let same : capped (size τ) ≡ size τ = capped_is (size τ) (omega (arith, short)) in
    omega (arith, asked, fits, same)

module _ {M : Type 1} {𝓤 : Ura M} {𝓛 : Logic 𝓤} {K : Type 0} {Γ : List (Item 𝓤)} {G : Goal 𝓤 𝓛.H} where
  -- `take` answers some memory, whose address is the machine value, or none
  pub taken : K → (x : Taken.Denot) (v : Val)
      → ((m : (memory.the_row).Denot) → x ≡ Some m → v ≡ live 1 (vcons (list_val m.at) vnil) → Seq K 𝓛 (‵ (lent_at m.at m.size) ∷ Γ) G)
      → (v ≡ live 0 vnil → Seq K 𝓛 Γ G) → Seq K 𝓛 (‵ (Taken.own_val x (v ∷ [])) ∷ Γ) G
  taken t None v some none =
      fpick t (λ vs. fsplit t $ feq_l t (λ is. fpick t (λ vss. fsplit t $ feq_l t (λ holds. drop t $
      none (ap only is ∙ ap (λ ws. live 0 (of_list ws)) holds)))))
  taken t (Some m) v some none =
      fpick t (λ vs. fsplit t $ feq_l t (λ is. fpick t (λ vss. fsplit t $ feq_l t (λ holds. fsplit t $ move t (1 ∷ []) $ drop t $ fsplit t $
      pure_l t (list_own m.at vss.0) (λ told.
      some m refl (ap only is ∙ ap (λ ws. live 1 (of_list ws)) (holds ∙ ap (λ ws. ws ++ []) (list_told m.at vss.0 told).0)))))))

  -- memory of enough bytes is room for a type, with the right to give it back
  pub lends : K → (p : Ptr) (τ : Ty) (n : ℕ) → IsSize n → 0 < n → size τ ≤ n
      → ((b o : ℕ) → p ≡ block_ptr b o → Seq K 𝓛 (‵ (froom τ b o) ∷ ‵ (gives_back n τ (block_ptr b o)) ∷ Γ) G) → Seq K 𝓛 (‵ (lent_at p n) ∷ Γ) G
  lends t p τ zero is some fits k = absurd (omega (arith, some))
  lends t p τ (suc n) is some fits k =
      in_a_block t p (λ q. bytes_at q (suc n)) (id⊢ 𝓤 _) (λ b o at.
      use1 𝓛 (‵ (froom τ b o) ⊛ ‵ (gives_back (suc n) τ (block_ptr b o))) (retypes 𝓛 b τ o (suc n) is.0 fits (aligns τ)) $ split t $ k b o at)
