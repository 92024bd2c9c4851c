-- The machine values of a handle. Assumes `Logic`.
use Rattle.std.proofs.Common.{◌≡◌, ℕ, List, [], ◌∷◌, ◌++◌, refl, subst}
use mathlib.Core.Bool.{true, ◌&&◌}
use lib.Dec.{T}
use seplogic.Ra.Ura.{Ura}
use mir.Raw.{raw as bare}
use mir.Val.{Val, vstruct, of_list, has_ty, WT}
use base.Logic.{ent, guard, guard_i, via, never, fst∗, snd∗}
use base.Fml.{Fml}
use types.Logic.{Logic, sem}
use types.Kit.{Item, Goal, Seq, Step, step, ‵, ◌$◌, given, use1, learn, move, drop, fsplit, fjoin}
use types.Kit.{fpick, fpack, feq_i, feq_l}
use contract.Monad.{fact_use}
use denote.RattleType.{RattleType, Valss}
use denote.Builtin.{RawPtr}
use denote.Memory.{lone}
use denote.RawPtr.{Ptr, block_ptr, null_ptr, ptr_val, in_a_block, Testable}
use denote.Steps.{nothing}
use denote.Param.{layout}
use denote.Struct.Struct.{within}
use denote.Struct.Owning.{shape}
use Rattle.core.proofs.alloc.Calls.{handle_tells}
use Rattle.core.proofs.atomic.Steps.{Ptr-Good}
use Rattle.core.proofs.cell.Inside.{Good}
use Rattle.std_alloc.proofs.ResultValues.{and_tt}
use Rattle.std.specs.Prelude.{Option, None, Some}
use Rattle.std.specs.Ptr.{points_to}
use Rattle.std.specs.Global.{Global}
use Rattle.std.specs.contracts.alloc.Global as heap
use Rattle.std.proofs.alloc.Global.TheLaws as heap_laws
use Rattle.std.specs.contracts.impls.GlobalAllocator.TheImpl.{ghosts}
use Rattle.std.proofs.GlobalToken.{dealloc_token-Testable}
use Rattle.std_alloc.specs.Box.Ownership.{box_owns}
use Rattle.cvr_call.specs.Handle.{owned}
use Rattle.cvr_cached.specs.contracts.cached.CachedOffice as cached
use Rattle.cvr_call.specs.contracts.office.CvrOffice as handle
use Rattle.cvr_call.proofs.Loosening.{both, al}

abbrev pub Z : RattleType
Z = heap.the_row

abbrev pub R : RattleType
R = cached.the_row

abbrev pub boxed : Global → Ptr → R.Denot → Fml
boxed a = box_owns (ghosts.dealloc_token a) R

pub null_good : (h : Val) → Good (layout Z) h → T (has_ty (layout Z) h && true) × WT (both (ptr_val
    null_ptr) h)
null_good h fits = (and_tt (has_ty (layout Z) h) fits.0, ((Ptr-Good null_ptr).1, (fits.1, tt)))

tested : {M : Type 1} {𝓤 : Ura M} (𝓛 : Logic 𝓤) (a : Global) (p : Ptr) (x : R.Denot) → ent 𝓤 (sem 𝓛
    (boxed a p x)) (guard 𝓤 (Testable p) (sem 𝓛 (boxed a p x)))
tested {𝓤 = 𝓤} 𝓛 a p x =
    let token = ghosts.dealloc_token a (bare (lone R.mir)) p in
    fact_use 𝓤 (Testable p) (via 𝓤 _ (snd∗ 𝓤 (sem 𝓛 (points_to R p x)) (sem 𝓛 token))
    (dealloc_token-Testable 𝓛 a (bare (lone R.mir)) p))
    (guard_i 𝓤 (Testable p) (sem 𝓛 (boxed a p x)))

module _ {M : Type 1} {𝓤 : Ura M} {𝓛 : Logic 𝓤} {K : Type 0} {Γ : List (Item 𝓤)} {G : Goal 𝓤 𝓛.H}
  where
    pub handle_out : K → (d : (handle.the_row).Denot) (vs : List Val)
        → ((h : Val) → vs ≡ both (ptr_val d.at) h ∷ [] → Good (layout Z) h
        → Seq K 𝓛 (‵ (owned d.alloc d.at d.office) ∷ ‵ (Z.own_val d.alloc (h ∷ [])) ∷ Γ) G)
        → Seq K 𝓛 (‵ ((handle.the_row).own_val d vs) ∷ Γ) G
    handle_out t d vs k =
        fsplit t $ fpick t (λ vss. fsplit t $ feq_l t (λ ev. fsplit t $ feq_l t (λ ep. fsplit t $
        handle_tells (al R Z heap_laws.the_row_laws ghosts) t d.alloc vss.1.0 (λ h ea fits.
        move t (1 ∷ []) $ drop t $ move t (1 ∷ []) $
        k h (subst (λ (ws : List Val). vs ≡ vstruct (of_list (ptr_val d.at ∷ (ws ++ []))) ∷ []) ea
        (subst (λ (ps : List Val). vs ≡ vstruct (of_list (ps ++ (vss.1.0 ++ []))) ∷ []) ep ev))
        fits))))

    pub handle_in : K → (p : Ptr) (h : Val) (a : Global) (m : Option R.Denot)
        → Step K 𝓛 (‵ ((handle.the_row).own_val (record { at = p; alloc = a; office = m }) (both
        (ptr_val p) h ∷ [])) ∷ Γ) G (‵ (owned a p m) ∷ ‵ (Z.own_val a (h ∷ [])) ∷ Γ) G
    handle_in t p h a m = step (λ s. let v : Val = both (ptr_val p) h in
        nothing t $ move t (2 ∷ 0 ∷ []) $ fjoin t $ feq_i t (List Val) (ptr_val p ∷ []) (ptr_val p ∷
        []) refl $ fjoin t $ feq_i t (List Val) (v ∷ []) (v ∷ []) refl $ fjoin t $
        fpack t (Valss (RawPtr ∷ Z ∷ [])) (within (shape handle.the_type) (
          p,
          (
            (heap.the_field).into
                a,
            tt,
          ),
        ) (v ∷ [])) (ptr_val p ∷ [], (h ∷ [], tt)) $ fjoin t $ s)

    pub either_held : K → (a : Global) (p : Ptr) (m : Option R.Denot)
        → (p ≡ null_ptr → m ≡ None → Seq K 𝓛 Γ G)
        → ((b o : ℕ) (x : R.Denot) → p ≡ block_ptr b o → m ≡ Some x → Testable (block_ptr b o)
        → Seq K 𝓛 (‵ (boxed a (block_ptr b o) x) ∷ Γ) G) → Seq K 𝓛 (‵ (owned a p m) ∷ Γ) G
    either_held t a p None none one = feq_l t (λ e. none e refl)
    either_held t a p (Some x) none one =
        in_a_block t p (λ q. boxed a q x)
        (fst∗ 𝓤 (never 𝓤) (sem 𝓛 (ghosts.dealloc_token a (bare (lone R.mir)) null_ptr))) (λ b o e.
        use1 𝓛 (given (Testable (block_ptr b o)) (‵ (boxed a (block_ptr b o) x))) (tested 𝓛 a
        (block_ptr b o) x) $ learn t (λ can. one b o x e refl can))
