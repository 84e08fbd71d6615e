-- The machine values of a handle, and of a cloth's box taken apart.
use Rattle.std.proofs.Common.{◌≡◌, ℕ, List, [], ◌∷◌, ◌++◌, refl, subst, lit<}
use mathlib.Core.Bool.{Bool, true, false, ◌&&◌}
use lib.Dec.{T}
use seplogic.Ra.Ura.{Ura}
use mir.Syntax.{ty_ptr, impl, tnil, dnil}
use mir.Raw.{raw as bare}
use mir.Val.{Val, WT, has_ty, vbool, vstruct, vcons, vnil, of_list}
use base.Logic.{never, never_e, fst∗}
use base.Fml.{ftrue}
use types.Logic.{Logic, sem}
use types.Kit.{Item, Goal, Seq, Step, step, ‵, given, ◌$◌, use1, learn, move, drop, fsplit, fjoin, fpick, fpack, feq_i, feq_l}
use denote.RattleType.{RattleType, Valss}
use denote.Builtin.{RawPtr, bool}
use denote.RawPtr.{Ptr, block_ptr, null_ptr, ptr_val, in_a_block}
use denote.Steps.{nothing}
use denote.Memory.{lone}
use denote.Param.{layout}
use denote.Struct.Struct.{within, as_fields}
use denote.Struct.Owning.{shape}
use Rattle.core.proofs.alloc.Calls.{Al, handle_tells}
use Rattle.core.proofs.cell.Inside.{Good}
use Rattle.std.specs.contracts.alloc.Global as global
use Rattle.std.proofs.alloc.Global.TheLaws as global_laws
use Rattle.std.specs.contracts.impls.GlobalAllocator.TheImpl.{ghosts}
use Rattle.std.specs.declared.alloc.Global.{Global}
use Rattle.std.specs.declared.option.Option.{Option}
use Rattle.std.specs.declared.option.Option.TheVariants.{None, Some}
use Rattle.std_alloc.specs.Box.Ownership.{box_owns}
use Rattle.pbd_cloth.specs.contracts.cloth.Cloth as cloth
use Rattle.pbd_cloth.specs.Slots.{Slotted}
use Rattle.pbd_loose.specs.contracts.RawBox as loose
use Rattle.lakmozet_c.specs.Kept.{kept}
use Rattle.lakmozet_c.specs.contracts.handle.Handle as handle
use Rattle.pbd_loose.proofs.Values.{ptr_good}

abbrev pub word : Ptr → Bool → Val
word p t = vstruct (vcons (ptr_val p) (vcons (vbool t) vnil))

pub word_good : (p : Ptr) (t : Bool) → T (has_ty ty_ptr (ptr_val p) && true) × WT (word p t)
word_good (block_ptr b o) t = (tt, (tt, (tt, tt)))
word_good null_ptr t = (tt, (record { fits = lit< tt }, (tt, tt)))

abbrev pub heap : Global
heap = record { memory = record { seal = tt } }

abbrev pub Row : RattleType
Row = handle.the_row

-- the type of a cloth's box taken apart, and of its allocator
abbrev pub Apart : RattleType
Apart = loose.the_row cloth.the_row global.the_row ghosts

abbrev pub allocator : Al
allocator = record { row = global.the_row; laws = global_laws.the_row_laws; g = ghosts; d = impl [] tnil dnil; drops = impl [] tnil dnil }

abbrev pub apart_word : Ptr → Val → Val
apart_word p h = vstruct (vcons (ptr_val p) (vcons h vnil))

pub apart_good : (p : Ptr) (h : Val) → Good (layout global.the_row) h → Good (layout Apart) (apart_word p h)
apart_good p h fits = as_fields (ty_ptr ∷ layout global.the_row ∷ []) (ptr_val p ∷ h ∷ []) (ptr_good p, (fits, tt))

module _ {M : Type 1} {𝓤 : Ura M} {𝓛 : Logic 𝓤} {K : Type 0} {Γ : List (Item 𝓤)} {G : Goal 𝓤 𝓛.H} where
  -- a box taken apart owns the cloth's memory, and what its allocator owns
  pub apart_opens : K → (d : Apart.Denot) (vs : List Val)
      → ((h : Val) → vs ≡ apart_word d.at h ∷ [] → Good (layout global.the_row) h
      → Seq K 𝓛 (‵ (box_owns (ghosts.dealloc_token d.alloc) cloth.the_row d.at d.value) ∷ ‵ (global.the_row.own_val d.alloc (h ∷ []))
      ∷ Γ) G)
      → Seq K 𝓛 (‵ (Apart.own_val d vs) ∷ Γ) G
  apart_opens t d vs k =
      fsplit t $ fpick t (λ vss. fsplit t $ feq_l t (λ ev. fsplit t $ feq_l t
      (λ ep. fsplit t $ handle_tells allocator t d.alloc vss.1.0 (λ h eh fits. move t (1 ∷ []) $ drop t $ move t (1 ∷ []) $ k h
      (subst (λ (us : List Val). vs ≡ vstruct (of_list (ptr_val d.at ∷ (us ++ []))) ∷ []) eh
      (subst (λ (us : List Val). vs ≡ vstruct (of_list (us ++ (vss.1.0 ++ []))) ∷ []) ep ev)) fits))))

  pub apart_closes : K → (d : Apart.Denot) (h : Val)
      → Step K 𝓛 (‵ (Apart.own_val d (apart_word d.at h ∷ [])) ∷ Γ) G
      (‵ (box_owns (ghosts.dealloc_token d.alloc) cloth.the_row d.at d.value) ∷ ‵ (global.the_row.own_val d.alloc (h ∷ [])) ∷ Γ) G
  apart_closes t d h = step (λ s. let v : Val = apart_word d.at h in
      nothing t $ move t (2 ∷ 0 ∷ []) $ fjoin t $ feq_i t (List Val) (ptr_val d.at ∷ []) (ptr_val d.at ∷ []) refl $ fjoin t $ feq_i t
      (List Val) (v ∷ []) (v ∷ []) refl $ fjoin t $
      fpack t (Valss (RawPtr ∷ global.the_row ∷ [])) (within (shape (loose.the_type cloth.the_row global.the_row ghosts))
      (d.at, (d.alloc, tt)) (v ∷ [])) (ptr_val d.at ∷ [], (h ∷ [], tt)) $ fjoin t $ s)

  pub handle_out : K → (d : Row.Denot) (vs : List Val) → (vs ≡ word d.at d.full ∷ [] → Seq K 𝓛 (‵ (kept d.full d.at d.held) ∷ Γ) G)
      → Seq K 𝓛 (‵ (Row.own_val d vs) ∷ Γ) G
  handle_out t d vs k =
      fsplit t $ fpick t (λ vss. fsplit t $ feq_l t (λ ev. fsplit t $ feq_l t (λ ep. fsplit t $ feq_l t (λ eb. drop t $ k
      (subst (λ (ws : List Val). vs ≡ vstruct (of_list (ptr_val d.at ∷ (ws ++ []))) ∷ []) eb
      (subst (λ (ps : List Val). vs ≡ vstruct (of_list (ps ++ (vss.1.0 ++ []))) ∷ []) ep ev))))))

  pub handle_in : K → (p : Ptr) (full : Bool) (x : Option Slotted)
      → Step K 𝓛 (‵ (Row.own_val (record { at = p; full = full; held = x }) (word p full ∷ [])) ∷ Γ) G (‵ (kept full p x) ∷ Γ) G
  handle_in t p full x = step (λ s. let v : Val = word p full in
      nothing t $ feq_i t (List Val) (vbool full ∷ []) (vbool full ∷ []) refl $ fjoin t $ feq_i t (List Val) (ptr_val p ∷ [])
      (ptr_val p ∷ []) refl $ fjoin t $ feq_i t (List Val) (v ∷ []) (v ∷ []) refl $ fjoin t $
      fpack t (Valss (RawPtr ∷ bool ∷ [])) (within (shape handle.the_type) (p, (full, tt)) (v ∷ []))
      (ptr_val p ∷ [], (vbool full ∷ [], tt)) $ fjoin t $ s)

  -- a handle is closed, or has the box of what it holds
  pub either_kept : K → (full : Bool) (p : Ptr) (x : Option Slotted) → (full ≡ false → x ≡ None → Seq K 𝓛 Γ G)
      → ((b o : ℕ) (y : Slotted) → full ≡ true → p ≡ block_ptr b o → x ≡ Some y
      → Seq K 𝓛 (‵ (box_owns (ghosts.dealloc_token heap) cloth.the_row (block_ptr b o) y) ∷ Γ) G) → Seq K 𝓛 (‵ (kept full p x) ∷ Γ) G
  either_kept t false p None none one = drop t $ none refl refl
  either_kept t false p (Some y) none one = use1 𝓛 (given ⊥ (‵ ftrue)) (never_e 𝓤 _) $ learn t (λ z. absurd z)
  either_kept t true p None none one = use1 𝓛 (given ⊥ (‵ ftrue)) (never_e 𝓤 _) $ learn t (λ z. absurd z)
  either_kept t true p (Some y) none one =
      in_a_block t p (λ q. box_owns (ghosts.dealloc_token heap) cloth.the_row q y)
      (fst∗ 𝓤 (never 𝓤) (sem 𝓛 (ghosts.dealloc_token heap (bare (lone cloth.the_row.mir)) null_ptr))) (λ b o e. one b o y refl e refl)
