-- A box taken apart: the struct's machine value, and what it owns. The names that both walks cite are passed on here.
use lib.Dec.{lit<}
use mir.Syntax.{Args, Dict, ty_ptr, a_type, dcons, dnil}
use mir.Val.{vstruct, vcons, vnil, of_list}
use base.Fml.{Fml}
use seplogic.Ra.Ura.{Ura}
use types.Logic.{Logic}
use types.Kit.{Item, Goal, Seq, Step, step, fpick, fpack, feq_l}
use denote.Builtin.{RawPtr}
use denote.Laws.{Is, Typed}
use denote.Param.{param, bounded}
use denote.Param.Laws.{Laws, param_laws}
use denote.RattleType.{Valss}
use denote.RawPtr.{Ptr, block_ptr, null_ptr}
use denote.Struct.Struct.{Shape, Struct, within, as_fields}
use Rattle.core.proofs.alloc.Calls.{α, Fits, token, handle_tells}
use Rattle.core.proofs.cell.Inside.{Good}
use Rattle.std_alloc.specs.Box.Ownership.{box_owns}
use Rattle.std_alloc.specs.contracts.boxed.Box as box
use Rattle.std_alloc.proofs.boxed.Box.TheLaws as box_laws
use Rattle.pbd_loose.specs.contracts.RawBox as loose
pub use Rattle.std.proofs.Common.{◌≡◌, List, [], ◌∷◌, ◌++◌, refl, ap, subst}
pub use mir.Syntax.{Fn}
pub use mir.MapTy.{inst_fn}
pub use mir.Val.{Val}
pub use base.Logic.{SProp, emp, id⊢}
pub use prog.Wp.{WpFn}
pub use types.Kit.{‵, raw, ◌⊛◌, some, later, prop, ◌$◌, ◌∵◌, !, qed, by, move, keep, drop, use0, use1, split, split3, join, fsplit, fjoin}
pub use types.Kit.{feq_i, pick, await, rewrite, regoal}
pub use types.Run.{enter, of_opd, stop, fld, and_then, no_more, returns}
pub use types.ByLocal.{alloc_all, pass_all, free_all, look_at, get, get_in, sets}
pub use types.Part.{sub, whole}
pub use contract.Monad.{fact, fact_i}
pub use contract.Running.{tables}
pub use denote.Exit.{no}
pub use denote.Param.{layout}
pub use denote.RattleType.{RattleType}
pub use denote.RawPtr.{ptr_val}
pub use denote.Signature.{plain}
pub use denote.Steps.{nothing, heard}
pub use denote.Triple.Clauses.{Lasts, lasts}
pub use denote.Triple.Entry.{alive}
pub use denote.Triple.Spec.{triple_of}
pub use denote.Triple.Table.{framed}
pub use denote.Triple.Walked.{Stays, stay_dropped, walk_of}
pub use Rattle.core.proofs.alloc.Calls.{Al, Goes-blank}
pub use Rattle.std.proofs.raw_atomic.Walks.{proved_at, leaves}
pub use Rattle.std_alloc.specs.Box.{box_allocator}

-- a pointer and an allocator, as they lie in a struct
abbrev pub word : Ptr → Val → Val
word p h = vstruct (vcons (ptr_val p) (vcons h vnil))

pub ptr_good : (p : Ptr) → Good ty_ptr (ptr_val p)
ptr_good (block_ptr b o) = (tt, tt)
ptr_good null_ptr = (tt, record { fits = lit< tt })

module _ (T : RattleType) (E : Al) where
  -- the types of `RawBox<T, A>` and `Box<T, A>`, and what a call passes for T and A
  abbrev pub Row : RattleType
  Row = loose.the_row (param 0 T) (param 1 E.row) E.g

  abbrev pub Boxed : RattleType
  Boxed = box.the_row (param 0 T) (param 1 E.row) E.g

  abbrev pub args : Dict → Args
  args dT = bounded (a_type ∷ a_type ∷ []) (T, (E.row, tt)) (dcons E.d (dcons dT (dcons E.drops dnil)))

  -- a struct of the two fields, whatever its name
  abbrev fields : Shape
  fields = record { name = []; args = []; types = []; fields = RawPtr ∷ param 1 E.row ∷ [] }

  -- the box's value and its block
  abbrev pub memory : Ptr → E.row.Denot → T.Denot → Fml
  memory p a x = box_owns (token E a) (param 0 T) p x

  pub word_good : (p : Ptr) (h : Val) → Fits E h → Good (layout Row) (word p h)
  word_good p h fits = as_fields (ty_ptr ∷ α E ∷ []) (ptr_val p ∷ h ∷ []) (ptr_good p, (fits, tt))

  pub boxed_typed : Laws T → {M : Type 1} {𝓤 : Ura M} (𝓛 : Logic 𝓤) (x : Boxed.Denot) (vs : List Val) → Is Boxed x vs
      → Typed (layout Boxed ∷ []) vs
  boxed_typed LT 𝓛 = ((box_laws.the_row_laws (param 0 T) (param 1 E.row) E.g (param_laws 0 T LT) (param_laws 1 E.row E.laws)).lawful
      𝓛).typed

  module _ {M : Type 1} {𝓤 : Ura M} {𝓛 : Logic 𝓤} {K : Type 0} {Γ : List (Item 𝓤)} {G : Goal 𝓤 𝓛.H} where
    -- the fields own what the allocator owns, at its one machine value
    pub opens_pair : K → (p : Ptr) (a : E.row.Denot) (vs : List Val)
        → ((h : Val) → vs ≡ word p h ∷ [] → Fits E h → Seq K 𝓛 (‵ (E.row.own_val a (h ∷ [])) ∷ Γ) G)
        → Seq K 𝓛 (‵ ((Struct fields).own_val (p, (a, tt)) vs) ∷ Γ) G
    opens_pair t p a vs k =
        fpick t (λ vss. fsplit t $ feq_l t (λ ev. fsplit t $ feq_l t
        (λ ep. fsplit t $ handle_tells E t a vss.1.0 (λ h eh fits. move t (1 ∷ []) $ drop t $ k h
        (subst (λ (us : List Val). vs ≡ vstruct (of_list (ptr_val p ∷ (us ++ []))) ∷ []) eh
        (subst (λ (us : List Val). vs ≡ vstruct (of_list (us ++ (vss.1.0 ++ []))) ∷ []) ep ev)) fits))))

  module _ {M : Type 1} {𝓤 : Ura M} {𝓛 : Logic 𝓤} {K : Type 0} {Γ : List (Item 𝓤)} {G : Goal 𝓤 𝓛.H} where
    -- `also_owns` is opened and closed: beside its fields the struct owns the box's memory
    pub opens_loose : K → (d : Row.Denot) (vs : List Val)
        → ((h : Val) → vs ≡ word d.at h ∷ [] → Fits E h → Seq K 𝓛
        (‵ (E.row.own_val d.alloc (h ∷ [])) ∷ ‵ (memory d.at d.alloc d.value) ∷ Γ) G) → Seq K 𝓛 (‵ (Row.own_val d vs) ∷ Γ) G
    opens_loose t d vs k = fsplit t $ opens_pair t d.at d.alloc vs k

    pub closes_loose : K → (d : Row.Denot) (h : Val)
        → Step K 𝓛 (‵ (Row.own_val d (word d.at h ∷ [])) ∷ Γ) G (‵ (E.row.own_val d.alloc (h ∷ [])) ∷ ‵ (memory d.at d.alloc d.value) ∷ Γ) G
    closes_loose t d h = step (λ s.
        nothing t $ move t (1 ∷ 0 ∷ []) $ fjoin t $ feq_i t (List Val) (ptr_val d.at ∷ []) (ptr_val d.at ∷ []) refl $ fjoin t $ feq_i t
        (List Val) (word d.at h ∷ []) (word d.at h ∷ []) refl $ fjoin t $
        fpack t (Valss (RawPtr ∷ param 1 E.row ∷ [])) (within fields (d.at, (d.alloc, tt)) (word d.at h ∷ []))
        (ptr_val d.at ∷ [], (h ∷ [], tt)) $ fjoin t $ s)
