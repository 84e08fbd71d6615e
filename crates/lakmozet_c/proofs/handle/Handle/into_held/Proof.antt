-- `into_held` gives back the box of a handle that has one.
use Rattle.std.proofs.Common.{◌≡◌, List, [], ◌∷◌, ◌++◌, refl, sym, subst, lit<, Some, None}
use mathlib.Core.Bool.{Bool, true, false}
use mir.Val.{Val, vcons, vnil}
use base.Logic.{SProp, ent, emp, id⊢}
use base.Fml.{ftrue}
use prog.Wp.{WpFn}
use types.Kit.{‵, raw, ◌⊛◌, at_ret, ◌$◌, ◌∵◌, !, qed, by, move, keep, drop, split, fsplit, fjoin, suffices, use0, use1}
use types.Run.{stop, fld, lit, of_opd, no_more, and_then, first, branches, exec, returns, enter}
use types.ByLocal.{alloc_all, pass_all, free_all, look_at, get, get_in, sets, sets_last, env}
use types.Part.{agg, sub, whole}
use types.Match.{live}
use contract.Monad.{fact, fact_i}
use contract.Running.{tables}
use denote.Exit.{yes}
use denote.RattleType.{RattleType, owns}
use denote.Signature.{types_at, type_at, plain}
use denote.RawPtr.{Ptr, block_ptr}
use denote.Param.{layout}
use denote.Steps.{nothing}
use denote.Triple.Walked.{Stays, stay_dropped, walk_of, Goes-dropped}
use Rattle.core.proofs.alloc.Calls.{handle_tells}
use Rattle.core.proofs.alloc.Shapes.{after}
use Rattle.core.proofs.cell.Inside.{Good}
use Rattle.core.proofs.option.Made.{Some-of, none_of}
use Rattle.std_alloc.proofs.ResultValues.{and_tt}
use Rattle.std.proofs.raw_atomic.Walks.{proved_at, leaves}
use Rattle.lakmozet_c.proofs.Values.{word, word_good, handle_out, either_kept, Row, Apart, allocator, apart_word, apart_good}
use Rattle.lakmozet_c.proofs.Values.{apart_closes}
use Rattle.lakmozet_c.specs.contracts.handle.Handle.into_held.{ended, clauses}
use Rattle.lakmozet_c.specs.contracts.handle.Handle.into_held.Key.{name as #self}
use Rattle.lakmozet_c.proofs.handle.Handle.into_held.Statement.{statement}
use Rattle.lakmozet_c.proofs.handle.Handle.into_held.Code as code
use Rattle.pbd_loose.proofs.Values.{ptr_good}

pub into_held_spec : {M : Type 1} → statement M
into_held_spec 𝓤 𝓛 𝓜 𝓡 wired =
    let H = 𝓛.H in let 𝓣 = tables 𝓤 H 𝓜 𝓡 𝓡.env in let En = ended in let c = clauses 𝓛 𝓜.mem 𝓡.returns in let fn = code.function in
    let Z : RattleType = allocator.row in
    let hs : Stays En.signature.params En.kept = (stay_dropped (plain (λ _. Row)) yes, (stay_dropped (plain (λ _. Z)) yes, tt)) in
    proved_at 𝓛 En hs c 𝓜 𝓡 (
      Goes-dropped 𝓛 0 (plain (λ _. Row)) yes (λ κs x f. refl),
      (Goes-dropped 𝓛 0 (plain (λ _. Z)) yes (λ κs x f. refl), tt),
    ) #self fn (code.unfolded 𝓤 H 𝓜 𝓡 wired) (λ z are.
    let κs = z.0.0 in let v = z.0.3.0 in let a = z.0.3.1.0 in let Post : Val → SProp 𝓤 = (walk_of 𝓛 En hs c).post z in let Run : List Val
    → SProp 𝓤 = λ ws. WpFn 𝓤 H 𝓣.C 𝓣.Λ fn ws Post in let Out : RattleType = type_at En.signature.result κs in
    qed 𝓛 ((‵ ftrue ⊛ ‵ (owns (types_at En.signature.params κs) z.0.3 z.0.4)) ∷ raw ((c κs z.0.3).requires z.1) ∷ []) ∵ split ! $ drop ! $
    fsplit ! $ move ! (1 ∷ []) $ fsplit ! $
    handle_tells allocator ! a z.0.4.1.0 (λ h ea fits. move ! (1 ∷ []) $ drop ! $ move ! (1 ∷ []) $ handle_out ! v z.0.4.0
    (λ ws. either_kept ! v.full v.at v.held
    (λ ef en.
    -- [the handle of the allocator; the requires]
    let w : Val = word v.at false in let is : z.0.4.0 ≡ w ∷ [] = subst (λ (t : Bool). z.0.4.0 ≡ word v.at t ∷ []) ef ws in
    let good : Good (layout Out) (live 0 vnil) = (tt, (record { fits = lit< tt }, tt)) in
    suffices ! (Run (w ∷ h ∷ [])) (subst (λ (us : List Val). ent 𝓤 (Run (w ∷ h ∷ [])) (Run us)) (sym (λ i. is i ++ (ea i ++ [])))
    (id⊢ 𝓤 (Run (w ∷ h ∷ [])))) $
    enter ! 𝓣.C 𝓣.Λ fn (w ∷ h ∷ []) Post $ alloc_all ! (λ l. pass_all ! refl (word_good v.at false, (fits, tt)) $ let Ev =
    env fn.locals l in
    sets ! (of_opd ! (get_in ! (fld ! refl (stop !)) (sub ! 0 refl (whole !)))) refl (ptr_good v.at) $ sets !
    (of_opd ! (get_in ! (fld ! refl (stop !)) (sub ! 1 refl (whole !)))) refl (tt, tt) $ sets ! (of_opd ! (get ! refl)) refl (tt, tt) $
    first ! $ branches ! (get ! refl) (λ wrong. absurd wrong) (λ _.
    sets_last ! (agg ! (and_then ! (lit ! tt) (no_more !))) refl good $ exec ! 𝓣.C 𝓣.Λ Ev (after 4 fn.body) (at_ret Ev Post) $ sets !
    (of_opd ! (get ! refl)) refl good $
    use0 𝓛 (‵ (Out.own_val None (live 0 vnil ∷ []))) (none_of 𝓛 Apart) $ use0 𝓛 (raw (fact 𝓤 (v.held ≡ None)))
    (fact_i 𝓤 _ (emp 𝓤) en) $ nothing ! $ nothing ! $ fjoin ! $ nothing ! $ fjoin ! $ nothing ! $
    returns ! (look_at ! 0 refl) $ free_all ! refl $ keep ! (0 ∷ 1 ∷ 3 ∷ 2 ∷ []) $ by !
    (leaves 𝓛 En hs c z (live 0 vnil) None (tt, (tt, tt)) (tt, (tt, tt))))))
    (λ b o x ef e es.
    -- [the box; the handle of the allocator; the requires]
    let w : Val = word (block_ptr b o) true in
    let is : z.0.4.0 ≡ w ∷ [] = subst (λ (p : Ptr). z.0.4.0 ≡ word p true ∷ []) e
    (subst (λ (t : Bool). z.0.4.0 ≡ word v.at t ∷ []) ef ws) in
    let made : Val = apart_word (block_ptr b o) h in let typed = apart_good (block_ptr b o) h fits in
    let v₁ : Val = live 1 (vcons made vnil) in let d : Apart.Denot = record { at = block_ptr b o; alloc = a; value = x } in
    let good : Good (layout Out) v₁ = (and_tt _ typed.0, (record { fits = lit< tt }, (typed.1, tt))) in
    suffices ! (Run (w ∷ h ∷ [])) (subst (λ (us : List Val). ent 𝓤 (Run (w ∷ h ∷ [])) (Run us)) (sym (λ i. is i ++ (ea i ++ [])))
    (id⊢ 𝓤 (Run (w ∷ h ∷ [])))) $
    enter ! 𝓣.C 𝓣.Λ fn (w ∷ h ∷ []) Post $ alloc_all ! (λ l. pass_all ! refl (word_good (block_ptr b o) true, (fits, tt)) $ let Ev =
    env fn.locals l in
    sets ! (of_opd ! (get_in ! (fld ! refl (stop !)) (sub ! 0 refl (whole !)))) refl (tt, tt) $ sets !
    (of_opd ! (get_in ! (fld ! refl (stop !)) (sub ! 1 refl (whole !)))) refl (tt, tt) $ sets ! (of_opd ! (get ! refl)) refl (tt, tt) $
    first ! $ branches ! (get ! refl) (λ _.
    sets ! (of_opd ! (get ! refl)) refl (tt, tt) $ sets ! (agg ! (and_then ! (get ! refl) (and_then ! (get ! refl) (no_more !)))) refl typed
    $ sets_last ! (agg ! (and_then ! (lit ! tt) (and_then ! (get ! refl) (no_more !)))) refl good $
    exec ! 𝓣.C 𝓣.Λ Ev (after 4 fn.body) (at_ret Ev Post) $ sets ! (of_opd ! (get ! refl)) refl good $ apart_closes ! d h $
    use1 𝓛 (‵ (Out.own_val (Some d) (v₁ ∷ []))) (Some-of 𝓛 Apart d made) $ use0 𝓛 (raw (fact 𝓤 (v.held ≡ Some x)))
    (fact_i 𝓤 _ (emp 𝓤) es) $ nothing ! $ nothing ! $ fjoin ! $ nothing ! $ fjoin ! $ nothing ! $
    returns ! (look_at ! 0 refl) $ free_all ! refl $ keep ! (0 ∷ 1 ∷ 3 ∷ 2 ∷ []) $ by !
    (leaves 𝓛 En hs c z v₁ (Some d) (tt, (tt, tt)) (tt, (tt, tt)))) (λ wrong. absurd wrong))))))
