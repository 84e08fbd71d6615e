-- `into_box`: the struct's two words and its memory go into `Box::from_raw`, which makes the box.
use base.Fml.{ftrue}
use contract.BorrowLft.{◌⊑◌}
use denote.Laws.{Is, shows}
use denote.RattleType.{owns}
use denote.Signature.{types_at}
use denote.Steps.{peeks}
use denote.Triple.Call.{calls_at_last}
use types.ByLocal.{lands_last, env}
use types.Kit.{at_ret}
use types.Run.{first, blocks, exec}
use Rattle.core.proofs.alloc.Shapes.{after}
use Rattle.std_alloc.specs.contracts.boxed.Box.from_raw as makes
use Rattle.std_alloc.proofs.boxed.Box.from_raw.Met as makes_met
use Rattle.pbd_loose.proofs.Values.{◌≡◌, List, [], ◌∷◌, ◌++◌, refl, Fn, inst_fn, Val, SProp, emp, id⊢, WpFn, ‵, raw, ◌⊛◌, some, later, prop}
use Rattle.pbd_loose.proofs.Values.{◌$◌, ◌∵◌, !, qed, by, move, keep, drop, use0, use1, split, split3, join, fsplit, fjoin, feq_i, pick}
use Rattle.pbd_loose.proofs.Values.{await, regoal, enter, of_opd, stop, fld, and_then, no_more, returns, alloc_all, pass_all, free_all}
use Rattle.pbd_loose.proofs.Values.{look_at, get, get_in, sets, sub, whole, fact, fact_i, tables, no, ptr_val, plain, nothing, heard, Lasts}
use Rattle.pbd_loose.proofs.Values.{lasts, alive, triple_of, framed, Stays, stay_dropped, walk_of, Al, Goes-blank, proved_at, leaves}
use Rattle.pbd_loose.proofs.Values.{box_allocator, ptr_good, Row, Boxed, args, word_good, boxed_typed, opens_loose}
use Rattle.pbd_loose.specs.contracts.RawBox.into_box as f
use Rattle.pbd_loose.proofs.RawBox.into_box.Statement.{statement}
use Rattle.pbd_loose.proofs.RawBox.into_box.Code as code

pub into_box_spec : {M : Type 1} → statement M
into_box_spec 𝓤 𝓛 𝓜 𝓡 wired T A LT LA g d dT dA allocates drops_T drops_A =
    let 𝓣 = tables 𝓤 𝓛.H 𝓜 𝓡 𝓡.env in let E : Al = record { row = A; laws = LA; g = g; d = d; drops = dA } in
    let En = f.ended T A g d dT dA in let c = f.clauses T A g d dT dA 𝓛 𝓜.mem 𝓡.returns in
    let fn : Fn = inst_fn (args T E dT) code.function in
    let hs : Stays En.signature.params En.kept = (stay_dropped (plain (λ _. Row T E)) no, tt) in
    proved_at 𝓛 En hs c 𝓜 𝓡 (Goes-blank 𝓛 2 (plain (λ _. Row T E)) no (λ κs x w. tt), tt) (f.Key.name (args T E dT)) fn
    (code.unfolded 𝓤 𝓛.H 𝓜 𝓡 wired (T, (A, tt)) d dT dA) (λ z are.
    let κs = z.0.0 in let s = z.0.3.0 in let Post : Val → SProp 𝓤 = (walk_of 𝓛 En hs c).post z in
    let Gn = makes.ended T A g d dA in let G = triple_of 𝓛 Gn.signature (makes.spec T A g d dA 𝓛 𝓜.mem 𝓡.returns) in
    -- the struct is opened: its pointer and its allocator's machine value, what the allocator owns, and the box's memory
    qed 𝓛 ((raw (alive 𝓛 En.signature κs z.0.1) ⊛ ‵ (owns (types_at En.signature.params κs) z.0.3 z.0.4))
    ∷ (raw (fact 𝓤 (κs.0 ⊑ T.lives)) ⊛ raw (fact 𝓤 (κs.1.0 ⊑ A.lives)) ⊛ ‵ ftrue) ∷ []) ∵
    split ! $ move ! (1 ∷ []) $ fsplit ! $ opens_loose T E ! s z.0.4.0
    (λ h is fits. regoal ! (λ (us : List Val). prop (WpFn 𝓤 𝓛.H 𝓣.C 𝓣.Λ fn (us ++ []) Post)) is refl $
    -- the call asks for the tokens, the two arguments, and behind the two bounds the memory
    let y : G.Ghost = ((κs, z.0.1, tt, (s.alloc, (s.at, tt)), (h ∷ [], (ptr_val s.at ∷ [], tt))), s.value) in
    move ! (4 ∷ []) $ split3 ! $ move ! (1 ∷ 4 ∷ []) $ join ! $ move ! (1 ∷ 0 ∷ []) $ join ! $ move ! (3 ∷ []) $ feq_i ! (List Val)
    (ptr_val s.at ∷ []) (ptr_val s.at ∷ []) refl $
    fjoin ! $ move ! (3 ∷ 0 ∷ []) $ fjoin ! $ move ! (3 ∷ 0 ∷ []) $ join ! $ join ! $ keep ! (0 ∷ []) $ use1 𝓛 (raw (G.pre y)) (id⊢ 𝓤 _) $
    enter ! _ _ _ _ _ $ alloc_all ! (λ l. pass_all ! refl (word_good T E s.at h fits, tt) $
    sets ! (of_opd ! (get_in ! (fld ! refl (stop !)) (sub ! 0 refl (whole !)))) refl (ptr_good s.at) $ sets !
    (of_opd ! (get_in ! (fld ! refl (stop !)) (sub ! 1 refl (whole !)))) refl fits $
    first ! $ blocks ! $ sets ! (of_opd ! (get ! refl)) refl fits $
    calls_at_last ! (framed 𝓤 𝓛.H 𝓜 𝓣) G (makes_met.met 𝓤 𝓛 𝓜 𝓡
    (code.calls-std_alloc::boxed::Box::from_raw 𝓡.env wired) T A LT LA g d dA allocates drops_A) y
    (and_then ! (get ! refl) (and_then ! (get ! refl) (no_more !))) (λ v.
    use1 𝓛 (later (some (λ (r : (Boxed T E).Denot). (raw (alive 𝓛 En.signature κs z.0.1) ⊛ ‵ ((Boxed T E).own_val r (v ∷ []))) ⊛
    some (λ (ws : Lasts Gn κs y.0.3). ‵ (lasts Gn κs y.0.3 ws) ⊛ raw (fact 𝓤 (r.value ≡ s.value)) ⊛ raw
    (fact 𝓤 (box_allocator r ≡ s.alloc)))))) (id⊢ 𝓤 _) $
    await ! tt $ pick ! (λ r. split ! $ move ! (1 ∷ []) $ pick !
    (λ ws. split3 ! $ drop ! $ heard ! _ (λ same. drop ! $ split ! $ move ! (1 ∷ []) $
    -- [the box; the tokens]
    peeks ! (Boxed T E) (Is (Boxed T E)) (shows 𝓛 (Boxed T E)) r (v ∷ []) (λ box. let good = (boxed_typed T E LT 𝓛 r (v ∷ []) box).0 in
    lands_last ! refl good $ exec ! 𝓣.C 𝓣.Λ (env fn.locals l) (after 3 fn.body) (at_ret _ Post) $ sets ! (of_opd ! (get ! refl)) refl good $
    returns ! (look_at ! 0 refl) $ free_all ! refl $
    use0 𝓛 (raw (fact 𝓤 (r.value ≡ s.value))) (fact_i 𝓤 _ (emp 𝓤) same) $ nothing ! $ nothing ! $ fjoin ! $ keep ! (3 ∷ 0 ∷ 2 ∷ 1 ∷ []) $
    by ! (leaves 𝓛 En hs c z v r ((tt, (tt, tt)), tt) (tt, tt))))))))))
