-- `of`: `Box::into_raw_with_allocator` takes the box apart, and the struct is made of what it gives.
use Rattle.core.proofs.cell.Inside.{one}
use denote.Signature.{type_at}
use denote.Steps.{only}
use denote.Triple.Call.{calls_at}
use types.ByLocal.{lands_as}
use types.Part.{agg}
use Rattle.std_alloc.specs.contracts.boxed.Box.into_raw_with_allocator as parts
use Rattle.std_alloc.proofs.boxed.Box.into_raw_with_allocator.Met as parts_met
use Rattle.pbd_loose.proofs.Values.{◌≡◌, List, [], ◌∷◌, ◌++◌, refl, ap, Fn, inst_fn, Val, SProp, emp, id⊢, WpFn, ‵, raw, ◌⊛◌, some, later}
use Rattle.pbd_loose.proofs.Values.{prop, ◌$◌, ◌∵◌, !, qed, by, move, keep, drop, use0, use1, split, split3, fjoin, pick, await, rewrite}
use Rattle.pbd_loose.proofs.Values.{regoal, enter, of_opd, stop, fld, and_then, no_more, returns, alloc_all, pass_all, free_all, look_at}
use Rattle.pbd_loose.proofs.Values.{get, get_in, sets, sub, whole, fact, fact_i, tables, no, layout, RattleType, plain, nothing, heard}
use Rattle.pbd_loose.proofs.Values.{Lasts, lasts, alive, triple_of, framed, Stays, stay_dropped, walk_of, Al, Goes-blank, proved_at, leaves}
use Rattle.pbd_loose.proofs.Values.{box_allocator, word, ptr_good, Row, Boxed, args, memory, word_good, boxed_typed, opens_pair}
use Rattle.pbd_loose.proofs.Values.{closes_loose}
use Rattle.pbd_loose.specs.contracts.RawBox.of as f
use Rattle.pbd_loose.proofs.RawBox.of.Statement.{statement}
use Rattle.pbd_loose.proofs.RawBox.of.Code as code

pub of_spec : {M : Type 1} → statement M
of_spec 𝓤 𝓛 𝓜 𝓡 wired T A LT LA g d dT dA allocates drops_T drops_A =
    let 𝓣 = tables 𝓤 𝓛.H 𝓜 𝓡 𝓡.env in let E : Al = record { row = A; laws = LA; g = g; d = d; drops = dA } in
    let En = f.ended T A g d dT dA in let c = f.clauses T A g d dT dA 𝓛 𝓜.mem 𝓡.returns in
    let fn : Fn = inst_fn (args T E dT) code.function in
    let hs : Stays En.signature.params En.kept = (stay_dropped (plain (λ _. Boxed T E)) no, tt) in
    proved_at 𝓛 En hs c 𝓜 𝓡 (Goes-blank 𝓛 2 (plain (λ _. Boxed T E)) no (λ κs x w. tt), tt) (f.Key.name (args T E dT)) fn
    (code.unfolded 𝓤 𝓛.H 𝓜 𝓡 wired (T, (A, tt)) d dT dA) (λ z are.
    let κs = z.0.0 in let b = z.0.3.0 in let Post : Val → SProp 𝓤 = (walk_of 𝓛 En hs c).post z in
    let Gn = parts.ended T A g d dA dT in let G = triple_of 𝓛 Gn.signature (parts.spec T A g d dA dT 𝓛 𝓜.mem 𝓡.returns) in
    let Parts : RattleType = type_at Gn.signature.result κs in let y : List Val
    → G.Ghost = λ us. ((κs, z.0.1, tt, (b, tt), (us, tt)), tt) in
    -- the box is one machine value. All that is owned at entry goes into the call
    let box = one (layout (Boxed T E)) z.0.4.0 (boxed_typed T E LT 𝓛 b z.0.4.0 are.0) in
    qed 𝓛 (raw (G.pre (y z.0.4.0)) ∷ []) ∵ rewrite ! 0 (λ (us : List Val). raw (G.pre (y us))) box.1 refl $ regoal !
    (λ (us : List Val). prop (WpFn 𝓤 𝓛.H 𝓣.C 𝓣.Λ fn (us ++ []) Post)) box.1 refl $
    enter ! _ _ _ _ _ $ alloc_all ! (λ l. pass_all ! refl (box.2, tt) $ sets ! (of_opd ! (get ! refl)) refl box.2 $
    calls_at ! (framed 𝓤 𝓛.H 𝓜 𝓣) G (parts_met.met 𝓤 𝓛 𝓜 𝓡
    (code.calls-std_alloc::boxed::Box::into_raw_with_allocator 𝓡.env wired) T A LT LA g d dA dT allocates drops_A drops_T)
    (y (box.0 ∷ [])) (and_then ! (get ! refl) (no_more !)) (λ v.
    use1 𝓛 (later (some (λ (r : Parts.Denot). (raw (alive 𝓛 En.signature κs z.0.1) ⊛ ‵ (Parts.own_val r (v ∷ []))) ⊛
    some (λ (ws : Lasts Gn κs (b, tt)). ‵ (lasts Gn κs (b, tt) ws) ⊛ raw (fact 𝓤 (r.1 ≡ box_allocator b)) ⊛ ‵
    (memory T E r.0 (box_allocator b) b.value))))) (id⊢ 𝓤 _) $
    await ! tt $ pick ! (λ r. split ! $ move ! (1 ∷ []) $ pick !
    (λ ws. split3 ! $ drop ! $ heard ! _ (λ same. move ! (1 ∷ []) $ split ! $ move ! (1 ∷ []) $
    -- [the pointer and the allocator; the tokens; the box's memory]
    opens_pair T E ! r.0 r.1 (v ∷ []) (λ h is fits. rewrite ! 0 (λ (a : A.Denot). ‵ (A.own_val a (h ∷ []))) same refl $
    lands_as ! (ap only is) refl (word_good T E r.0 h fits) $
    sets ! (of_opd ! (get_in ! (fld ! refl (stop !)) (sub ! 0 refl (whole !)))) refl (ptr_good r.0) $ sets !
    (of_opd ! (get_in ! (fld ! refl (stop !)) (sub ! 1 refl (whole !)))) refl fits $
    sets ! (of_opd ! (get ! refl)) refl fits $ sets ! (agg ! (and_then ! (get ! refl) (and_then ! (get ! refl) (no_more !)))) refl
    (word_good T E r.0 h fits) $
    returns ! (look_at ! 0 refl) $ free_all ! refl $
    -- the struct closes over its fields and the memory
    let made : (Row T E).Denot = record { at = r.0; alloc = box_allocator b; value = b.value } in
    keep ! (0 ∷ 2 ∷ 1 ∷ []) $ closes_loose T E ! made h $
    use0 𝓛 (raw (fact 𝓤 (b.value ≡ b.value))) (fact_i 𝓤 _ (emp 𝓤) refl) $ nothing ! $ nothing ! $ fjoin ! $ keep ! (3 ∷ 0 ∷ 2 ∷ 1 ∷ []) $
    by ! (leaves 𝓛 En hs c z (word r.0 h) made ((tt, (tt, tt)), tt) (tt, tt)))))))))
