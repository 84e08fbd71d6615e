-- Events that are drawn are legal.
use Rattle.std.proofs.Common.{◌≡◌, ◌≢◌, ℕ, zero, suc, ◌+◌, ◌*◌, ◌-◌, ◌<◌, List, [], ◌∷◌, ◌++◌, length, set, replicate, true, refl, sym, ◌∙◌}
use Rattle.std.proofs.Common.{ap, arith, subst, inl, inr}
use Rattle.std.specs.List.{swap_remove}
use Rattle.std.proofs.Math.Nat.{mod-lt}
use Rattle.std.proofs.lemmas.Bool.{cases_eq, and_from, lt-ltb, eq-eqb}
use Rattle.std.proofs.lemmas.List.{get_or-set_same, get_or-set_other, length-set, length-take, get_or-take, get_or-replicate}
use Rattle.std.proofs.lemmas.List.{length-replicate, append_assoc, append-nil}
use Rattle.std.proofs.lemmas.List.FromFn.{get_or-map-range_with_len, length-map-range_with_len}
use Rattle.rand_pcg.specs.Lcg.{Lcg}
use Rattle.rand_pcg.specs.Pcg.{pcg32}
use Rattle.pbd_schedule.specs.declared.event.Event.{Event}
use Rattle.pbd_schedule.specs.declared.event.Event.TheVariants.{Read, WriteA, WriteB}
use Rattle.pbd_schedule.specs.Legal.{position_of, event_at, IsLegal}
use Rattle.pbd_schedule.specs.Drawn.{following, replaced, gone_on, drawn_place, drawn_from, drawn, first_events}
use Rattle.pbd_schedule.specs.Stages.{rank_of, stage_at, may_come, one_more, HaveCome}
use Rattle.pbd_schedule.proofs.Legality.{none_came, came_more, may_within, may_rank}
use Rattle.pbd_schedule.proofs.Counting.{legal_of_many}
use Rattle.pbd_schedule.proofs.DrawingOn.{still_to_come, all_reads, gone_fewer, some_left, length-drawn}

-- what may come next: events of different bonds, each of which may come
pub record AreReady (stages : List ℕ) (coming : List Event) : Type 0 where
  pub each : (i : ℕ) → i < length coming → may_come stages (event_at coming i) ≡ true
  pub apart : (i j : ℕ) → i < length coming → j < length coming → i ≢ j → position_of (event_at coming i) ≢ position_of (event_at coming j)

may : (stages : List ℕ) (e : Event) → position_of e < length stages → stage_at stages (position_of e) ≡ rank_of e → may_come stages e ≡ true
may stages e p q = and_from _ _ (lt-ltb (position_of e) (length stages) p) (eq-eqb (stage_at stages (position_of e)) (rank_of e) q)

-- an event of another bond may still come
still : (stages : List ℕ) (e f : Event) → may_come stages e ≡ true → may_come stages f ≡ true → position_of f ≢ position_of e
    → may_come (one_more stages e) f ≡ true
still stages e f h k d = may (one_more stages e) f (omega
    (arith, may_within stages f k, length-set stages (position_of e) (stage_at stages (position_of e) + 1)))
    (get_or-set_other stages (position_of e) (position_of f) (stage_at stages (position_of e) + 1) 0 d ∙ may_rank stages f k)

-- the following event of the same bond may come
next_may : (stages : List ℕ) (e f : Event) → may_come stages e ≡ true → position_of f ≡ position_of e → rank_of f ≡ rank_of e + 1
    → may_come (one_more stages e) f ≡ true
next_may stages e f h p r = may (one_more stages e) f (omega
    (arith, p, may_within stages e h, length-set stages (position_of e) (stage_at stages (position_of e) + 1)))
    (ap (stage_at (one_more stages e)) p ∙ get_or-set_same stages (position_of e) (stage_at stages (position_of e) + 1) 0
    (may_within stages e h) ∙ ap (λ (n : ℕ). n + 1) (may_rank stages e h) ∙ sym r)

module _ (stages : List ℕ) (coming : List Event) (i : ℕ) (h : i < length coming) (r : AreReady stages coming) where
  replaced_ready : (f : Event) → position_of f ≡ position_of (event_at coming i) → rank_of f ≡ rank_of (event_at coming i) + 1
      → AreReady (one_more stages (event_at coming i)) (set coming i f)
  replaced_ready f p q = record {
    each = λ j l. elim (cases_eq j i) [
      | inl e ↦ subst (λ (g : Event). may_come (one_more stages (event_at coming i)) g ≡ true)
          (sym (ap (event_at (set coming i f)) e ∙ get_or-set_same coming i f (Read 0) h))
          (next_may stages (event_at coming i) f (r.each i h) p q)
      | inr d ↦ subst (λ (g : Event). may_come (one_more stages (event_at coming i)) g ≡ true)
          (sym (get_or-set_other coming i j f (Read 0) d)) (still stages (event_at coming i) (event_at coming j) (r.each i h)
          (r.each j (omega (arith, l, length-set coming i f))) (r.apart j i (omega (arith, l, length-set coming i f)) h d))
    ];
    apart = λ j k l m d e. r.apart j k (omega (arith, l, length-set coming i f)) (omega (arith, m, length-set coming i f)) d
        (sym (positions_stay j) ∙ e ∙ positions_stay k);
  } where
    positions_stay : (j : ℕ) → position_of (event_at (set coming i f) j) ≡ position_of (event_at coming j)
    positions_stay j = elim (cases_eq j i) [
      | inl e ↦ ap position_of (ap (event_at (set coming i f)) e ∙ get_or-set_same coming i f (Read 0) h) ∙ p
          ∙ sym (ap (λ (k : ℕ). position_of (event_at coming k)) e)
      | inr d ↦ ap position_of (get_or-set_other coming i j f (Read 0) d)
    ]

  short : (j : ℕ) → j < length (swap_remove coming i (Read 0)) → j < length coming - 1
  short j l = omega (arith, l, length-take (length coming - 1) (set coming i (event_at coming (length coming - 1))))

  last_at : (j : ℕ) → j < length coming - 1 → j ≡ i → event_at (swap_remove coming i (Read 0)) j ≡ event_at coming (length coming - 1)
  last_at j l e = get_or-take (length coming - 1) (set coming i (event_at coming (length coming - 1))) j (Read 0) l
      ∙ ap (event_at (set coming i (event_at coming (length coming - 1)))) e
      ∙ get_or-set_same coming i (event_at coming (length coming - 1)) (Read 0) h

  other_at : (j : ℕ) → j < length coming - 1 → j ≢ i → event_at (swap_remove coming i (Read 0)) j ≡ event_at coming j
  other_at j l d = get_or-take (length coming - 1) (set coming i (event_at coming (length coming - 1))) j (Read 0) l
      ∙ get_or-set_other coming i j (event_at coming (length coming - 1)) (Read 0) d

  stays : (k : ℕ) → k < length coming → k ≢ i → may_come (one_more stages (event_at coming i)) (event_at coming k) ≡ true
  stays k l d = still stages (event_at coming i) (event_at coming k) (r.each i h) (r.each k l) (r.apart k i l h d)

  removed_ready : AreReady (one_more stages (event_at coming i)) (swap_remove coming i (Read 0))
  removed_ready = record {
    each = λ j l. let s = short j l in elim (cases_eq j i) [
      | inl e ↦ subst (λ (g : Event). may_come (one_more stages (event_at coming i)) g ≡ true) (sym (last_at j s e))
          (stays (length coming - 1) (omega (arith, h)) (λ x. absurd (omega (arith, x, e, s))))
      | inr d ↦ subst (λ (g : Event). may_come (one_more stages (event_at coming i)) g ≡ true) (sym (other_at j s d))
          (stays j (omega (arith, s)) d)
    ];
    apart = λ j k l m d e. let s = short j l in let t = short k m in elim (cases_eq j i) [
      | inl x ↦ r.apart (length coming - 1) k (omega (arith, h)) (omega (arith, t)) (λ y. absurd (omega (arith, y, t)))
          (sym (ap position_of (last_at j s x)) ∙ e ∙ ap position_of (other_at k t (λ y. d (x ∙ sym y))))
      | inr n ↦ elim (cases_eq k i) [
        | inl x ↦ r.apart j (length coming - 1) (omega (arith, s)) (omega (arith, h)) (λ y. absurd (omega (arith, y, s)))
            (sym (ap position_of (other_at j s n)) ∙ e ∙ ap position_of (last_at k t x))
        | inr o ↦ r.apart j k (omega (arith, s)) (omega (arith, t)) d
            (sym (ap position_of (other_at j s n)) ∙ e ∙ ap position_of (other_at k t o))
      ]
    ];
  }

  ready_after : (e : Event) → event_at coming i ≡ e → AreReady (one_more stages (event_at coming i)) (replaced coming i (following e))
  ready_after (Read k) q = replaced_ready (WriteA k) (sym (ap position_of q)) (sym (ap (λ (e : Event). rank_of e + 1) q))
  ready_after (WriteA k) q = replaced_ready (WriteB k) (sym (ap position_of q)) (sym (ap (λ (e : Event). rank_of e + 1) q))
  ready_after (WriteB k) q = removed_ready

-- some events came to the end
pub record Ended (m : ℕ) (done : List Event) : Type 0 where
  pub stages : List ℕ
  pub many : length stages ≡ m
  pub came : HaveCome stages done

come_on : (n : ℕ) (g : Lcg) (coming done : List Event) (stages : List ℕ) → still_to_come coming ≡ n → AreReady stages coming
    → HaveCome stages done → Ended (length stages) (done ++ drawn_from n g coming)
come_on zero g coming done stages e r c = record { stages = stages; many = refl; came = subst (HaveCome stages) (sym (append-nil done)) c }
come_on (suc n) g coming done stages e r c =
    let i = drawn_place g coming in
    let within : i < length coming = mod-lt (pcg32 g).0 (some_left coming (omega (arith, e))) in
    let x = event_at coming i in
    let rest = come_on n (pcg32 g).1 (gone_on coming i) (done ++ x ∷ []) (one_more stages x) (omega (arith, e, gone_fewer coming i within))
    (ready_after stages coming i within r x refl) (came_more stages done c x (r.each i within)) in
    record {
      stages = rest.stages;
      many = rest.many ∙ length-set stages (position_of x) (stage_at stages (position_of x) + 1);
      came = subst (HaveCome rest.stages) (append_assoc done (x ∷ []) (drawn_from n (pcg32 g).1 (gone_on coming i))) rest.came;
    }

first_ready : (m : ℕ) → AreReady (replicate m 0) (first_events m)
first_ready m = record {
  each = λ i l. let s : i < m = omega (arith, l, length-map-range_with_len Read 0 m) in
      subst (λ (g : Event). may_come (replicate m 0) g ≡ true) (sym (at i s))
      (may (replicate m 0) (Read i) (omega (arith, s, length-replicate {A = ℕ} m 0)) (get_or-replicate m i 0 0 s));
  apart = λ i j l k d e. d (sym (ap position_of (at i (omega (arith, l, length-map-range_with_len Read 0 m)))) ∙ e
      ∙ ap position_of (at j (omega (arith, k, length-map-range_with_len Read 0 m))));
} where
  at : (i : ℕ) → i < m → event_at (first_events m) i ≡ Read i
  at i s = get_or-map-range_with_len Read 0 m i i (Read 0) s (omega arith)

pub drawn_legal : (g : Lcg) (m : ℕ) → IsLegal m (drawn g m)
unfolding drawn
drawn_legal g m =
    let end = come_on (3 * m) g (first_events m) [] (replicate m 0) (all_reads m) (first_ready m)
    (none_came (replicate m 0) (ap (λ (n : ℕ). replicate n 0) (sym (length-replicate m 0)))) in
    let many = end.many ∙ length-replicate m 0 in
    subst (λ (n : ℕ). IsLegal n (drawn g m)) many (legal_of_many end.stages (drawn g m) end.came (omega (arith, many, length-drawn g m)))
