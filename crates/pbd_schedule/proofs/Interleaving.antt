-- Legal events do what the bonds do one by one.
use Rattle.std.proofs.Common.{◌≡◌, ℕ, zero, suc, ◌+◌, ◌<◌, ◌≤◌, ℤ, List, [], ◌∷◌, ◌++◌, length, get_or, replicate, Bool, true, false, cond}
use Rattle.std.proofs.Common.{refl, sym, ◌∙◌, ap, arith, subst, inl, inr, Option, Some, None, Ok, Err}
use Rattle.std.proofs.lemmas.List.{append-nil, append_assoc, get_or-set_same, get_or-set_other, length-set, length-replicate}
use Rattle.std.proofs.lemmas.List.{get_or-replicate, ext_get_or}
use Rattle.pbd_world.specs.declared.parts.Particle.{Particle}
use Rattle.pbd_world.specs.declared.bond.Bond.{Bond}
use Rattle.pbd_world.specs.declared.bond.Correction.{Correction}
use Rattle.pbd_world.specs.declared.bond.Correction.TheVariants.{Slack, Leaves, Moves}
use Rattle.pbd_world.specs.Ledger.{Ledger, Entry, booked}
use Rattle.pbd_world.specs.Particles.{Motion, particle_at, no_particle}
use Rattle.pbd_world.specs.Bonds.{correction_at, projected, entries_of, class_of}
use Rattle.pbd_store.specs.Moving.{AreInside}
use Rattle.pbd_pair.specs.declared.parts.Note.{Note}
use Rattle.pbd_pair.specs.Bonds.{IsBond}
use Rattle.pbd_pair.specs.Moves.{settled}
use Rattle.pbd_pair.specs.Projecting.{ShareNone}
use Rattle.pbd_pair.proofs.Correcting.{leaves_by, booked_by}
use Rattle.pbd_pair.proofs.Together.{Together}
use Rattle.pbd_pair.proofs.Parting.{find_below}
use Rattle.pbd_pair.proofs.Reaching.{reached, reached_all, reached_leaves}
use Rattle.pbd_schedule.specs.declared.event.Event.{Event}
use Rattle.pbd_schedule.specs.declared.event.EventFault.{EventFault}
use Rattle.pbd_schedule.specs.declared.event.EventFault.TheVariants.{BadEvent, Left}
use Rattle.pbd_schedule.specs.Legal.{position_of, IsLegal, BeginsLegal}
use Rattle.pbd_schedule.specs.Mixed.{Mixed, no_note, note_at, note_of, is_leaving, first_leaving, unless_left, noted_outcome, bond_at}
use Rattle.pbd_schedule.specs.Mixed.{happened, mixed}
use Rattle.pbd_schedule.specs.Notes.{ComeTo, Faults}
use Rattle.pbd_schedule.specs.Stages.{stage_at, may_come, one_more, HaveCome, AreSound, mix_of}
use Rattle.pbd_schedule.proofs.Legality.{none_came, came_more, misplaced, all_stages, may_within, may_rank}
use Rattle.pbd_schedule.proofs.Standing.{Stand, stand_more, first_at, second_at, booked_at, booked_up, booked_none, books}

-- ---- all events

module _ (limit : ℤ) (B : ℕ → Bond) (m : ℕ) (ps : List Particle) (t : Ledger) (bonds : (k : ℕ) → k < m → IsBond limit (length ps) (B k))
    (apart : (i k : ℕ) → i < k → k < m → ShareNone (B i) (B k)) where
  -- some events came, and have led to x
  pub record Come (done : List Event) (x : Mixed) : Type 0 where
    pub stages : List ℕ
    pub many : length stages ≡ m
    pub came : HaveCome stages done
    pub stand : Stand limit B m ps t (stage_at stages) x

  come_none : Come [] (mix_of ps t (replicate m no_note))
  come_none = record {
    stages = replicate m 0;
    many = length-replicate m 0;
    came = none_came (replicate m 0) (ap (λ (n : ℕ). replicate n 0) (sym (length-replicate m 0)));
    stand = record {
      whole = refl;
      firsts = λ k q. sym (ap (λ (s : ℕ). first_at s (correction_at limit ps (B k)) (particle_at ps (B k).a)) (zero_at k q));
      seconds = λ k q. sym (ap (λ (s : ℕ). second_at s (correction_at limit ps (B k)) (particle_at ps (B k).b)) (zero_at k q));
      others = λ i f. refl;
      size = length-replicate m no_note;
      notes = λ k q y. absurd (omega (arith, y, zero_at k q));
      totals = sym (booked_none (books limit B ps) (stage_at (replicate m 0)) m t zero_at);
    };
  } where
    zero_at : (k : ℕ) → k < m → stage_at (replicate m 0) k ≡ 0
    zero_at k q = get_or-replicate m k 0 0 q

  come_more : (done : List Event) (e : Event) (x : Mixed) → Come done x → BeginsLegal m (done ++ e ∷ [])
      → Come (done ++ e ∷ []) (happened limit B e x)
  come_more done e x c legal = comes_if_may (may_come c.stages e) refl where
    comes_if_may : (b : Bool) → may_come c.stages e ≡ b → Come (done ++ e ∷ []) (happened limit B e x)
    comes_if_may false out = absurd (misplaced c.stages done c.came e out (subst (λ (n : ℕ). BeginsLegal n (done ++ e ∷ [])) (sym c.many) legal))
    comes_if_may true may =
        let within = may_within c.stages e may in
        record {
          stages = one_more c.stages e;
          many = length-set c.stages (position_of e) (stage_at c.stages (position_of e) + 1) ∙ c.many;
          came = came_more c.stages done c.came e may;
          stand = stand_more limit B m ps t bonds apart (stage_at c.stages) (stage_at (one_more c.stages e)) x e c.stand
              (omega (arith, within, c.many)) (may_rank c.stages e may)
              (get_or-set_same c.stages (position_of e) (stage_at c.stages (position_of e) + 1) 0 within)
              (λ k d. get_or-set_other c.stages (position_of e) k (stage_at c.stages (position_of e) + 1) 0 d);
        }

  come_on : (rest done : List Event) (x : Mixed) → Come done x → IsLegal m (done ++ rest) → Come (done ++ rest) (mixed limit B rest x)
  come_on [] done x c legal = subst (λ l. Come l x) (sym (append-nil done)) c
  come_on (e ∷ rest) done x c legal =
      let same : (done ++ e ∷ []) ++ rest ≡ done ++ e ∷ rest = append_assoc done (e ∷ []) rest in
      subst (λ l. Come l (mixed limit B rest (happened limit B e x))) same
      (come_on rest (done ++ e ∷ []) (happened limit B e x) (come_more done e x c (rest, subst (IsLegal m) (sym same) legal))
      (subst (IsLegal m) (sym same) legal))

  pub come_all : (events : List Event) → IsLegal m events → Come events (mixed limit B events (mix_of ps t (replicate m no_note)))
  come_all events legal = come_on events [] (mix_of ps t (replicate m no_note)) come_none legal

  -- ---- what all events leave

  module _ (st : ℕ → ℕ) (x : Mixed) (s : Stand limit B m ps t st x) (three : (k : ℕ) → k < m → st k ≡ 3) where
    pub stands_together : Together limit B m ps x.particles
    stands_together = record {
      whole = s.whole;
      firsts = λ k q. s.firsts k q ∙ ap (λ (z : ℕ). first_at z (correction_at limit ps (B k)) (particle_at ps (B k).a)) (three k q);
      seconds = λ k q. s.seconds k q ∙ ap (λ (z : ℕ). second_at z (correction_at limit ps (B k)) (particle_at ps (B k).b)) (three k q);
      others = s.others;
    }

    pub noted : (k : ℕ) → k < m → note_at x.notes k ≡ note_of limit ps (B k)
    noted k q = s.notes k q (omega (arith, three k q))

  -- two lists that come of the same corrections are equal
  pub same_together : (qs rs : List Particle) → Together limit B m ps qs → Together limit B m ps rs → qs ≡ rs
  same_together qs rs g h = ext_get_or no_particle qs rs (g.whole ∙ sym h.whole) (λ i l. at i) where
    at : (i : ℕ) → particle_at qs i ≡ particle_at rs i
    at i = elim (find_below (λ k. (B k).a) i m) [
      | inl w ↦ subst (λ (j : ℕ). particle_at qs j ≡ particle_at rs j) w.2 (g.firsts w.0 w.1 ∙ sym (h.firsts w.0 w.1))
      | inr f ↦ elim (find_below (λ k. (B k).b) i m) [
        | inl w ↦ subst (λ (j : ℕ). particle_at qs j ≡ particle_at rs j) w.2 (g.seconds w.0 w.1 ∙ sym (h.seconds w.0 w.1))
        | inr e ↦ g.others i (λ k q. (f k q, e k q)) ∙ sym (h.others i (λ k q. (f k q, e k q)))
      ]
    ]

-- ---- what corrections book

abbrev entries_by : (p q : Bool) → Bond → Correction → List Entry
entries_by p q b Slack = []
entries_by p q b Leaves = []
entries_by p q b (Moves s) = entries_of p q (class_of b) s

books_by : (p q : Bool) (b : Bond) (c : Correction) (u : Ledger) → booked u (entries_by p q b c) ≡ booked_by p q b c u
books_by p q b Slack u = refl
books_by p q b Leaves u = refl
books_by p q b (Moves s) u = refl

leaving_same : (c : Correction) → is_leaving c ≡ leaves_by c
leaving_same Slack = refl
leaving_same Leaves = refl
leaving_same (Moves s) = refl

-- ---- the first that leaves

pub none_leaving : (batch : List ℕ) (notes : List Note) → length notes ≡ length batch → first_leaving batch notes ≡ None → (k : ℕ)
    → k < length batch → is_leaving (note_at notes k).correction ≡ false
none_leaving [] notes e f k q = absurd (omega arith)
none_leaving (n ∷ batch) [] e f k q = absurd (omega (arith, e))
none_leaving (n ∷ batch) (note ∷ notes) e f k q = at (λ g. none_leaving batch notes (omega (arith, e)) g)
    (is_leaving note.correction) refl k q where
      some≢none : Some n ≡ None → ⊥
      some≢none h = cc

      at : (first_leaving batch notes ≡ None → (k : ℕ) → k < length batch → is_leaving (note_at notes k).correction ≡ false) → (b : Bool)
          → is_leaving note.correction ≡ b → (k : ℕ) → k < length (n ∷ batch) → is_leaving (note_at (note ∷ notes) k).correction ≡ false
      at g true l k q = absurd (some≢none (sym (ap (λ (b : Bool). cond b (Some n) (first_leaving batch notes)) l) ∙ f))
      at g false l zero q = l
      at g false l (suc k) q = g (sym (ap (λ (b : Bool). cond b (Some n) (first_leaving batch notes)) l) ∙ f) k (omega arith)

-- position j is the first of a batch that is noted to leave
pub record IsFirstLeaving (batch : List ℕ) (notes : List Note) (n : ℕ) : Type 0 where
  pub at : ℕ
  pub within : at < length batch
  pub number : get_or batch at 0 ≡ n
  pub before : (k : ℕ) → k < at → is_leaving (note_at notes k).correction ≡ false
  pub there : is_leaving (note_at notes at).correction ≡ true

pub some_leaving : (batch : List ℕ) (notes : List Note) (n : ℕ) → length notes ≡ length batch → first_leaving batch notes ≡ Some n
    → IsFirstLeaving batch notes n
some_leaving [] notes n e f = cc
some_leaving (i ∷ batch) [] n e f = cc
some_leaving (i ∷ batch) (note ∷ notes) n e f = at (λ g. some_leaving batch notes n (omega (arith, e)) g)
    (is_leaving note.correction) refl where
      numbers_agree : Some i ≡ Some n → i ≡ n
      numbers_agree h = cc

      earlier : is_leaving note.correction ≡ false → (j : ℕ) → ((k : ℕ) → k < j → is_leaving (note_at notes k).correction ≡ false) → (k : ℕ)
          → k < suc j → is_leaving (note_at (note ∷ notes) k).correction ≡ false
      earlier l j h zero q = l
      earlier l j h (suc k) q = h k (omega arith)

      at : (first_leaving batch notes ≡ Some n → IsFirstLeaving batch notes n) → (b : Bool) → is_leaving note.correction ≡ b
          → IsFirstLeaving (i ∷ batch) (note ∷ notes) n
      at g true l = record {
        at = 0;
        within = omega arith;
        number =
            numbers_agree (sym (ap (λ (b : Bool). cond b (Some i) (first_leaving batch notes)) l) ∙ f);
        before = λ k q. absurd (omega (arith, q));
        there = l;
      }
      at g false l =
          let r = g (sym (ap (λ (b : Bool). cond b (Some i) (first_leaving batch notes)) l) ∙ f) in
          record { at = suc r.at; within = omega (arith, r.within); number = r.number; before = earlier l r.at r.before; there = r.there }

-- ---- the law

module _ (limit : ℤ) (bond : ℕ → Bond) (batch : List ℕ) (m : Motion)
    (bonds : (k : ℕ) → k < length batch → IsBond limit (length m.particles) (bond_at bond batch k))
    (apart : (i k : ℕ) → i < k → k < length batch → ShareNone (bond_at bond batch i) (bond_at bond batch k))
    (inside : AreInside limit m.particles) (events : List Event) (legal : IsLegal (length batch) events) where
  B : ℕ → Bond
  B = bond_at bond batch

  module _ (x : Mixed) (come : Come limit (bond_at bond batch) (length batch) m.particles m.totals bonds apart events x)
      (sound : AreSound limit x.notes) where
    three : (k : ℕ) → k < length batch → stage_at come.stages k ≡ 3
    three k q = all_stages come.stages events come.came (subst (λ (n : ℕ). IsLegal n events) (sym come.many) legal) k
        (omega (arith, q, come.many))

    notes_are : (k : ℕ) → k < length batch → note_at x.notes k ≡ note_of limit m.particles (bond_at bond batch k)
    notes_are k q = noted limit (bond_at bond batch) (length batch) m.particles m.totals bonds apart
        (stage_at come.stages) x come.stand three k q

    abbrev entries : ℕ → List Entry
    entries k = entries_by (particle_at m.particles (bond_at bond batch k).a).held (particle_at m.particles (bond_at bond batch k).b).held
        (bond_at bond batch k) (correction_at limit m.particles (bond_at bond batch k))

    adds : (k : ℕ) → k < length batch → leaves_by (correction_at limit m.particles (bond_at bond batch k)) ≡ false → (u : Ledger)
        → booked u (entries k)
        ≡ booked_by (particle_at m.particles (bond_at bond batch k).a).held (particle_at m.particles (bond_at bond batch k).b).held
        (bond_at bond batch k) (correction_at limit m.particles (bond_at bond batch k)) u
    adds k h stays u = books_by (particle_at m.particles (bond_at bond batch k).a).held
        (particle_at m.particles (bond_at bond batch k).b).held
        (bond_at bond batch k) (correction_at limit m.particles (bond_at bond batch k)) u

    leaves_are : (k : ℕ) → k < length batch → (b : Bool) → is_leaving (note_at x.notes k).correction ≡ b
        → leaves_by (correction_at limit m.particles (bond_at bond batch k)) ≡ b
    leaves_are k q b e = sym (leaving_same (correction_at limit m.particles (bond_at bond batch k)))
        ∙ ap (λ (n : Note). is_leaving n.correction) (sym (notes_are k q)) ∙ e

    pub in_order_leaves : (n : ℕ) → first_leaving batch x.notes ≡ Some n → projected limit bond batch m ≡ Err n
    in_order_leaves n f =
        let l = some_leaving batch x.notes n come.stand.size f in
        reached_leaves limit bond batch m bonds apart entries adds l.at l.within
        (λ k q. leaves_are k (omega (arith, q, l.within)) false (l.before k q)) (leaves_are l.at l.within true l.there)
        ∙ ap Err l.number

    settled_is : (n : ℕ) → n ≤ length batch
        → booked_up (stage_at come.stages) (books limit (bond_at bond batch) m.particles) n m.totals ≡ settled entries n m.totals
    settled_is zero h = refl
    settled_is (suc n) h =
        let before = settled_is n (omega arith) in
        let u = booked_up (stage_at come.stages) (books limit (bond_at bond batch) m.particles) n m.totals in
        let b = bond_at bond batch n in
        ap (λ (z : ℕ). booked_at z (books limit (bond_at bond batch) m.particles n) u) (three n h)
        ∙ sym (books_by (particle_at m.particles b.a).held (particle_at m.particles b.b).held b (correction_at limit m.particles b) u)
        ∙ ap (λ (v : Ledger). booked v (entries n)) before

    pub in_order_stays : first_leaving batch x.notes ≡ None
        → projected limit bond batch m ≡ Ok (record { particles = x.particles; totals = x.totals })
    in_order_stays f =
        let stays = λ (k : ℕ) (q : k < length batch). leaves_are k q false (none_leaving batch x.notes come.stand.size f k q) in
        let r = reached limit bond batch m bonds apart entries adds (length batch) (omega arith) stays in
        let places : r.qs ≡ x.particles = sym (same_together limit (bond_at bond batch)
        (length batch) m.particles m.totals bonds apart x.particles r.qs
        (stands_together limit (bond_at bond batch) (length batch) m.particles m.totals bonds apart
        (stage_at come.stages) x come.stand three) r.together) in
        let totals = sym (come.stand.totals ∙ settled_is (length batch) (omega arith)) in
        reached_all limit bond batch m bonds apart (settled entries (length batch) m.totals) r
        ∙ (λ i. Ok (record { particles = places i; totals = totals i }))

  come_end : (x : Mixed) → x ≡ mixed limit (bond_at bond batch) events (mix_of m.particles m.totals (replicate (length batch) no_note))
      → Come limit (bond_at bond batch) (length batch) m.particles m.totals bonds apart events x
  come_end x e = subst (Come limit (bond_at bond batch) (length batch) m.particles m.totals bonds apart events) (sym e)
      (come_all limit (bond_at bond batch) (length batch) m.particles m.totals bonds apart events legal)

  pub come_to : (x : Mixed) → x ≡ mixed limit (bond_at bond batch) events
      (mix_of m.particles m.totals (replicate (length batch) no_note)) → AreSound limit x.notes → (o : Option ℕ)
      → first_leaving batch x.notes ≡ o → ComeTo limit bond batch events m (unless_left o x)
  come_to x e sound o f = record {
    legal = legal;
    mixed = ap (noted_outcome batch) (sym e) ∙ ap (λ (o : Option ℕ). unless_left o x) f;
    in_order = in_order o f;
  } where
    in_order : (o : Option ℕ) → first_leaving batch x.notes ≡ o → projected limit bond batch m ≡ unless_left o x
    in_order (Some n) f = in_order_leaves x (come_end x e) sound n f
    in_order None f = in_order_stays x (come_end x e) sound f

pub none_left : (o : Option ℕ) → ((n : ℕ) → o ≡ Some n → ⊥) → o ≡ None
none_left None h = refl
none_left (Some n) h = absurd (h n refl)

-- legal events are no bad ones
pub not_bad : (limit : ℤ) (bond : ℕ → Bond) (batch : List ℕ) (events : List Event) (before : Motion) (kept : Type 0) (fault : EventFault)
    (at : ℕ) → Faults limit bond batch events before kept fault → IsLegal (length batch) events → fault ≡ BadEvent at → ⊥
not_bad limit bond batch events before kept (BadEvent n) at h legal e = h.0.illegal legal
not_bad limit bond batch events before kept (Left n) at h legal e = cc
