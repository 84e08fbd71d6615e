-- Bonds one after another, as far as they have come.
use Rattle.std.proofs.Common.{◌≡◌, ℕ, suc, ◌+◌, ◌-◌, ◌*◌, ◌^◌, ◌<◌, ◌≤◌, min, Bool, List, [], ◌∷◌, ◌++◌, length, get_or, length-append}
use Rattle.std.proofs.Common.{drop, drop-cons, add-one, append_assoc, refl, ap, sym, ◌∙◌, subst, arith, ℤ, Option, Some, Result, Ok, Err}
use Rattle.std.proofs.Common.{IsFalse, IsTrue, drop_of_length-le, slice_range, inl, inr}
use Rattle.std.proofs.lemmas.Bool.{cases_lt, lt-ltb, le-ltb}
use Rattle.std.proofs.lemmas.Bool.Decides.{nat_tests}
use Rattle.std.specs.List.{range_with_len, flat_map}
use Rattle.pbd_world.specs.declared.bond.Bond.{Bond}
use Rattle.pbd_world.specs.declared.parts.Particle.{Particle}
use Rattle.pbd_world.specs.Outcomes.{◌>>=◌, in_turn}
use Rattle.pbd_world.specs.declared.command.Left.{Left}
use Rattle.pbd_world.specs.declared.totals.Totals.{Totals}
use Rattle.pbd_world.specs.Ledger.{ledger_of, HaveRoom}
use Rattle.pbd_world.specs.Particles.{Motion}
use Rattle.pbd_world.specs.Bonds.{projected}
use Rattle.pbd_world.specs.Colours.{pair_at, live_at, share, order}
use Rattle.pbd_store.specs.Stored.{Stored}
use Rattle.pbd_store.specs.Moving.{motion_of, fixed_parts, AreInside, Weigh}
use Rattle.pbd_store.proofs.Fixed.{same_length}
use Rattle.pbd_colour.specs.Pairs.{batch_of}
use Rattle.pbd_colour.specs.Batch.{AreLive, AreApart}
use Rattle.pbd_colour.proofs.Batches.{order-batches}
use Rattle.pbd_pair.specs.declared.bonds.Bonds.{Bonds}
use Rattle.pbd_pair.specs.declared.laid.Laid.{Laid}
use Rattle.pbd_pair.specs.Bonds.{bond_of, bond_count, IsBond}
use Rattle.pbd_pair.specs.Laid.{laid_in, AreOfBatch, Suit, SuitIf}
use Rattle.pbd_pair.proofs.Laying.{suit_same}
use Rattle.pbd_pair.specs.Projecting.{ShareNone, IsBatch}
use Rattle.pbd_world.proofs.Rooms.{room_at}
use Rattle.pbd_pair.proofs.OneByOne.{in_turn-append}
use Rattle.pbd_pair.proofs.Batches.{weigh_same}
use Rattle.pbd_step.specs.Projecting.{AreBondsOf, AreProjected, CanProjectAll, nth_batch}

-- ---- one list of items after another

module _ {A S E : Type 0} (f : A → S → Result S E) (xs ys : List A) (s : S) where
  pub goes_on : (t : S) → in_turn f xs s ≡ Ok t → in_turn f ys t ≡ in_turn f (xs ++ ys) s
  goes_on t e = sym (in_turn-append f xs ys s ∙ ap (λ (r : Result S E). r >>= in_turn f ys) e)

  pub stops : (n : E) → in_turn f xs s ≡ Err n → in_turn f (xs ++ ys) s ≡ Err n
  stops n e = in_turn-append f xs ys s ∙ ap (λ (r : Result S E). r >>= in_turn f ys) e

-- ---- the bonds of a colouring

-- the live numbers of colour c, then those of the next colour, and so on up to colour 62
unfoldable pub parallel_from : List (ℕ × ℕ) → List Bool → ℕ → List ℕ
parallel_from pairs live c = flat_map (batch_of pairs live) (range_with_len c (63 - c))

-- the numbers of the batches from k on
unfoldable pub left_at : List (ℕ × ℕ) → List Bool → ℕ → List ℕ
left_at pairs live k = parallel_from pairs live k ++ drop (k - 63) (batch_of pairs live 63)

serial_next : (xs : List ℕ) (k : ℕ) → k < length xs → drop k xs ≡ (get_or xs k 0 ∷ []) ++ drop (k + 1) xs
serial_next xs k lt = drop-cons xs k 0 lt ∙ ap (λ (m : ℕ). get_or xs k 0 ∷ drop m xs) (sym (add-one k))

pub one_piece : (xs : List ℕ) (k : ℕ) → k < length xs → slice_range xs k (k + 1) ≡ get_or xs k 0 ∷ []
one_piece xs k lt = let e : (k + 1) - k ≡ 1 = omega arith in rw (e, serial_next xs k lt) refl

module _ (pairs : List (ℕ × ℕ)) (live : List Bool) where
  parallel_next : (c : ℕ) → c < 63 → parallel_from pairs live c ≡ batch_of pairs live c ++ parallel_from pairs live (c + 1)
  unfolding parallel_from
  parallel_next c lt = let e : 63 - c ≡ suc (63 - (c + 1)) = omega (arith, lt) in rw e refl

  parallel_none : (c : ℕ) → 63 ≤ c → parallel_from pairs live c ≡ []
  unfolding parallel_from
  parallel_none c le = let e : 63 - c ≡ 0 = omega (arith, le) in rw e refl

  -- a batch is a colour below 63, or a serial pair
  pub nth_parallel : (k : ℕ) → k < 63 → nth_batch pairs live k ≡ batch_of pairs live k
  unfolding nth_batch
  nth_parallel k lt = rw (lt-ltb k 63 lt) refl

  pub nth_serial : (k : ℕ) → 63 ≤ k → nth_batch pairs live k ≡ get_or (batch_of pairs live 63) (k - 63) 0 ∷ []
  unfolding nth_batch
  nth_serial k le = rw (le-ltb k 63 le) refl

  -- all are left at first
  pub first_left : left_at pairs live 0 ≡ order pairs live
  unfolding left_at parallel_from
  first_left = sym (order-batches pairs live)

  -- those of a batch, and those behind it
  pub next_left : (k : ℕ) → k < 63 + length (batch_of pairs live 63)
      → left_at pairs live k ≡ nth_batch pairs live k ++ left_at pairs live (k + 1)
  unfolding left_at
  next_left k lt = elim (cases_lt k 63) [
    | inl low ↦ (let here : k - 63 ≡ 0 = omega (arith, low) in
        let next : (k + 1) - 63 ≡ 0 = omega (arith, low) in
        rw (nth_parallel k low, here, next, parallel_next k low)
        (append_assoc (batch_of pairs live k) (parallel_from pairs live (k + 1)) (batch_of pairs live 63)))
    | inr high ↦ (let next : (k + 1) - 63 ≡ (k - 63) + 1 = omega (arith, high) in
        rw (nth_serial k high, parallel_none k high, parallel_none (k + 1) (omega (arith, high)), next)
        (serial_next (batch_of pairs live 63) (k - 63) (omega (arith, lt, high))))
  ]

  pub none_left : (k : ℕ) → 63 + length (batch_of pairs live 63) ≤ k → left_at pairs live k ≡ []
  unfolding left_at
  none_left k le = rw (parallel_none k (omega (arith, le))) (drop_of_length-le (batch_of pairs live 63) (omega (arith, le)))

  -- a number of a list of live ones is a batch alone
  pub one_live : (numbers : List ℕ) (i : ℕ) → AreLive pairs live numbers → i < length numbers → AreLive pairs live (get_or numbers i 0 ∷ [])
  one_live numbers i alive lt = record {
    within = λ k p. first k p (λ m. m < length pairs) (alive.within i lt);
    alive = λ k p. first k p (λ m. IsTrue (live_at live m)) (alive.alive i lt);
    rising = λ k p. absurd (omega (arith, p));
  } where
    first : (k : ℕ) → k < 1 → (Q : ℕ → Type 0) → Q (get_or numbers i 0) → Q (get_or (get_or numbers i 0 ∷ []) k 0)
    first k p Q q = let e : k ≡ 0 = omega (arith, p) in subst (λ (m : ℕ). Q (get_or (get_or numbers i 0 ∷ []) m 0)) (sym e) q

pub one_apart : (pairs : List (ℕ × ℕ)) (n : ℕ) → AreApart pairs (n ∷ [])
one_apart pairs n j k p q ne = absurd (ne (omega (arith, p, q)))

-- what is listed in order has as many numbers as the order of the same pairs and flags
pub as_many_rows : {numbers : List ℕ} {pairs others : List (ℕ × ℕ)} {live flags : List Bool} → numbers ≡ order pairs live
    → pairs ≡ others → live ≡ flags → length numbers ≡ length (order others flags)
as_many_rows e ep el = ap (λ (ns : List ℕ). length ns) e ∙ (λ i. length (order (ep i) (el i)))

module _ (limit : ℤ) (n : ℕ) (bonds : Bonds) (pairs : List (ℕ × ℕ)) (h : AreBondsOf limit n bonds pairs) where
  pub batch_is : (live : List Bool) (numbers : List ℕ) → AreLive pairs live numbers → AreApart pairs numbers → IsBatch limit n bonds numbers
  batch_is live numbers alive apart = record {
    numbers = λ i p. omega (arith, alive.within i p, h.count);
    bond = λ i p. h.bond (get_or numbers i 0) (alive.within i p);
    apart = record {
      each = λ i j p q. share_none (get_or numbers i 0) (get_or numbers j 0) (alive.within i (omega (arith, p, q)))
          (alive.within j q) (apart i j (omega (arith, p, q)) q (λ e. omega (arith, p, e)));
    };
  } where
    ends_apart : (a b c d : ℕ) → IsFalse (share (a, b) (c, d)) → (a ≡ c → ⊥) × (a ≡ d → ⊥) × (b ≡ c → ⊥) × (b ≡ d → ⊥)
    ends_apart a b c d f = (
      (λ e. grind (arith, nat_tests)),
      (λ e. grind (arith, nat_tests)),
      (λ e. grind (arith, nat_tests)),
      (λ e. grind (arith, nat_tests)),
    )

    share_none : (i j : ℕ) → i < length pairs → j < length pairs → IsFalse (share (pair_at pairs i) (pair_at pairs j))
        → ShareNone (bond_of bonds i) (bond_of bonds j)
    share_none i j p q f =
        let d = ends_apart (pair_at pairs i).0 (pair_at pairs i).1 (pair_at pairs j).0 (pair_at pairs j).1 f in
        record {
          aa = λ e. d.0 (sym (h.first i p) ∙ e ∙ h.first j q);
          ab = λ e. d.1 (sym (h.first i p) ∙ e ∙ h.second j q);
          ba = λ e. d.2 (sym (h.second i p) ∙ e ∙ h.first j q);
          bb = λ e. d.3 (sym (h.second i p) ∙ e ∙ h.second j q);
        }

-- ---- the same bonds, with columns

-- bonds are those of others, with these columns
pub record HaveColumns (bonds others : Bonds) (rows : Laid) : Type 0 where
  pub same : (n : ℕ) → bond_of others n ≡ bond_of bonds n
  pub count : bond_count others ≡ bond_count bonds
  pub laid : laid_in others ≡ Some rows

module _ {bonds others : Bonds} {rows : Laid} (h : HaveColumns bonds others rows) where
  pub same_bonds : bond_of others ≡ bond_of bonds
  same_bonds = λ i n. h.same n i

  batch_with : {limit : ℤ} {n : ℕ} (numbers : List ℕ) → IsBatch limit n bonds numbers → IsBatch limit n others numbers
  batch_with {limit} {n} numbers is = record {
    numbers = λ i p. omega (arith, is.numbers i p, h.count);
    bond = λ i p. subst (λ (bond : ℕ → Bond). IsBond limit n (bond (get_or numbers i 0))) (sym same_bonds) (is.bond i p);
    apart = record {
      each = λ i j p q. subst (λ (bond : ℕ → Bond). ShareNone (bond (get_or numbers i 0)) (bond (get_or numbers j 0)))
          (sym same_bonds) (is.apart.each i j p q);
    };
  }

  suits : {ps : List Particle} (numbers : List ℕ) → AreOfBatch (bond_of bonds) numbers ps rows → Suit others numbers ps
  suits {ps} numbers of = subst (λ (o : Option Laid). SuitIf o (bond_of others) numbers ps) (sym h.laid)
      (subst (λ (bond : ℕ → Bond). AreOfBatch bond numbers ps rows) (sym same_bonds) of)

-- ---- what is done so far, and the bonds that are left, make the whole

pub record SoFar (limit : ℤ) (bond : ℕ → Bond) (whole left : List ℕ) (start now : Motion) (before given : ℕ) : Type 0 where
  pub same : projected limit bond left now ≡ projected limit bond whole start
  pub fixed : fixed_parts now.particles ≡ fixed_parts start.particles
  pub inside : AreInside limit now.particles
  pub shorter : length left ≤ length whole
  pub grows : (n : ℕ) → HaveRoom n start.totals → HaveRoom (n + (length whole - length left) * 2 ^ 32) now.totals
  pub count : given ≡ min (before + (length whole - length left)) (2 ^ 64 - 1)

pub none_so_far : (limit : ℤ) (bond : ℕ → Bond) (whole : List ℕ) (start : Motion) (before : ℕ) → AreInside limit start.particles
    → before ≤ 2 ^ 64 - 1 → SoFar limit bond whole whole start start before before
none_so_far limit bond whole start before inside fits = record {
  same = refl;
  fixed = refl;
  inside = inside;
  shorter = omega arith;
  grows = λ n h. room_at _ (omega arith) h;
  count = omega (arith, fits);
}

module _ {limit l : ℤ} {bond : ℕ → Bond} {whole left : List ℕ} {start now : Motion} {before count : ℕ} (batch rest : List ℕ)
    (parts : left ≡ batch ++ rest) (el : l ≡ limit) (s : SoFar limit bond whole left start now before count) where
  pub more_so_far : (then : Motion) (next : ℕ)
      → projected l bond batch now ≡ Ok then
      → fixed_parts then.particles ≡ fixed_parts now.particles
      → AreInside l then.particles
      → ((n : ℕ) → HaveRoom n now.totals → HaveRoom (n + length batch * 2 ^ 32) then.totals)
      → next ≡ min (count + length batch) (2 ^ 64 - 1)
      → SoFar limit bond whole rest start then before next
  more_so_far then next did fixed inside grows counted =
      let both : length left ≡ length batch + length rest = ap length parts ∙ length-append batch rest in
      record {
        same = goes_on _ batch rest now then ((λ i. projected (sym el i) bond batch now) ∙ did)
            ∙ ap (λ (xs : List ℕ). projected limit bond xs now) (sym parts) ∙ s.same;
        fixed = fixed ∙ s.fixed;
        inside = subst (λ (k : ℤ). AreInside k then.particles) el inside;
        shorter = omega (arith, both, s.shorter);
        grows = λ n h. room_at _ (omega (arith, both, s.shorter)) (grows _ (s.grows n h));
        count = omega (arith, both, s.shorter, s.count, counted);
      }

  pub stops_so_far : (n : ℕ) → projected l bond batch now ≡ Err n → projected limit bond whole start ≡ Err n
  stops_so_far n did = sym s.same ∙ ap (λ (xs : List ℕ). projected limit bond xs now) parts
      ∙ stops _ batch rest now n ((λ i. projected (sym el i) bond batch now) ∙ did)

-- what holds when no bond is left
pub record Whole (limit : ℤ) (bond : ℕ → Bond) (whole : List ℕ) (start now : Motion) (before given : ℕ) : Type 0 where
  pub same : projected limit bond whole start ≡ Ok now
  pub grows : (n : ℕ) → HaveRoom n start.totals → HaveRoom (n + length whole * 2 ^ 32) now.totals
  pub count : given ≡ min (before + length whole) (2 ^ 64 - 1)

module _ {limit : ℤ} {bond : ℕ → Bond} {whole left : List ℕ} {start now : Motion} {before count : ℕ}
    (s : SoFar limit bond whole left start now before count) where
  pub whole_so_far : left ≡ [] → Whole limit bond whole start now before count
  whole_so_far none =
      let length_none : length left ≡ 0 = ap length none in
      record {
        same = sym s.same ∙ ap (λ (xs : List ℕ). projected limit bond xs now) none;
        grows = λ n h. room_at _ (omega (arith, length_none)) (s.grows n h);
        count = omega (arith, length_none, s.count);
      }

  pub room_so_far : (n m : ℕ) → n + length whole * 2 ^ 32 ≤ m → HaveRoom n start.totals → HaveRoom m now.totals
  room_so_far n m le h = room_at _ (omega (arith, le, s.shorter)) (s.grows n h)

-- the bonds of a list are projected where none is left, or one of a batch leaves the limit
module _ {bonds : Bonds} {whole left : List ℕ} {old now : Stored} {t u : Totals} {before count : ℕ}
    (s : SoFar old.limit (bond_of bonds) whole left (motion_of old t) (motion_of now u) before count)
    (limit : now.limit ≡ old.limit) (copies : now.copies ≡ old.copies) where
  pub all_projected : {x : Unit {0}} (grown : ℕ) → length whole * 2 ^ 32 ≤ grown → left ≡ [] → AreProjected (Ok x) bonds whole grown old now t u
  all_projected grown few none = record {
    outcome = (whole_so_far s none).same;
    limit = limit;
    copies = copies;
    fixed = s.fixed;
    inside = s.inside;
    room = λ n h. room_at _ (omega (arith, few)) ((whole_so_far s none).grows n h);
  }

pub one_leaves : {bonds : Bonds} {whole left : List ℕ} {old new : Stored} {t v : Totals} {before count more : ℕ} {e : Left} (now : Stored)
    (u : Totals) → SoFar old.limit (bond_of bonds) whole left (motion_of old t) (motion_of now u) before count
    → now.limit ≡ old.limit → now.copies ≡ old.copies → (batch rest : List ℕ) → left ≡ batch ++ rest
    → projected now.limit (bond_of bonds) batch (motion_of now u) ≡ Err e.element
    → new.limit ≡ now.limit → new.copies ≡ now.copies → fixed_parts new.particles ≡ fixed_parts now.particles
    → AreProjected (Err e) bonds whole more old new t v
one_leaves {e = e} now u s limit copies batch rest parts stopped same_limit same_copies fixed = record {
  outcome = stops_so_far batch rest parts limit s e.element stopped;
  limit = same_limit ∙ limit;
  copies = same_copies ∙ copies;
  fixed = fixed ∙ s.fixed;
  inside = tt;
  room = tt;
}

-- ---- the rows of the bonds that are left

-- they stay while places alone are changed
pub still_rows : {ps qs : List Particle} (bond : ℕ → Bond) (numbers : List ℕ) (rows : Laid) → fixed_parts qs ≡ fixed_parts ps
    → AreOfBatch bond numbers ps rows → AreOfBatch bond numbers qs rows
still_rows {ps} {qs} bond numbers rows fixed of = suit_same bond numbers ps qs (Some rows) (sym fixed) of

-- the bonds of some numbers can be projected as one batch
pub record CanProject (bonds : Bonds) (numbers : List ℕ) (s : Stored) (t : Totals) : Type 0 where
  pub batch : IsBatch s.limit (length s.particles) bonds numbers
  pub columns : Suit bonds numbers s.particles
  pub inside : AreInside s.limit s.particles
  pub weights : Weigh s.particles
  pub room : HaveRoom (2 ^ 120) (ledger_of t)

-- where a part is done, those of a batch can be, with their columns
module _ {n before count : ℕ} {bonds : Bonds} {laid : Laid} {pairs : List (ℕ × ℕ)} {live : List Bool} {old : Stored}
    {t : Totals} {whole left : List ℕ} (new : Stored) (u : Totals) (can : CanProjectAll n bonds laid pairs live old t)
    (same : new.limit ≡ old.limit) (so : SoFar old.limit (bond_of bonds) whole left (motion_of old t) (motion_of new u) before count) where
  many : length new.particles ≡ length old.particles
  many = same_length new.particles old.particles so.fixed

  pub batch_goes : {others : Bonds} {rows : Laid} → n + length whole * 2 ^ 32 ≤ 2 ^ 120 → (numbers : List ℕ)
      → AreLive pairs live numbers → AreApart pairs numbers
      → HaveColumns bonds others rows → AreOfBatch (bond_of bonds) numbers new.particles rows → CanProject others numbers new u
  batch_goes few numbers alive apart has of = record {
    batch = batch_with has numbers
        (rw (same, many) (batch_is old.limit (length old.particles) bonds pairs can.fit live numbers alive apart));
    columns = suits has numbers of;
    inside = rw same so.inside;
    weights = weigh_same old.particles new.particles so.fixed can.movable.weights;
    room = room_so_far so n (2 ^ 120) few can.movable.room;
  }
