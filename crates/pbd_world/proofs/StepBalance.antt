-- A step keeps the balance of momentum and ledger.
use Rattle.std.proofs.Common.{◌≡◌, ◌≢◌, refl, sym, ◌∙◌, ℕ, zero, suc, ◌+◌, ◌-◌, ◌<◌, Bool, true, false, ◌&&◌, List, [], ◌∷◌, length, map}
use Rattle.std.proofs.Common.{length-set, arith, ℤ}
use Rattle.std.specs.Prelude.{Result, Ok, Err, IfOk, if◌then◌else◌, nat_lt, ⊤}
use Rattle.std.specs.List.{AllByRecursion, AllZip, range_with_len, zip}
use Rattle.pbd_num.specs.Vectors.{is_within}
use Rattle.pbd_world.specs.declared.parts.Particle.{Particle}
use Rattle.pbd_world.specs.declared.parts.Link.{Link}
use Rattle.pbd_world.specs.declared.bond.Bond.{Bond}
use Rattle.pbd_world.specs.declared.bond.Shift.{Shift}
use Rattle.pbd_world.specs.declared.bond.Correction.TheVariants.{Slack, Leaves, Moves}
use Rattle.pbd_world.specs.declared.command.Phase.TheVariants as phases
use Rattle.pbd_world.specs.declared.command.Refusal.{Refusal}
use Rattle.pbd_world.specs.declared.command.Refusal.TheVariants.{TooManyContacts}
use Rattle.pbd_world.specs.Ledger.{Sum, both_sums, booked, all_totals}
use Rattle.pbd_world.specs.Particles.{Motion, Moved, all_moved, particle_at, placed}
use Rattle.pbd_world.specs.Momentum.{momentum, IsBalanced}
use Rattle.pbd_world.specs.World.{World}
use Rattle.pbd_world.specs.Outcomes.{◌>>=◌, with_fault, repeated, each_from}
use Rattle.pbd_world.specs.Bonds.{link_bond, contact_bond, end_of, is_slack, shift_of, correction_of, entries_of, class_of, corrected, one}
use Rattle.pbd_world.specs.Bonds.{projected}
use Rattle.pbd_world.specs.Colours.{colour, of_colour, order}
use Rattle.pbd_world.specs.Contacts.{row, all_pairs, link_pairs, live_flags, is_contact, contacts_of}
use Rattle.pbd_world.specs.Shapes.{Shaped, shaped, shapes_of, rubbed}
use Rattle.pbd_world.specs.Step.{predicted, predict, Passing, untouched, link_part, contact_part, all_shaped, shape_part, leaves, pass, rub}
use Rattle.pbd_world.specs.Step.{tear, settled, step}
use Rattle.pbd_world.proofs.BalanceLemmas.{Balances, balanced_moves}
use Rattle.pbd_world.proofs.MovedLemmas.{Carries, moved-balanced, predicted_carries, shaped_carries, rubbed_carries}
use Rattle.pbd_world.proofs.KeepingOn.{bind-keeps, fault-keeps, turn-keeps, repeat-keeps, each-keeps, all-flat, all-filter, all-map}
use Rattle.pbd_world.proofs.KeepingOn.{all-range, all-at, length-mapped, length-zip, length-zipped, all-zip, zip-map}

-- n particles, in balance
pub record Keeps (n : ℕ) (o : Sum) (m : Motion) : Type 0 where
  pub balance : Balances o m
  pub count : length m.particles ≡ n

-- ---- bonds

-- two different ones of n particles
pub record AreEnds (n : ℕ) (bond : Bond) : Type 0 where
  pub first : bond.a < n
  pub second : bond.b < n
  pub apart : bond.b ≢ bond.a

keeps_by : (n : ℕ) (o : Sum) (m : Motion) (k : ℕ) (bond : Bond) (s : Shift) (slack inside : Bool) → Keeps n o m
    → momentum (placed (placed m.particles bond.a s.first) bond.b s.second)
    ≡ both_sums o (all_totals (booked m.totals (entries_of (particle_at m.particles bond.a).held (particle_at m.particles bond.b).held
    (class_of bond) s)))
    → IfOk (corrected k bond (if slack then Slack else (if inside then Moves s else Leaves)) m) (Keeps n o)
keeps_by n o m k bond s true inside h moved = h
keeps_by n o m k bond s false true h moved = record {
  balance = moved;
  count = length-set (placed m.particles bond.a s.first) bond.b _ ∙ length-set m.particles bond.a _ ∙ h.count;
}
keeps_by n o m k bond s false false h moved = tt

one-keeps : (limit : ℤ) (bond : ℕ → Bond) (n : ℕ) (o : Sum) (k : ℕ) (m : Motion) → AreEnds n (bond k) → Keeps n o m
    → IfOk (one limit bond k m) (Keeps n o)
unfolding one correction_of shift_of
one-keeps limit bond n o k m ends h =
    let p = end_of (particle_at m.particles (bond k).a) in
    let q = end_of (particle_at m.particles (bond k).b) in
    let s = shift_of p q (bond k) in
    keeps_by n o m k (bond k) s (is_slack p q (bond k)) (is_within limit s.first && is_within limit s.second) h
    (balanced_moves o m (bond k) s (omega (arith, ends.first, h.count))
    (omega (arith, ends.second, h.count)) ends.apart refl refl h.balance)

-- the order has numbers of pairs alone
pub all-order : (Q : ℕ → Type 0) (pairs : List (ℕ × ℕ)) (live : List Bool) → ((k : ℕ) → k < length pairs → Q k)
    → AllByRecursion Q (order pairs live)
unfolding order
all-order Q pairs live h =
    all-flat (λ c. ⊤) Q (of_colour live (colour pairs live) (length pairs))
    (λ c _. all-filter Q _ (range_with_len 0 (length pairs)) (all-range Q 0 (length pairs) (λ k l u. h k (omega (arith, u)))))
    (range_with_len 0 64) (all-range (λ c. ⊤) 0 64 (λ k l u. tt))

projected-keeps : (limit : ℤ) (bond : ℕ → Bond) (pairs : List (ℕ × ℕ)) (live : List Bool) (n : ℕ) (o : Sum)
    → ((k : ℕ) → k < length pairs → AreEnds n (bond k)) → (m : Motion) → Keeps n o m
    → IfOk (projected limit bond (order pairs live) m) (Keeps n o)
projected-keeps limit bond pairs live n o ends m h =
    turn-keeps (Keeps n o) (λ k. AreEnds n (bond k)) (one limit bond) (λ k s q j. one-keeps limit bond n o k s q j) (order pairs live)
    (all-order (λ k. AreEnds n (bond k)) pairs live ends) m h

-- ---- contacts

pub record ArePair (n : ℕ) (pair : ℕ × ℕ) : Type 0 where
  pub first : pair.0 < n
  pub second : pair.1 < n
  pub apart : pair.1 ≢ pair.0

row-pairs : (n i : ℕ) → i < n → AllByRecursion (ArePair n) (row n i)
row-pairs n i h = all-map (ArePair n) (λ j. (i, j)) (range_with_len (i + 1) (n - (i + 1)))
    (all-range (λ j. ArePair n (i, j)) (i + 1) (n - (i + 1))
    (λ j l u. record { first = h; second = omega (arith, u, h); apart = λ (e : j ≡ i). absurd (omega (arith, l, e)) }))

pub contact-pairs : (thickness : ℤ) (links : List Link) (ps : List Particle)
    → AllByRecursion (ArePair (length ps)) (contacts_of thickness links ps)
unfolding contacts_of
contact-pairs thickness links ps =
    let n = length ps in
    all-filter (ArePair n) (is_contact thickness links ps) (all_pairs n)
    (all-flat (λ i. i < n) (ArePair n) (row n) (λ i h. row-pairs n i h) (range_with_len 0 n)
    (all-range (λ i. i < n) 0 n (λ k l u. omega (arith, u))))

-- ---- the parts of a pass

pub record PassKeeps (n : ℕ) (o : Sum) (s : Passing) : Type 0 where
  pub motion : Keeps n o s.motion
  pub touched : length s.touched ≡ n

shaped-keeps : (n : ℕ) (o : Sum) (s : Passing) (ss : List Shaped) → PassKeeps n o s
    → AllZip (λ p x. Carries p x.moved) s.motion.particles ss → PassKeeps n o (all_shaped s ss)
shaped-keeps n o s ss h z =
    let ps = s.motion.particles in
    let ms = map {A = Shaped} {B = Moved} (λ x. x.moved) ss in
    let flags = map {A = Shaped} {B = Bool} (λ x. x.touched) ss in
    let count : length ss ≡ length ps = length-zipped (λ p x. Carries p x.moved) ps ss z in
    let many : length flags ≡ length s.touched = length-mapped (λ x. x.touched) ss ∙ count ∙ h.motion.count ∙ sym h.touched in
    record {
      motion = record {
        balance = moved-balanced o ps s.motion.totals ms (zip-map Carries (λ x. x.moved) ps ss z) h.motion.balance;
        count = length-mapped (λ m. m.particle) ms ∙ length-mapped (λ x. x.moved) ss ∙ count ∙ h.motion.count;
      };
      touched = length-mapped _ (zip s.touched flags) ∙ length-zip s.touched flags many ∙ h.touched;
    }

shape_part-keeps : (n : ℕ) (o : Sum) (w : World) (s : Passing) → PassKeeps n o s → IfOk (shape_part w s) (PassKeeps n o)
shape_part-keeps n o w s h =
    bind-keeps (AllZip (λ p x. Carries p x.moved) s.motion.particles) (PassKeeps n o)
    (each_from 0 (λ i p. shaped w.limit (shapes_of w.shapes) p) s.motion.particles) (λ ss. Ok (all_shaped s ss))
    (each-keeps (λ p x. Carries p x.moved) (λ i p. shaped w.limit (shapes_of w.shapes) p)
    (λ i p. shaped_carries w.limit (shapes_of w.shapes) p) 0 s.motion.particles)
    (λ ss z. shaped-keeps n o s ss h z)

link_part-keeps : (n : ℕ) (o : Sum) (w : World) (m : Motion) → ((k : ℕ) → k < length w.links → AreEnds n (link_bond w.links k))
    → Keeps n o m → IfOk (link_part w m) (Keeps n o)
link_part-keeps n o w m ends h =
    projected-keeps w.limit (link_bond w.links) (link_pairs w.links) (live_flags w.links) n o
    (λ k l. ends k (omega (arith, l, length-mapped {B = ℕ × ℕ} (λ (x : Link). (x.a, x.b)) w.links))) m h

contact_part-keeps : (n : ℕ) (o : Sum) (w : World) (pairs : List (ℕ × ℕ)) (m : Motion) → AllByRecursion (ArePair n) pairs → Keeps n o m
    → IfOk (contact_part w pairs m) (Keeps n o)
contact_part-keeps n o w pairs m all h =
    projected-keeps w.limit (contact_bond w.thickness pairs) pairs (map (λ pair. true) pairs) n o
    (λ k l. let pair = all-at (ArePair n) pairs k (0, 0) l all in record { first = pair.first; second = pair.second; apart = pair.apart }) m
    h

pass-keeps : (n : ℕ) (o : Sum) (w : World) (pairs : List (ℕ × ℕ)) → ((k : ℕ) → k < length w.links → AreEnds n (link_bond w.links k))
    → AllByRecursion (ArePair n) pairs → (s : Passing) → PassKeeps n o s → IfOk (pass w pairs s) (PassKeeps n o)
unfolding pass
pass-keeps n o w pairs ends all s h =
    bind-keeps (Keeps n o) (PassKeeps n o) (with_fault (leaves w phases.Link) (link_part w s.motion)) _
    (fault-keeps (Keeps n o) (leaves w phases.Link) (link_part w s.motion) (link_part-keeps n o w s.motion ends h.motion))
    (λ m km. bind-keeps (Keeps n o) (PassKeeps n o) (with_fault (leaves w phases.Contact) (contact_part w pairs m)) _
    (fault-keeps (Keeps n o) (leaves w phases.Contact) (contact_part w pairs m) (contact_part-keeps n o w pairs m all km))
    (λ c kc. fault-keeps (PassKeeps n o) (leaves w phases.Shape) (shape_part w (record s { motion = c }))
    (shape_part-keeps n o w (record s { motion = c }) (record { motion = kc; touched = h.touched }))))

-- ---- the step

rub-keeps : (n : ℕ) (o : Sum) (friction : ℤ) (s : Passing) → PassKeeps n o s → Keeps n o (rub friction s)
rub-keeps n o friction s h =
    let pairs = zip s.motion.particles s.touched in
    let same : length s.touched ≡ length s.motion.particles = h.touched ∙ sym h.motion.count in
    let ms = map {A = Particle × Bool} {B = Moved} (λ pair. rubbed friction pair.0 pair.1) pairs in
    record {
      balance = moved-balanced o s.motion.particles s.motion.totals ms
          (all-zip Carries (λ pair. rubbed friction pair.0 pair.1) (λ p t. rubbed_carries friction p t) s.motion.particles s.touched same)
          h.motion.balance;
      count = length-mapped (λ (m : Moved). m.particle) ms ∙ length-mapped {A = Particle × Bool} {B = Moved}
          (λ pair. rubbed friction pair.0 pair.1) pairs ∙ length-zip s.motion.particles s.touched same ∙ h.motion.count;
    }

-- a world in balance, each of whose links is between two different particles
pub record IsReady (w : World) : Type 0 where
  pub balance : IsBalanced w.opening w.totals w.particles
  pub ends : (k : ℕ) → k < length w.links → AreEnds (length w.particles) (link_bond w.links k)

-- tearing changes no ends
torn-ends : (n : ℕ) (ps : List Particle) (links : List Link) (k : ℕ) → AreEnds n (link_bond links k)
    → AreEnds n (link_bond (tear ps links) k)
unfolding tear
torn-ends n ps [] k h = h
torn-ends n ps (l ∷ links) zero h = h
torn-ends n ps (l ∷ links) (suc k) h = torn-ends n ps links k h

pub torn-count : (ps : List Particle) (links : List Link) → length (tear ps links) ≡ length links
unfolding tear
torn-count ps links = length-mapped {A = Link} {B = Link} _ links

settled-ready : (w : World) (pairs : List (ℕ × ℕ)) (m : Motion) → IsReady w → Keeps (length w.particles) w.opening m
    → IsReady (settled w pairs m)
settled-ready w pairs m r h = record {
  balance = h.balance;
  ends = λ k l. let e = torn-ends (length w.particles) m.particles w.links k
      (r.ends k (omega (arith, l, torn-count m.particles w.links))) in
      record { first = omega (arith, e.first, h.count); second = omega (arith, e.second, h.count); apart = e.apart };
}

unless_many : (w : World) (pairs : List (ℕ × ℕ)) (r : Result Passing Refusal) (many : Bool) → IsReady w
    → IfOk r (PassKeeps (length w.particles) w.opening) → IfOk
    (if many then Err (TooManyContacts (w.steps + 1)) else (r >>= λ s. Ok (settled w pairs (rub w.friction s)))) IsReady
unless_many w pairs r true ready h = tt
unless_many w pairs r false ready h = bind-keeps (PassKeeps (length w.particles) w.opening) IsReady r _ h
    (λ s k. settled-ready w pairs (rub w.friction s) ready (rub-keeps (length w.particles) w.opening w.friction s k))

-- a step leads from such a world to such a world
pub step-ready : (w : World) → IsReady w → IfOk (step w) IsReady
unfolding step predict
step-ready w ready =
    let n = length w.particles in
    let o = w.opening in
    bind-keeps (Keeps n o) IsReady (with_fault (leaves w phases.Predict) (predict w)) _
    (fault-keeps (Keeps n o) (leaves w phases.Predict) (predict w)
    (bind-keeps (AllZip Carries w.particles) (Keeps n o) (each_from 0 (predicted w) w.particles) (λ ms. Ok (all_moved w.totals ms))
    (each-keeps Carries (predicted w) (λ i p. predicted_carries w i p) 0 w.particles)
    (λ ms z. record {
      balance = moved-balanced o w.particles w.totals ms z ready.balance;
      count = length-mapped (λ (m : Moved). m.particle) ms ∙ length-zipped Carries w.particles ms z;
    })))
    (λ m km.
    let pairs = contacts_of w.thickness w.links m.particles in
    let all : AllByRecursion (ArePair n) pairs = rw (sym km.count) (contact-pairs w.thickness w.links m.particles) in
    unless_many w pairs (repeated w.passes (pass w pairs) (untouched m)) (nat_lt 262144 (length pairs)) ready
    (repeat-keeps (PassKeeps n o) (pass w pairs) (pass-keeps n o w pairs ready.ends all) w.passes (untouched m)
    (record { motion = km; touched = length-mapped (λ (p : Particle). false) m.particles ∙ km.count })))
