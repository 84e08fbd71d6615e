-- What the parts of a step cost, part by part.
use Rattle.std.proofs.Common.{◌≡◌, refl, sym, ap, ◌∙◌, ℕ, zero, suc, ◌+◌, ◌-◌, ◌*◌, ◌<◌, ◌≤◌, ◌&&◌, Bool, true, false, List, length, drop}
use Rattle.std.proofs.Common.{length-drop, arith, inl, inr, ℤ, pos, negsuc, Result, Ok, Err}
use Rattle.std.specs.Prelude.{int_lt, unsigned_abs, if◌then◌else◌, ◌==◌}
use Rattle.std.specs.List.{list_any}
use Rattle.std.proofs.lemmas.Bool.{ne_eqb, cases_lt}
use Rattle.pbd_world.specs.declared.command.Refusal.{Refusal}
use Rattle.pbd_world.specs.declared.command.Phase.TheVariants as phases
use Rattle.pbd_world.specs.declared.parts.Particle.{Particle}
use Rattle.pbd_world.specs.declared.parts.Link.{Link}
use Rattle.pbd_world.specs.Contacts.{contacts_of}
use Rattle.pbd_world.specs.Ledger.{Ledger}
use Rattle.pbd_world.specs.Outcomes.{with_fault}
use Rattle.pbd_world.specs.Particles.{Motion}
use Rattle.pbd_world.specs.Shapes.{shapes_of}
use Rattle.pbd_world.specs.Step.{predict, leaves, step}
use Rattle.pbd_world.specs.Work.{pieces_of, colour_work, colours_work, links_work, contacts_work, pass_work, finding_work, settling_work}
use Rattle.pbd_world.specs.Work.{finishing_work, step_work, tearable_count, found_after, found_in, work_from, work_over, steps_work}
use Rattle.pbd_world.specs.World.{World}
use Rattle.pbd_world.proofs.PieceLemmas.{pieces_one}
use Rattle.pbd_world.proofs.WorkLemmas.{colours_next, finding_is, finishing_is}
use Rattle.pbd_store.specs.Blocks.{blocks_of}
use Rattle.pbd_shape.specs.Rubbing.{rub_cost}
use Rattle.pbd_colour.specs.Pairs.{batch_of}
use Rattle.pbd_step.specs.Projecting.{nth_batch}
use Rattle.pbd_step.proofs.InOrder.{nth_parallel, nth_serial}
use Rattle.pbd_step.proofs.Keeping.{goes_on}
use Rattle.pbd_step.proofs.Running.{left_one}

-- ---- bonds

-- what the batches from k on cost: the colours below 63, and then each serial pair
abbrev pub batches_work : ℕ → List (ℕ × ℕ) → List Bool → ℕ → ℕ
batches_work lanes pairs live k = colours_work lanes pairs live k (63 - k) + 4 * length (drop (k - 63) (batch_of pairs live 63))

no_colours : (lanes : ℕ) (pairs : List (ℕ × ℕ)) (live : List Bool) (c : ℕ) → 63 ≤ c → colours_work lanes pairs live c (63 - c) ≡ 0
unfolding colours_work
no_colours lanes pairs live c le = let e : 63 - c ≡ 0 = omega (arith, le) in rw e refl

-- a projector is paid for a batch by what is left less
pub batch_paid : {now lanes : ℕ} {numbers : List ℕ} (pairs : List (ℕ × ℕ)) (live : List Bool) (k : ℕ)
    → k < 63 + length (batch_of pairs live 63) → numbers ≡ nth_batch pairs live k → now ≡ lanes
    → 4 * blocks_of (length numbers) now + batches_work lanes pairs live (k + 1) ≤ batches_work lanes pairs live k
batch_paid {now} {lanes} {numbers} pairs live k lt is same = elim (cases_lt k 63) [
  | inl low ↦ (let numbers_are = is ∙ nth_parallel pairs live k low in
      let paid : 4 * blocks_of (length numbers) now ≡ colour_work lanes pairs live k =
      λ i. 4 * blocks_of (length (numbers_are i)) (same i) in
      let e : 63 - k ≡ suc (63 - (k + 1)) = omega (arith, low) in
      let left = ap (λ (n : ℕ). colours_work lanes pairs live k n) e ∙ colours_next lanes pairs live k (63 - (k + 1)) in
      let none : (k + 1) - 63 ≡ k - 63 = omega (arith, low) in
      let serial = ap (λ (n : ℕ). length (drop n (batch_of pairs live 63))) none in
      omega (arith, paid, left, serial))
  | inr high ↦ (let numbers_are = is ∙ nth_serial pairs live k high in
      let paid : 4 * blocks_of (length numbers) now ≡ 4 * blocks_of 1 lanes = λ i. 4 * blocks_of (length (numbers_are i)) (same i) in
      omega (
        arith,
        paid,
        pieces_one lanes,
        no_colours lanes pairs live k high,
        no_colours lanes pairs live (k + 1) (omega (arith, high)),
        length-drop (k - 63) (batch_of pairs live 63),
        length-drop ((k + 1) - 63) (batch_of pairs live 63),
        lt,
        high,
      ))
]

-- ---- a world whose places and totals alone changed asks for as much

module _ (width : ℕ) (w v : World) (ps : List Particle) (t : Ledger) (moved : v ≡ record w { particles = ps; totals = t })
    (whole : length ps ≡ length w.particles) where
  pub finding_same : finding_work v ≡ finding_work w
  unfolding finding_work
  finding_same = ap (λ (u : World). finding_work u) moved ∙ (λ i. if unsigned_abs w.thickness == 0 then 0 else whole i)

  pub settling_same : settling_work width v ≡ settling_work width w
  unfolding settling_work
  settling_same = ap (λ (u : World). settling_work width u) moved
      ∙ (λ i. (if int_lt (pos 0) w.friction then 2 * pieces_of (whole i) width else 0) + 2 * tearable_count w.links)

  module _ {now lanes : ℕ} {pairs contacts : List (ℕ × ℕ)} (same : now ≡ lanes) (found : pairs ≡ contacts) where
    pub pass_same : pass_work width now v pairs ≡ pass_work width lanes w contacts
    unfolding pass_work
    pass_same = ap (λ (u : World). pass_work width now u pairs) moved
        ∙ (λ i. links_work (same i) w.links + contacts_work (same i) (found i)
        + (if length (shapes_of w.shapes) == 0 then 0 else 2 * pieces_of (whole i) width))

    pub finishing_same : finishing_work width now v pairs ≡ finishing_work width lanes w contacts
    finishing_same =
        let passes : v.passes ≡ w.passes = ap (λ (u : World). u.passes) moved in
        finishing_is width now v pairs ∙ (λ i. passes i * pass_same i + settling_same i) ∙ sym (finishing_is width lanes w contacts)

-- ---- contacts and friction

-- each particle was looked at, or none where there is no thickness
pub looked_at : (w : World) (before count : ℕ) {particles : ℕ} → particles ≡ length w.particles → count ≤ before + particles
    → (w.thickness ≡ pos 0 → count ≡ before) → count ≤ before + finding_work w
looked_at w before count {particles} all paid free = paid_by_thickness w.thickness refl
  where
    some : (k n : ℕ) → (if suc k == 0 then 0 else n) ≡ n
    some k n = ap (λ (b : Bool). if b then 0 else n) (ne_eqb (suc k) 0 (λ (e : suc k ≡ 0). absurd (omega (arith, e))))

    looked : (t : ℤ) → w.thickness ≡ t → finding_work w ≡ (if unsigned_abs t == 0 then 0 else length w.particles)
    looked t e = finding_is w ∙ ap (λ (u : ℤ). if unsigned_abs u == 0 then 0 else length w.particles) e

    paid_by_thickness : (t : ℤ) → w.thickness ≡ t → count ≤ before + finding_work w
    paid_by_thickness (pos zero) e = omega (arith, free e)
    paid_by_thickness (pos (suc k)) e = (let each : finding_work w ≡ length w.particles = looked (pos (suc k)) e ∙ some k (length w.particles) in
        omega (arith, all, paid, each))
    paid_by_thickness (negsuc k) e = (let each : finding_work w ≡ length w.particles = looked (negsuc k) e ∙ some k (length w.particles) in
        omega (arith, all, paid, each))

-- friction reaches the particles only where something was touched
pub rubs_less : (friction : ℤ) (touched : List Bool) (blocks : ℕ)
    → rub_cost friction touched blocks ≤ (if int_lt (pos 0) friction then 2 * blocks else 0)
rubs_less friction touched blocks = less_by_tests (int_lt (pos 0) friction) (list_any (λ t. t) touched)
  where
    less_by_tests : (b any : Bool) → (if b && any then 2 * blocks else 0) ≤ (if b then 2 * blocks else 0)
    less_by_tests true true = omega arith
    less_by_tests true false = omega arith
    less_by_tests false any = omega arith

-- ---- a step

-- the contacts that were found are those that the step finds
pub found_begun : (w : World) (m : Motion) (links : List Link) → with_fault (leaves w phases.Predict) (predict w) ≡ Ok m → links ≡ w.links
    → found_in w ≡ contacts_of w.thickness links m.particles
unfolding found_in
found_begun w m links e same = found_by_result (predict w) e ∙ ap (λ (ls : List Link). contacts_of w.thickness ls m.particles) (sym same)
  where
    found_by_result : (r : Result Motion ℕ) → with_fault (leaves w phases.Predict) r ≡ Ok m
        → found_after w r ≡ contacts_of w.thickness w.links m.particles
    found_by_result (Ok n) h = (let is : n ≡ m = cc in ap (λ (x : Motion). contacts_of w.thickness w.links x.particles) is)
    found_by_result (Err i) h = absurd cc

-- ---- steps one after another

unfold_work : (width lanes k : ℕ) (w : World) → work_over width lanes (suc k) w
    ≡ step_work width lanes w (found_in w) + work_from (work_over width lanes k) (step w)
unfolding work_over
unfold_work width lanes k w = refl

-- what was spent so far, and the work of the steps that are left, are at most the whole
abbrev pub Spent : ℕ → ℕ → ℕ → ℕ → World → World → ℕ → ℕ → Type 0
Spent width lanes n i start now before count = count + work_over width lanes (n - i) now ≤ before + work_over width lanes n start

left_work : (width lanes n i : ℕ) (w : World) → i < n → work_over width lanes (n - i) w
    ≡ step_work width lanes w (found_in w) + work_from (work_over width lanes (n - (i + 1))) (step w)
left_work width lanes n i w lt = ap (λ (k : ℕ). work_over width lanes k w) (left_one n i lt) ∙ unfold_work width lanes (n - (i + 1)) w

pub spent_none : (width lanes n : ℕ) (w : World) (before : ℕ) → Spent width lanes n 0 w w before before
spent_none width lanes n w before = (let e : n - 0 ≡ n = omega arith in omega (arith, ap (λ (k : ℕ). work_over width lanes k w) e))

pub spent_more : (width lanes n i : ℕ) (start w v : World) (before count next : ℕ) → i < n → step w ≡ Ok v
    → Spent width lanes n i start w before count → next ≤ count + step_work width lanes w (found_in w)
    → Spent width lanes n (i + 1) start v before next
spent_more width lanes n i start w v before count next lt e h paid =
    omega (
      arith,
      h,
      paid,
      left_work width lanes n i w lt,
      ap (λ (r : Result World Refusal). work_from (work_over width lanes (n - (i + 1))) r) e,
    )

-- a step that is refused is paid as well
pub spent_out : (width lanes n i : ℕ) (start w : World) (before count next : ℕ) → i < n → Spent width lanes n i start w before count
    → next ≤ count + step_work width lanes w (found_in w) → next ≤ before + work_over width lanes n start
spent_out width lanes n i start w before count next lt h paid = omega (arith, h, paid, left_work width lanes n i w lt)

-- ---- a command

pub steps_paid : (width lanes : ℕ) (w : World) (n : ℕ) → 1 ≤ n → n ≤ 100000 → w.steps + n ≤ 1000000
    → steps_work width lanes n w ≡ work_over width lanes n w
unfolding steps_work
steps_paid width lanes w n low high few = ap (λ (r : Result World Refusal). work_from (work_over width lanes n) r)
    (goes_on w n low high few)
