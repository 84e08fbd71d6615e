use Rattle.std.proofs.Common.{◌≡◌, ℕ, ◌+◌, ◌-◌, ◌/◌, ◌^◌, rules, refl, ◌<◌, ◌≤◌, min, length, List, ap, sym, ◌∙◌, arith, subst, ℤ, Option}
use Rattle.std.proofs.lemmas.Bool.{eqb-false, eqb-true}
use Rattle.std.proofs.lemmas.List.{nil_from_length}
use Rattle.pbd_world.specs.Bonds.{projected}
use Rattle.pbd_store.specs.Blocks.{blocks_of}
use Rattle.pbd_pair.specs.Bonds.{bond_of, IsBound}
use Rattle.pbd_store.specs.Moving.{motion_of, AreInside}
use Rattle.pbd_pair.specs.declared.laid.Laid.{Laid}
use Rattle.pbd_pair.specs.Laid.{SuitIf}
use Rattle.pbd_pair.specs.Projecting.{IsBatch}
use Rattle.pbd_pair.proofs.Laying.{can_split, suit_back, suit_front, suit_same}
use Rattle.pbd_world.proofs.Rooms.{room_at}
use Rattle.pbd_store.proofs.Fixed.{same_length}
use Rattle.pbd_pair.proofs.OneByOne.{block_done, block_leaves}
use Rattle.pbd_pair.proofs.Batches.{back_batch, front_batch, fewer_blocks, weigh_same, whole_chunk, some_chunk}
use Rattle.pbd_pair.proofs.lanes.LaneProjectorProjector.project.Goals.{After-min-size}
use Rattle.pbd_pair.proofs.lanes.LaneProjectorProjector.project.Goals as goal

-- how many bonds are taken of those that are left
record Taken (n k lanes : ℕ) : Type 0 where
  some : 0 < k
  few : k ≤ n
  fewer : blocks_of (n - k) lanes + blocks_of k lanes ≤ blocks_of n lanes

takes : (g : _) (c : After-min-size g) → Taken (length c.steps_on.rest.now) c.min-size.result g.row.L
takes g c =
    let n = length c.steps_on.rest.now in
    let ne = eqb-false n 0 (sym c.is_empty-in-steps_on.ensures ∙ c.steps_on-test.true) in
    record {
      some = omega (arith, c.min-size.ensures, ne, some_chunk g.row.L c.requires.lanes_low c.requires.lanes_high);
      few = omega (arith, c.min-size.ensures);
      fewer = fewer_blocks n c.min-size.result (128 / g.row.L) g.row.L c.requires.lanes_low
          (c.min-size.ensures ∙ ap (min n) (sym (whole_chunk g.row.L)));
    }

pub steps_on-init : goal.steps_on-init
steps_on-init g c = record {
  bound = subst (λ (z : ℤ). IsBound z) c.limit_of.ensures.value c.limit_of.ensures.bound;
  batch = c.requires.batch;
  laid = subst (λ (o : Option Laid). SuitIf o (bond_of c.args.bonds) c.args.batch.now c.args.store.now.particles)
      (sym c.columns-columns.ensures) c.requires.columns;
  inside = c.requires.inside;
  weights = c.requires.weights;
  room = room_at _ (omega arith) c.requires.room;
  grows = λ n h. room_at _ (omega arith) h;
  shorter = omega arith;
  same = refl;
  limit = refl;
  copies = refl;
  fixed = refl;
  counted = refl;
  cost = omega arith;
}

pub returns-in-Err-clause-outcome : goal.returns-in-Err-clause-outcome
returns-in-Err-clause-outcome g c =
    sym c.steps_on.invariant.same ∙ block_leaves c.steps_on.store.limit (bond_of c.args.bonds) c.min-size.result c.steps_on.rest.now
    (motion_of c.steps_on.store c.steps_on.totals) c.in-Err.left.element c.split_at.ensures.front c.in-Err.ensures.outcome

pub returns-in-Err-clause-limit : goal.returns-in-Err-clause-limit
returns-in-Err-clause-limit g c = c.in-Err.ensures.limit ∙ c.steps_on.invariant.limit

pub returns-in-Err-clause-copies : goal.returns-in-Err-clause-copies
returns-in-Err-clause-copies g c = c.in-Err.ensures.copies ∙ c.steps_on.invariant.copies

pub returns-in-Err-clause-fixed : goal.returns-in-Err-clause-fixed
returns-in-Err-clause-fixed g c = c.in-Err.ensures.fixed ∙ c.steps_on.invariant.fixed

pub steps_on-preserved : goal.steps_on-preserved
steps_on-preserved g c =
    let bond = bond_of c.args.bonds in
    let limit = c.steps_on.store.limit in
    let k = c.min-size.result in
    let rest = c.steps_on.rest.now in
    let inv = c.steps_on.invariant in
    let taken = takes g (goal.at.steps_on-preserved g c).After-min-size in
    let sound = c.in_default.ensures.sound in
    let fixed = c.project.ensures.fixed in
    let same_limit : limit ≡ c.project.new.store.limit = sym c.project.ensures.limit in
    let whole = same_length c.project.new.store.particles c.steps_on.store.particles fixed in
    let back = c.split_at.ensures.back in
    let m = motion_of c.steps_on.store c.steps_on.totals in
    let then = motion_of c.project.new.store c.project.new.totals in
    let left : length c.split_at.result.1.now ≡ length rest - k = omega (arith, c.split_at.ensures.back_len) in
    record {
      bound = subst (λ (z : ℤ). IsBound z) same_limit inv.bound;
      batch = subst (λ (l : ℤ). IsBatch l (length c.project.new.store.particles) c.args.bonds c.split_at.result.1.now) same_limit
          (rw (whole, back) (back_batch limit (length c.steps_on.store.particles) c.args.bonds rest k taken.few inv.batch));
      laid = suit_same bond c.split_at.result.1.now c.steps_on.store.particles c.project.new.store.particles c.split_columns.result.1
          (sym fixed) (subst (λ (xs : List ℕ). SuitIf c.split_columns.result.1 bond xs c.steps_on.store.particles) (sym back)
          (suit_back bond rest c.steps_on.store.particles k c.steps_on.columns c.split_columns.result.0 c.split_columns.result.1
          c.split_columns.ensures inv.laid));
      inside = subst (λ (l : ℤ). AreInside l c.project.new.store.particles) same_limit sound.inside;
      weights = weigh_same c.steps_on.store.particles c.project.new.store.particles fixed inv.weights;
      room = room_at _ (omega (arith, c.split_at.ensures.back_len, c.split_at.ensures.front_len, inv.shorter)) (sound.room _ inv.room);
      grows = λ n h. room_at _ (omega (arith, c.split_at.ensures.back_len, c.split_at.ensures.front_len, inv.shorter))
          (sound.room _ (inv.grows n h));
      shorter = omega (arith, inv.shorter, left);
      same = (λ i. projected (sym same_limit i) bond (back i) then) ∙ block_done limit bond k rest m then
          c.split_at.ensures.front c.in_default.ensures.outcome ∙ inv.same;
      limit = c.project.ensures.limit ∙ inv.limit;
      copies = c.project.ensures.copies ∙ inv.copies;
      fixed = fixed ∙ inv.fixed;
      counted = inv.counted;
      cost = rw left (omega (
        arith,
        taken.fewer,
        inv.cost,
        c.project.ensures.cost,
        ap (λ (x : ℕ). blocks_of x g.row.L) c.split_at.ensures.front_len,
      ));
    }

pub steps_on-smaller : goal.steps_on-smaller
steps_on-smaller g c =
    let taken = takes g (goal.at.steps_on-smaller g c).After-min-size in
    omega (arith, c.split_at.ensures.back_len, taken.some, taken.few)

pub project-requires : goal.project-requires
project-requires g c =
    let rest = c.steps_on.rest.now in
    let k = c.min-size.result in
    let inv = c.steps_on.invariant in
    let taken = takes g (goal.at.project-requires g c).After-min-size in
    let front : length c.split_at.result.0.now ≡ k = c.split_at.ensures.front_len in (
      omega arith,
      (
        c.requires.lanes_low,
        (
          c.requires.lanes_high,
          (
            record {
              bound = inv.bound;
              short = omega (arith, front, c.min-size.ensures);
              some = omega (arith, front, taken.some);
              batch = rw c.split_at.ensures.front (front_batch c.steps_on.store.limit
                  (length c.steps_on.store.particles) c.args.bonds rest k taken.few inv.batch);
              inside = inv.inside;
              weights = inv.weights;
              room = room_at (2 ^ 124) (search rules) inv.room;
            },
            subst (λ (xs : List ℕ). SuitIf c.split_columns.result.0 (bond_of c.args.bonds) xs c.steps_on.store.particles)
                (sym c.split_at.ensures.front)
                (suit_front (bond_of c.args.bonds) rest c.steps_on.store.particles k c.steps_on.columns c.split_columns.result.0
                c.split_columns.result.1 c.split_columns.ensures inv.laid),
          ),
        ),
      ),
    )

pub returns-in-Err-clause-cost : goal.returns-in-Err-clause-cost
returns-in-Err-clause-cost g c =
    omega (
      arith,
      (takes g (goal.at.returns-in-Err-clause-cost g c).After-min-size).fewer,
      c.steps_on.invariant.cost,
      c.in-Err.ensures.cost,
      ap (λ (x : ℕ). blocks_of x g.row.L) c.split_at.ensures.front_len,
    )

pub returns-in-Err-clause-handed : goal.returns-in-Err-clause-handed
returns-in-Err-clause-handed g c = c.steps_on.invariant.counted ∙ c.saturating_add-self.ensures

pub returns-clause-handed : goal.returns-clause-handed
returns-clause-handed g c = c.steps_on.invariant.counted ∙ c.saturating_add-self.ensures

pub returns-clause-outcome : goal.returns-clause-outcome
returns-clause-outcome g c =
    let none = nil_from_length c.steps_on.rest.now (eqb-true (length c.steps_on.rest.now) 0
    (sym c.is_empty-in-steps_on.ensures ∙ c.steps_on-test.false)) in
    sym c.steps_on.invariant.same ∙ ap (λ (b : List ℕ). projected c.steps_on.store.limit (bond_of c.args.bonds) b
    (motion_of c.steps_on.store c.steps_on.totals)) none

pub returns-clause-limit : goal.returns-clause-limit
returns-clause-limit g c = c.steps_on.invariant.limit

pub returns-clause-copies : goal.returns-clause-copies
returns-clause-copies g c = c.steps_on.invariant.copies

pub returns-clause-fixed : goal.returns-clause-fixed
returns-clause-fixed g c = c.steps_on.invariant.fixed

pub returns-clause-inside : goal.returns-clause-inside
returns-clause-inside g c = subst (λ (l : ℤ). AreInside l c.steps_on.store.particles) c.steps_on.invariant.limit c.steps_on.invariant.inside

pub returns-clause-room : goal.returns-clause-room
returns-clause-room g c = λ n h. room_at _ (omega arith) (c.steps_on.invariant.grows n h)

pub returns-clause-cost : goal.returns-clause-cost
returns-clause-cost g c = omega (arith, c.steps_on.invariant.cost)

pub split_columns-requires : goal.split_columns-requires
split_columns-requires g c =
    can_split (bond_of c.args.bonds) c.steps_on.rest.now c.steps_on.store.particles c.min-size.result c.steps_on.columns
    (omega (arith, c.min-size.ensures)) c.steps_on.invariant.laid
