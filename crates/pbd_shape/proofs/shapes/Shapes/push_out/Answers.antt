use Rattle.std.proofs.Common.{rules, ◌≡◌, refl, sym, ap, ◌∙◌, ℕ, ◌+◌, ◌-◌, ◌*◌, ◌^◌, min, ◌<◌, ◌≤◌, arith, subst, IsTrue, ℤ, length, Err}
use Rattle.pbd_world.specs.Ledger.{ledger_of, HaveRoom}
use Rattle.pbd_world.specs.Step.{Passing}
use Rattle.pbd_world.specs.Shapes.{are_valid_shapes}
use Rattle.pbd_store.specs.Blocks.{blocks_of}
use Rattle.pbd_store.specs.Moving.{motion_of, AreInside}
use Rattle.pbd_store.proofs.Starts.{block_begins, all_held, next_start, room_more, room_whole}
use Rattle.pbd_shape.specs.Valid.{lists_of}
use Rattle.pbd_shape.specs.Way.{all_shapes}
use Rattle.pbd_shape.specs.Shaping.{push_cost, pushed_from}
use Rattle.pbd_shape.proofs.Continuing.{pushed_begins, pushed_all}
use Rattle.pbd_store.proofs.Fixed.{same_length}
use Rattle.pbd_world.proofs.Rooms.{room_at}
use Rattle.pbd_shape.proofs.Steps.{no_block, room_enough}
use Rattle.pbd_shape.proofs.Still.{unless_cost, pushed_by_none}
use Rattle.pbd_shape.proofs.shapes.Shapes.push_out.Goals.{At-loop-block}
use Rattle.pbd_shape.proofs.shapes.Shapes.push_out.Goals as goal

-- what the blocks so far came to
abbrev so_far : (g : _) → At-loop-block g → Passing
so_far g c = record { motion = motion_of c.loop-block.work.store.now c.loop-block.work.totals.now; touched = c.loop-block.touched }

-- there are as many particles as before
as_many : (g : _) (c : At-loop-block g) → length c.loop-block.work.store.now.particles ≡ length c.args.store.now.particles
as_many g c = same_length c.loop-block.work.store.now.particles c.args.store.now.particles c.loop-block.invariant.fixed

pub loop-block-init : goal.loop-block-init
loop-block-init g c = record {
  rest = ap (λ (m : ℕ). pushed_from c.args.store.now.limit (all_shapes c.args.self) m
      (record { motion = motion_of c.args.store.now c.args.totals.now; touched = c.args.touched.now })) (no_block g.row.L)
      ∙ pushed_begins c.args.store.now.limit (all_shapes c.args.self)
      (record { motion = motion_of c.args.store.now c.args.totals.now; touched = c.args.touched.now });
  limit = refl;
  copies = refl;
  fixed = refl;
  flags = refl;
  inside = c.requires.inside;
  room = λ n h. room_at _ (omega arith) h;
  cost = omega arith;
  store = refl;
  totals = refl;
  steps = refl;
}

pub returns-then-is_empty-clause-outcome : goal.returns-then-is_empty-clause-outcome
returns-then-is_empty-clause-outcome g c = pushed_by_none c.args.store.now.limit (all_shapes c.args.self) _ c.requires.flags
    (sym c.is_empty.ensures ∙ c.if-is_empty.true)

pub push_block-requires : goal.push_block-requires
push_block-requires g c =
    let inv = c.loop-block.invariant in
    let r = c.requires in
    let len = as_many g (goal.at.push_block-requires g c).At-loop-block in
    let block : c.loop-block.block < blocks_of (length c.args.store.now.particles) g.row.L =
    omega (arith, c.blocks-blocks.ensures.value, c.loop-block-test.true) in (
      omega arith,
      record {
        lanes_low = r.lanes_low;
        lanes_high = r.lanes_high;
        block = subst (λ (m : ℕ). c.loop-block.block < blocks_of m g.row.L) (sym len) block;
        valid = subst (λ (l : ℤ). IsTrue (are_valid_shapes l (lists_of c.args.self))) (sym inv.limit) r.shapes;
        inside = subst (λ (l : ℤ). AreInside l c.loop-block.work.store.now.particles) (sym inv.limit) inv.inside;
        flags = inv.flags ∙ r.flags ∙ sym len;
        room = room_at (2 ^ 125) (room_enough (c.loop-block.block * g.row.L) (length c.args.store.now.particles)
            c.blocks-blocks.ensures.few) (inv.room (2 ^ 120) r.room);
      },
    )

pub loop-block-preserved : goal.loop-block-preserved
loop-block-preserved g c =
    let inv = c.loop-block.invariant in
    let e = c.push_block.ensures in
    let limit = c.args.store.now.limit in
    let shapes = all_shapes c.args.self in
    let start = c.loop-block.block * g.row.L in
    let at = goal.at.loop-block-preserved g c in
    let then : Passing = record { motion = motion_of c.push_block.new.work.store.now c.push_block.new.work.totals.now; touched = c.push_block.new.touched } in
    let len = as_many g at.At-loop-block in
    let begins : start < length c.args.store.now.particles =
    block_begins c.loop-block.block (length c.args.store.now.particles) g.row.L c.requires.lanes_low
    (omega (arith, c.blocks-blocks.ensures.value, c.loop-block-test.true)) in
    let did = subst (λ (l : ℤ). pushed_from l shapes (start + g.row.L) then ≡ pushed_from l shapes start (so_far g at.At-loop-block)) inv.limit
    c.in_default.ensures.outcome in
    record {
      rest = ap (λ (m : ℕ). pushed_from limit shapes m then) (next_start c.loop-block.block g.row.L) ∙ did ∙ inv.rest;
      limit = e.limit ∙ inv.limit;
      copies = e.copies ∙ inv.copies;
      fixed = e.fixed ∙ inv.fixed;
      flags = e.flags ∙ inv.flags;
      inside = subst (λ (l : ℤ). AreInside l c.push_block.new.work.store.now.particles) inv.limit e.inside;
      room = λ n h. room_at _ (room_more n start _ (length c.args.store.now.particles) g.row.L begins
          (next_start c.loop-block.block g.row.L)) (subst (λ (m : ℕ).
          HaveRoom (n + min start (length c.args.store.now.particles) * 2 ^ 31 + (min (start + g.row.L) m - start) * 2 ^ 31)
          (ledger_of c.push_block.new.work.totals.now)) len (e.room _ (inv.room n h)));
      cost = omega (arith, e.cost, inv.cost);
      store = e.store ∙ inv.store;
      totals = e.totals ∙ inv.totals;
      steps = e.steps ∙ inv.steps;
    }

pub returns-in-Err-clause-outcome : goal.returns-in-Err-clause-outcome
returns-in-Err-clause-outcome g c =
    let inv = c.loop-block.invariant in
    let now = so_far g (goal.at.returns-in-Err-clause-outcome g c).At-loop-block in
    sym inv.rest ∙ subst (λ (l : ℤ). pushed_from l (all_shapes c.args.self) (c.loop-block.block * g.row.L) now ≡ Err c.in-Err.left.element)
    inv.limit c.in-Err.ensures.outcome

pub returns-in-Err-clause-limit : goal.returns-in-Err-clause-limit
returns-in-Err-clause-limit g c =
    let limit = c.push_block.ensures.limit ∙ c.loop-block.invariant.limit in search rules

pub returns-in-Err-clause-copies : goal.returns-in-Err-clause-copies
returns-in-Err-clause-copies g c =
    let copies = c.push_block.ensures.copies ∙ c.loop-block.invariant.copies in search rules

pub returns-in-Err-clause-fixed : goal.returns-in-Err-clause-fixed
returns-in-Err-clause-fixed g c =
    let fixed = c.push_block.ensures.fixed ∙ c.loop-block.invariant.fixed in search rules

pub returns-in-Err-clause-flags : goal.returns-in-Err-clause-flags
returns-in-Err-clause-flags g c = c.push_block.ensures.flags ∙ c.loop-block.invariant.flags

pub returns-in-Err-clause-cost : goal.returns-in-Err-clause-cost
returns-in-Err-clause-cost g c =
    let most = push_cost (all_shapes c.args.self) (blocks_of (length c.args.store.now.particles) g.row.L) in
    let cost : c.push_block.new.work.steps.now ≤ c.args.steps.now + most =
    unless_cost _ _ _ _ (sym c.is_empty.ensures ∙ c.if-is_empty.false) (omega (
      arith,
      c.push_block.ensures.cost,
      c.loop-block.invariant.cost,
      c.blocks-blocks.ensures.value,
      c.loop-block-test.true,
    )) in
    search rules

pub returns-clause-outcome : goal.returns-clause-outcome
returns-clause-outcome g c =
    let inv = c.loop-block.invariant in
    let before = (goal.at.returns-clause-outcome g c).At-loop-block in
    let whole = all_held c.loop-block.block (length c.args.store.now.particles) g.row.L c.requires.lanes_low
    (omega (arith, c.blocks-blocks.ensures.value, c.loop-block-test.false)) in
    let outcome = sym inv.rest ∙ pushed_all c.args.store.now.limit (all_shapes c.args.self) (c.loop-block.block * g.row.L)
    (so_far g before) (omega (arith, as_many g before, whole)) (omega (arith, inv.flags, c.requires.flags, whole)) in
    search rules

pub returns-clause-flags : goal.returns-clause-flags
returns-clause-flags g c = c.loop-block.invariant.flags

pub returns-clause-room : goal.returns-clause-room
returns-clause-room g c = λ n h.
    let room : HaveRoom (n + length c.args.store.now.particles * 2 ^ 31) (ledger_of c.loop-block.work.totals.now) =
    room_at _ (room_whole n (c.loop-block.block * g.row.L) (length c.args.store.now.particles)) (c.loop-block.invariant.room n h) in
    search rules

pub returns-clause-cost : goal.returns-clause-cost
returns-clause-cost g c =
    let most = push_cost (all_shapes c.args.self) (blocks_of (length c.args.store.now.particles) g.row.L) in
    let cost : c.loop-block.work.steps.now ≤ c.args.steps.now + most =
    unless_cost _ _ _ _ (sym c.is_empty.ensures ∙ c.if-is_empty.false)
    (omega (arith, c.loop-block.invariant.cost, c.blocks-blocks.ensures.value, c.loop-block.auto.block-end)) in
    search rules
