use Rattle.std.proofs.Common.{rules, ◌≡◌, refl, sym, ap, ◌∙◌, ℕ, ◌+◌, ◌-◌, ◌*◌, ◌^◌, min, ◌<◌, arith, subst, ℤ, length}
use Rattle.std.proofs.lemmas.Int.{to_z-of_z}
use Rattle.pbd_num.specs.Vectors.{zero_vector}
use Rattle.pbd_world.specs.declared.parts.Particle.{Particle}
use Rattle.pbd_world.specs.Ledger.{ledger_of, HaveRoom}
use Rattle.pbd_world.specs.Step.{Passing}
use Rattle.pbd_store.specs.Blocks.{blocks_of}
use Rattle.pbd_store.specs.Moving.{motion_of}
use Rattle.pbd_store.proofs.Starts.{block_begins, all_held, next_start, room_more, room_whole}
use Rattle.pbd_shape.specs.Rubbing.{AreWithin, rubbed_from}
use Rattle.pbd_shape.proofs.Continuing.{rubbed_begins, rubbed_all}
use Rattle.pbd_store.proofs.Fixed.{same_length_by}
use Rattle.pbd_world.proofs.Rooms.{room_at}
use Rattle.pbd_shape.proofs.Steps.{no_block, room_enough}
use Rattle.pbd_shape.proofs.Still.{rubbed_by_none}
use Rattle.pbd_shape.proofs.touched.Touched.rub.Goals.{At-loop-block}
use Rattle.pbd_shape.proofs.touched.Touched.rub.Goals as goal

abbrev settled : Particle → Particle
settled p = record p { before = zero_vector }

-- there are as many particles as before
as_many : (g : _) (c : At-loop-block g) → length c.loop-block.work.store.now.particles ≡ length c.args.store.now.particles
as_many g c = same_length_by settled c.loop-block.work.store.now.particles c.args.store.now.particles c.loop-block.invariant.settled

pub loop-block-init : goal.loop-block-init
loop-block-init g c =
    let f = c.ranges.friction in
    let s : Passing = record { motion = motion_of c.args.store.now c.args.totals.now; touched = c.args.self.now } in
    record {
      rest = simp to_z-of_z (ap (λ (m : ℕ). rubbed_from c.args.friction m s) (no_block g.row.L) ∙ rubbed_begins c.args.friction s);
      limit = refl;
      copies = refl;
      settled = refl;
      within = c.requires.within;
      room = λ n h. room_at _ (omega arith) h;
      cost = omega arith;
      store = refl;
      totals = refl;
      steps = refl;
    }

pub returns-then-not-rubs_any-clause-outcome : goal.returns-then-not-rubs_any-clause-outcome
returns-then-not-rubs_any-clause-outcome g c =
    let f = c.ranges.friction in
    let rubs = simp to_z-of_z at c.rubs_any.ensures in
    let s : Passing = record { motion = motion_of c.args.store.now c.args.totals.now; touched = c.args.self.now } in
    rubbed_by_none c.args.friction s c.requires.flags c.requires.friction (sym rubs ∙ c.if-not-rubs_any.true)

pub rub_block-requires : goal.rub_block-requires
rub_block-requires g c =
    let f = c.ranges.friction in
    let inv = c.loop-block.invariant in
    let r = c.requires in
    let len = as_many g (goal.at.rub_block-requires g c).At-loop-block in
    let block : c.loop-block.block < blocks_of (length c.args.store.now.particles) g.row.L =
    omega (arith, c.blocks-blocks.ensures.value, c.loop-block-test.true) in (
      omega arith,
      record {
        lanes_low = r.lanes_low;
        lanes_high = r.lanes_high;
        block = subst (λ (m : ℕ). c.loop-block.block < blocks_of m g.row.L) (sym len) block;
        valid_friction = simp to_z-of_z r.friction;
        flags = r.flags ∙ sym len;
        within = subst (λ (l : ℤ). AreWithin l c.loop-block.work.store.now.particles) (sym inv.limit) inv.within;
        room = room_at (2 ^ 125) (room_enough (c.loop-block.block * g.row.L) (length c.args.store.now.particles)
            c.blocks-blocks.ensures.few) (inv.room (2 ^ 120) r.room);
      },
    )

pub loop-block-preserved : goal.loop-block-preserved
loop-block-preserved g c =
    let f = c.ranges.friction in
    let inv = c.loop-block.invariant in
    let e = c.rub_block.ensures in
    let start = c.loop-block.block * g.row.L in
    let then : Passing = record { motion = motion_of c.rub_block.new.work.store.now c.rub_block.new.work.totals.now; touched = c.args.self.now } in
    let len = as_many g (goal.at.loop-block-preserved g c).At-loop-block in
    let begins : start < length c.args.store.now.particles =
    block_begins c.loop-block.block (length c.args.store.now.particles) g.row.L c.requires.lanes_low
    (omega (arith, c.blocks-blocks.ensures.value, c.loop-block-test.true)) in
    let outcome = simp to_z-of_z at e.outcome in
    let rest = simp to_z-of_z at inv.rest in
    record {
      rest = simp to_z-of_z (ap (λ (m : ℕ). rubbed_from c.args.friction m then) (next_start c.loop-block.block g.row.L) ∙ outcome ∙ rest);
      limit = e.limit ∙ inv.limit;
      copies = e.copies ∙ inv.copies;
      settled = e.settled ∙ inv.settled;
      within = subst (λ (l : ℤ). AreWithin l c.rub_block.new.work.store.now.particles) inv.limit e.within;
      room = λ n h. room_at _ (room_more n start _ (length c.args.store.now.particles) g.row.L begins
          (next_start c.loop-block.block g.row.L)) (subst (λ (m : ℕ).
          HaveRoom (n + min start (length c.args.store.now.particles) * 2 ^ 31 + (min (start + g.row.L) m - start) * 2 ^ 31)
          (ledger_of c.rub_block.new.work.totals.now)) len (e.room _ (inv.room n h)));
      cost = omega (arith, e.cost, inv.cost);
      store = e.store ∙ inv.store;
      totals = e.totals ∙ inv.totals;
      steps = e.steps ∙ inv.steps;
    }

pub returns-clause-outcome : goal.returns-clause-outcome
returns-clause-outcome g c =
    let f = c.ranges.friction in
    let inv = c.loop-block.invariant in
    let now : Passing = record {
      motion = motion_of c.loop-block.work.store.now c.loop-block.work.totals.now;
      touched = c.args.self.now;
    } in
    let len = as_many g (goal.at.returns-clause-outcome g c).At-loop-block in
    let whole = all_held c.loop-block.block (length c.args.store.now.particles) g.row.L c.requires.lanes_low
    (omega (arith, c.blocks-blocks.ensures.value, c.loop-block-test.false)) in
    let rest = simp to_z-of_z at inv.rest in
    let outcome = sym (rubbed_all c.args.friction (c.loop-block.block * g.row.L) now (omega (arith, len, whole))) ∙ rest in
    search rules

pub returns-clause-room : goal.returns-clause-room
returns-clause-room g c = λ n h.
    let room : HaveRoom (n + length c.args.store.now.particles * 2 ^ 31) (ledger_of c.loop-block.work.totals.now) =
    room_at _ (room_whole n (c.loop-block.block * g.row.L) (length c.args.store.now.particles)) (c.loop-block.invariant.room n h) in
    search rules

pub returns-then-not-rubs_any-clause-within : goal.returns-then-not-rubs_any-clause-within
returns-then-not-rubs_any-clause-within g c = c.requires.within
