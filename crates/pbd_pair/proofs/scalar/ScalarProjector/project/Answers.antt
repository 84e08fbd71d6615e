use Rattle.std.proofs.Common.{◌^◌, arith, rules, refl, ◌∙◌, sym, subst, ℕ, ℤ, List, Result}
use Rattle.std.proofs.lemmas.List.{at_drop_all}
use Rattle.pbd_world.specs.Particles.{Motion}
use Rattle.pbd_world.specs.Bonds.{projected}
use Rattle.pbd_pair.specs.Bonds.{bond_of, IsBond}
use Rattle.pbd_store.specs.Moving.{motion_of, AreInside}
use Rattle.pbd_world.proofs.Rooms.{room_at}
use Rattle.pbd_store.proofs.Fixed.{same_length}
use Rattle.pbd_pair.proofs.OneByOne.{turn_on, turn_out}
use Rattle.pbd_pair.proofs.scalar.ScalarProjector.project.Goals as goal

pub loop-n-preserved : goal.loop-n-preserved
loop-n-preserved g c =
    let inv = c.loop-n.invariant in
    record {
      room = room_at _ (omega arith) (c.project.ensures.room _ inv.room);
      grows = λ n h. room_at _ (omega arith) (c.project.ensures.room _ (inv.grows n h));
      inside = subst (λ (l : ℤ). AreInside l c.project.new.store.particles) inv.limit c.project.ensures.inside;
      same = turn_on c.args.store.now.limit (bond_of c.args.bonds) c.args.batch.now c.loop-n.n-index (omega arith) c.get-bond.result
          (motion_of c.loop-n.store c.loop-n.totals) (motion_of c.project.new.store c.project.new.totals) inv.limit c.get-bond.ensures
          c.in_default.ensures.outcome ∙ inv.same;
      limit = c.project.ensures.limit ∙ inv.limit;
      copies = c.project.ensures.copies ∙ inv.copies;
      fixed = c.project.ensures.fixed ∙ inv.fixed;
      cost = omega (arith, c.project.ensures.cost, inv.cost);
    }

pub returns-in-Err-clause-outcome : goal.returns-in-Err-clause-outcome
returns-in-Err-clause-outcome g c =
    let inv = c.loop-n.invariant in
    sym inv.same ∙ turn_out c.args.store.now.limit (bond_of c.args.bonds) c.args.batch.now c.loop-n.n-index (omega arith) c.get-bond.result
    (motion_of c.loop-n.store c.loop-n.totals) c.in-Err.left.element inv.limit c.get-bond.ensures c.in-Err.ensures.outcome

pub loop-n-init : goal.loop-n-init
loop-n-init g c = record {
  room = room_at _ (omega arith) c.requires.room;
  grows = λ n h. room_at _ (omega arith) h;
  inside = c.requires.inside;
  same = refl;
  limit = refl;
  copies = refl;
  fixed = refl;
  cost = omega arith;
}

pub returns-clause-room : goal.returns-clause-room
returns-clause-room g c = λ n h. room_at _ (omega (arith, c.loop-n-test.false)) (c.loop-n.invariant.grows n h)

pub returns-clause-outcome : goal.returns-clause-outcome
returns-clause-outcome g c =
    let left : List ℕ → Result Motion ℕ = λ b. projected c.args.store.now.limit (bond_of c.args.bonds) b
    (motion_of c.loop-n.store c.loop-n.totals) in
    sym c.loop-n.invariant.same ∙ at_drop_all left c.args.batch.now c.loop-n.n-index (omega (arith, c.loop-n-test.false))

pub project-requires : goal.project-requires
project-requires g c =
    let inv = c.loop-n.invariant in
    let whole = same_length c.loop-n.store.particles c.args.store.now.particles inv.fixed in
    let inside = subst (λ (l : ℤ). AreInside l c.loop-n.store.particles) (sym inv.limit) inv.inside in (
      omega arith,
      (
        coe 1 0 (i. IsBond (inv.limit i) (whole i) (c.get-bond.ensures i)) (c.requires.batch.bond c.loop-n.n-index (omega arith)),
        (inside, room_at (2 ^ 125) (search rules) inv.room),
      ),
    )

pub returns-clause-handed : goal.returns-clause-handed
returns-clause-handed g c = c.saturating_add-self.ensures

pub returns-in-Err-clause-handed : goal.returns-in-Err-clause-handed
returns-in-Err-clause-handed g c = c.saturating_add-self.ensures
