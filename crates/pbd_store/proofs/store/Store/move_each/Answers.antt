use Rattle.std.proofs.Common.{◌≡◌, ℕ, ◌+◌, arith, refl, sym, ap, ◌∙◌, ◌&&◌, subst, length, unsigned_abs, List, true, IsTrue, inl, inr}
use Rattle.std.proofs.lemmas.Bool.{cond-true}
use Rattle.pbd_num.specs.Vectors.{is_within, plus}
use Rattle.pbd_world.specs.declared.parts.Particle.{Particle}
use Rattle.pbd_world.specs.Particles.{particle_at, placed}
use Rattle.pbd_store.specs.Gathering.{index_at}
use Rattle.pbd_store.specs.Moving.{fixed_parts}
use Rattle.pbd_store.specs.Pairs.{Parted, first_moves, second_moves, stays}
use Rattle.pbd_store.proofs.Parting.{parted_none, parted_more, first_still, second_still, first_room, second_room, placed_fixed}
use Rattle.pbd_store.proofs.Places.{within_at}
use Rattle.pbd_store.proofs.store.Store.move_each.Goals as goal
use Rattle.pbd_num.proofs.Below.{split_below}

pub loop-j-init : goal.loop-j-init
loop-j-init g c = record { done = parted_none _ _ _ _ _; stay = λ k h. absurd (omega arith); limit = refl; copies = refl; fixed = refl }

pub move_pair-stays-requires : goal.move_pair-stays-requires
move_pair-stays-requires g c =
    let j = c.loop-j.j in
    let are = c.requires.pairs in
    let size = ap unsigned_abs c.loop-j.invariant.limit in
    let first = within_at size (ap (λ (p : Particle). p.at)
    (first_still c.args.pairs (length c.args.pairs.first.now) (first_moves c.args.moves.now)
    (second_moves c.args.moves.now) c.args.self.now.particles c.loop-j.self.particles c.loop-j.j c.loop-j.invariant.done (omega arith)
    c.requires.pairs c.requires.apart)) (c.requires.inside.each (index_at c.args.pairs.first.now j) (are.first j (omega arith))) in
    let second = within_at size (ap (λ (p : Particle). p.at)
    (second_still c.args.pairs (length c.args.pairs.first.now) (first_moves c.args.moves.now)
    (second_moves c.args.moves.now) c.args.self.now.particles c.loop-j.self.particles c.loop-j.j c.loop-j.invariant.done (omega arith)
    c.requires.pairs c.requires.apart)) (c.requires.inside.each (index_at c.args.pairs.second.now j) (are.second j (omega arith))) in (
      omega arith,
      (
        c.requires.lanes,
        (
          first_room c.args.pairs (length c.args.pairs.first.now) (first_moves c.args.moves.now)
              (second_moves c.args.moves.now) c.args.self.now.particles c.loop-j.self.particles c.loop-j.j c.loop-j.invariant.done
              (omega arith)
              c.requires.pairs c.requires.apart,
          (
            second_room c.args.pairs (length c.args.pairs.first.now) (first_moves c.args.moves.now)
                (second_moves c.args.moves.now) c.args.self.now.particles c.loop-j.self.particles c.loop-j.j c.loop-j.invariant.done
                (omega arith)
                c.requires.pairs c.requires.apart,
            (first, (second, (c.requires.moves.first j (omega arith), c.requires.moves.second j (omega arith)))),
          ),
        ),
      ),
    )

pub loop-j-preserved : goal.loop-j-preserved
loop-j-preserved g c =
    let j = c.loop-j.j in
    let k = c.loop-j.invariant in
    let ps = c.loop-j.self.particles in
    let a = index_at c.args.pairs.first.now j in
    let b = index_at c.args.pairs.second.now j in
    let v = plus (particle_at ps a).at (first_moves c.args.moves.now j) in
    let w = plus (particle_at ps b).at (second_moves c.args.moves.now j) in
    let first = first_still c.args.pairs (length c.args.pairs.first.now) (first_moves c.args.moves.now) (second_moves c.args.moves.now)
    c.args.self.now.particles c.loop-j.self.particles c.loop-j.j c.loop-j.invariant.done (omega arith) c.requires.pairs c.requires.apart in
    let second = second_still c.args.pairs (length c.args.pairs.first.now) (first_moves c.args.moves.now) (second_moves c.args.moves.now)
    c.args.self.now.particles c.loop-j.self.particles c.loop-j.j c.loop-j.invariant.done (omega arith) c.requires.pairs c.requires.apart in
    let new : c.move_pair-stays.new.self.particles ≡ placed (placed ps a v) b w = c.move_pair-stays.ensures.particles
    ∙ cond-true c.move_pair-stays.result (placed (placed ps a v) b w) ps c.if-not-stays.false in
    let here : stays c.args.self.now.limit c.args.self.now.particles c.args.pairs.first.now c.args.pairs.second.now
    (first_moves c.args.moves.now)
    (second_moves c.args.moves.now) j ≡ true = (λ t. is_within (sym k.limit t) (plus (sym first t).at (first_moves c.args.moves.now j))
    && is_within (sym k.limit t) (plus (sym second t).at (second_moves c.args.moves.now j))) ∙ sym c.move_pair-stays.ensures.test
    ∙ c.if-not-stays.false in
    record {
      done = subst (λ (qs : List Particle). Parted (j + 1) c.args.pairs.first.now c.args.pairs.second.now (first_moves c.args.moves.now)
          (second_moves c.args.moves.now) c.args.self.now.particles qs) (sym new)
          (parted_more c.args.pairs (length c.args.pairs.first.now) (first_moves c.args.moves.now) (second_moves c.args.moves.now)
          c.args.self.now.particles c.loop-j.self.particles c.loop-j.j c.loop-j.invariant.done
          (omega arith) c.requires.pairs c.requires.apart v w
          (λ t. plus (first t).at (first_moves c.args.moves.now j)) (λ t. plus (second t).at (second_moves c.args.moves.now j)));
      stay = λ m q. elim (split_below m j q) [
        | inl p ↦ k.stay m p
        | inr e ↦ subst (λ (i : ℕ). IsTrue (stays c.args.self.now.limit c.args.self.now.particles c.args.pairs.first.now
            c.args.pairs.second.now
            (first_moves c.args.moves.now) (second_moves c.args.moves.now) i)) (sym e) here
      ];
      limit = c.move_pair-stays.ensures.limit ∙ k.limit;
      copies = c.move_pair-stays.ensures.copies ∙ k.copies;
      fixed = ap (λ (qs : List Particle). fixed_parts qs) new ∙ placed_fixed (placed ps a v) b w ∙ placed_fixed ps a v ∙ k.fixed;
    }
