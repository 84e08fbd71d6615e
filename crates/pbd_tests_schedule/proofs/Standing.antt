-- What a projector asks, of work that may stand.
use Rattle.std.proofs.Common.{◌≡◌, ◌^◌, ◌&&◌, ◌==◌, ℕ, ℤ, pos, List, length, IsTrue, arith, subst, sym}
use Rattle.std.proofs.lemmas.Bool.{eqb-true}
use Rattle.std.proofs.lemmas.Int.{ints}
use Rattle.std.specs.List.{list_all}
use Rattle.pbd_world.specs.declared.parts.Particle.{Particle}
use Rattle.pbd_store.specs.Moving.{AreInside, Weigh}
use Rattle.pbd_pair.specs.declared.bonds.Bonds.{Bonds}
use Rattle.pbd_pair.specs.Examples.{is_placed, is_batch}
use Rattle.pbd_pair.specs.Projecting.{IsBatch}
use Rattle.pbd_pair.proofs.Examples.{left, right, are_inside, weigh, batch_is}
use Rattle.pbd_tests_schedule.specs.Work.{may_stand}

pub record MayStand (limit : ℤ) (particles : List Particle) (bonds : Bonds) (batch : List ℕ) : Type 0 where
  pub six : length particles ≡ 6
  pub batched : IsBatch limit (length particles) bonds batch
  pub inside : AreInside limit particles
  pub weights : Weigh particles

pub stands : (limit : ℤ) (particles : List Particle) (bonds : Bonds) (batch : List ℕ) → limit ≡ pos (2 ^ 29)
    → IsTrue (may_stand particles bonds batch) → MayStand limit particles bonds batch
stands limit particles bonds batch is h =
    let placed = list_all (is_placed (pos (2 ^ 29))) particles in
    let whole = is_batch (pos (2 ^ 29)) 6 bonds batch in
    let six = eqb-true (length particles) 6 (left (length particles == 6) (placed && whole) h) in
    let both = right (length particles == 6) (placed && whole) h in
    subst (λ (l : ℤ). MayStand l particles bonds batch) (sym is) (record {
      six = six;
      batched = subst (λ (n : ℕ). IsBatch (pos (2 ^ 29)) n bonds batch) (sym six)
          (batch_is (pos (2 ^ 29)) 6 bonds batch (right placed whole both));
      inside = are_inside (pos (2 ^ 29)) particles (omega (arith, ints)) (left placed whole both);
      weights = weigh (pos (2 ^ 29)) particles (omega (arith, ints)) (left placed whole both);
    })
