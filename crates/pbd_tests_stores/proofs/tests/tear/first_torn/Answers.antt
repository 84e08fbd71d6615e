use Rattle.std.proofs.Common.{◌≡◌, ◌∙◌, ◌^◌, ap, arith, pos, length, ℕ}
use Rattle.std.specs.Prelude.{IsTrue}
use Rattle.pbd_world.specs.Room.{Roomed}
use Rattle.pbd_world.specs.Valid.{are_valid_links}
use Rattle.pbd_store.specs.Moving.{AreInside}
use Rattle.pbd_tests_stores.proofs.tests.tear.first_torn.Goals as goal

pub torn-requires : goal.torn-requires
torn-requires g c =
    let ps = c.args.particles.now in
    let limit : c.in-Ok.store.limit ≡ pos (2 ^ 29) = c.in-Ok.ensures.limit in
    let same : c.in-Ok.store.particles ≡ ps = c.in-Ok.ensures.particles in (
      omega arith,
      (
        coe 1 0 (i. IsTrue (are_valid_links (limit i) (length (same i)) c.args.links.now)) c.requires.links,
        (
          c.as_slice.ensures ∙ ap (λ (r : Roomed ℕ). r.entries) c.with_tear_length.ensures,
          (
            coe 1 0 (i. AreInside (limit i) (same i)) c.requires.inside,
            omega (arith, c.requires.four, ap (λ (r : Roomed ℕ). r.room) c.in_ok-out.ensures),
          ),
        ),
      ),
    )
