use Rattle.std.proofs.Common.{arith, sym, ap, ◌∙◌, ◌+◌, ℕ, List, slice_set, subst}
use Rattle.pbd_num.specs.declared.Vec3.{Vec3}
use Rattle.pbd_world.specs.Particles.{particle_at}
use Rattle.pbd_store.specs.Fields.{place_of_kind}
use Rattle.pbd_store.specs.Flying.{WrittenFirst}
use Rattle.pbd_store.proofs.Writing.{no_place, first_none, first_more, first_all}
use Rattle.pbd_store.proofs.rows.PlaceRows.open.Goals as goal

pub loop-i-init : goal.loop-i-init
loop-i-init c = first_none _ _

pub set-requires : goal.set-requires
set-requires c = omega (arith, c.loop-i.invariant.whole, c.in_ok-places.ensures.long)

pub loop-i-preserved : goal.loop-i-preserved
loop-i-preserved c =
    let i = c.loop-i.i in
    let f = λ (j : ℕ). place_of_kind c.args.which (particle_at c.args.particles.now j) in
    subst (λ (vs : List Vec3). WrittenFirst (i + 1) f c.in_ok-places.places vs) (sym (c.set.ensures ∙ ap (slice_set c.loop-i.places i) c.place_in.ensures))
    (first_more i f c.in_ok-places.places c.loop-i.places c.loop-i.invariant (omega (arith, c.in_ok-places.ensures.long)))

pub returns : goal.returns
returns c =
    let f = place_of_kind c.args.which in
    let ps = c.args.particles.now in
    first_all f (no_place c.args.which) ps c.args.n c.in_ok-places.places c.loop-i.places c.in_ok-places.ensures.long c.in_ok-places.ensures.each
    (subst (λ (n : ℕ). WrittenFirst n (λ j. f (particle_at ps j)) c.in_ok-places.places c.loop-i.places) (omega arith) c.loop-i.invariant)
