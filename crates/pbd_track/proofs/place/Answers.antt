use Rattle.std.proofs.Common.{◌∙◌, sym, subst, ap, arith, ◌+◌, refl, length, drop, List, IsTrue, ℤ}
use Rattle.pbd_num.specs.declared.Vec3.{Vec3}
use Rattle.pbd_world.specs.declared.parts.Particle.{Particle}
use Rattle.pbd_world.specs.Particles.{placed}
use Rattle.pbd_world.specs.Valid.{is_limit}
use Rattle.pbd_track.proofs.Following.{Following, following_none, following_next, following_more, following_end, next_valid, next_within}
use Rattle.pbd_track.proofs.place.Goals as goal

pub loop-track-init : goal.loop-track-init
loop-track-init g c = record {
  following = following_none c.args.tracks.now c.args.t c.args.store.now.limit c.args.store.now.particles
      c.requires;
  limit = refl;
  copies = refl;
  cost = omega arith;
}

pub track_at-place-requires : goal.track_at-place-requires
track_at-place-requires g c =
    let next = following_next c.args.tracks.now c.loop-track.track-index c.track-item.result c.args.t c.args.store.now.limit
    c.args.store.now.particles c.loop-track.store.particles c.loop-track-test.true c.track-item.is c.loop-track.invariant.following in
    record {
      limit = c.args.store.now.limit;
      particles = length c.args.store.now.particles;
      either = subst (λ (limit : ℤ). IsTrue (is_limit limit)) c.limit-limit.ensures.value c.limit-limit.ensures.either;
      valid = next_valid next;
    }

pub put-requires : goal.put-requires
put-requires g c =
    let next = following_next c.args.tracks.now c.loop-track.track-index c.track-item.result c.args.t c.args.store.now.limit
    c.args.store.now.particles c.loop-track.store.particles c.loop-track-test.true c.track-item.is c.loop-track.invariant.following in
    let within = next_within c.track-item.result c.args.store.now.limit (length c.args.store.now.particles) (next_valid next) in
    (omega arith, omega (arith, within, next.whole))

pub loop-track-preserved : goal.loop-track-preserved
loop-track-preserved g c =
    let next = following_next c.args.tracks.now c.loop-track.track-index c.track-item.result c.args.t c.args.store.now.limit
    c.args.store.now.particles c.loop-track.store.particles c.loop-track-test.true c.track-item.is c.loop-track.invariant.following in
    let is = c.put.ensures.particles ∙ ap (λ (v : Vec3). placed c.loop-track.store.particles c.track-item.result.particle v)
    c.track_at-place.ensures in
    record {
      following = subst (λ (ps : List Particle). Following (drop (c.loop-track.track-index + 1) c.args.tracks.now) c.args.tracks.now
          c.args.t c.args.store.now.limit c.args.store.now.particles ps) (sym is) (following_more next);
      limit = c.put.ensures.limit ∙ c.loop-track.invariant.limit;
      copies = c.put.ensures.copies ∙ c.loop-track.invariant.copies;
      cost = omega (arith, c.put.ensures.cost, c.loop-track.invariant.cost);
    }

pub returns : goal.returns
returns g c = record {
  particles = following_end c.args.tracks.now c.loop-track.track-index c.args.t c.args.store.now.limit c.args.store.now.particles
      c.loop-track.store.particles c.loop-track-test.false c.loop-track.invariant.following;
  limit = c.loop-track.invariant.limit;
  copies = c.loop-track.invariant.copies;
  cost = omega (arith, c.loop-track.invariant.cost);
}
