use Rattle.std.proofs.Common.{◌^◌, pos, refl}
use Rattle.pbd_tests_stores.proofs.tests.track.tracks_name_particles.Goals as goal

pub track_at-place-requires : goal.track_at-place-requires
track_at-place-requires g c =
    let given = rw c.expect-track.ensures at c.one_place.ensures in
    record { limit = pos (2 ^ 29); particles = 2; either = refl; valid = rw given refl }
