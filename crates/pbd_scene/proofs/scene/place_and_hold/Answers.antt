use Rattle.std.proofs.Common.{refl}
use Rattle.pbd_scene.specs.Calls.{from_tracks}
use Rattle.pbd_scene.proofs.scene.place_and_hold.Goals as goal

pub returns : goal.returns
unfolding from_tracks
returns c =
    let are_tracks = simp c.len-count.ensures at c.in_ok-parts.ensures in
    rw (are_tracks, c.in_ok-parts-2.ensures, c.as_slice-2.ensures, c.as_slice-3.ensures, c.in_ok-add_tracked.ensures, c.as_slice.ensures)
    refl
