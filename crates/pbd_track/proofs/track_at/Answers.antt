use Rattle.std.proofs.Common.{◌∙◌, sym, arith, ap, All, List}
use Rattle.pbd_world.specs.declared.parts.Key.{Key}
use Rattle.pbd_world.specs.Tracks.{place_at}
use Rattle.pbd_track.specs.Tracking.{IsKey}
use Rattle.pbd_track.proofs.Following.{track_keys, later_keys, up_to_first, after_first}
use Rattle.pbd_track.proofs.track_at.Goals as goal

pub returns-then-t-keys : goal.returns-then-t-keys
returns-then-t-keys c = sym (up_to_first c.as_slice-keys.result.now _ c.args.t (omega arith) c.if-t-keys.true)
    ∙ ap (λ (keys : List Key). place_at keys c.args.t) c.as_slice-keys.ensures

pub place_after-requires-clause-first : goal.place_after-requires-clause-first
place_after-requires-clause-first c =
    let keys : All IsKey c.as_slice-keys.result.now = rw c.as_slice-keys.ensures (track_keys c.args.track.now c.requires) in
    keys 0 _ (omega arith)

pub place_after-requires-clause-later : goal.place_after-requires-clause-later
place_after-requires-clause-later c = later_keys c.as_slice-keys.result.now
    (rw c.as_slice-keys.ensures (track_keys c.args.track.now c.requires))

pub returns : goal.returns
returns c = c.place_after.ensures ∙ sym (after_first c.as_slice-keys.result.now _ c.args.t (omega arith) c.if-t-keys.false)
    ∙ ap (λ (keys : List Key). place_at keys c.args.t) c.as_slice-keys.ensures
