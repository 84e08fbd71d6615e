use Rattle.std.proofs.Common.{sym, subst, List, length, ◌≤◌}
use Rattle.pbd_world.specs.declared.parts.Track.{Track}
use Rattle.pbd_step.specs.States.{world_of}
use Rattle.pbd_step.proofs.Keeping.{formed_tracks}
use Rattle.pbd_step.proofs.views.Shown.tracks.Goals as goal

pub returns-clause-size : goal.returns-clause-size
returns-clause-size g c = subst (λ (xs : List Track). length xs ≤ 4096) (sym c.as_slice.ensures)
    (formed_tracks (world_of c.self.inside.setting.now c.self.inside.state.now) c.self.invariant.well_formed)
