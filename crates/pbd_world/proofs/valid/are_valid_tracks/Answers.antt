use Rattle.std.proofs.Common.{sym, ◌∙◌, to_z, of_z, w64}
use Rattle.pbd_world.proofs.WholeLemmas.{tracks_among}
use Rattle.pbd_world.proofs.valid.are_valid_tracks.Goals as goal

pub name_apart-requires : goal.name_apart-requires
name_apart-requires c = tracks_among (to_z w64 (of_z w64 c.args.limit)) c.args.count c.args.tracks.now
    (sym c.all_tracks.ensures ∙ c.if-not-all_tracks.false)
