use Rattle.std.proofs.Common.{sym, ◌∙◌, to_z, of_z, w64}
use Rattle.pbd_world.proofs.WholeLemmas.{links_joined}
use Rattle.pbd_world.proofs.valid.are_valid_links.Goals as goal

pub stand_alone-requires : goal.stand_alone-requires
stand_alone-requires c = links_joined (to_z w64 (of_z w64 c.args.limit)) c.args.count c.args.links.now
    (sym c.all_links.ensures ∙ c.if-not-all_links.false)
