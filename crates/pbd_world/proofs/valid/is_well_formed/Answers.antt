use Rattle.std.proofs.Common.{◌≡◌, ◌∙◌, sym, ◌≤◌, ◌^◌, ℤ, pos, ◌≤ℤ◌, unsigned_abs, Bool, true, to_z, of_z, w64}
use Rattle.pbd_world.specs.Valid.{is_limit}
use Rattle.pbd_world.proofs.WholeLemmas.{limit_low, limit_high}
use Rattle.pbd_world.proofs.valid.is_well_formed.Goals as goal

-- what each part asks of a limit that was tested
asked : (limit : ℤ) (test : Bool) → test ≡ is_limit limit → test ≡ true
    → record { low : pos 0 ≤ℤ limit; high : unsigned_abs limit ≤ 2 ^ 29 }
asked limit test is passed =
    let known = sym is ∙ passed in
    record { low = limit_low limit known; high = limit_high limit known }

pub are_valid_particles-requires : goal.are_valid_particles-requires
are_valid_particles-requires c = asked (to_z w64 (of_z w64 c.args.parts.now.limit)) c.is_limit.result c.is_limit.ensures
    c.if-not-is_limit.false

pub are_valid_links-requires : goal.are_valid_links-requires
are_valid_links-requires c = asked (to_z w64 (of_z w64 c.args.parts.now.limit)) c.is_limit.result c.is_limit.ensures c.if-not-is_limit.false

pub are_valid_tracks-requires : goal.are_valid_tracks-requires
are_valid_tracks-requires c = asked (to_z w64 (of_z w64 c.args.parts.now.limit)) c.is_limit.result c.is_limit.ensures
    c.if-not-is_limit.false

pub are_valid_shapes-requires : goal.are_valid_shapes-requires
are_valid_shapes-requires c = asked (to_z w64 (of_z w64 c.args.parts.now.limit)) c.is_limit.result c.is_limit.ensures
    c.if-not-is_limit.false

pub within-requires : goal.within-requires
within-requires c = asked (to_z w64 (of_z w64 c.args.parts.now.limit)) c.is_limit.result c.is_limit.ensures c.if-not-is_limit.false
