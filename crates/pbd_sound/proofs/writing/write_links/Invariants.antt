use Rattle.std.proofs.Common.{◌≡◌, ℕ, ◌<◌, length}
use Rattle.pbd_world.specs.Bonds.{link_at}
use Rattle.pbd_sound.specs.Described.{link_told}
use Rattle.pbd_sound.proofs.writing.write_links.Given as goal

-- the links so far are written
abbrev pub invariant-loop-l : goal.invariant-loop-l
invariant-loop-l g l = record {
  whole : length l.links ≡ length l.other;
  done : (k : ℕ) → k < l.l → link_at l.links k ≡ link_told (g.D.Described.seen l.described) k (link_at l.other k);
}
