-- The end of a step, link by link.
use Rattle.std.specs.Prelude.{◌≡◌, ℕ, ◌<◌, ◌==◌, ◌&&◌, not, List, length}
use Rattle.std.specs.List.{list_any}
use Rattle.pbd_world.specs.declared.parts.Link.{Link}
use Rattle.pbd_world.specs.Bonds.{link_at}

-- the links of some numbers are live no longer, and all else is as it was
pub record LetGo (numbers : List ℕ) (old new : List Link) : Type 0 where
  pub whole : length new ≡ length old
  pub each : (i : ℕ) → i < length old → link_at new i
      ≡ record (link_at old i) { live = (link_at old i).live && not (list_any (λ n. n == i) numbers) }
