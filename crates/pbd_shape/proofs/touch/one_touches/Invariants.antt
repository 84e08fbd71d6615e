use Rattle.std.proofs.Common.{◌≡◌, ℕ, ◌<◌, false, None}
use Rattle.pbd_store.specs.Blocks.{place_of}
use Rattle.pbd_shape.proofs.touch.one_touches.Given as goal

abbrev pub invariant-loop-j : goal.invariant-loop-j
invariant-loop-j g l = l.touched ≡ false → (k : ℕ) → k < l.j → g.S.Touch.shape l.shape (place_of l.at.x l.at.y l.at.z k) ≡ None
