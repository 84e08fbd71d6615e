-- What the run of a generated scene wrote, piece after piece, and what its scene comes to.
use Rattle.std.proofs.Common.{◌≡◌, subst, ℕ, ◌≤◌, List, [], ◌++◌, Option, Result, Ok, Err, arith}
use Rattle.pbd_io.specs.Causes.{HasCause}
use Rattle.pbd_io.specs.Pieces.{AppendsPrefix}
use Rattle.pbd_io.specs.Appending.{prefix_longer, rose_later}
use Rattle.pbd_world.specs.declared.parts.Parts.{Parts}
use Rattle.pbd_outcome.specs.declared.status.Status.{Status}
use Rattle.pbd_outcome.specs.Generated.{generated}
use Rattle.pbd_outcome.specs.Outcome.{large_outcome}
use Rattle.pbd_run.specs.Calls.{Does}
use Rattle.pbd_run.specs.Forms.{large_on}

-- ---- one piece after another

pub cause_then : {T E : Type 0} (a b c : ℕ) (r : Result T E) → a ≤ b → HasCause b c r → HasCause a c r
cause_then a b c (Ok t) le cause = record { later = omega (arith, le, cause.later); failed = cause.failed }
cause_then a b c (Err e) le cause = record { later = omega (arith, le, cause.later); failed = rose_later a b c le cause.failed }

-- what the generated scene comes to
pub large_did : (number size : ℕ) (scene : Parts) (a b : Option (List ℕ)) (m n : ℕ) (s : Status) → scene ≡ generated number size
    → Does (large_on number size scene) a b m n s → Does (large_outcome number size []) a b m n s
unfolding large_on
large_did number size scene a b m n s is does = subst (λ (p : Parts). Does (large_on number size p) a b m n s) is does
