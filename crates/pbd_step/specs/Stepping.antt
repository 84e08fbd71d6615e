-- The end of a step, from its contacts on.
use Rattle.std.specs.Prelude.{ℕ, List, Result, Ok}
use Rattle.pbd_world.specs.declared.command.Refusal.{Refusal}
use Rattle.pbd_world.specs.Outcomes.{◌>>=◌, repeated}
use Rattle.pbd_world.specs.Particles.{Motion}
use Rattle.pbd_world.specs.World.{World}
use Rattle.pbd_world.specs.Step.{untouched, pass, rub, settled}

-- the passes, friction and tearing
abbrev pub finished : World → List (ℕ × ℕ) → Motion → Result World Refusal
finished w contacts m = repeated w.passes (pass w contacts) (untouched m) >>= λ s. Ok (settled w contacts (rub w.friction s))
