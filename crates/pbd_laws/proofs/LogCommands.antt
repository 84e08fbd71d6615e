-- The commands of a log.
use Rattle.std.proofs.Common.{◌≡◌, refl, ap, List, [], ◌∷◌, map}
use Rattle.pbd_world.specs.declared.command.Command.{Command}
use Rattle.pbd_world.specs.World.{World}
use Rattle.pbd_world.specs.Meaning.{after}
use Rattle.pbd_world.specs.Replay.{LogEntry, logged}

pub logged-commands : (w : World) (cs : List Command) → map {A = LogEntry} (λ e. e.command) (logged w cs) ≡ cs
logged-commands w [] = refl
logged-commands w (c ∷ cs) = ap (λ (xs : List Command). c ∷ xs) (logged-commands (after w c) cs)
