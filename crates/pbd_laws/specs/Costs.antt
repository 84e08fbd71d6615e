-- The most that a session may cost, by the sizes of its scene and its commands alone.
use Rattle.std.specs.Prelude.{ℕ, ◌+◌, ◌*◌, ◌/◌, List, [], ◌∷◌, length}
use Rattle.pbd_world.specs.declared.command.Command.{Command}
use Rattle.pbd_world.specs.declared.command.Command.TheVariants as commands
use Rattle.pbd_world.specs.World.{World}
use Rattle.pbd_world.specs.Work.{blocks_in}

-- a step: four accesses for each block, and in each pass for each block, each whole piece of links, each of 63 colours and each
-- of 262,144 contacts; one for each track and each particle, and two for each link
unfoldable pub most_of_step : ℕ → ℕ → World → ℕ
most_of_step width lanes w =
    4 * (blocks_in width w + w.passes * (length w.links / lanes + 63 + 262144 + blocks_in width w))
    + length w.tracks + length w.particles + 2 * length w.links

-- how many steps commands ask for
abbrev pub steps_in : List Command → ℕ
steps_in [] = 0
steps_in (commands.Step n ∷ cs) = n + steps_in cs
steps_in (c ∷ cs) = steps_in cs

-- commands one after another: their steps, and for each command two accesses and a frame
abbrev pub most_of_session : ℕ → ℕ → World → List Command → ℕ
most_of_session width lanes w cs = steps_in cs * most_of_step width lanes w + length cs * (length w.particles + 2)
