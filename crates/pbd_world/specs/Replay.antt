-- What a log keeps of a session.
use Rattle.std.specs.Prelude.{List, [], ◌∷◌, map, fold, Option, Some, None}
use Rattle.pbd_num.specs.declared.Vec3.{Vec3}
use Rattle.pbd_num.specs.Vectors.{zero_vector, plus, axes}
use Rattle.pbd_world.specs.declared.parts.Particle.{Particle}
use Rattle.pbd_world.specs.declared.command.Command.{Command}
use Rattle.pbd_world.specs.declared.command.Command.TheVariants.{Step}
use Rattle.pbd_world.specs.declared.command.Reply.{Reply}
use Rattle.pbd_world.specs.declared.command.Reply.TheVariants.{Done}
use Rattle.pbd_world.specs.declared.command.FrameSums.{FrameSums}
use Rattle.pbd_world.specs.World.{World, live_count}
use Rattle.pbd_world.specs.Meaning.{after, reply}

-- the sum of one vector of each particle, held ones too
abbrev pub sum_over : (Particle → Vec3) → List Particle → Vec3
sum_over f ps = fold plus zero_vector (map f ps)

-- the counts of a world, and the sums of its places and places before
abbrev pub frame_sums : World → FrameSums
frame_sums w = record {
  steps = w.steps;
  live = live_count w.links;
  contacts = w.contacts;
  at = axes (sum_over (λ p. p.at) w.particles);
  before = axes (sum_over (λ p. p.before) w.particles);
}

-- a command as a log keeps it: with its reply, and the sums after a command of steps that was done
pub record LogEntry : Type 0 where
  pub command : Command
  pub answer : Reply
  pub sums : Option FrameSums

-- the sums stand exactly after a command of steps that was done
abbrev pub kept_sums : World → Command → Reply → Option FrameSums
kept_sums w (Step n) Done = Some (frame_sums w)
kept_sums w _ _ = None

abbrev pub entry : World → Command → LogEntry
entry w c = record { command = c; answer = reply w c; sums = kept_sums (after w c) c (reply w c) }

-- the entries of a session
abbrev pub logged : World → List Command → List LogEntry
logged w [] = []
logged w (c ∷ cs) = entry w c ∷ logged (after w c) cs
