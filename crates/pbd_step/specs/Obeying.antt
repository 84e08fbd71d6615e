-- What a command does.
use Rattle.std.specs.Prelude.{◌≡◌, MatchResult, OnErr, Result, Ok, Err}
use Rattle.pbd_world.specs.declared.command.Command.{Command}
use Rattle.pbd_world.specs.declared.command.Refusal.{Refusal}
use Rattle.pbd_world.specs.declared.command.Reply.{Reply}
use Rattle.pbd_world.specs.Meaning.{after, reply}
use Rattle.pbd_world.specs.World.{World, IsSound, AreOfOneScene}

-- a command on a part S of what makes up a world: it has led to the world that is meant, or it is refused as it is meant to be
-- and the part is as it was
pub record Obeys {S : Type 0} (world : S → World) (r : Result (Unit {0}) Refusal)
    (meant : Result World Refusal) (old new : S) : Type 0 where
  pub outcome : MatchResult r (λ _. meant ≡ Ok (world new)) (λ refusal. meant ≡ Err refusal)
  pub kept : OnErr r (new ≡ old)

-- a command on a world: it obeys, and leaves a sound world of the same scene
pub record Commanded (r : Result (Unit {0}) Refusal) (meant : Result World Refusal) (old new : World) : Type 0 where
  pub obeys : Obeys (λ w. w) r meant old new
  pub sound : IsSound new
  pub one_scene : AreOfOneScene old new

-- a command was done and answered as it is meant, and the world is sound and of the same scene
pub record IsAnswered (w v : World) (c : Command) (r : Reply) : Type 0 where
  pub reply : r ≡ reply w c
  pub world : v ≡ after w c
  pub sound : IsSound v
  pub one_scene : AreOfOneScene w v
