-- The one thing that a command names.
use Rattle.std.specs.Prelude.{◌≡◌, ◌≢◌, ℕ, List, Option, Some, None, All}
use Rattle.pbd_world.specs.declared.command.Command.{Command}
use Rattle.pbd_world.specs.Meaning.{Edit, Deed, deed}
use Rattle.pbd_world.specs.Meaning.Edit.{OnParticle, OnLink, OnGravity}
use Rattle.pbd_world.specs.Meaning.Deed.{Steps, Edits, Answers}

pub data Target : Type 0 where
  OneParticle : ℕ → Target
  OneLink : ℕ → Target
  TheGravity : Target

-- what an edit changes
abbrev pub place_of : Edit → Target
place_of (OnParticle i change lost) = OneParticle i
place_of (OnLink n) = OneLink n
place_of (OnGravity g) = TheGravity

-- the one thing that is changed by what a command does; steps change everything, and answers nothing
abbrev pub place_in : Deed → Option Target
place_in (Steps n) = None
place_in (Edits edit) = Some (place_of edit)
place_in (Answers reply) = None

-- the particle, the link or the gravity that a command names
abbrev pub target : Command → Option Target
target c = place_in (deed c)

-- two commands, each of which names one thing, and not the same
pub record AreApart (c d : Command) : Type 0 where
  pub first : Target
  pub second : Target
  pub first_is : target c ≡ Some first
  pub second_is : target d ≡ Some second
  pub differ : first ≢ second

-- each command of one list is apart from each of the other
abbrev pub AreAllApart : List Command → List Command → Type 0
AreAllApart cs ds = All (λ c. All (AreApart c) ds) cs
