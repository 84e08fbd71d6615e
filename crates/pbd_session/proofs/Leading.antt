-- The worlds that commands lead through, one command after another.
use Rattle.std.proofs.Common.{◌≡◌, refl, suc, List, [], ◌∷◌, arith}
use Rattle.std.specs.List.{Contains}
use Rattle.pbd_world.specs.declared.command.Command.{Command}
use Rattle.pbd_world.specs.World.{World}
use Rattle.pbd_world.specs.Meaning.{after}
use Rattle.pbd_world.specs.Session.{worlds, last_world}

-- from the world and the commands at the start, it has come to this world and these commands
pub record Leads (start : World) (all : List Command) (w : World) (left : List Command) : Type 0 where
  pub last : last_world w left ≡ last_world start all
  pub among : (v : World) → Contains (worlds w left) v → Contains (worlds start all) v

pub leads_begin : (w : World) (all : List Command) → Leads w all w all
leads_begin w all = record { last = refl; among = λ v c. c }

contains_more : (w v : World) (ws : List World) → Contains ws v → Contains (w ∷ ws) v
contains_more w v ws c = (suc c.0, omega (arith, c.1), c.2)

pub leads_on : (start : World) (all : List Command) (w : World) (c : Command) (cs : List Command) → Leads start all w (c ∷ cs)
    → Leads start all (after w c) cs
leads_on start all w c cs leads = record {
  last = leads.last;
  among = λ v there. leads.among v (contains_more w v (worlds (after w c) cs) there);
}

contains_first : (w : World) (left : List Command) → Contains (worlds w left) w
contains_first w [] = (0, omega arith, refl)
contains_first w (c ∷ cs) = (0, omega arith, refl)

-- the world so far is one of them
pub leads_among : (start : World) (all : List Command) (w : World) (left : List Command) → Leads start all w left
    → Contains (worlds start all) w
leads_among start all w left leads = leads.among w (contains_first w left)

pub leads_last : (start : World) (all : List Command) (w : World) → Leads start all w [] → w ≡ last_world start all
leads_last start all w leads = leads.last
