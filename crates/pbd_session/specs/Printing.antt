-- The lines of a reply one by one, so that something can stand before each.
use Rattle.std.specs.Prelude.{ℕ, codes, decimal, List, [], ◌∷◌, ◌++◌, map}
use Rattle.std.specs.List.{flat_map}
use Rattle.pbd_world.specs.declared.parts.Particle.{Particle}
use Rattle.pbd_world.specs.declared.command.Reply.{Reply}
use Rattle.pbd_world.specs.declared.command.Reply.TheVariants.{Done, Frame, Ledger, Refused}
use Rattle.pbd_world.specs.Ledger.{Sum}
use Rattle.pbd_world.specs.Momentum.{momentum}
use Rattle.pbd_world.specs.World.{World}
use Rattle.pbd_world.specs.Text.{line, header_line, place_line, sum_line, refusal_line}

-- the first line of a frame: the step count, and the numbers of particles, live links and contacts
unfoldable pub frame_header : ℕ → ℕ → ℕ → ℕ → List ℕ
frame_header steps particles live contacts = line (codes "frame" ∷ decimal steps ∷ decimal particles ∷ decimal live ∷ decimal contacts ∷ [])

-- a sum of the ledger, and its name
pub record NamedSum : Type 0 where
  pub name : List ℕ
  pub sum : Sum

abbrev pub named : List ℕ → Sum → NamedSum
named name sum = record { name = name; sum = sum }

-- the sums of a ledger in the order of its lines
abbrev pub ledger_sums : World → List NamedSum
ledger_sums w =
    named (codes "momentum") (momentum w.particles)
    ∷ named (codes "opening") w.opening
    ∷ named (codes "gravity") w.totals.gravity
    ∷ named (codes "damping") w.totals.damping
    ∷ named (codes "link") w.totals.link
    ∷ named (codes "contact") w.totals.contact
    ∷ named (codes "pin") w.totals.pin
    ∷ named (codes "shape") w.totals.shape
    ∷ []

abbrev pub named_line : NamedSum → List ℕ
named_line s = sum_line s.name s.sum

-- the lines of a reply, with frames and ledgers read from the world after the command
abbrev pub reply_lines : World → Reply → List (List ℕ)
reply_lines w Done = line (codes "ok" ∷ []) ∷ []
reply_lines w Frame = header_line w ∷ map {A = Particle} {B = List ℕ} place_line w.particles
reply_lines w Ledger = map {A = NamedSum} {B = List ℕ} named_line (ledger_sums w)
reply_lines w (Refused r) = refusal_line r ∷ []

-- the first line of a frame, a place and a sum, each with the same bytes before it
abbrev pub header_after : List ℕ → World → List ℕ
header_after prefix w = prefix ++ header_line w

abbrev pub place_after : List ℕ → Particle → List ℕ
place_after prefix p = prefix ++ place_line p

abbrev pub sum_after : List ℕ → NamedSum → List ℕ
sum_after prefix s = prefix ++ named_line s

-- lines, each with the same bytes before it
abbrev pub each_after : List ℕ → List (List ℕ) → List ℕ
each_after prefix lines = flat_map (λ l. prefix ++ l) lines

-- the lines of a reply, each with the same bytes before it
unfoldable pub text_after : List ℕ → World → Reply → List ℕ
text_after prefix w r = each_after prefix (reply_lines w r)
