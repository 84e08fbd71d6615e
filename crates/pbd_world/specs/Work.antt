-- What commands may cost: how often they reach the particles, at most, to be added up by hand. One access reads or writes
-- a particle, a block of as many particles as the width says, or as many ends of bonds as count as side by side.
use Rattle.std.specs.Prelude.{ℕ, zero, suc, ◌+◌, ◌-◌, ◌*◌, ◌/◌, ◌==◌, ◌&&◌, nat_lt, pos, int_lt, unsigned_abs, if◌then◌else◌, Bool, true}
use Rattle.std.specs.Prelude.{List, [], ◌∷◌, length, map, filter, sum_by, Result, Ok, Err}
use Rattle.std.specs.List.{range_with_len}
use Rattle.pbd_world.specs.declared.parts.Link.{Link}
use Rattle.pbd_world.specs.declared.command.Command.{Command}
use Rattle.pbd_world.specs.declared.command.Command.TheVariants as commands
use Rattle.pbd_world.specs.declared.command.Refusal.{Refusal}
use Rattle.pbd_world.specs.declared.command.Reply.{Reply}
use Rattle.pbd_world.specs.declared.command.Reply.TheVariants as replies
use Rattle.pbd_world.specs.World.{World}
use Rattle.pbd_world.specs.Outcomes.{unless}
use Rattle.pbd_world.specs.Particles.{Motion}
use Rattle.pbd_world.specs.Colours.{colour, of_colour}
use Rattle.pbd_world.specs.Contacts.{contacts_of, link_pairs, live_flags}
use Rattle.pbd_world.specs.Shapes.{shapes_of}
use Rattle.pbd_world.specs.Step.{predict, step}
use Rattle.pbd_world.specs.Meaning.{Deed, deed, refusals, after, reply}
use Rattle.pbd_world.specs.Meaning.Edit.{OnParticle}
use Rattle.pbd_world.specs.Meaning.Deed.{Steps, Edits}

-- how many pieces of at most n items hold m items
abbrev pub pieces_of : ℕ → ℕ → ℕ
pieces_of m n = (m + n - 1) / n

-- how many blocks hold the particles
abbrev pub blocks_in : ℕ → World → ℕ
blocks_in width w = pieces_of (length w.particles) width

-- ---- bonds

-- how many live pairs have colour c
abbrev pub of_colour_count : List (ℕ × ℕ) → List Bool → ℕ → ℕ
of_colour_count pairs live c = length (of_colour live (colour pairs live) (length pairs) c)

-- the pairs of colour c as one batch: both ends of as many as count as side by side are read and written
abbrev pub colour_work : ℕ → List (ℕ × ℕ) → List Bool → ℕ → ℕ
colour_work lanes pairs live c = 4 * pieces_of (of_colour_count pairs live c) lanes

-- the pairs of n colours from c on
unfoldable pub colours_work : ℕ → List (ℕ × ℕ) → List Bool → ℕ → ℕ → ℕ
colours_work lanes pairs live c n = sum_by (colour_work lanes pairs live) (range_with_len c n)

-- all live pairs: each colour from 0 to 62 as one batch, and the serial pairs, of colour 63, one by one
unfoldable pub bonds_work : ℕ → List (ℕ × ℕ) → List Bool → ℕ
bonds_work lanes pairs live = colours_work lanes pairs live 0 63 + 4 * of_colour_count pairs live 63

-- the live links, and the contacts, all of which are live
abbrev pub links_work : ℕ → List Link → ℕ
links_work lanes links = bonds_work lanes (link_pairs links) (live_flags links)

abbrev pub contacts_work : ℕ → List (ℕ × ℕ) → ℕ
contacts_work lanes contacts = bonds_work lanes contacts (map (λ pair. true) contacts)

-- how many of the colours from 0 to 62 some live link has
unfoldable pub colours_used : List Link → ℕ
colours_used links = length (filter (λ c. nat_lt 0 (of_colour_count (link_pairs links) (live_flags links) c)) (range_with_len 0 63))

-- ---- a step

-- attaching and predicting: two accesses for each block, and one for each track
unfoldable pub beginning_work : ℕ → World → ℕ
beginning_work width w = 2 * blocks_in width w + length w.tracks

-- finding the contacts: each particle is read once where there is a thickness
unfoldable pub finding_work : World → ℕ
finding_work w = if unsigned_abs w.thickness == 0 then 0 else length w.particles

-- the shapes, where there are some: two accesses for each block
abbrev pub shapes_work : ℕ → World → ℕ
shapes_work width w = if length (shapes_of w.shapes) == 0 then 0 else 2 * blocks_in width w

-- one pass: the links, the contacts, the shapes
unfoldable pub pass_work : ℕ → ℕ → World → List (ℕ × ℕ) → ℕ
pass_work width lanes w contacts = links_work lanes w.links + contacts_work lanes contacts + shapes_work width w

-- friction, where there is some: two accesses for each block
abbrev pub friction_work : ℕ → World → ℕ
friction_work width w = if int_lt (pos 0) w.friction then 2 * blocks_in width w else 0

-- how many live links may tear
abbrev pub tearable_count : List Link → ℕ
tearable_count links = length (filter {X = Link} (λ l. l.live && int_lt (pos 0) l.tear) links)

-- friction and tearing: both ends of each live link that may tear are read
unfoldable pub settling_work : ℕ → World → ℕ
settling_work width w = friction_work width w + 2 * tearable_count w.links

-- the passes, friction and tearing
unfoldable pub finishing_work : ℕ → ℕ → World → List (ℕ × ℕ) → ℕ
finishing_work width lanes w contacts = w.passes * pass_work width lanes w contacts + settling_work width w

-- a step from w that finds these contacts: where they are too many, it is refused before its passes
unfoldable pub step_work : ℕ → ℕ → World → List (ℕ × ℕ) → ℕ
step_work width lanes w contacts =
    beginning_work width w + finding_work w + (if nat_lt 262144 (length contacts) then 0 else finishing_work width lanes w contacts)

abbrev pub found_after : World → Result Motion ℕ → List (ℕ × ℕ)
found_after w (Ok m) = contacts_of w.thickness w.links m.particles
found_after w (Err i) = []

-- the contacts that a step from w finds
unfoldable pub found_in : World → List (ℕ × ℕ)
found_in w = found_after w (predict w)

-- ---- steps and commands

abbrev pub work_from : (World → ℕ) → Result World Refusal → ℕ
work_from rest (Ok v) = rest v
work_from rest (Err refusal) = 0

-- n steps, up to the first that is refused, which counts too
unfoldable pub work_over : ℕ → ℕ → ℕ → World → ℕ
work_over width lanes zero w = 0
work_over width lanes (suc n) w = step_work width lanes w (found_in w) + work_from (work_over width lanes n) (step w)

-- a command of n steps, which costs nothing where it is refused before its first step
unfoldable pub steps_work : ℕ → ℕ → ℕ → World → ℕ
steps_work width lanes n w = work_from (work_over width lanes n) (unless (refusals w (commands.Step n)) w)

-- what is edited of a particle is read and written, and other edits and answers reach none
abbrev pub deed_work : ℕ → ℕ → World → Deed → ℕ
deed_work width lanes w (Steps n) = steps_work width lanes n w
deed_work width lanes w (Edits (OnParticle i change lost)) = 2
deed_work width lanes w deed = 0

unfoldable pub command_work : ℕ → ℕ → World → Command → ℕ
command_work width lanes w c = deed_work width lanes w (deed c)

-- printing a reply: a frame reads each particle once, and so does the momentum of a ledger
unfoldable pub reply_work : World → Reply → ℕ
reply_work w replies.Done = 0
reply_work w replies.Frame = length w.particles
reply_work w replies.Ledger = length w.particles
reply_work w (replies.Refused refusal) = 0

-- commands one after another, and what they print
unfoldable pub session_work : ℕ → ℕ → World → List Command → ℕ
session_work width lanes w [] = 0
session_work width lanes w (c ∷ cs) =
    command_work width lanes w c + reply_work (after w c) (reply w c)
    + session_work width lanes (after w c) cs
