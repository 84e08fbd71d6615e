-- The lines that a reply prints.
use Rattle.std.specs.Prelude.{ℕ, codes, decimal, List, [], ◌∷◌, ◌++◌, length}
use Rattle.std.specs.List.{flat_map}
use Rattle.std.specs.Fmt.{signed_decimal}
use Rattle.pbd_world.specs.declared.parts.Particle.{Particle}
use Rattle.pbd_world.specs.declared.command.Phase.{Phase}
use Rattle.pbd_world.specs.declared.command.Phase.TheVariants.{Predict, Link, Contact, Shape}
use Rattle.pbd_world.specs.declared.command.Refusal.{Refusal}
use Rattle.pbd_world.specs.declared.command.Refusal.TheVariants.{BadCommand, NoParticle, NoLink, LinkGone, OutOfRange, NotHeld, Held}
use Rattle.pbd_world.specs.declared.command.Refusal.TheVariants.{Tracked, BadCount, StepLimit, LeavesRange, TooManyContacts}
use Rattle.pbd_world.specs.declared.command.Reply.{Reply}
use Rattle.pbd_world.specs.declared.command.Reply.TheVariants as replies
use Rattle.pbd_world.specs.Ledger.{Sum}
use Rattle.pbd_world.specs.Momentum.{momentum}
use Rattle.pbd_world.specs.World.{World, live_count}

-- words with one space between two of them, and a newline at the end
abbrev pub line : List (List ℕ) → List ℕ
line [] = 10 ∷ []
line (word ∷ []) = word ++ 10 ∷ []
line (word ∷ next ∷ words) = word ++ 32 ∷ line (next ∷ words)

-- ---- a frame

unfoldable pub place_line : Particle → List ℕ
place_line p = line (signed_decimal p.at.x ∷ signed_decimal p.at.y ∷ signed_decimal p.at.z ∷ [])

-- the step count, and the numbers of particles, live links and contacts
unfoldable pub header_line : World → List ℕ
header_line w =
    line (codes "frame" ∷ decimal w.steps ∷ decimal (length w.particles) ∷ decimal (live_count w.links) ∷ decimal w.contacts ∷ [])

abbrev pub frame_text : World → List ℕ
frame_text w = header_line w ++ flat_map place_line w.particles

-- ---- a ledger

unfoldable pub sum_line : List ℕ → Sum → List ℕ
sum_line name s = line (codes "ledger" ∷ name ∷ signed_decimal s.x ∷ signed_decimal s.y ∷ signed_decimal s.z ∷ [])

abbrev pub ledger_text : World → List ℕ
ledger_text w =
    sum_line (codes "momentum") (momentum w.particles)
    ++ sum_line (codes "opening") w.opening
    ++ sum_line (codes "gravity") w.totals.gravity
    ++ sum_line (codes "damping") w.totals.damping
    ++ sum_line (codes "link") w.totals.link
    ++ sum_line (codes "contact") w.totals.contact
    ++ sum_line (codes "pin") w.totals.pin
    ++ sum_line (codes "shape") w.totals.shape

-- ---- a refusal

abbrev pub phase_name : Phase → List ℕ
phase_name Predict = codes "predict"
phase_name Link = codes "link"
phase_name Contact = codes "contact"
phase_name Shape = codes "shape"

-- the number and name of a refusal, and where the step was refused
abbrev pub refusal_words : Refusal → List (List ℕ)
refusal_words BadCommand = codes "1" ∷ codes "BadCommand" ∷ []
refusal_words NoParticle = codes "2" ∷ codes "NoParticle" ∷ []
refusal_words NoLink = codes "3" ∷ codes "NoLink" ∷ []
refusal_words LinkGone = codes "4" ∷ codes "LinkGone" ∷ []
refusal_words OutOfRange = codes "5" ∷ codes "OutOfRange" ∷ []
refusal_words NotHeld = codes "6" ∷ codes "NotHeld" ∷ []
refusal_words Held = codes "7" ∷ codes "Held" ∷ []
refusal_words Tracked = codes "8" ∷ codes "Tracked" ∷ []
refusal_words BadCount = codes "9" ∷ codes "BadCount" ∷ []
refusal_words StepLimit = codes "10" ∷ codes "StepLimit" ∷ []
refusal_words (LeavesRange step phase element) =
    codes "11" ∷ codes "LeavesRange" ∷ codes "step" ∷ decimal step
    ∷ codes "phase" ∷ phase_name phase ∷ codes "element" ∷ decimal element ∷ []
refusal_words (TooManyContacts step) = codes "12" ∷ codes "TooManyContacts" ∷ codes "step" ∷ decimal step ∷ []

unfoldable pub refusal_line : Refusal → List ℕ
refusal_line r = line (codes "refused" ∷ refusal_words r)

-- the lines of a reply, with frames and ledgers read from the world after the command
unfoldable pub text : World → Reply → List ℕ
text w replies.Done = line (codes "ok" ∷ [])
text w replies.Frame = frame_text w
text w replies.Ledger = ledger_text w
text w (replies.Refused r) = refusal_line r
