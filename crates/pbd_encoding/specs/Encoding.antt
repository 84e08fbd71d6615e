-- The bytes of a world: all of it that commands change, number by number.
use Rattle.std.specs.Prelude.{ℕ, ◌+◌, ◌*◌, ℤ, Bool, List, [], ◌∷◌, ◌++◌, length, if◌then◌else◌}
use Rattle.std.specs.Int.{w128, cast_unsigned}
use Rattle.std.specs.List.{flat_map}
use Rattle.pbd_world.specs.declared.parts.Particle.{Particle}
use Rattle.pbd_world.specs.declared.parts.Link.{Link}
use Rattle.pbd_world.specs.Ledger.{Sum, Ledger}
use Rattle.pbd_world.specs.World.{World}
use Rattle.pbd_log.specs.Entries.{number_bytes, vector_bytes}

-- a signed number in sixteen bytes, as two's complement
unfoldable pub wide_bytes : ℤ → List ℕ
wide_bytes z = number_bytes 16 (cast_unsigned w128 z)

unfoldable pub sum_bytes : Sum → List ℕ
sum_bytes s = wide_bytes s.x ++ wide_bytes s.y ++ wide_bytes s.z

abbrev pub flag_bytes : Bool → List ℕ
flag_bytes flag = (if flag then 1 else 0) ∷ []

-- the name of the format, and its version
abbrev pub name : List ℕ
name = 80 ∷ 66 ∷ 68 ∷ 83 ∷ 84 ∷ 65 ∷ 84 ∷ 1 ∷ []

-- what is the same for all worlds of a scene: the name, 32 bytes that name the scene, how many particles and links there are,
-- and the opening momentum
unfoldable pub header_bytes : List ℕ → ℕ → ℕ → Sum → List ℕ
header_bytes scene n m opening = name ++ scene ++ number_bytes 4 n ++ number_bytes 4 m ++ sum_bytes opening

abbrev pub header_of : List ℕ → World → List ℕ
header_of scene w = header_bytes scene (length w.particles) (length w.links) w.opening

-- the header, the steps and gravity
unfoldable pub head_bytes : List ℕ → World → List ℕ
head_bytes scene w = header_of scene w ++ number_bytes 8 w.steps ++ vector_bytes w.gravity

abbrev pub at_bytes : Particle → List ℕ
at_bytes p = vector_bytes p.at

abbrev pub before_bytes : Particle → List ℕ
before_bytes p = vector_bytes p.before

abbrev pub held_bytes : Particle → List ℕ
held_bytes p = flag_bytes p.held

abbrev pub live_bytes : Link → List ℕ
live_bytes l = flag_bytes l.live

-- the contacts of the last step, and the six totals in two halves
unfoldable pub first_totals_bytes : ℕ → Ledger → List ℕ
first_totals_bytes contacts t = number_bytes 4 contacts ++ sum_bytes t.gravity ++ sum_bytes t.damping ++ sum_bytes t.link

unfoldable pub last_totals_bytes : Ledger → List ℕ
last_totals_bytes t = sum_bytes t.contact ++ sum_bytes t.shape ++ sum_bytes t.pin

-- the bytes of a world: the head, all places, all places before, which particles are held, which links are live, the contacts
-- and the totals
unfoldable pub state_bytes : List ℕ → World → List ℕ
state_bytes scene w =
    head_bytes scene w
    ++ flat_map at_bytes w.particles
    ++ flat_map before_bytes w.particles
    ++ flat_map held_bytes w.particles
    ++ flat_map live_bytes w.links
    ++ first_totals_bytes w.contacts w.totals
    ++ last_totals_bytes w.totals

-- how many bytes a world with n particles and m links has
abbrev pub state_size : ℕ → ℕ → ℕ
state_size n m = 420 + 49 * n + m
