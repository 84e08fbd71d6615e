-- Worked rows: what the definitions compute for small scenes.
use Rattle.std.specs.Prelude.{◌≡◌, refl, ℕ, ℤ, pos, neg_ℤ, Bool, true, false, List, [], ◌∷◌, ◌++◌, codes}
use Rattle.std.specs.List.{flat_map, AllByRecursion}
use Rattle.std.specs.Fmt.{digits}
use Rattle.pbd_num.specs.declared.Vec3.{Vec3}
use Rattle.pbd_num.specs.Rounding.{rdiv, root}
use Rattle.pbd_num.specs.PairMove.{pair_moves}
use Rattle.pbd_world.specs.declared.parts.Particle.{Particle}
use Rattle.pbd_world.specs.declared.parts.Link.{Link}
use Rattle.pbd_world.specs.declared.parts.Kind.TheVariants.{Plain}
use Rattle.pbd_world.specs.declared.parts.Plane.{Plane}
use Rattle.pbd_world.specs.declared.parts.Sphere.{Sphere}
use Rattle.pbd_world.specs.declared.parts.Key.{Key}
use Rattle.pbd_world.specs.declared.parts.Track.{Track}
use Rattle.pbd_world.specs.declared.parts.Parts.{Parts}
use Rattle.pbd_world.specs.declared.command.Command.{Command}
use Rattle.pbd_world.specs.declared.command.Command.TheVariants.{Step, Frame, Pin, Unpin, Move, Cut, Gravity, Ledger, Bad}
use Rattle.pbd_world.specs.World.{opened, no_parts}
use Rattle.pbd_world.specs.Bonds.{is_slack, shift_of, correction_of, one}
use Rattle.pbd_world.specs.Colours.{least_free, colours, colour, order}
use Rattle.pbd_world.specs.Contacts.{contacts_of}
use Rattle.pbd_world.specs.Shapes.{plane_shape, sphere_shape, shaped, rubbed}
use Rattle.pbd_world.specs.Tracks.{place_at}
use Rattle.pbd_world.specs.Step.{predict, pass, tear, step}
use Rattle.pbd_world.specs.Meaning.{meaning}
use Rattle.pbd_world.specs.Text.{place_line, header_line, sum_line, refusal_line, text}
use Rattle.pbd_world.specs.Session.{session_text}

-- ---- small words for scenes

abbrev v : ℤ → ℤ → ℤ → Vec3
v x y z = record { x = x; y = y; z = z }

abbrev at : ℕ → ℕ → ℕ → Vec3
at x y z = v (pos x) (pos y) (pos z)

abbrev particle : Vec3 → Vec3 → ℕ → Bool → Particle
particle at before weight held = record { at = at; before = before; weight = weight; held = held }

-- a free particle of weight 1 at rest
abbrev still : ℕ → ℕ → ℕ → Particle
still x y z = particle (at x y z) (at x y z) 1 false

-- the same, held
abbrev held : ℕ → ℕ → ℕ → Particle
held x y z = particle (at x y z) (at x y z) 1 true

abbrev link : ℕ → ℕ → ℤ → ℕ → ℤ → Link
link a b rest k tear = record { a = a; b = b; rest = rest; k = k; tear = tear; kind = Plain; live = true }

abbrev plane : Vec3 → ℤ → Plane
plane normal offset = record { normal = normal; offset = offset }

abbrev sphere : Vec3 → ℤ → Sphere
sphere centre radius = record { centre = centre; radius = radius }

abbrev key : ℕ → Vec3 → Key
key step place = record { step = step; place = place }

abbrev track : ℕ → List Key → Track
track particle keys = record { particle = particle; keys = keys }

-- a scene with nothing in it and one pass
abbrev empty : Parts
empty = no_parts (pos 536870912)

-- two particles joined by a link of 100
abbrev linked : Particle → Particle → Parts
linked first second = record empty { particles = first ∷ second ∷ []; links = link 0 1 (pos 100) 256 (pos 0) ∷ [] }

-- ---- what a session prints

-- the lines of a ledger: momentum, opening, gravity, damping, link, contact, pin and shape
abbrev ledger : List ℕ → List ℕ → List ℕ → List ℕ → List ℕ → List ℕ → List ℕ → List ℕ → List (List ℕ)
ledger m o g d l c p s =
    (codes "ledger momentum " ++ m) ∷ (codes "ledger opening " ++ o) ∷ (codes "ledger gravity " ++ g) ∷ (codes "ledger damping " ++ d)
    ∷ (codes "ledger link " ++ l) ∷ (codes "ledger contact " ++ c) ∷ (codes "ledger pin " ++ p) ∷ (codes "ledger shape " ++ s) ∷ []

-- a sum of nothing
abbrev none : List ℕ
none = codes "0 0 0"

record Row : Type 0 where
  scene : Parts
  script : List Command
  printed : List (List ℕ)

-- the session prints these lines, each with a newline
abbrev Prints : Row → Type 0
Prints row = session_text (opened row.scene) row.script ≡ flat_map (λ l. l ++ 10 ∷ []) row.printed

-- what a step prints, and a frame and the ledger after it
abbrev once : Parts → List (List ℕ) → List (List ℕ) → Row
once scene frame sums = record { scene = scene; script = Step 1 ∷ Frame ∷ Ledger ∷ []; printed = (codes "ok" ∷ frame) ++ sums }

-- free fall: each step adds gravity to the velocity
abbrev falls : Row
falls = record {
  scene = record empty {
    gravity = v (pos 0) (neg_ℤ (pos 10)) (pos 0);
    particles = still 0 1000 0 ∷ [];
  };
  script = Step 3 ∷ Frame ∷ [];
  printed =
      codes "ok" ∷ codes "frame 3 1 0 0" ∷ codes "0 940 0" ∷ [];
}

-- a link of 100 between two particles 105 apart: both move by half of what is too much, and the ledger sees nothing
abbrev link_pulls : Row
link_pulls = once (linked (still 0 0 0) (still 105 0 0)) (codes "frame 1 2 1 0" ∷ codes "3 0 0" ∷ codes "102 0 0" ∷ [])
    (ledger none none none none none none none none)

-- with one end held the other makes the whole move, which is booked as pin
abbrev link_one_held : Row
link_one_held = once (linked (held 0 0 0) (still 105 0 0)) (codes "frame 1 2 1 0" ∷ codes "0 0 0" ∷ codes "100 0 0" ∷ [])
    (ledger (codes "-5 0 0") none none none none none (codes "-5 0 0") none)

-- the end of weight 2 makes two thirds of the move
abbrev link_weights : Row
link_weights = once (linked (still 0 0 0) (particle (at 105 0 0) (at 105 0 0) 2 false))
    (codes "frame 1 2 1 0" ∷ codes "2 0 0" ∷ codes "102 0 0" ∷ [])
    (ledger (codes "-1 0 0") none none none (codes "-1 0 0") none none none)

-- half of the velocity 3 is lost, rounded away from zero
abbrev damping_halves : Row
damping_halves = once (record empty {
  damping = pos 512;
  particles = particle (at 0 0 0) (v (neg_ℤ (pos 3)) (pos 0) (pos 0)) 1 false ∷ [];
}) (codes "frame 1 1 0 0" ∷ codes "1 0 0" ∷ []) (ledger (codes "1 0 0") (codes "3 0 0") none (codes "-2 0 0") none none none none)

-- two contacts: the first parts its ends by 1 each, and the second then has no length
abbrev contacts_push : Row
contacts_push = record {
  scene = record empty {
    thickness = pos 100;
    particles = still 0 0 0 ∷ still 99 0 0 ∷ still 100 0 0 ∷ [];
  };
  script = Step 1 ∷ Frame ∷ [];
  printed =
      codes "ok" ∷ codes "frame 1 3 0 2" ∷ codes "-1 0 0" ∷ codes "100 0 0" ∷ codes "100 0 0" ∷ [];
}

-- out of a sphere along the radius, straight up from its centre, and not at all from its surface
abbrev sphere_pushes : Row
sphere_pushes = once (record empty {
  spheres = sphere (at 0 0 0) (pos 10) ∷ [];
  particles = still 3 4 0 ∷ still 0 0 0 ∷ still 10 0 0 ∷ [];
}) (codes "frame 1 3 0 0" ∷ codes "6 8 0" ∷ codes "0 10 0" ∷ codes "10 0 0" ∷ [])
    (ledger (codes "3 14 0") none none none none none none (codes "3 14 0"))

-- along the normal (1, 2, 2), as far as the place lacks
abbrev plane_pushes : Row
plane_pushes = once (record empty { planes = plane (at 1 2 2) (pos 20) ∷ []; particles = still 0 0 0 ∷ [] })
    (codes "frame 1 1 0 0" ∷ codes "2 4 4" ∷ []) (ledger (codes "2 4 4") none none none none none none (codes "2 4 4"))

-- half of the velocity that a shape gave is rubbed away
abbrev friction_half : Row
friction_half = record {
  scene = record empty {
    friction = pos 128;
    spheres = sphere (at 0 0 0) (pos 10) ∷ [];
    particles = still 3 4 0 ∷ still 0 0 0 ∷ still 10 0 0 ∷ [];
  };
  script = Step 1 ∷ Frame ∷ Ledger ∷ Step 1 ∷ Frame ∷ [];
  printed =
      (codes "ok" ∷ codes "frame 1 3 0 0" ∷ codes "6 8 0" ∷ codes "0 10 0" ∷ codes "10 0 0" ∷ [])
      ++ ledger (codes "1 7 0") none none none none none none (codes "1 7 0")
      ++ (codes "ok" ∷ codes "frame 2 3 0 0" ∷ codes "7 10 0" ∷ codes "0 15 0" ∷ codes "10 0 0" ∷ []);
}

-- ten steps that leave the range at the seventh keep the world
abbrev refused_at_seventh : Row
refused_at_seventh = record {
  scene = record empty {
    particles = particle (at 536870906 0 0) (at 536870905 0 0) 1 false ∷ [];
  };
  script = Step 10 ∷ Frame ∷ [];
  printed =
      codes "refused 11 LeavesRange step 7 phase predict element 0" ∷ codes "frame 0 1 0 0" ∷ codes "536870906 0 0" ∷ [];
}

-- a link tears at the end of its step, so its ends touch each other in the next
abbrev tear_then_contact : Row
tear_then_contact = record {
  scene = record empty {
    thickness = pos 100;
    passes = 0;
    particles = still 0 0 0 ∷ still 50 0 0 ∷ [];
    links = link 0 1 (pos 50) 256 (pos 40) ∷ [];
  };
  script = Step 1 ∷ Frame ∷ Step 1 ∷ Frame ∷ [];
  printed =
      codes "ok" ∷ codes "frame 1 2 0 0" ∷ codes "0 0 0" ∷ codes "50 0 0" ∷ codes "ok" ∷ codes "frame 2 2 0 1" ∷ codes "0 0 0"
      ∷ codes "50 0 0" ∷ [];
}

-- a track goes from key to key in thirds, rounded, and stays at its last key
abbrev tracks_move : Row
tracks_move = record {
  scene = record empty {
    particles = held 0 0 0 ∷ held 1 0 0 ∷ [];
    tracks = track 0 (key 0 (at 0 0 0) ∷ key 3 (at 10 0 0) ∷ []) ∷ track 1 (key 2 (at 5 0 0) ∷ []) ∷ [];
  };
  script = Frame ∷ Step 1 ∷ Frame ∷ Step 1 ∷ Frame ∷ Step 1 ∷ Frame ∷ Step 1 ∷ Frame ∷ Unpin 0 ∷ [];
  printed =
      codes "frame 0 2 0 0" ∷ codes "0 0 0" ∷ codes "1 0 0" ∷ codes "ok" ∷ codes "frame 1 2 0 0" ∷ codes "3 0 0" ∷ codes "5 0 0"
      ∷ codes "ok" ∷ codes "frame 2 2 0 0" ∷ codes "7 0 0" ∷ codes "5 0 0" ∷ codes "ok" ∷ codes "frame 3 2 0 0" ∷ codes "10 0 0"
      ∷ codes "5 0 0" ∷ codes "ok" ∷ codes "frame 4 2 0 0" ∷ codes "10 0 0" ∷ codes "5 0 0" ∷ codes "refused 8 Tracked" ∷ [];
}

-- commands that are refused, each for the first reason that applies
abbrev commands_refused : Row
commands_refused = record {
  scene = record empty {
    particles = particle (at 0 0 0) (v (neg_ℤ (pos 5)) (pos 0) (pos 0)) 1 false ∷ [];
  };
  script = Pin 0 ∷ Ledger ∷ Pin 0 ∷ Move 0 (at 1 2 3) ∷ Unpin 0 ∷ Unpin 0 ∷ Pin 9 ∷ Cut 0 ∷ Gravity (at 536870913 0 0) ∷ Step 0 ∷ Bad
      ∷ Frame ∷ [];
  printed =
      (codes "ok" ∷ [])
      ++ ledger none (codes "5 0 0") none none none none (codes "-5 0 0") none
      ++ (codes "refused 7 Held" ∷ codes "ok" ∷ codes "ok" ∷ codes "refused 6 NotHeld" ∷ codes "refused 2 NoParticle"
      ∷ codes "refused 3 NoLink" ∷ codes "refused 5 OutOfRange" ∷ codes "refused 9 BadCount" ∷ codes "refused 1 BadCommand"
      ∷ codes "frame 0 1 0 0" ∷ codes "1 2 3" ∷ []);
}

all_print : AllByRecursion Prints (falls ∷ link_pulls ∷ link_one_held ∷ link_weights ∷ damping_halves ∷ contacts_push ∷ sphere_pushes
    ∷ plane_pushes ∷ friction_half ∷ refused_at_seventh ∷ tear_then_contact ∷ tracks_move ∷ commands_refused ∷ [])
unfolding rdiv root pair_moves is_slack shift_of correction_of one least_free colours colour order contacts_of plane_shape sphere_shape
    shaped rubbed place_at predict pass tear step meaning place_line header_line sum_line refusal_line text session_text digits
all_print = (refl, (refl, (refl, (refl, (refl, (refl, (refl, (refl, (refl, (refl, (refl, (refl, (refl, tt)))))))))))))

-- the last step that a world may reach, and the refusal of the next
step_limit : session_text (record (opened empty) { steps = 999999 }) (Step 1 ∷ Step 1 ∷ [])
    ≡ flat_map (λ l. l ++ 10 ∷ []) (codes "ok" ∷ codes "refused 10 StepLimit" ∷ [])
unfolding rdiv root pair_moves is_slack shift_of correction_of one least_free colours colour order contacts_of plane_shape sphere_shape
    shaped rubbed place_at predict pass tear step meaning place_line header_line sum_line refusal_line text session_text digits
step_limit = refl

-- ---- colours

-- the pairs (0,1), (1,2), (2,3), (0,2)
abbrev square : List (ℕ × ℕ)
square = (0, 1) ∷ (1, 2) ∷ (2, 3) ∷ (0, 2) ∷ []

-- their colours, and the order that these give
square_colours : colours square (true ∷ true ∷ true ∷ true ∷ []) 4 ≡ 0 ∷ 1 ∷ 0 ∷ 2 ∷ []
unfolding least_free colours colour
square_colours = refl

square_order : order square (true ∷ true ∷ true ∷ true ∷ []) ≡ 0 ∷ 2 ∷ 1 ∷ 3 ∷ []
unfolding least_free colours colour order
square_order = refl

-- without (1,2), which blocks nobody any more
square_mended : order square (true ∷ false ∷ true ∷ true ∷ []) ≡ 0 ∷ 2 ∷ 3 ∷ []
unfolding least_free colours colour order
square_mended = refl
