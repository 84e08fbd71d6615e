-- The bytes of a scene: all of a world that no command changes, number by number.
use Rattle.std.specs.Prelude.{ℕ, ◌<◌, ◌^◌, List, [], ◌∷◌, ◌++◌, length}
use Rattle.std.specs.List.{flat_map}
use Rattle.pbd_world.specs.declared.parts.Particle.{Particle}
use Rattle.pbd_world.specs.declared.parts.Link.{Link}
use Rattle.pbd_world.specs.declared.parts.Kind.{Kind}
use Rattle.pbd_world.specs.declared.parts.Kind.TheVariants.{Stretch, Shear, Bend, Plain}
use Rattle.pbd_world.specs.declared.parts.Key.{Key}
use Rattle.pbd_world.specs.declared.parts.Track.{Track}
use Rattle.pbd_world.specs.declared.parts.Plane.{Plane}
use Rattle.pbd_world.specs.declared.parts.Sphere.{Sphere}
use Rattle.pbd_world.specs.declared.parts.ShapeLists.{ShapeLists}
use Rattle.pbd_world.specs.Ledger.{Sum}
use Rattle.pbd_world.specs.World.{World}
use Rattle.pbd_log.specs.Entries.{number_bytes, signed_bytes, vector_bytes}
use Rattle.pbd_encoding.specs.declared.scene.Settings.{Settings}
use Rattle.pbd_encoding.specs.Encoding.{sum_bytes}

-- how many items there are, and the bytes of each
abbrev pub listed : {A : Type 0} → (A → List ℕ) → List A → List ℕ
listed bytes items = number_bytes 4 (length items) ++ flat_map bytes items

abbrev pub settings_of : World → Settings
settings_of w = record { limit = w.limit; passes = w.passes; damping = w.damping; thickness = w.thickness; friction = w.friction }

-- the settings and the opening momentum
unfoldable pub scene_head_bytes : Settings → Sum → List ℕ
scene_head_bytes s opening =
    signed_bytes s.limit
    ++ number_bytes 4 s.passes
    ++ signed_bytes s.damping
    ++ signed_bytes s.thickness
    ++ signed_bytes s.friction
    ++ sum_bytes opening

abbrev pub weight_bytes : Particle → List ℕ
weight_bytes p = number_bytes 2 p.weight

abbrev pub kind_number : Kind → ℕ
kind_number Stretch = 0
kind_number Shear = 1
kind_number Bend = 2
kind_number Plain = 3

unfoldable pub link_bytes : Link → List ℕ
link_bytes l =
    number_bytes 4 l.a ++ number_bytes 4 l.b ++ signed_bytes l.rest ++ number_bytes 2 l.k ++ signed_bytes l.tear ++ kind_number l.kind ∷ []

unfoldable pub key_bytes : Key → List ℕ
key_bytes key = number_bytes 4 key.step ++ vector_bytes key.place

abbrev pub track_bytes : Track → List ℕ
track_bytes track = number_bytes 4 track.particle ++ listed key_bytes track.keys

unfoldable pub plane_bytes : Plane → List ℕ
plane_bytes plane = vector_bytes plane.normal ++ signed_bytes plane.offset

unfoldable pub sphere_bytes : Sphere → List ℕ
sphere_bytes sphere = vector_bytes sphere.centre ++ signed_bytes sphere.radius

-- four bytes can count the shapes of each kind
abbrev pub AreFewShapes : ShapeLists → Type 0
AreFewShapes lists = (length lists.planes < 2 ^ 32) × (length lists.spheres < 2 ^ 32)

-- the planes, then the spheres
unfoldable pub shape_bytes : ShapeLists → List ℕ
shape_bytes lists = listed plane_bytes lists.planes ++ listed sphere_bytes lists.spheres

-- the bytes of a world's scene: the settings, the opening momentum, the weights, the links, the tracks and the shapes
unfoldable pub scene_bytes : World → List ℕ
scene_bytes w =
    scene_head_bytes (settings_of w) w.opening
    ++ listed weight_bytes w.particles
    ++ listed link_bytes w.links
    ++ listed track_bytes w.tracks
    ++ shape_bytes w.shapes
