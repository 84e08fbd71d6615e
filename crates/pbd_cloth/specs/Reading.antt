-- What is copied into a caller's memory.
use Rattle.std.specs.Prelude.{ℕ, Bool, not, ◌&&◌, if◌then◌else◌, List, length, map, filter, Option}
use Rattle.std.specs.List.{position, range_with_len}
use Rattle.pbd_num.specs.declared.Vec3.{Vec3}
use Rattle.pbd_world.specs.declared.parts.Particle.{Particle}
use Rattle.pbd_world.specs.declared.parts.Link.{Link}
use Rattle.pbd_world.specs.Bonds.{link_at}
use Rattle.pbd_world.specs.Colours.{joins}
use Rattle.pbd_world.specs.World.{World}
use Rattle.pbd_encoding.specs.Scene.{kind_number}
use Rattle.pbd_cloth.specs.declared.place.Place.{Place}
use Rattle.pbd_cloth.specs.declared.entry.LinkEntry.{LinkEntry}

-- ---- places

abbrev pub place_of : Vec3 → Place
place_of v = record { x = v.x; y = v.y; z = v.z }

abbrev pub place_now : Particle → Place
place_now p = place_of p.at

abbrev pub place_before : Particle → Place
place_before p = place_of p.before

abbrev pub places : World → List Place
places w = map {A = Particle} {B = Place} place_now w.particles

abbrev pub places_before : World → List Place
places_before w = map {A = Particle} {B = Place} place_before w.particles

-- a 1 for each held particle
abbrev pub held_byte : Particle → ℕ
held_byte p = if p.held then 1 else 0

abbrev pub held_bytes : World → List ℕ
held_bytes w = map held_byte w.particles

-- ---- links

abbrev pub live_byte : Link → ℕ
live_byte l = if l.live then 1 else 0

-- a 1 for each live link
abbrev pub live_bytes : World → List ℕ
live_bytes w = map live_byte w.links

abbrev pub link_entry : Link → LinkEntry
link_entry l = record {
  rest = l.rest;
  tear = l.tear;
  a = l.a;
  b = l.b;
  stiffness = l.k;
  kind = kind_number l.kind;
  live = live_byte l;
}

abbrev pub link_entries : World → List LinkEntry
link_entries w = map link_entry w.links

-- a link joins two particles, in either order
abbrev pub joins_ends : ℕ → ℕ → Link → Bool
joins_ends a b l = joins (l.a, l.b) a b

-- the first link that joins them: no other one does
abbrev pub link_between : World → ℕ → ℕ → Option ℕ
link_between w a b = position {X = Link} (joins_ends a b) w.links

-- link i was live and is so no longer
abbrev pub has_gone : List Link → List Link → ℕ → Bool
has_gone earlier later i = (link_at earlier i).live && not (link_at later i).live

-- the numbers of the links that were live and are so no longer, ascending
unfoldable pub gone_numbers : List Link → List Link → List ℕ
gone_numbers earlier later = filter (has_gone earlier later) (range_with_len 0 (length later))

abbrev pub gone_since : World → World → List ℕ
gone_since v w = gone_numbers v.links w.links
