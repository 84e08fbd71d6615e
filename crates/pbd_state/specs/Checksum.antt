-- A checksum of a world in 64 bits: its numbers as words of 64 bits, folded modulo 2^64.
use Rattle.std.specs.Prelude.{ℕ, ◌+◌, ◌*◌, ◌/◌, ◌%◌, ◌^◌, ℤ, Bool, List, [], ◌∷◌, ◌++◌, map, if◌then◌else◌}
use Rattle.std.specs.Int.{w64, w128, cast_unsigned}
use Rattle.std.specs.List.{flat_map}
use Rattle.pbd_num.specs.declared.Vec3.{Vec3}
use Rattle.pbd_world.specs.declared.parts.Particle.{Particle}
use Rattle.pbd_world.specs.declared.parts.Link.{Link}
use Rattle.pbd_world.specs.Ledger.{Sum, Ledger}
use Rattle.pbd_world.specs.World.{World}

-- ---- the words of a world

abbrev pub flag_word : Bool → ℕ
flag_word flag = if flag then 1 else 0

-- signed numbers as two's complement
unfoldable pub vector_words : Vec3 → List ℕ
vector_words v = cast_unsigned w64 v.x ∷ cast_unsigned w64 v.y ∷ cast_unsigned w64 v.z ∷ []

-- of 128 bits, the upper half first
unfoldable pub wide_words : ℤ → List ℕ
wide_words z = cast_unsigned w128 z / 2 ^ 64 ∷ cast_unsigned w128 z % 2 ^ 64 ∷ []

unfoldable pub sum_words : Sum → List ℕ
sum_words s = wide_words s.x ++ wide_words s.y ++ wide_words s.z

-- both places of a particle, and whether it is held
unfoldable pub particle_words : Particle → List ℕ
particle_words p = vector_words p.at ++ vector_words p.before ++ flag_word p.held ∷ []

abbrev pub live_word : Link → ℕ
live_word l = flag_word l.live

unfoldable pub totals_words : Ledger → List ℕ
totals_words t =
    sum_words t.gravity
    ++ sum_words t.damping
    ++ sum_words t.link
    ++ sum_words t.contact
    ++ sum_words t.shape
    ++ sum_words t.pin

-- all that commands change: the particles, which links are live, the steps, gravity, the contacts and the totals
unfoldable pub words : World → List ℕ
words w =
    flat_map particle_words w.particles
    ++ map live_word w.links
    ++ w.steps ∷ vector_words w.gravity
    ++ w.contacts ∷ totals_words w.totals

-- ---- folding

-- that of Knuth's MMIX
abbrev pub multiplier : ℕ
multiplier = 6364136223846793005

-- a checksum with one word more
unfoldable pub with_word : ℕ → ℕ → ℕ
with_word sum word = (sum * multiplier + word) % 2 ^ 64

-- with more words, one after the other
unfoldable pub with_words : ℕ → List ℕ → ℕ
with_words sum [] = sum
with_words sum (word ∷ more) = with_words (with_word sum word) more

unfoldable pub checksum : World → ℕ
checksum w = with_words 0 (words w)
