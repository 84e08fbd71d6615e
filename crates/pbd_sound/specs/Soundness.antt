-- The first of a world that can't be in a sound one.
use Rattle.std.specs.Prelude.{ℕ, ◌+◌, ◌*◌, ◌^◌, nat_le, nat_lt, ◌==◌, ℤ, pos, unsigned_abs, Bool, true, false, not, ◌&&◌, List, [], ◌∷◌}
use Rattle.std.specs.Prelude.{Option, Some, None, Result, Ok, Err, if◌then◌else◌}
use Rattle.std.specs.Ordering.{int_eq}
use Rattle.pbd_num.specs.declared.Vec3.{Vec3}
use Rattle.pbd_num.specs.Vectors.{is_within}
use Rattle.pbd_world.specs.declared.parts.Particle.{Particle}
use Rattle.pbd_world.specs.declared.parts.Track.{Track}
use Rattle.pbd_world.specs.declared.totals.Class.{Class}
use Rattle.pbd_world.specs.declared.totals.Class.TheVariants as classes
use Rattle.pbd_world.specs.Ledger.{Sum, Ledger, both_sums, all_totals}
use Rattle.pbd_world.specs.Momentum.{momentum}
use Rattle.pbd_world.specs.Outcomes.{◌>>=◌, unless}
use Rattle.pbd_world.specs.Particles.{particle_at}
use Rattle.pbd_world.specs.Valid.{is_at_rest}
use Rattle.pbd_world.specs.World.{World, is_tracked}
use Rattle.pbd_sound.specs.declared.described.Unsound.{Unsound}
use Rattle.pbd_sound.specs.declared.described.Unsound.TheVariants as faults

-- nothing, or what is unsound
abbrev pub Checked : Type 0
Checked = Result (Unit {0}) Unsound

-- the fault of the first test that holds, if there is one
abbrev pub faultless : List (Bool × Unsound) → Checked
faultless tests = unless {A = Unit {0}} tests tt

-- the number of the first item of which the test holds, where they are numbered from n on
abbrev pub first_where : {A : Type 0} → ℕ → (ℕ → A → Bool) → List A → Option ℕ
first_where n test [] = None
first_where n test (x ∷ xs) = if test n x then Some n else first_where (n + 1) test xs

-- the fault of a number, if there is one
abbrev pub without : (ℕ → Unsound) → Option ℕ → Checked
without fault None = Ok tt
without fault (Some i) = Err (fault i)

-- ---- steps, gravity and particles

unfoldable pub counts_checked : ℤ → ℕ → Vec3 → Checked
counts_checked limit steps gravity =
    faultless ((nat_lt 1000000 steps, faults.Steps) ∷ (not (is_within limit gravity), faults.Gravity) ∷ [])

abbrev pub is_outside : ℤ → ℕ → Particle → Bool
is_outside limit i p = not (is_within limit p.at)

abbrev pub was_outside : ℤ → ℕ → Particle → Bool
was_outside limit i p = not (is_within limit p.before)

-- a particle that a track names isn't held, or another is held and not at rest
abbrev pub is_held_wrongly : List Track → ℕ → Particle → Bool
is_held_wrongly tracks i p = if is_tracked tracks i then not p.held else (p.held && not (is_at_rest p))

unfoldable pub particles_checked : ℤ → List Track → List Particle → Checked
particles_checked limit tracks ps =
    without faults.Place (first_where 0 (is_outside limit) ps) >>= λ at.
    without faults.Before (first_where 0 (was_outside limit) ps) >>= λ before.
    without faults.Held (first_where 0 (is_held_wrongly tracks) ps)

-- ---- the ledger

abbrev pub weighs_otherwise : ℕ → ℕ → Particle → Bool
weighs_otherwise weight i p = not (p.weight == weight)

abbrev pub is_none : Option ℕ → Bool
is_none None = true
is_none (Some i) = false

-- all particles weigh the same
unfoldable pub weigh_alike : List Particle → Bool
weigh_alike ps = is_none (first_where 0 (weighs_otherwise (particle_at ps 0).weight) ps)

-- each axis is at most `most` in size
abbrev pub is_sum_within : ℕ → Sum → Bool
is_sum_within most s = nat_le (unsigned_abs s.x) most && nat_le (unsigned_abs s.y) most && nat_le (unsigned_abs s.z) most

abbrev pub total_checked : Class → ℕ → Sum → Checked
total_checked class most s = faultless ((not (is_sum_within most s), faults.Total class) ∷ [])

-- the totals that steps alone change: each is at most `most` in size, that of damping `damped`, and those of bonds `bonded`
unfoldable pub totals_checked : ℕ → ℕ → ℕ → Ledger → Checked
totals_checked most damped bonded t =
    total_checked classes.Gravity most t.gravity >>= λ gravity.
    total_checked classes.Damping damped t.damping >>= λ damping.
    total_checked classes.Link bonded t.link >>= λ link.
    total_checked classes.Contact bonded t.contact >>= λ contact.
    total_checked classes.Shape most t.shape

abbrev pub is_same_sum : Sum → Sum → Bool
is_same_sum s t = int_eq s.x t.x && int_eq s.y t.y && int_eq s.z t.z

-- the momentum is the opening momentum and the six totals together
unfoldable pub is_balanced : Sum → Ledger → List Particle → Bool
is_balanced opening t ps = is_same_sum (momentum ps) (both_sums opening (all_totals t))

-- how far a total may have grown: by 2^64 in each step, and not at all where no step changes it
abbrev pub most_unless : Bool → ℕ → ℕ
most_unless still steps = if still then 0 else 2 ^ 64 * steps

unfoldable pub ledger_checked : ℕ → ℤ → ℕ → Sum → Ledger → List Particle → Checked
ledger_checked steps damping contacts opening t ps =
    faultless ((nat_lt 262144 contacts, faults.Contacts) ∷ []) >>= λ few.
    totals_checked (2 ^ 64 * steps) (most_unless (int_eq damping (pos 0)) steps) (most_unless (weigh_alike ps) steps) t >>= λ bounded.
    faultless ((not (is_balanced opening t ps), faults.Total classes.Pin) ∷ [])

-- ---- all of it

-- nothing, or the first that is unsound of a world that is told on a sound one of its scene
unfoldable pub soundness : World → Checked
soundness w =
    counts_checked w.limit w.steps w.gravity >>= λ counts.
    particles_checked w.limit w.tracks w.particles >>= λ particles.
    ledger_checked w.steps w.damping w.contacts w.opening w.totals w.particles
