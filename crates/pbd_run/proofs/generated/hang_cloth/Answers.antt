use Rattle.std.proofs.Common.{◌≡◌, refl, ℕ, ◌≤◌, List, length, arith}
use Rattle.std.specs.Prelude.{IsTrue}
use Rattle.std.specs.List.{list_all}
use Rattle.pbd_mesh.specs.declared.spec.ClothSpec.{ClothSpec}
use Rattle.pbd_mesh.specs.Cloth.{with_cloth}
use Rattle.pbd_world.specs.declared.parts.Particle.{Particle}
use Rattle.pbd_world.specs.declared.parts.Parts.{Parts}
use Rattle.pbd_outcome.specs.Generated.{all_set_off, bare_parts, generated, is_near, level_cloth, words_of}
use Rattle.pbd_run.proofs.GeneratedLaws.{all_near, few_particles, level_fits, square_few}
use Rattle.pbd_run.proofs.generated.hang_cloth.Goals as goal

-- the cloth hangs in the bare parts, and its particles were read
record Hangs (size : ℕ) (new : Parts) (seen : List Particle) : Type 0 where
  made : new ≡ with_cloth (bare_parts size) (level_cloth size)
  read : seen ≡ new.particles

hangs : (size : ℕ) (parts new : Parts) (spec : ClothSpec) (seen : List Particle) → parts ≡ bare_parts size → spec ≡ level_cloth size
    → new ≡ with_cloth parts spec → seen ≡ new.particles → Hangs size new seen
hangs size parts new spec seen bare level made read = record { made = rw (bare, level) at made; read = read }

few_seen : (size : ℕ) (new : Parts) (seen : List Particle) → size ≤ 128 → Hangs size new seen → length seen ≤ 65536
few_seen size new seen high is = rw (is.read, is.made) (few_particles size high)

near_seen : (size : ℕ) (new : Parts) (seen : List Particle) → size ≤ 128 → Hangs size new seen → IsTrue (list_all is_near seen)
near_seen size new seen high is = rw (is.read, is.made) (all_near size high)

hung_and_set_off : (number size : ℕ) (new : Parts) (seen ps : List Particle) → Hangs size new seen → ps ≡ all_set_off size 0 (words_of number) seen
    → record new { particles = ps } ≡ generated number size
unfolding generated
hung_and_set_off number size new seen ps is set = rw (set, is.read, is.made) refl

pub cloth-requires-clause-fits : goal.cloth-requires-clause-fits
cloth-requires-clause-fits c = rw (c.level_cloth.ensures, c.requires.bare) (level_fits c.args.size c.requires.low c.requires.high)

pub cloth-requires-clause-limit : goal.cloth-requires-clause-limit
cloth-requires-clause-limit c = rw c.requires.bare refl

pub cloth-requires-clause-particles : goal.cloth-requires-clause-particles
cloth-requires-clause-particles c = rw (c.level_cloth.ensures, c.requires.bare) (omega (arith, square_few c.args.size c.requires.high))

pub all_set_off-requires-clause-few : goal.all_set_off-requires-clause-few
all_set_off-requires-clause-few c = few_seen c.args.size c.cloth.new.parts c.as_slice.result.now c.requires.high
    (hangs c.args.size c.args.parts.now c.cloth.new.parts c.level_cloth.result c.as_slice.result.now c.requires.bare c.level_cloth.ensures
    c.in_ok-cloth.ensures.ok c.as_slice.ensures)

pub all_set_off-requires-clause-near : goal.all_set_off-requires-clause-near
all_set_off-requires-clause-near c = near_seen c.args.size c.cloth.new.parts c.as_slice.result.now c.requires.high
    (hangs c.args.size c.args.parts.now c.cloth.new.parts c.level_cloth.result c.as_slice.result.now c.requires.bare c.level_cloth.ensures
    c.in_ok-cloth.ensures.ok c.as_slice.ensures)

pub returns : goal.returns
returns c =
    let hung = hangs c.args.size c.args.parts.now c.cloth.new.parts c.level_cloth.result c.as_slice.result.now c.requires.bare
    c.level_cloth.ensures c.in_ok-cloth.ensures.ok c.as_slice.ensures in
    hung_and_set_off c.args.number c.args.size c.cloth.new.parts c.as_slice.result.now c.in_ok-parts.field-0 hung c.in_ok-parts.ensures
