-- Worlds of one scene agree in all that no command changes.
use Rattle.std.proofs.Common.{◌≡◌, sym, ap, ◌∙◌, ℕ, ◌<◌, List, length, map, get_or, arith}
use Rattle.std.proofs.lemmas.List.{get_or-map}
use Rattle.pbd_world.specs.declared.parts.Particle.{Particle}
use Rattle.pbd_world.specs.declared.parts.Link.{Link}
use Rattle.pbd_world.specs.Bonds.{link_at, no_link}
use Rattle.pbd_world.specs.Particles.{particle_at, no_particle}
use Rattle.pbd_world.specs.World.{World, AreOfOneScene}
use Rattle.pbd_world.proofs.SameShape.{blank, unlive, scene_particles, scene_links}

blank_at : (ps : List Particle) (i : ℕ) → i < length ps
    → get_or (map {A = Particle} {B = Particle} (λ p. blank p) ps) i (blank no_particle) ≡ blank (particle_at ps i)
blank_at ps i lt = get_or-map (λ (p : Particle). blank p) ps i no_particle (blank no_particle) lt

unlive_at : (ls : List Link) (i : ℕ) → i < length ls → get_or (map {A = Link} {B = Link} (λ l. unlive l) ls) i (unlive no_link)
    ≡ unlive (link_at ls i)
unlive_at ls i lt = get_or-map (λ (l : Link). unlive l) ls i no_link (unlive no_link) lt

pub same_weight : (w v : World) (i : ℕ) → AreOfOneScene w v → i < length w.particles
    → (particle_at v.particles i).weight ≡ (particle_at w.particles i).weight
same_weight w v i same lt =
    sym (ap (λ (p : Particle). p.weight) (blank_at v.particles i (omega (arith, lt, scene_particles w v same))))
    ∙ sym (ap (λ (u : World). (get_or u.particles i (blank no_particle)).weight) same)
    ∙ ap (λ (p : Particle). p.weight) (blank_at w.particles i lt)

pub same_link : (w v : World) (l : ℕ) → AreOfOneScene w v → l < length w.links → unlive (link_at v.links l) ≡ unlive (link_at w.links l)
same_link w v l same lt =
    sym (unlive_at v.links l (omega (arith, lt, scene_links w v same)))
    ∙ sym (ap (λ (u : World). get_or u.links l (unlive no_link)) same)
    ∙ unlive_at w.links l lt
