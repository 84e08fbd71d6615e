-- What validity and the scene of a world see of links and particles.
use Rattle.std.proofs.Common.{◌≡◌, refl, sym, ap, ◌∙◌, ℕ, zero, suc, Bool, true, false, not, ◌&&◌, ◌||◌, List, [], ◌∷◌, length, map, ℤ, subst}
use Rattle.std.specs.Prelude.{IsTrue, cond, filter, nat_le, ◌==◌, slice_set as set}
use Rattle.std.specs.List.{AllByRecursion, AllZip, list_all, list_any, range_with_len}
use Rattle.std.proofs.lemmas.List.Elements.{All-from_recursion, recursion_from_All}
use Rattle.std.proofs.lemmas.Bool.{and_parts, and_from}
use Rattle.pbd_num.specs.declared.Vec3.{Vec3}
use Rattle.pbd_num.specs.Vectors.{zero_vector, is_within}
use Rattle.pbd_world.specs.declared.parts.Particle.{Particle}
use Rattle.pbd_world.specs.declared.parts.Link.{Link}
use Rattle.pbd_world.specs.declared.parts.Track.{Track}
use Rattle.pbd_world.specs.declared.parts.Parts.{Parts}
use Rattle.pbd_world.specs.Particles.{particle_at}
use Rattle.pbd_world.specs.Valid.{is_valid_particle, is_valid_link, none_twice, join_alike, links_at, are_valid_links, are_valid_tracks}
use Rattle.pbd_world.specs.Valid.{is_well_formed, are_tracked_held}
use Rattle.pbd_world.specs.World.{HaveWeight, World, AreOfOneScene}
use Rattle.pbd_world.specs.Bonds.{link_at}
use Rattle.pbd_world.specs.Step.{tear}
use Rattle.pbd_world.proofs.KeepingOn.{length-mapped}
use Rattle.pbd_world.proofs.WorldParts.{Formed, from_formed, IsFit, are_fit}

-- ---- links, whether live or not

abbrev pub unlive : Link → Link
unlive l = record l { live = false }

abbrev pub all_unlive : List Link → List Link
all_unlive links = map {A = Link} {B = Link} (λ l. record l { live = false }) links

any_alike : (l : Link) (ls : List Link) → list_any (join_alike (unlive l)) (all_unlive ls) ≡ list_any (join_alike l) ls
any_alike l [] = refl
any_alike l (m ∷ ls) = ap (λ b. join_alike l m || b) (any_alike l ls)

none_alike : (ls : List Link) → none_twice join_alike (all_unlive ls) ≡ none_twice join_alike ls
none_alike [] = refl
none_alike (l ∷ ls) = ap (λ b. not b && none_twice join_alike (all_unlive ls)) (any_alike l ls)
    ∙ ap (λ b. not (list_any (join_alike l) ls) && b) (none_alike ls)

filter_count : (b : Bool) (l m : Link) (ls ms : List Link) → length ls ≡ length ms
    → length (cond b (l ∷ ls) ls) ≡ length (cond b (m ∷ ms) ms)
filter_count true l m ls ms e = ap suc e
filter_count false l m ls ms e = e

at_same : (ls : List Link) (i : ℕ) → links_at (all_unlive ls) i ≡ links_at ls i
at_same [] i = refl
at_same (l ∷ ls) i = filter_count (l.a == i || l.b == i) (unlive l) l (filter (λ (m : Link). m.a == i || m.b == i) (all_unlive ls))
    (filter (λ (m : Link). m.a == i || m.b == i) ls) (at_same ls i)

all_valid : (limit : ℤ) (n : ℕ) (ls : List Link) → list_all (is_valid_link limit n) (all_unlive ls) ≡ list_all (is_valid_link limit n) ls
all_valid limit n [] = refl
all_valid limit n (l ∷ ls) = ap (λ b. is_valid_link limit n l && b) (all_valid limit n ls)

same_all : {A : Type 0} (p q : A → Bool) (xs : List A) → ((x : A) → p x ≡ q x) → list_all p xs ≡ list_all q xs
same_all p q [] h = refl
same_all p q (x ∷ xs) h = ap (λ b. b && list_all p xs) (h x) ∙ ap (λ b. q x && b) (same_all p q xs h)

valid_same : (limit : ℤ) (n : ℕ) (ls : List Link) → are_valid_links limit n (all_unlive ls) ≡ are_valid_links limit n ls
valid_same limit n ls =
    let many = length-mapped {A = Link} {B = Link} (λ l. record l { live = false }) ls in
    let counts = same_all (λ i. nat_le (links_at (all_unlive ls) i) 32) (λ i. nat_le (links_at ls i) 32) (range_with_len 0 n)
    (λ i. ap (λ k. nat_le k 32) (at_same ls i)) in
    ap (λ k. nat_le k 524288 && list_all (is_valid_link limit n) (all_unlive ls) && none_twice join_alike (all_unlive ls)
    && list_all (λ i. nat_le (links_at (all_unlive ls) i) 32) (range_with_len 0 n)) many
    ∙ ap (λ b. nat_le (length ls) 524288 && b && none_twice join_alike (all_unlive ls)
    && list_all (λ i. nat_le (links_at (all_unlive ls) i) 32) (range_with_len 0 n)) (all_valid limit n ls)
    ∙ ap (λ b. nat_le (length ls) 524288 && list_all (is_valid_link limit n) ls && b
    && list_all (λ i. nat_le (links_at (all_unlive ls) i) 32) (range_with_len 0 n)) (none_alike ls)
    ∙ ap (λ b. nat_le (length ls) 524288 && list_all (is_valid_link limit n) ls && none_twice join_alike ls && b) counts

-- links that differ in what is live alone are valid together
pub links_valid : (limit : ℤ) (n : ℕ) (ls ms : List Link) → all_unlive ms ≡ all_unlive ls → IsTrue (are_valid_links limit n ls)
    → IsTrue (are_valid_links limit n ms)
links_valid limit n ls ms e h = sym (valid_same limit n ms) ∙ ap (are_valid_links limit n) e ∙ valid_same limit n ls ∙ h

pub torn_same : (ps : List Particle) (ls : List Link) → all_unlive (tear ps ls) ≡ all_unlive ls
unfolding tear
torn_same ps [] = refl
torn_same ps (l ∷ ls) = ap (λ (ms : List Link). unlive l ∷ ms) (torn_same ps ls)

pub cut_same : (ls : List Link) (n : ℕ) → all_unlive (set ls n (record (link_at ls n) { live = false })) ≡ all_unlive ls
cut_same [] zero = refl
cut_same [] (suc n) = refl
cut_same (l ∷ ls) zero = refl
cut_same (l ∷ ls) (suc n) = ap (λ (ms : List Link). unlive l ∷ ms) (cut_same ls n)

-- what a step or a command changes of parts leaves them well-formed: as many particles, all in range, links that
-- differ in what is live alone, and a gravity within the limit
pub still_formed : (parts : Parts) (ps : List Particle) (ls : List Link) (g : Vec3) → Formed parts → length ps ≡ length parts.particles
    → AllByRecursion (IsFit parts.limit) ps → all_unlive ls ≡ all_unlive parts.links → IsTrue (is_within parts.limit g)
    → IsTrue (is_well_formed (record parts { particles = ps; links = ls; gravity = g }))
still_formed parts ps ls g form many fit same near =
    let counts = and_parts (nat_le (length parts.particles) 65536) (list_all (is_valid_particle parts.limit) parts.particles) form.particles in
    from_formed (record parts { particles = ps; links = ls; gravity = g }) (record {
      limit = form.limit;
      particles = and_from _ _ (ap (λ n. nat_le n 65536) many ∙ counts.0) (are_fit parts.limit ps fit);
      links = subst (λ (n : ℕ). IsTrue (are_valid_links parts.limit n ls)) (sym many)
          (links_valid parts.limit (length parts.particles) parts.links ls same form.links);
      shapes = form.shapes;
      tracks = subst (λ (n : ℕ). IsTrue (are_valid_tracks parts.limit n parts.tracks)) (sym many) form.tracks;
      gravity = near;
      numbers = form.numbers;
    })

-- ---- particles of one weight

abbrev SameWeight : Particle → Particle → Type 0
SameWeight p q = q.weight ≡ p.weight

abbrev pub blank : Particle → Particle
blank p = record p { at = zero_vector; before = zero_vector; held = false }

abbrev pub all_blank : List Particle → List Particle
all_blank ps = map {A = Particle} {B = Particle} (λ p. record p { at = zero_vector; before = zero_vector; held = false }) ps

-- worlds of one scene have as many particles and links
pub scene_particles : (w v : World) → AreOfOneScene w v → length w.particles ≡ length v.particles
scene_particles w v same =
    sym (length-mapped {A = Particle} {B = Particle} (λ p. blank p) w.particles) ∙ ap (λ (u : World). length u.particles) same
    ∙ length-mapped {A = Particle} {B = Particle} (λ p. blank p) v.particles

pub scene_links : (w v : World) → AreOfOneScene w v → length w.links ≡ length v.links
scene_links w v same =
    sym (length-mapped {A = Link} {B = Link} (λ l. unlive l) w.links) ∙ ap (λ (u : World). length u.links) same
    ∙ length-mapped {A = Link} {B = Link} (λ l. unlive l) v.links

same_blank : (p q : Particle) → q.weight ≡ p.weight → blank p ≡ blank q
same_blank p q e = λ i. record (blank p) { weight = sym e i }

pub weights_same : (ps qs : List Particle) → AllZip SameWeight ps qs → all_blank ps ≡ all_blank qs
weights_same [] [] h = refl
weights_same [] (q ∷ qs) h = absurd h
weights_same (p ∷ ps) [] h = absurd h
weights_same (p ∷ ps) (q ∷ qs) h = (λ i. same_blank p q h.0 i ∷ all_blank ps)
    ∙ ap (λ (xs : List Particle). blank q ∷ xs) (weights_same ps qs h.1)

weight_back : (weight : ℕ) (ps qs : List Particle) → AllZip SameWeight ps qs → AllByRecursion {X = Particle} (λ p. p.weight ≡ weight) qs
    → AllByRecursion {X = Particle} (λ p. p.weight ≡ weight) ps
weight_back weight [] [] z h = tt
weight_back weight [] (q ∷ qs) z h = absurd z
weight_back weight (p ∷ ps) [] z h = absurd z
weight_back weight (p ∷ ps) (q ∷ qs) z h = (sym z.0 ∙ h.0, weight_back weight ps qs z.1 h.1)

pub have_weight : (weight : ℕ) (ps qs : List Particle) → AllZip SameWeight ps qs → HaveWeight weight qs → HaveWeight weight ps
have_weight weight ps qs z h = All-from_recursion (λ (p : Particle). p.weight ≡ weight) ps
    (weight_back weight ps qs z (recursion_from_All (λ (p : Particle). p.weight ≡ weight) qs h))

-- ---- tracked particles

held_at : (ps qs : List Particle) (i : ℕ) → AllZip {A = Particle} {B = Particle} (λ p q. q.held ≡ p.held) ps qs
    → (particle_at qs i).held ≡ (particle_at ps i).held
held_at [] [] i h = refl
held_at [] (q ∷ qs) i h = absurd h
held_at (p ∷ ps) [] i h = absurd h
held_at (p ∷ ps) (q ∷ qs) zero h = h.0
held_at (p ∷ ps) (q ∷ qs) (suc i) h = held_at ps qs i h.1

pub tracked_held : (tracks : List Track) (ps qs : List Particle) → AllZip {A = Particle} {B = Particle} (λ p q. q.held ≡ p.held) ps qs
    → IsTrue (are_tracked_held tracks ps) → IsTrue (are_tracked_held tracks qs)
tracked_held tracks ps qs z h = same_all (λ (t : Track). (particle_at qs t.particle).held)
    (λ (t : Track). (particle_at ps t.particle).held) tracks (λ t. held_at ps qs t.particle z) ∙ h
