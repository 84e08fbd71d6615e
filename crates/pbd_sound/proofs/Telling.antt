-- What is told of particles and links, item by item.
use Rattle.std.proofs.Common.{◌≡◌, refl, sym, ap, ◌∙◌, ℕ, ◌+◌, ◌<◌, List, [], ◌∷◌, length, map, get_or, arith}
use Rattle.std.specs.List.{AllZip, enumerate_from}
use Rattle.std.proofs.Math.ListN.{get_or-map as read_mapped}
use Rattle.std.proofs.lemmas.List.{ext_get_or, get_or-map}
use Rattle.std.proofs.lemmas.List.FromFn.{length-enumerate_from, get_or-enumerate_from}
use Rattle.pbd_world.specs.declared.parts.Particle.{Particle}
use Rattle.pbd_world.specs.declared.parts.Link.{Link}
use Rattle.pbd_world.specs.World.{World, unchanging, AreOfOneScene}
use Rattle.pbd_world.proofs.KeepingOn.{length-mapped}
use Rattle.pbd_world.proofs.SameShape.{all_blank, all_unlive, unlive, weights_same}
use Rattle.pbd_sound.specs.Described.{Description, particle_told, link_told, particles_told, links_told, told}

-- ---- a function of each item and its number

abbrev pub numbered : {A : Type 0} → (ℕ → A → A) → ℕ → List A → List A
numbered {A} f n xs = map {A = ℕ × A} {B = A} (λ m. f m.0 m.1) (enumerate_from n xs)

pub numbered_length : {A : Type 0} (f : ℕ → A → A) (n : ℕ) (xs : List A) → length (numbered f n xs) ≡ length xs
numbered_length {A} f n xs = length-mapped {A = ℕ × A} {B = A} (λ m. f m.0 m.1) (enumerate_from n xs) ∙ length-enumerate_from n xs

pub numbered_at : {A : Type 0} (f : ℕ → A → A) (xs : List A) (i : ℕ) (d : A) → i < length xs
    → get_or (numbered f 0 xs) i d ≡ f i (get_or xs i d)
numbered_at {A} f xs i d lt =
    let g : ℕ × A → A = λ m. f m.0 m.1 in
    let within : i < length (enumerate_from 0 xs) = omega (arith, length-enumerate_from 0 xs, lt) in
    let from_none : 0 + i ≡ i = omega arith in
    get_or-map g (enumerate_from 0 xs) i (0, d) d within ∙ ap g (get_or-enumerate_from 0 xs i (0, d) lt)
    ∙ ap (λ (k : ℕ). f k (get_or xs i d)) from_none

-- a list with each item so is the numbered one
pub numbered_is : {A : Type 0} (f : ℕ → A → A) (xs ys : List A) (d : A) → length ys ≡ length xs
    → ((i : ℕ) → i < length xs → get_or ys i d ≡ f i (get_or xs i d)) → ys ≡ numbered f 0 xs
numbered_is f xs ys d same each =
    ext_get_or d ys (numbered f 0 xs) (same ∙ sym (numbered_length f 0 xs))
    (λ i lt. let within : i < length xs = omega (arith, lt, same) in each i within ∙ sym (numbered_at f xs i d within))

-- a list with f of each item is the mapped one
pub mapped_is : {A B : Type 0} (f : A → B) (xs : List A) (ys : List B) (d : A) → length ys ≡ length xs
    → ((i : ℕ) → i < length xs → get_or ys i (f d) ≡ f (get_or xs i d)) → ys ≡ map f xs
mapped_is f xs ys d same each =
    ext_get_or (f d) ys (map f xs) (same ∙ sym (length-mapped f xs))
    (λ i lt. let within : i < length xs = omega (arith, lt, same) in each i within ∙ sym (read_mapped f xs i d))

-- ---- weights and links stay

pub told_weights : (d : Description) (n : ℕ) (ps : List Particle)
    → AllZip {A = Particle} {B = Particle} (λ p q. q.weight ≡ p.weight) ps (numbered (particle_told d) n ps)
told_weights d n [] = tt
told_weights d n (p ∷ ps) = (refl, told_weights d (n + 1) ps)

pub told_unlive : (d : Description) (n : ℕ) (ls : List Link) → all_unlive (numbered (link_told d) n ls) ≡ all_unlive ls
told_unlive d n [] = refl
told_unlive d n (l ∷ ls) = ap (λ (ms : List Link). unlive l ∷ ms) (told_unlive d (n + 1) ls)

pub told_scene : (d : Description) (w : World) → AreOfOneScene w (told d w)
told_scene d w =
    let particles : all_blank w.particles ≡ all_blank (particles_told d w.particles) =
    weights_same w.particles (particles_told d w.particles) (told_weights d 0 w.particles) in
    let links : all_unlive w.links ≡ all_unlive (links_told d w.links) = sym (told_unlive d 0 w.links) in
    λ i. record (unchanging w) { particles = particles i; links = links i }
