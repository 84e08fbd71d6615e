-- Lists of one part of each particle, filled one by one.
use Rattle.std.proofs.Common.{◌≡◌, ◌∙◌, sym, ap, ℕ, ◌+◌, ◌<◌, ◌≤◌, List, [], ◌∷◌, ◌++◌, length, map, take, arith}
use Rattle.std.proofs.lemmas.List.{map_more, length-map, length-take-le, take_all}
use Rattle.pbd_world.specs.declared.parts.Particle.{Particle}
use Rattle.pbd_world.specs.Particles.{particle_at, no_particle}
use Rattle.pbd_world.specs.Room.{Roomed}

-- the parts of the first i particles are in the list
abbrev pub HasFirst : {T : Type 0} → (Particle → T) → List Particle → ℕ → Roomed T → Roomed T → Type 0
HasFirst f ps i start now = now ≡ record start { entries = map f (take i ps) }

module _ {T : Type 0} (f : Particle → T) (ps : List Particle) (start now : Roomed T) where
  pub has_more : (i : ℕ) (new : Roomed T) (x : T) → i < length ps → length ps ≤ start.room → HasFirst f ps i start now
      → x ≡ f (particle_at ps i)
      → (length now.entries < now.room → new ≡ record now { entries = now.entries ++ x ∷ [] }) → HasFirst f ps (i + 1) start new
  has_more i new x lt room is value push =
      let size : length now.entries ≡ i = ap (λ (r : Roomed T). length r.entries) is ∙ length-map (take i ps) f
      ∙ length-take-le i ps (omega (arith, lt)) in
      let kept : now.room ≡ start.room = ap (λ (r : Roomed T). r.room) is in
      push (omega (arith, size, kept, lt, room))
      ∙ ap (λ (r : Roomed T). record r { entries = r.entries ++ x ∷ [] }) is
      ∙ ap (λ (ys : List T). record start { entries = ys })
      (ap (λ y. map f (take i ps) ++ y ∷ []) value ∙ sym (map_more f ps i no_particle lt))

  pub has_all : (i : ℕ) → length ps ≤ i → HasFirst f ps i start now → now ≡ record start { entries = map f ps }
  has_all i le is = is ∙ ap (λ (ys : List Particle). record start { entries = map f ys }) (take_all i ps le)
