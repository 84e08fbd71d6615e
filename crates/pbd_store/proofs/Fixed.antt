-- Lists of particles that are alike in some part are equally long.
use Rattle.std.proofs.Common.{◌≡◌, sym, ap, ◌∙◌, List, length, map}
use Rattle.std.proofs.lemmas.List.{length-map}
use Rattle.pbd_num.specs.Vectors.{zero_vector}
use Rattle.pbd_world.specs.declared.parts.Particle.{Particle}
use Rattle.pbd_store.specs.Moving.{fixed_parts}

pub same_length_by : (f : Particle → Particle) (ps qs : List Particle) → map f ps ≡ map f qs → length ps ≡ length qs
same_length_by f ps qs e = sym (length-map ps f) ∙ ap length e ∙ length-map qs f

pub same_length : (ps qs : List Particle) → fixed_parts ps ≡ fixed_parts qs → length ps ≡ length qs
same_length ps qs e = same_length_by (λ p. record p { at = zero_vector }) ps qs e
