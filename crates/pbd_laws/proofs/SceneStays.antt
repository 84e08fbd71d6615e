-- A session keeps what its scene has.
use Rattle.std.proofs.Common.{◌≡◌, refl, sym, ap, ◌∙◌, List, [], ◌∷◌, map}
use Rattle.std.specs.Prelude.{IsTrue}
use Rattle.pbd_world.specs.declared.parts.Parts.{Parts}
use Rattle.pbd_world.specs.declared.command.Command.{Command}
use Rattle.pbd_world.specs.Valid.{is_valid}
use Rattle.pbd_world.specs.World.{World, opened, unchanging}
use Rattle.pbd_world.specs.Session.{last_world}
use Rattle.pbd_world.proofs.SessionSound.{session-scene}
use Rattle.pbd_world.proofs.SameShape.{blank, all_blank, unlive, all_unlive}
use Rattle.pbd_laws.specs.Scenes.{HasPartsOf}

-- what a function makes of items, where it doesn't see what is changed of them
of_alike : {A B : Type 0} (change : A → A) (f : A → B) (xs ys : List A) → ((x : A) → f (change x) ≡ f x) → map change xs ≡ map change ys
    → map f ys ≡ map f xs
of_alike {A} {B} change f xs ys h e = sym (change_unseen ys) ∙ sym (ap (map f) e) ∙ change_unseen xs
  where
    change_unseen : (zs : List A) → map f (map change zs) ≡ map f zs
    change_unseen [] = refl
    change_unseen (z ∷ zs) = ap (λ b. b ∷ map f (map change zs)) (h z) ∙ ap (λ (bs : List B). f z ∷ bs) (change_unseen zs)

pub session-keeps : (parts : Parts) (cs : List Command) → IsTrue (is_valid parts) → HasPartsOf parts (last_world (opened parts) cs)
session-keeps parts cs valid =
    let w = last_world (opened parts) cs in
    let e : unchanging w ≡ unchanging (opened parts) = sym (session-scene parts cs valid) in
    let ps : all_blank parts.particles ≡ all_blank w.particles = sym (ap (λ (x : World). x.particles) e) in
    let ls : all_unlive parts.links ≡ all_unlive w.links = sym (ap (λ (x : World). x.links) e) in
    record {
      limit = ap (λ (x : World). x.limit) e;
      tracks = ap (λ (x : World). x.tracks) e;
      shapes = ap (λ (x : World). x.shapes) e;
      passes = ap (λ (x : World). x.passes) e;
      damping = ap (λ (x : World). x.damping) e;
      thickness = ap (λ (x : World). x.thickness) e;
      friction = ap (λ (x : World). x.friction) e;
      weights = of_alike blank (λ p. p.weight) parts.particles w.particles (λ p. refl) ps;
      first_ends = of_alike unlive (λ l. l.a) parts.links w.links (λ l. refl) ls;
      second_ends = of_alike unlive (λ l. l.b) parts.links w.links (λ l. refl) ls;
      rests = of_alike unlive (λ l. l.rest) parts.links w.links (λ l. refl) ls;
      stiffnesses = of_alike unlive (λ l. l.k) parts.links w.links (λ l. refl) ls;
      tears = of_alike unlive (λ l. l.tear) parts.links w.links (λ l. refl) ls;
      kinds = of_alike unlive (λ l. l.kind) parts.links w.links (λ l. refl) ls;
    }
