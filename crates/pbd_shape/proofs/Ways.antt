-- The way of a place from one of the shapes on, and valid particles.
use Rattle.std.proofs.Common.{◌≡◌, refl, sym, ap, ◌∙◌, ℕ, suc, ◌+◌, ◌<◌, ◌≤◌, ◌^◌, List, [], ◌∷◌, ◌++◌, length, get_or, drop, map}
use Rattle.std.proofs.Common.{drop-cons, add-one, arith, ℤ, pos, ◌≤ℤ◌, IsTrue, Option, Some, None, option_and_then, inl, inr}
use Rattle.std.proofs.lemmas.Int.{ints}
use Rattle.std.specs.Ordering.{int_eq}
use Rattle.std.proofs.lemmas.Bool.{and_parts, or_cases}
use Rattle.std.proofs.lemmas.Bool.Decides.{Decides-int_eq}
use Rattle.std.proofs.lemmas.List.{drop_all}
use Rattle.std.proofs.lemmas.List.Sums.{AllPass-from_list_all}
use Rattle.pbd_num.specs.declared.Vec3.{Vec3}
use Rattle.pbd_num.proofs.Ranges.{within_facts}
use Rattle.pbd_world.specs.declared.parts.Particle.{Particle}
use Rattle.pbd_world.specs.Shapes.{Shape, Way, past, way_through}
use Rattle.pbd_world.specs.Particles.{no_particle}
use Rattle.pbd_world.specs.Valid.{is_limit, is_valid_particle, are_valid_particles}
use Rattle.pbd_shape.specs.Rubbing.{AreWithin}
use Rattle.pbd_shape.specs.Way.{starting, AreStill}

abbrev then_on : (Way → Option Way) → Option Way → Option Way
then_on f o = elim o [ None ↦ None | Some next ↦ f next ]

module _ {A : Type 0} (limit : ℤ) (f : A → Shape) (xs : List A) (i : ℕ) (h : i < length xs) {x : A} (is : x ≡ get_or xs i x) where
  next : (way : Way) {to : Option Vec3} → to ≡ f x way.at → way_through limit (map f (drop i xs)) way
      ≡ then_on (way_through limit (map f (drop (suc i) xs))) (past limit way to)
  next way to = ap (λ (ys : List A). way_through limit (map f ys) way) (drop-cons xs i x h)
      ∙ ap (λ (o : Option Vec3). then_on (way_through limit (map f (drop (suc i) xs))) (past limit way o))
      (ap (λ (y : A). f y way.at) (sym is) ∙ sym to)

  -- where the place stays within the limit
  pub way_on : (way on : Way) {to : Option Vec3} → to ≡ f x way.at → Some on ≡ past limit way to
      → way_through limit (map f (drop (i + 1) xs)) on ≡ way_through limit (map f (drop i xs)) way
  way_on way on to e = ap (λ (k : ℕ). way_through limit (map f (drop k xs)) on) (add-one i)
      ∙ ap (then_on (way_through limit (map f (drop (suc i) xs)))) e ∙ sym (next way to)

  -- where it leaves
  pub way_out : (way : Way) {to : Option Vec3} → to ≡ f x way.at → None ≡ past limit way to → None ≡ way_through limit (map f (drop i xs)) way
  way_out way to e = ap (then_on (way_through limit (map f (drop (suc i) xs)))) e ∙ sym (next way to)

pub way_all : {A : Type 0} (limit : ℤ) (f : A → Shape) (xs : List A) (i : ℕ) (way : Way) → length xs ≤ i
    → Some way ≡ way_through limit (map f (drop i xs)) way
way_all limit f xs i way h = sym (ap (λ ys. way_through limit (map f ys) way) (drop_all i xs h))

-- a way through shapes and others behind them goes on from where it has come to through the first
pub then_through : (limit : ℤ) (xs ys : List Shape) (way : Way)
    → way_through limit (xs ++ ys) way ≡ option_and_then (way_through limit ys) (way_through limit xs way)
then_through limit [] ys way = refl
then_through limit (x ∷ xs) ys way = after (λ w. then_through limit xs ys w) (past limit way (x way.at))
  where
    after : ((w : Way) → way_through limit (xs ++ ys) w ≡ option_and_then (way_through limit ys) (way_through limit xs w)) → (o : Option Way)
        → then_on (way_through limit (xs ++ ys)) o ≡ option_and_then (way_through limit ys) (then_on (way_through limit xs) o)
    after h None = refl
    after h (Some w) = h w

-- shapes that touch none of some places, and others behind them that touch none of them
pub still_on : (xs ys : List Shape) (n : ℕ) (place : ℕ → Vec3) → AreStill xs n place → AreStill ys n place → AreStill (xs ++ ys) n place
still_on xs ys n place h k = record {
  at = λ limit j lt. then_through limit xs ys (starting (place j)) ∙ ap (option_and_then (way_through limit ys)) (h.at limit j lt)
      ∙ k.at limit j lt;
}

-- ---- valid particles

limit_low : (n : ℤ) → IsTrue (is_limit n) → pos 0 ≤ℤ n
limit_low n h = elim (or_cases (int_eq n (pos (2 ^ 28))) (int_eq n (pos (2 ^ 29))) h) [
  | inl e ↦ (let small : n ≡ pos (2 ^ 28) = (Decides-int_eq n (pos (2 ^ 28))).0 e in omega (arith, ints))
  | inr e ↦ (let large : n ≡ pos (2 ^ 29) = (Decides-int_eq n (pos (2 ^ 29))).0 e in omega (arith, ints))
]

pub valid_within : (limit : ℤ) (ps : List Particle) → IsTrue (is_limit limit) → IsTrue (are_valid_particles limit ps) → AreWithin limit ps
valid_within limit ps l h =
    let each = λ (i : ℕ) (lt : i < length ps). and_parts _ _
    (and_parts _ _ (AllPass-from_list_all (is_valid_particle limit) ps (and_parts _ _ h).1 i no_particle lt)).0 in
    record {
      at = λ i lt. (within_facts limit _ (limit_low limit l)).0 (and_parts _ _ (each i lt).0).0;
      before = λ i lt. (within_facts limit _ (limit_low limit l)).0 (and_parts _ _ (each i lt).0).1;
    }
