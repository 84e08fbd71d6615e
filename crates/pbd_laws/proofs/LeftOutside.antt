-- Where shapes leave a particle.
use borrow.Author.Differences.{up, down, sum_is_lem, product_is}
use Rattle.std.proofs.Common.{◌≡◌, refl, sym, ap, ◌∙◌, ℕ, zero, suc, ◌+◌, ◌*◌, ◌<◌, ◌≤◌, Bool, true, false, List, [], ◌∷◌, length, map}
use Rattle.std.proofs.Common.{arith, pos, negsuc, ℤ, ◌+ℤ◌, ◌-ℤ◌, ◌*ℤ◌, ◌≤ℤ◌, unsigned_abs, subst}
use Rattle.std.specs.Prelude.{Option, Some, None, IfSome, Ok, IfOk, IsTrue, if◌then◌else◌, int_lt, ◌==◌, nat_lt, option_map}
use Rattle.std.specs.List.{AllByRecursion, AllZip, list_all}
use Rattle.std.proofs.lemmas.Int.{ints}
use Rattle.std.proofs.lemmas.List.{map-append}
use Rattle.std.proofs.lemmas.Simd.{map-map}
use Rattle.std.proofs.lemmas.Bool.{and_parts, false≢true, ltb-true}
use Rattle.std.proofs.Math.Nat.{mul-le-mul}
use Rattle.pbd_num.specs.declared.Vec3.{Vec3}
use Rattle.pbd_num.specs.Rounding.{rdiv}
use Rattle.pbd_num.specs.Vectors.{on_axes, plus, minus, dot, scaled, squared_length, length_of, is_within}
use Rattle.pbd_num.proofs.RoundingLemmas.{root-square, le_root}
use Rattle.pbd_world.specs.declared.parts.Particle.{Particle}
use Rattle.pbd_world.specs.declared.parts.Plane.{Plane}
use Rattle.pbd_world.specs.declared.parts.Sphere.{Sphere}
use Rattle.pbd_world.specs.declared.parts.ShapeLists.{ShapeLists}
use Rattle.pbd_world.specs.Particles.{Moved, no_particle, particle_at}
use Rattle.pbd_world.specs.World.{World, parts_of, IsSound}
use Rattle.pbd_world.specs.Outcomes.{each_from}
use Rattle.pbd_world.specs.Shapes.{Shape, plane_shape, sphere_shape, onto_sphere, shapes_of, Way, past, way_through, Shaped, still}
use Rattle.pbd_world.specs.Shapes.{shaped_by, shaped, is_valid_plane, are_valid_planes, are_valid_spheres, are_valid_shapes}
use Rattle.pbd_world.specs.Step.{Passing, all_shaped, shape_part}
use Rattle.pbd_world.proofs.KeepingOn.{bind-keeps, each-keeps, zip-map, all-map, all-append}
use Rattle.pbd_world.proofs.KeptLemmas.{zip_at}
use Rattle.pbd_world.proofs.WorldParts.{formed}
use Rattle.pbd_laws.specs.Solids.{Solid, solids_of, shape_by, CanPush, later_or, last_from, last_solid, size_sum, IsOut}
use Rattle.pbd_laws.specs.Solids.Solid.{APlane, ASphere}
use Rattle.pbd_laws.proofs.Rounded.{IsNear, near, cancel, far-vector}
use Rattle.pbd_laws.proofs.Counting.{ok_at}
use Rattle.pbd_num.proofs.Lengths.{dot_square}

same_some : {A : Type 0} (x y : A) → Some x ≡ Some y → x ≡ y
same_some x y e = cc

-- ---- a plane

split_axis : (a p q : ℤ) → a *ℤ (p +ℤ q) ≡ a *ℤ p +ℤ a *ℤ q
split_axis a p q = omega (arith, ints, ap (λ k. up a * k) (sum_is_lem p q), ap (λ k. down a * k) (sum_is_lem p q))

-- along one axis of the normal
plane_axis : (lack d : ℕ) (a q : ℤ) → IsNear (pos lack *ℤ a) d q
    → 2 * lack * (unsigned_abs a * unsigned_abs a) + 2 * d * down (a *ℤ q) ≤ 2 * d * up (a *ℤ q) + unsigned_abs a * d
plane_axis lack d (pos a) q h =
    let low : 2 * (lack * a) + 2 * (d * down q) ≤ 2 * (d * up q) + d = omega (arith, ints, h.low) in
    let parts = product_is (pos a) q in
    let same : a ≤ a = omega arith in
    omega (arith, mul-le-mul same low, ap (λ k. d * k) parts.0, ap (λ k. d * k) parts.1)
plane_axis lack d (negsuc a) q h =
    let high : 2 * (d * up q) + 2 * (lack * suc a) ≤ 2 * (d * down q) + d = omega (arith, ints, h.high) in
    let parts = product_is (negsuc a) q in
    let same : suc a ≤ suc a = omega arith in
    omega (arith, mul-le-mul same high, ap (λ k. d * k) parts.0, ap (λ k. d * k) parts.1)

-- where a plane puts a place that lacks so much
plane_to : Vec3 → Vec3 → ℤ → ℤ → Vec3
plane_to n p lack square = plus p (on_axes (λ axis. rdiv (lack *ℤ axis) square) n)

plane_moved : (n p : Vec3) (offset : ℤ) (k d : ℕ) → 0 < d → d ≡ squared_length n → offset -ℤ dot n p ≡ pos k
    → (pos 2 *ℤ offset) ≤ℤ (pos 2 *ℤ dot n (plane_to n p (pos k) (pos d)) +ℤ pos (size_sum n))
unfolding plane_to
plane_moved n p offset k d some is lack =
    let qx = rdiv (pos k *ℤ n.x) (pos d) in
    let qy = rdiv (pos k *ℤ n.y) (pos d) in
    let qz = rdiv (pos k *ℤ n.z) (pos d) in
    let x = plane_axis k d n.x qx (near (pos k *ℤ n.x) d some) in
    let y = plane_axis k d n.y qy (near (pos k *ℤ n.y) d some) in
    let z = plane_axis k d n.z qz (near (pos k *ℤ n.z) d some) in
    let less = down (n.x *ℤ qx) + down (n.y *ℤ qy) + down (n.z *ℤ qz) in
    let more = up (n.x *ℤ qx) + up (n.y *ℤ qy) + up (n.z *ℤ qz) in
    let whole = ap (λ m. k * m) is in
    let all : 2 * k + 2 * less ≤ 2 * more + size_sum n = cancel d (2 * k + 2 * less) (2 * more + size_sum n) some
    (omega (arith, x, y, z, whole)) in
    sums offset (n.x *ℤ p.x) (n.y *ℤ p.y) (n.z *ℤ p.z) (n.x *ℤ qx) (n.y *ℤ qy) (n.z *ℤ qz) _ _ _ k (size_sum n) (split_axis n.x p.x qx)
    (split_axis n.y p.y qy) (split_axis n.z p.z qz) lack all
  where
    sums : (o x y z a b c u v w : ℤ) (k m : ℕ) → u ≡ x +ℤ a → v ≡ y +ℤ b → w ≡ z +ℤ c → o -ℤ (x +ℤ y +ℤ z) ≡ pos k
        → 2 * k + 2 * (down a + down b + down c) ≤ 2 * (up a + up b + up c) + m → (pos 2 *ℤ o) ≤ℤ (pos 2 *ℤ (u +ℤ v +ℤ w) +ℤ pos m)
    sums o x y z a b c u v w k m hu hv hw lack all = omega (arith, ints, hu, hv, hw, lack, all)

positive : (z : ℤ) → int_lt (pos 0) z ≡ true → z ≡ pos (unsigned_abs z)
positive (pos n) e = refl
positive (negsuc n) e = absurd (false≢true e)

plane-out : (plane : Plane) (p to : Vec3) → 0 < squared_length plane.normal → plane_shape plane p ≡ Some to → IsOut (APlane plane) to
unfolding plane_shape plane_to
plane-out plane p to some h = out_where_pushed (int_lt (pos 0) (plane.offset -ℤ dot plane.normal p)) refl h
  where
    moved : int_lt (pos 0) (plane.offset -ℤ dot plane.normal p) ≡ true
        → IsOut (APlane plane) (plane_to plane.normal p (plane.offset -ℤ dot plane.normal p) (dot plane.normal plane.normal))
    moved e =
        let n = plane.normal in
        let lack = plane.offset -ℤ dot n p in
        let is = positive lack e in
        subst (λ l. IsOut (APlane plane) (plane_to n p l (dot n n))) (sym is)
        (subst (λ d. IsOut (APlane plane) (plane_to n p (pos (unsigned_abs lack)) d)) (sym (dot_square n))
        (plane_moved n p plane.offset (unsigned_abs lack) (squared_length n) some refl is))

    out_where_pushed : (b : Bool) → int_lt (pos 0) (plane.offset -ℤ dot plane.normal p) ≡ b
        → (if b then Some (plane_to plane.normal p (plane.offset -ℤ dot plane.normal p) (dot plane.normal plane.normal)) else None)
        ≡ Some to → IsOut
        (APlane plane) to
    out_where_pushed true e h = subst (IsOut (APlane plane)) (same_some _ to h) (moved e)
    out_where_pushed false e h = absurd (cc)

-- ---- a sphere

radius_from : (n : ℕ) (z : ℤ) → int_lt (pos n) z ≡ true → (k : ℕ) × (z ≡ pos (1 + k))
radius_from n (pos zero) e = absurd (omega (arith, ints, e))
radius_from n (pos (suc k)) e = (k, ap (λ m. pos m) (omega arith))
radius_from n (negsuc m) e = absurd (false≢true e)

back_axis : (c q : ℤ) → (c +ℤ q) -ℤ c ≡ q
back_axis c q = omega (arith, ints)

back_to : (c q : Vec3) → minus (plus c q) c ≡ q
back_to c q = λ i. record { x = back_axis c.x q.x i; y = back_axis c.y q.y i; z = back_axis c.z q.z i }

scaled_far : (k len : ℕ) (d : Vec3) → 0 < len → len ≡ length_of d → k ≤ length_of (scaled (pos (1 + k)) (pos len) d)
scaled_far k len d some is =
    let x = near (d.x *ℤ pos (1 + k)) len some in
    let y = near (d.y *ℤ pos (1 + k)) len some in
    let z = near (d.z *ℤ pos (1 + k)) len some in
    far-vector 1 k len d (scaled (pos (1 + k)) (pos len) d) (omega arith) some
    (record {
      x = record { low = omega (arith, ints, x.low); high = omega (arith, ints, x.high) };
      y = record { low = omega (arith, ints, y.low); high = omega (arith, ints, y.high) };
      z = record { low = omega (arith, ints, z.low); high = omega (arith, ints, z.high) };
    })
    (omega (arith, root-square (squared_length d), ap (λ n. n * n) is))

some_length : (n : ℕ) → (n == 0) ≡ false → 0 < n
some_length zero e = absurd (false≢true (sym e))
some_length (suc n) e = omega arith

up_far : (k : ℕ) → k ≤ length_of (record { x = pos 0; y = pos (1 + k); z = pos 0 })
up_far k = le_root k _ (omega arith)

-- where a sphere of radius r puts a place, straight up or outward
abbrev sphere_to : Sphere → Vec3 → ℤ → Bool → Vec3
sphere_to sphere p r b =
    if b then plus sphere.centre (record { x = pos 0; y = r; z = pos 0 })
    else plus sphere.centre (scaled r (pos (length_of (minus p sphere.centre))) (minus p sphere.centre))

to_far : (k : ℕ) (sphere : Sphere) (p : Vec3) (b : Bool) → (length_of (minus p sphere.centre) == 0) ≡ b
    → k ≤ length_of (minus (sphere_to sphere p (pos (1 + k)) b) sphere.centre)
to_far k sphere p true e = subst (λ (v : Vec3). k ≤ length_of v)
    (sym (back_to sphere.centre (record { x = pos 0; y = pos (1 + k); z = pos 0 }))) (up_far k)
to_far k sphere p false e =
    let d = minus p sphere.centre in
    subst (λ (v : Vec3). k ≤ length_of v) (sym (back_to sphere.centre (scaled (pos (1 + k)) (pos (length_of d)) d)))
    (scaled_far k (length_of d) d (some_length (length_of d) e) refl)

onto_far : (k : ℕ) (sphere : Sphere) (p : Vec3) → sphere.radius ≡ pos (1 + k) → k ≤ length_of (minus (onto_sphere sphere p) sphere.centre)
onto_far k sphere p is =
    subst (λ r. k ≤ length_of (minus (sphere_to sphere p r (length_of (minus p sphere.centre) == 0)) sphere.centre)) (sym is)
    (to_far k sphere p (length_of (minus p sphere.centre) == 0) refl)

sphere-out : (sphere : Sphere) (p to : Vec3) → sphere_shape sphere p ≡ Some to → IsOut (ASphere sphere) to
unfolding sphere_shape
sphere-out sphere p to h = out_where_pushed (int_lt (pos (length_of (minus p sphere.centre))) sphere.radius) refl h
  where
    out : int_lt (pos (length_of (minus p sphere.centre))) sphere.radius ≡ true → IsOut (ASphere sphere) (onto_sphere sphere p)
    out e =
        let radius = radius_from (length_of (minus p sphere.centre)) sphere.radius e in
        let far = onto_far radius.0 sphere p radius.1 in
        omega (arith, ints, far, radius.1)

    out_where_pushed : (b : Bool) → int_lt (pos (length_of (minus p sphere.centre))) sphere.radius ≡ b
        → (if b then Some (onto_sphere sphere p) else None) ≡ Some to → IsOut (ASphere sphere) to
    out_where_pushed true e h = subst (IsOut (ASphere sphere)) (same_some _ to h) (out e)
    out_where_pushed false e h = absurd (cc)

-- ---- the way through all of them

pub solid-out : (solid : Solid) (p to : Vec3) → CanPush solid → shape_by solid p ≡ Some to → IsOut solid to
solid-out (APlane plane) p to some h = plane-out plane p to some h
solid-out (ASphere sphere) p to some h = sphere-out sphere p to h

-- out of the last solid, or where it was
abbrev Comes : Option Solid → Vec3 → Vec3 → Type 0
Comes None at to = to ≡ at
Comes (Some solid) at to = IsOut solid to

later_comes : (solid : Solid) (o : Option Solid) (at to v : Vec3) → IsOut solid to → Comes o to v → Comes (later_or solid o) at v
later_comes solid None at to v h k = subst (IsOut solid) (sym k) h
later_comes solid (Some later) at to v h k = k

ok_some : {A : Type 0} (P Q : A → Type 0) (o : Option A) → ((x : A) → P x → Q x) → IfSome o P → IfSome o Q
ok_some P Q None f h = tt
ok_some P Q (Some x) f h = f x h

way_comes : (limit : ℤ) (ss : List Solid) (way : Way) → AllByRecursion CanPush ss
    → IfSome (way_through limit (map shape_by ss) way) (λ v. Comes (last_solid ss way.at) way.at v.at)
way_comes limit [] way all = refl
way_comes limit (s ∷ ss) way all = comes_past (shape_by s way.at) refl (λ next. way_comes limit ss next all.1)
  where
    inside : (to : Vec3) (b : Bool) → IsOut s to
        → ((next : Way) → IfSome (way_through limit (map shape_by ss) next) (λ v. Comes (last_solid ss next.at) next.at v.at))
        → IfSome (elim (let o : Option Way = if b then Some (record { at = to; touched = true }) else None in o)
        [ None ↦ None | Some next ↦ way_through limit (map shape_by ss) next ]) (λ v. Comes (later_or s (last_solid ss to)) way.at v.at)
    inside to false out rest = tt
    inside to true out rest =
        ok_some (λ v. Comes (last_solid ss to) to v.at) (λ v. Comes (later_or s (last_solid ss to)) way.at v.at)
        (way_through limit (map shape_by ss) (record { at = to; touched = true }))
        (λ v k. later_comes s (last_solid ss to) way.at to v.at out k) (rest (record { at = to; touched = true }))

    comes_past : (o : Option Vec3) → shape_by s way.at ≡ o
        → ((next : Way) → IfSome (way_through limit (map shape_by ss) next) (λ v. Comes (last_solid ss next.at) next.at v.at))
        → IfSome (elim (past limit way o) [ None ↦ None | Some next ↦ way_through limit (map shape_by ss) next ])
        (λ v. Comes (last_from s (last_solid ss) way.at o) way.at v.at)
    comes_past None e rest = rest way
    comes_past (Some to) e rest = inside to (is_within limit to) (solid-out s way.at to all.0 e) rest

-- a particle and where the shape part leaves it
pub record IsLeft (ss : List Solid) (p : Particle) (to : Vec3) : Type 0 where
  pub free : p.held ≡ false → Comes (last_solid ss p.at) p.at to
  pub held : p.held ≡ true → to ≡ p.at

shaped_left : (limit : ℤ) (ss : List Solid) (p : Particle) → AllByRecursion CanPush ss
    → IfSome (shaped limit (map shape_by ss) p) (λ x. IsLeft ss p x.moved.particle.at)
unfolding shaped
shaped_left limit ss p all = left_if_held p.held refl
  where
    free : (o : Option Way) → p.held ≡ false → IfSome o (λ v. Comes (last_solid ss p.at) p.at v.at)
        → IfSome (option_map (shaped_by p) o) (λ x. IsLeft ss p x.moved.particle.at)
    free None e h = tt
    free (Some way) e h = record { free = λ k. h; held = λ k. absurd (false≢true (sym e ∙ k)) }

    left_if_held : (held : Bool) → p.held ≡ held
        → IfSome (if held then Some (still p) else option_map (shaped_by p)
        (way_through limit (map shape_by ss) (record { at = p.at; touched = false })))
        (λ x. IsLeft ss p x.moved.particle.at)
    left_if_held true e = record { free = λ k. absurd (false≢true (sym k ∙ e)); held = λ k. refl }
    left_if_held false e = free (way_through limit (map shape_by ss) (record { at = p.at; touched = false })) e
        (way_comes limit ss (record { at = p.at; touched = false }) all)

-- ---- all particles

shapes_are : (lists : ShapeLists) → shapes_of lists ≡ map shape_by (solids_of lists)
shapes_are lists = rw (
  map-append shape_by (map (λ plane. APlane plane) lists.planes) (map (λ sphere. ASphere sphere) lists.spheres),
  map-map shape_by (λ plane. APlane plane) lists.planes,
  map-map shape_by (λ sphere. ASphere sphere) lists.spheres,
) refl

planes_push : (planes : List Plane) → IsTrue (list_all is_valid_plane planes) → AllByRecursion (λ p. CanPush (APlane p)) planes
planes_push [] h = tt
planes_push (p ∷ ps) h =
    let parts = and_parts (is_valid_plane p) (list_all is_valid_plane ps) h in
    let tests = and_parts _ _ parts.0 in
    let normal = and_parts (is_within (pos 1024) p.normal) (nat_lt 0 (squared_length p.normal)) tests.0 in
    (ltb-true 0 (squared_length p.normal) normal.1, planes_push ps parts.1)

spheres_push : (spheres : List Sphere) → AllByRecursion (λ s. CanPush (ASphere s)) spheres
spheres_push [] = tt
spheres_push (s ∷ ss) = (tt, spheres_push ss)

solids_push : (limit : ℤ) (lists : ShapeLists) → IsTrue (are_valid_shapes limit lists) → AllByRecursion CanPush (solids_of lists)
solids_push limit lists valid =
    let planes = (and_parts _ _ (and_parts (are_valid_planes lists.planes) (are_valid_spheres limit lists.spheres) valid).0).1 in
    all-append CanPush (map (λ plane. APlane plane) lists.planes) (map (λ sphere. ASphere sphere) lists.spheres)
    (all-map CanPush (λ plane. APlane plane) lists.planes (planes_push lists.planes planes))
    (all-map CanPush (λ sphere. ASphere sphere) lists.spheres (spheres_push lists.spheres))

part_left : (w : World) (s : Passing) → IsSound w
    → IfOk (shape_part w s) (λ t. AllZip (λ p r. IsLeft (solids_of w.shapes) p r.at) s.motion.particles t.motion.particles)
part_left w s sound =
    let ss = solids_of w.shapes in
    let R : Particle → Shaped → Type 0 = λ p x. IsLeft ss p x.moved.particle.at in
    let one : (i : ℕ) (p : Particle) → IfSome (shaped w.limit (shapes_of w.shapes) p) (R p) =
    λ i p. subst (λ (xs : List Shape). IfSome (shaped w.limit xs p) (R p)) (sym (shapes_are w.shapes))
    (shaped_left w.limit ss p (solids_push w.limit w.shapes (formed (parts_of w) sound.well_formed).shapes)) in
    bind-keeps (AllZip R s.motion.particles) (λ t. AllZip (λ p r. IsLeft ss p r.at) s.motion.particles t.motion.particles)
    (each_from 0 (λ i p. shaped w.limit (shapes_of w.shapes) p) s.motion.particles) (λ xs. Ok (all_shaped s xs))
    (each-keeps R (λ i p. shaped w.limit (shapes_of w.shapes) p) one 0 s.motion.particles)
    (λ xs z.
    zip-map (λ p r. IsLeft ss p r.at) (λ (m : Moved). m.particle) s.motion.particles _
    (zip-map (λ p m. IsLeft ss p m.particle.at) (λ (x : Shaped). x.moved) s.motion.particles xs z))

left_at : (w : World) (s t : Passing) (i : ℕ) → IsSound w → shape_part w s ≡ Ok t → i < length s.motion.particles
    → IsLeft (solids_of w.shapes) (particle_at s.motion.particles i) (particle_at t.motion.particles i).at
left_at w s t i sound e l =
    let z = ok_at (λ t. AllZip (λ p r. IsLeft (solids_of w.shapes) p r.at) s.motion.particles t.motion.particles)
    (shape_part w s) t e
    (part_left w s sound) in
    zip_at (λ p r. IsLeft (solids_of w.shapes) p r.at) s.motion.particles t.motion.particles i no_particle no_particle z l

pub last-out : (w : World) (s t : Passing) (i : ℕ) (solid : Solid) → IsSound w → shape_part w s ≡ Ok t → i < length s.motion.particles
    → (particle_at s.motion.particles i).held ≡ false → last_solid (solids_of w.shapes) (particle_at s.motion.particles i).at
    ≡ Some solid
    → IsOut solid (particle_at t.motion.particles i).at
last-out w s t i solid sound e l free last =
    subst (λ o. Comes o (particle_at s.motion.particles i).at (particle_at t.motion.particles i).at) last
    ((left_at w s t i sound e l).free free)

pub none-out : (w : World) (s t : Passing) (i : ℕ) → IsSound w → shape_part w s ≡ Ok t → i < length s.motion.particles
    → last_solid (solids_of w.shapes) (particle_at s.motion.particles i).at ≡ None
    → (particle_at t.motion.particles i).at ≡ (particle_at s.motion.particles i).at
none-out w s t i sound e l none = held_or_left (particle_at s.motion.particles i).held refl (left_at w s t i sound e l)
  where
    held_or_left : (held : Bool) → (particle_at s.motion.particles i).held ≡ held
        → IsLeft (solids_of w.shapes) (particle_at s.motion.particles i) (particle_at t.motion.particles i).at
        → (particle_at t.motion.particles i).at ≡ (particle_at s.motion.particles i).at
    held_or_left true h left = left.held h
    held_or_left false h left = subst (λ o. Comes o (particle_at s.motion.particles i).at (particle_at t.motion.particles i).at) none (left.free h)
