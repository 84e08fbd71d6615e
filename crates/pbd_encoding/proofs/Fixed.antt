-- The bytes of a scene are the same for two sound worlds exactly where they are of one scene.
use Rattle.std.proofs.Common.{◌≡◌, refl, sym, ap, ◌∙◌, ℕ, zero, suc, false, List, [], ◌∷◌, ◌++◌, map}
use Rattle.std.specs.List.{flat_map}
use Rattle.std.proofs.lemmas.List.Folds.{flat_map-map}
use Rattle.pbd_num.specs.Vectors.{zero_vector}
use Rattle.pbd_world.specs.declared.parts.Particle.{Particle}
use Rattle.pbd_world.specs.declared.parts.Link.{Link}
use Rattle.pbd_world.specs.declared.parts.Kind.{Kind}
use Rattle.pbd_world.specs.declared.parts.Kind.TheVariants.{Stretch, Shear, Bend, Plain}
use Rattle.pbd_world.specs.declared.parts.Key.{Key}
use Rattle.pbd_world.specs.declared.parts.Track.{Track}
use Rattle.pbd_world.specs.Ledger.{zero_totals}
use Rattle.pbd_world.specs.World.{World, IsSound, AreOfOneScene, unchanging}
use Rattle.pbd_world.proofs.KeepingOn.{length-mapped}
use Rattle.pbd_world.proofs.SameShape.{blank, unlive}
use Rattle.pbd_log.specs.Entries.{number_bytes}
use Rattle.pbd_encoding.specs.Scene.{listed, settings_of, scene_head_bytes, weight_bytes, kind_number, link_bytes, key_bytes, track_bytes}
use Rattle.pbd_encoding.specs.Scene.{shape_bytes, scene_bytes}
use Rattle.pbd_encoding.proofs.Texts.{Tells, both_tell, tells_so, number_tells, byte_tells, signed_tells, vector_tells, sum_tells}
use Rattle.pbd_encoding.proofs.Texts.{told_last, list_tells, items_tell}
use Rattle.pbd_encoding.proofs.Fitting.{WeightFits, LinkFits, KeyFits, TrackFits, FixedFit, fixed_fit}
use Rattle.pbd_encoding.proofs.Shapes.{shapes_tell}

-- ---- what each part tells

-- what no command changes of the settings and the opening
record SameHead (v w : World) : Type 0 where
  settings : settings_of v ≡ settings_of w
  opening : v.opening ≡ w.opening

head_tells : (v w : World) → FixedFit v → FixedFit w
    → Tells (scene_head_bytes (settings_of v) v.opening) (scene_head_bytes (settings_of w) w.opening) (SameHead v w)
unfolding scene_head_bytes
head_tells v w fv fw =
    let f = fv.settings in let g = fw.settings in
    let limit = signed_tells v.limit w.limit f.limit g.limit in
    let passes = number_tells 4 v.passes w.passes f.passes g.passes in
    let damping = signed_tells v.damping w.damping f.damping g.damping in
    let thickness = signed_tells v.thickness w.thickness f.thickness g.thickness in
    let friction = signed_tells v.friction w.friction f.friction g.friction in
    let opening = sum_tells v.opening w.opening f.opening g.opening in
    tells_so (both_tell (both_tell (both_tell (both_tell (both_tell limit passes) damping) thickness) friction) opening)
    (λ (((((limit, passes), damping), thickness), friction), opening). record {
      settings = λ i. record { limit = limit i; passes = passes i; damping = damping i; thickness = thickness i; friction = friction i };
      opening = opening;
    })

weight_tells : (p q : Particle) → WeightFits p → WeightFits q → Tells (weight_bytes p) (weight_bytes q) (blank p ≡ blank q)
weight_tells p q fp fq =
    tells_so (number_tells 2 p.weight q.weight fp fq) (λ e i. record { at = zero_vector; before = zero_vector; weight = e i; held = false })

abbrev kind_of : ℕ → Kind
kind_of zero = Stretch
kind_of (suc zero) = Shear
kind_of (suc (suc zero)) = Bend
kind_of n = Plain

kind_back : (kind : Kind) → kind_of (kind_number kind) ≡ kind
kind_back Stretch = refl
kind_back Shear = refl
kind_back Bend = refl
kind_back Plain = refl

kind_tells : (j k : Kind) → Tells (kind_number j ∷ []) (kind_number k ∷ []) (j ≡ k)
kind_tells j k = tells_so (byte_tells (kind_number j) (kind_number k)) (λ e. sym (kind_back j) ∙ ap kind_of e ∙ kind_back k)

link_tells : (l m : Link) → LinkFits l → LinkFits m → Tells (link_bytes l) (link_bytes m) (unlive l ≡ unlive m)
unfolding link_bytes
link_tells l m f g =
    let a = number_tells 4 l.a m.a f.a g.a in
    let b = number_tells 4 l.b m.b f.b g.b in
    let rest = signed_tells l.rest m.rest f.rest g.rest in
    let k = number_tells 2 l.k m.k f.k g.k in
    let tear = signed_tells l.tear m.tear f.tear g.tear in
    let kind = kind_tells l.kind m.kind in
    tells_so (both_tell (both_tell (both_tell (both_tell (both_tell a b) rest) k) tear) kind) (λ (((((a, b), rest), k), tear), kind) i. record {
      a = a i;
      b = b i;
      rest = rest i;
      k = k i;
      tear = tear i;
      kind = kind i;
      live = false;
    })

key_tells : (j k : Key) → KeyFits j → KeyFits k → Tells (key_bytes j) (key_bytes k) (j ≡ k)
unfolding key_bytes
key_tells j k f g =
    tells_so (both_tell (number_tells 4 j.step k.step f.step g.step) (vector_tells j.place k.place f.place g.place))
    (λ e i. record { step = e.0 i; place = e.1 i })

track_tells : (t u : Track) → TrackFits t → TrackFits u → Tells (track_bytes t) (track_bytes u) (t ≡ u)
track_tells t u f g =
    let keys = items_tell key_bytes KeyFits t.keys u.keys key_tells f.keys g.keys in
    tells_so (both_tell (number_tells 4 t.particle u.particle f.particle g.particle) keys) (λ e i. record { particle = e.0 i; keys = e.1 i })

-- ---- all of it

scene_tells : (v w : World) → FixedFit v → FixedFit w → scene_bytes v ≡ scene_bytes w → AreOfOneScene v w
unfolding scene_bytes
scene_tells v w f g h =
    let head = head_tells v w f g in
    let weights = list_tells {A = Particle} weight_bytes (λ p. blank p) WeightFits v.particles w.particles weight_tells f.weights g.weights
    in
    let links = list_tells {A = Link} link_bytes (λ l. unlive l) LinkFits v.links w.links link_tells f.links g.links in
    let tracks = items_tell track_bytes TrackFits v.tracks w.tracks track_tells f.tracks g.tracks in
    let shapes = shapes_tell v.shapes w.shapes f.shapes g.shapes in
    let all = told_last (both_tell (both_tell (both_tell head weights) links) tracks) shapes h in
    let before_shapes = all.0 in
    let before_tracks = before_shapes.0 in
    let before_links = before_tracks.0 in
    let same = before_links.0 in
    λ i. record {
      limit = (same.settings i).limit;
      steps = 0;
      particles = before_links.1 i;
      links = before_tracks.1 i;
      tracks = before_shapes.1 i;
      shapes = all.1 i;
      gravity = zero_vector;
      passes = (same.settings i).passes;
      damping = (same.settings i).damping;
      thickness = (same.settings i).thickness;
      friction = (same.settings i).friction;
      contacts = 0;
      totals = zero_totals;
      opening = same.opening i;
    }

pub scenes_differ : (v w : World) → IsSound v → IsSound w → scene_bytes v ≡ scene_bytes w → AreOfOneScene v w
scenes_differ v w sv sw = scene_tells v w (fixed_fit v sv) (fixed_fit w sw)

-- ---- worlds of one scene

list_same : {A : Type 0} (text : A → List ℕ) (seen : A → A) (xs : List A) → ((x : A) → text (seen x) ≡ text x)
    → listed text (map seen xs) ≡ listed text xs
list_same text seen xs same =
    let items = flat_map-map text seen xs ∙ (λ j. flat_map (λ x. same x j) xs) in
    λ i. number_bytes 4 (length-mapped seen xs i) ++ items i

link_same : (l : Link) → link_bytes (unlive l) ≡ link_bytes l
unfolding link_bytes
link_same l = refl

-- commands change nothing of the bytes of the scene
unchanged : (w : World) → scene_bytes (unchanging w) ≡ scene_bytes w
unfolding scene_bytes
unchanged w =
    let weights = list_same {A = Particle} weight_bytes (λ p. blank p) w.particles (λ p. refl) in
    let links = list_same {A = Link} link_bytes (λ l. unlive l) w.links link_same in
    λ i. scene_head_bytes (settings_of w) w.opening ++ weights i ++ links i ++ listed track_bytes w.tracks ++ shape_bytes w.shapes

pub one_text : (v w : World) → AreOfOneScene v w → scene_bytes v ≡ scene_bytes w
one_text v w same = sym (unchanged v) ∙ ap scene_bytes same ∙ unchanged w
