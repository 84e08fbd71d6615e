-- A bond's correction, from the moves of its ends.
use Rattle.std.proofs.Common.{◌≡◌, ℤ, ◌&&◌, Bool, true, false, not, cond, refl, ap, sym, ◌∙◌}
use Rattle.std.proofs.lemmas.Bool.{false≢true}
use Rattle.pbd_num.specs.declared.Vec3.{Vec3}
use Rattle.pbd_num.specs.Vectors.{plus, minus, zero_vector, is_within}
use Rattle.pbd_num.specs.PairMove.{pair_moves}
use Rattle.pbd_num.proofs.VectorSizes.{plus_nothing, plus_zero}
use Rattle.pbd_num.proofs.Ways.{pair_moves-along}
use Rattle.pbd_world.specs.declared.parts.Particle.{Particle}
use Rattle.pbd_world.specs.declared.bond.Bond.{Bond}
use Rattle.pbd_world.specs.declared.bond.End.{End}
use Rattle.pbd_world.specs.declared.bond.Shift.{Shift}
use Rattle.pbd_world.specs.declared.bond.Correction.{Correction}
use Rattle.pbd_world.specs.declared.bond.Correction.TheVariants.{Slack, Leaves, Moves}
use Rattle.pbd_world.specs.declared.totals.Class.{Class}
use Rattle.pbd_world.specs.declared.totals.Class.TheVariants as classes
use Rattle.pbd_world.specs.Ledger.{Sum, Ledger, sum_plus, added, booked}
use Rattle.pbd_world.specs.Bonds.{correction_of, is_slack, shift_of, entries_of, class_of}
use Rattle.pbd_pair.specs.Bonds.{shift_by}
use Rattle.pbd_pair.specs.Moves.{moves_by, moves_of}
use Rattle.pbd_pair.proofs.Correcting.{leaves_by, booked_by}
use Rattle.pbd_pair.proofs.Together.{first_by, second_by}

-- ---- a move of nothing adds nothing

sum_nothing : (s : Sum) → sum_plus s zero_vector ≡ s
sum_nothing s = λ i. record { x = plus_zero s.x i; y = plus_zero s.y i; z = plus_zero s.z i }

pub added_nothing : (t : Ledger) (class : Class) → added t class zero_vector ≡ t
added_nothing t classes.Gravity = ap (λ (s : Sum). record t { gravity = s }) (sum_nothing t.gravity)
added_nothing t classes.Damping = ap (λ (s : Sum). record t { damping = s }) (sum_nothing t.damping)
added_nothing t classes.Link = ap (λ (s : Sum). record t { link = s }) (sum_nothing t.link)
added_nothing t classes.Contact = ap (λ (s : Sum). record t { contact = s }) (sum_nothing t.contact)
added_nothing t classes.Pin = ap (λ (s : Sum). record t { pin = s }) (sum_nothing t.pin)
added_nothing t classes.Shape = ap (λ (s : Sum). record t { shape = s }) (sum_nothing t.shape)

-- entries depend on the moves alone
pub same_entries : (p q : Bool) (class : Class) (s t : Shift) (u : Ledger) → s.first_move ≡ t.first_move → s.second_move ≡ t.second_move
    → booked u (entries_of p q class s) ≡ booked u (entries_of p q class t)
same_entries false false class s t u first second = λ i. added (added u class (first i)) class (second i)
same_entries false true class s t u first second = λ i. added u classes.Pin (first i)
same_entries true false class s t u first second = λ i. added u classes.Pin (second i)
same_entries true true class s t u first second = refl

still_entries : (p q : Bool) (class : Class) (s : Shift) (u : Ledger) → s.first_move ≡ zero_vector → s.second_move ≡ zero_vector
    → booked u (entries_of p q class s) ≡ u
still_entries false false class s u first second = (λ i. added (added u class (first i)) class (second i))
    ∙ ap (λ (t : Ledger). added t class zero_vector) (added_nothing u class) ∙ added_nothing u class
still_entries false true class s u first second = (λ i. added u classes.Pin (first i)) ∙ added_nothing u classes.Pin
still_entries true false class s u first second = (λ i. added u classes.Pin (second i)) ∙ added_nothing u classes.Pin
still_entries true true class s u first second = refl

-- ---- a correction by cases of its two tests

leaves_case : (limit : ℤ) (p q : End) (slack : Bool) (m : Vec3 × Vec3) (s : Shift) → is_within limit p.at ≡ true
    → is_within limit q.at ≡ true
    → s ≡ shift_by p q m.0 m.1 → leaves_by (cond slack Slack (cond (is_within limit s.first && is_within limit s.second) (Moves s) Leaves))
    ≡ not
    (is_within limit (plus p.at (cond slack (zero_vector, zero_vector) m).0)
    && is_within limit (plus q.at (cond slack (zero_vector, zero_vector) m).1))
leaves_case limit p q true m s hp hq e = sym ((λ i. not (is_within limit (plus_nothing p.at i) && is_within limit (plus_nothing q.at i)))
    ∙ (λ i. not (hp i && hq i)))
leaves_case limit p q false m s hp hq e = by_test (is_within limit s.first && is_within limit s.second) ∙ (λ i. not (is_within limit
    (e i).first && is_within limit (e i).second)) where
      by_test : (w : Bool) → leaves_by (cond w (Moves s) Leaves) ≡ not w
      by_test true = refl
      by_test false = refl

-- `by` does to one end what a correction says, and `part` is that end's of two moves
end_case : (by : Correction → Particle → Particle) (part : Vec3 × Vec3 → Vec3) (slack w : Bool) (m : Vec3 × Vec3) (s : Shift) (x : Particle)
    → by Slack x ≡ x → part (zero_vector, zero_vector) ≡ zero_vector → by (Moves s) x ≡ record x { at = plus x.at (part m) }
    → leaves_by (cond slack Slack (cond w (Moves s) Leaves)) ≡ false
    → by (cond slack Slack (cond w (Moves s) Leaves)) x ≡ record x { at = plus x.at (part (cond slack (zero_vector, zero_vector) m)) }
end_case by part true w m s x still none moves h =
    still ∙ ap (λ (v : Vec3). record x { at = v }) (sym (ap (plus x.at) none ∙ plus_nothing x.at))
end_case by part false true m s x still none moves h = moves
end_case by part false false m s x still none moves h = absurd (false≢true (sym h))

books_case : (slack w : Bool) (m : Vec3 × Vec3) (s t : Shift) (p q : Bool) (b : Bond) (u : Ledger) → s.first_move ≡ m.0
    → s.second_move ≡ m.1
    → t.first_move ≡ (cond slack (zero_vector, zero_vector) m).0 → t.second_move ≡ (cond slack (zero_vector, zero_vector) m).1
    → leaves_by (cond slack Slack (cond w (Moves s) Leaves)) ≡ false
    → booked u (entries_of p q (class_of b) t) ≡ booked_by p q b (cond slack Slack
    (cond w (Moves s) Leaves)) u
books_case true w m s t p q b u e1 e2 h1 h2 h = still_entries p q (class_of b) t u h1 h2
books_case false true m s t p q b u e1 e2 h1 h2 h = same_entries p q (class_of b) t s u (h1 ∙ sym e1) (h2 ∙ sym e2)
books_case false false m s t p q b u e1 e2 h1 h2 h = absurd (false≢true (sym h))

-- ---- a bond

shift_moves : (p q : End) (b : Bond) → shift_of p q b ≡ shift_by p q
    (pair_moves (minus p.at q.at) zero_vector b.rest b.k p.weight q.weight).0 (pair_moves
    (minus p.at q.at) zero_vector b.rest b.k p.weight q.weight).1
unfolding shift_of
shift_moves p q b = ap (λ (m : Vec3 × Vec3). shift_by p q m.0 m.1) (pair_moves-along p.at q.at b.rest b.k p.weight q.weight)

pub leaves_moving : (limit : ℤ) (p q : End) (b : Bond) → is_within limit p.at ≡ true → is_within limit q.at ≡ true
    → leaves_by (correction_of limit p q b) ≡ not (is_within limit (plus p.at (moves_of p q b).0)
    && is_within limit (plus q.at (moves_of p q b).1))
unfolding correction_of is_slack moves_by
leaves_moving limit p q b hp hq = leaves_case limit p q (is_slack p q b)
    (pair_moves (minus p.at q.at) zero_vector b.rest b.k p.weight q.weight)
    (shift_of p q b) hp hq (shift_moves p q b)

-- one end, whose place is `at`, where it moves
end_moving : (by : Correction → Particle → Particle) (part : Vec3 × Vec3 → Vec3) (place : Shift → Vec3) (at : Vec3) (limit : ℤ) (p q : End)
    (b : Bond) (x : Particle) → by Slack x ≡ x → part (zero_vector, zero_vector) ≡ zero_vector
    → ((s : Shift) → by (Moves s) x ≡ record x { at = place s })
    → ((m : Vec3 × Vec3) → place (shift_by p q m.0 m.1) ≡ plus at (part m)) → at ≡ x.at → leaves_by (correction_of limit p q b) ≡ false
    → by (correction_of limit p q b) x ≡ record x { at = plus x.at (part (moves_of p q b)) }
unfolding correction_of is_slack moves_by
end_moving by part place at limit p q b x still none moves placed e h =
    let s = shift_of p q b in
    let m = pair_moves (minus p.at q.at) zero_vector b.rest b.k p.weight q.weight in
    end_case by part (is_slack p q b) (is_within limit s.first && is_within limit s.second) m s x still none
    (moves s ∙ ap (λ (v : Vec3). record x { at = v })
    (ap place (shift_moves p q b) ∙ placed m ∙ ap (λ (v : Vec3). plus v (part m)) e)) h

pub first_moving : (limit : ℤ) (p q : End) (b : Bond) (x : Particle) → p.at ≡ x.at → leaves_by (correction_of limit p q b) ≡ false
    → first_by (correction_of limit p q b) x ≡ record x { at = plus x.at (moves_of p q b).0 }
first_moving limit p q b x e h = end_moving first_by (λ (m : Vec3 × Vec3). m.0) (λ (t : Shift). t.first) p.at limit p q b x refl refl
    (λ s. refl) (λ m. refl) e h

pub second_moving : (limit : ℤ) (p q : End) (b : Bond) (x : Particle) → q.at ≡ x.at → leaves_by (correction_of limit p q b) ≡ false
    → second_by (correction_of limit p q b) x ≡ record x { at = plus x.at (moves_of p q b).1 }
second_moving limit p q b x e h = end_moving second_by (λ (m : Vec3 × Vec3). m.1) (λ (t : Shift). t.second) q.at limit p q b x refl refl
    (λ s. refl) (λ m. refl) e h

pub books_moving : (limit : ℤ) (p q : End) (b : Bond) (f g : Bool) (t : Shift) (u : Ledger) → t.first_move ≡ (moves_of p q b).0
    → t.second_move ≡ (moves_of p q b).1 → leaves_by (correction_of limit p q b) ≡ false
    → booked u (entries_of f g (class_of b) t) ≡ booked_by f g b
    (correction_of limit p q b) u
unfolding correction_of is_slack moves_by
books_moving limit p q b f g t u h1 h2 h =
    let s = shift_of p q b in
    books_case (is_slack p q b) (is_within limit s.first && is_within limit s.second)
    (pair_moves (minus p.at q.at) zero_vector b.rest b.k p.weight q.weight) s t f g b u
    (ap (λ (t : Shift). t.first_move) (shift_moves p q b))
    (ap (λ (t : Shift). t.second_move) (shift_moves p q b)) h1 h2 h
