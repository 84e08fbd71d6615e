-- The order of entries is nothing to a ledger.
use Rattle.std.proofs.Common.{◌≡◌, ℤ, ◌+ℤ◌, List, [], ◌∷◌, Bool, refl, ◌∙◌, ap, arith}
use Rattle.std.proofs.lemmas.Int.{ints}
use Rattle.pbd_num.specs.declared.Vec3.{Vec3}
use Rattle.pbd_world.specs.declared.totals.Class.{Class}
use Rattle.pbd_world.specs.declared.totals.Class.TheVariants as classes
use Rattle.pbd_world.specs.declared.bond.Bond.{Bond}
use Rattle.pbd_world.specs.declared.bond.Correction.{Correction}
use Rattle.pbd_world.specs.declared.bond.Correction.TheVariants.{Slack, Leaves, Moves}
use Rattle.pbd_world.specs.Ledger.{Sum, Ledger, Entry, sum_plus, added, booked}
use Rattle.pbd_world.specs.Bonds.{entries_of, class_of}
use Rattle.pbd_pair.proofs.Correcting.{booked_by}
use Rattle.pbd_world.proofs.MovedLemmas.{sum_in_turn}

added_swap : (t : Ledger) (c d : Class) (v w : Vec3) → added (added t c v) d w ≡ added (added t d w) c v
added_swap t classes.Gravity classes.Gravity v w = ap (λ (s : Sum). record t { gravity = s }) (sum_in_turn t.gravity v w)
added_swap t classes.Damping classes.Damping v w = ap (λ (s : Sum). record t { damping = s }) (sum_in_turn t.damping v w)
added_swap t classes.Link classes.Link v w = ap (λ (s : Sum). record t { link = s }) (sum_in_turn t.link v w)
added_swap t classes.Contact classes.Contact v w = ap (λ (s : Sum). record t { contact = s }) (sum_in_turn t.contact v w)
added_swap t classes.Pin classes.Pin v w = ap (λ (s : Sum). record t { pin = s }) (sum_in_turn t.pin v w)
added_swap t classes.Shape classes.Shape v w = ap (λ (s : Sum). record t { shape = s }) (sum_in_turn t.shape v w)
added_swap t c d v w = refl

booked_added : (es : List Entry) (t : Ledger) (c : Class) (v : Vec3) → booked (added t c v) es ≡ added (booked t es) c v
booked_added [] t c v = refl
booked_added (e ∷ es) t c v = ap (λ (u : Ledger). booked u es) (added_swap t c e.0 v e.1) ∙ booked_added es (added t e.0 e.1) c v

booked_swap : (ds es : List Entry) (t : Ledger) → booked (booked t ds) es ≡ booked (booked t es) ds
booked_swap [] es t = refl
booked_swap (d ∷ ds) es t = booked_swap ds es (added t d.0 d.1) ∙ ap (λ (u : Ledger). booked u ds) (booked_added es t d.0 d.1)

pub bonds_swap : (p q r s : Bool) (b d : Bond) (c e : Correction) (t : Ledger)
    → booked_by p q b c (booked_by r s d e t) ≡ booked_by r s d e (booked_by p q b c t)
bonds_swap p q r s b d Slack e t = refl
bonds_swap p q r s b d Leaves e t = refl
bonds_swap p q r s b d (Moves x) Slack t = refl
bonds_swap p q r s b d (Moves x) Leaves t = refl
bonds_swap p q r s b d (Moves x) (Moves y) t = booked_swap (entries_of r s (class_of d) y) (entries_of p q (class_of b) x) t
