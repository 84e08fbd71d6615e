-- What one bond does, and many one after another.
use Rattle.std.specs.Prelude.{ℕ, ℤ, pos, int_le, Bool, true, false, ◌&&◌, if◌then◌else◌, List, [], ◌∷◌, slice_index_or, Result, Ok, Err}
use Rattle.pbd_num.specs.Vectors.{plus, minus, length_of, is_within}
use Rattle.pbd_num.specs.PairMove.{pair_moves}
use Rattle.pbd_world.specs.declared.parts.Particle.{Particle}
use Rattle.pbd_world.specs.declared.parts.Link.{Link}
use Rattle.pbd_world.specs.declared.parts.Kind.TheVariants as kinds
use Rattle.pbd_world.specs.declared.bond.Bond.{Bond}
use Rattle.pbd_world.specs.declared.bond.End.{End}
use Rattle.pbd_world.specs.declared.bond.Shift.{Shift}
use Rattle.pbd_world.specs.declared.bond.Correction.{Correction}
use Rattle.pbd_world.specs.declared.bond.Correction.TheVariants.{Slack, Leaves, Moves}
use Rattle.pbd_world.specs.declared.totals.Class.{Class}
use Rattle.pbd_world.specs.declared.totals.Class.TheVariants as classes
use Rattle.pbd_world.specs.Ledger.{Entry, booked}
use Rattle.pbd_world.specs.Outcomes.{in_turn}
use Rattle.pbd_world.specs.Particles.{Motion, particle_at, placed, effective_weight}

abbrev pub no_link : Link
no_link = record { a = 0; b = 0; rest = pos 0; k = 0; tear = pos 0; kind = kinds.Plain; live = false }

-- link n
abbrev pub link_at : List Link → ℕ → Link
link_at links n = slice_index_or links n no_link

-- link n as a bond
abbrev pub link_bond : List Link → ℕ → Bond
link_bond links n =
    let l = link_at links n in
    record { a = l.a; b = l.b; rest = l.rest; k = pos l.k; contact = false }

-- contact n as a bond: stiff, and as long as the cloth is thick
abbrev pub contact_bond : ℤ → List (ℕ × ℕ) → ℕ → Bond
contact_bond thickness pairs n =
    let pair = slice_index_or pairs n (0, 0) in
    record { a = pair.0; b = pair.1; rest = thickness; k = pos 256; contact = true }

-- what a bond sees of a particle
abbrev pub end_of : Particle → End
end_of p = record { at = p.at; weight = pos (effective_weight p) }

-- a contact whose ends are far enough apart
unfoldable pub is_slack : End → End → Bond → Bool
is_slack p q bond = bond.contact && int_le bond.rest (pos (length_of (minus p.at q.at)))

-- the moves of two ends, and the places to which they lead
unfoldable pub shift_of : End → End → Bond → Shift
shift_of p q bond =
    let moves = pair_moves p.at q.at bond.rest bond.k p.weight q.weight in
    record { first = plus p.at moves.0; second = plus q.at moves.1; first_move = moves.0; second_move = moves.1 }

abbrev pub within_or_leaves : ℤ → Shift → Correction
within_or_leaves limit s = if is_within limit s.first && is_within limit s.second then Moves s else Leaves

-- what a bond does with two ends
unfoldable pub correction_of : ℤ → End → End → Bond → Correction
correction_of limit p q bond = if is_slack p q bond then Slack else within_or_leaves limit (shift_of p q bond)

-- the class of a bond with two free ends
abbrev pub class_of : Bond → Class
class_of bond = if bond.contact then classes.Contact else classes.Link

-- both moves of two free ends, and the free end's move of a bond whose other end is held
abbrev pub entries_of : Bool → Bool → Class → Shift → List Entry
entries_of false false class s = (class, s.first_move) ∷ (class, s.second_move) ∷ []
entries_of false true class s = (classes.Pin, s.first_move) ∷ []
entries_of true false class s = (classes.Pin, s.second_move) ∷ []
entries_of true true class s = []

-- a bond's particles are placed anew and its moves booked; where it leaves, its number n is told
abbrev pub corrected : ℕ → Bond → Correction → Motion → Result Motion ℕ
corrected n bond Slack m = Ok m
corrected n bond Leaves m = Err n
corrected n bond (Moves s) m = Ok (record {
  particles = placed (placed m.particles bond.a s.first) bond.b s.second;
  totals = booked m.totals (entries_of (particle_at m.particles bond.a).held (particle_at m.particles bond.b).held (class_of bond) s);
})

-- what a bond does with its two particles of a list
abbrev pub correction_at : ℤ → List Particle → Bond → Correction
correction_at limit ps bond = correction_of limit (end_of (particle_at ps bond.a)) (end_of (particle_at ps bond.b)) bond

-- bond n alone
unfoldable pub one : ℤ → (ℕ → Bond) → ℕ → Motion → Result Motion ℕ
one limit bond n m = corrected n (bond n) (correction_at limit m.particles (bond n)) m

-- the bonds of some numbers one after another, or the number of the first that leaves the limit
abbrev pub projected : ℤ → (ℕ → Bond) → List ℕ → Motion → Result Motion ℕ
projected limit bond numbers m = in_turn (one limit bond) numbers m
