-- What a move is, of what the columns hold of its way.
use Rattle.std.proofs.Common.{◌≡◌, ◌∙◌, sym, ap, cond, ℕ, ◌≤◌, ◌^◌, arith, pos, ℤ, ◌-ℤ◌, ◌*ℤ◌, ◌<ℤ◌, ◌≤ℤ◌, unsigned_abs}
use Rattle.std.specs.Prelude.{int_le, Bool, true, false}
use Rattle.std.proofs.lemmas.Bool.{cond-true, cond-false}
use Rattle.std.proofs.lemmas.Bool.Decides.{nat_tests}
use Rattle.std.proofs.lemmas.Int.{ints, clamps, by_lt_z}
use Rattle.pbd_num.specs.declared.Vec3.{Vec3}
use Rattle.pbd_num.specs.declared.row.Row.{Row}
use Rattle.pbd_num.specs.Rounding.{rdiv, root}
use Rattle.pbd_num.specs.Rows.{vector_of}
use Rattle.pbd_num.specs.Vectors.{Within, length_of, scaled}
use Rattle.pbd_num.specs.PairMove.{along, corrections}
use Rattle.pbd_num.proofs.Sizes.{size_above, size_below}
use Rattle.pbd_num.proofs.Lengths.{axes_le_length}
use Rattle.pbd_num.proofs.Ends.{same_axes}
use Rattle.pbd_near.specs.declared.shares.Taken.{Taken}
use Rattle.pbd_near.specs.Moves.{IsPulled, pulled_by}
use Rattle.pbd_near.specs.Columns.{IsTaken, IsMove, short_of, axes_of}

-- an axis that is shorter than 2^15 wasn't cut
uncut : (z s : ℤ) → s ≡ short_of z → unsigned_abs s ≤ 32767 → s ≡ z
uncut z s is short = omega (arith, ints, clamps, size_above s, size_below s)

-- nor was any of a way of which the columns hold the square of a length below 2^15
same_way : (way : Row) (t : Taken) → IsTaken way t → root t.square ≤ 32767 → axes_of t ≡ vector_of way
same_way way t taken short =
    let size : length_of (axes_of t) ≡ root t.square = ap root (sym taken.square) in
    let within = axes_le_length (axes_of t) in
    same_axes (axes_of t) (vector_of way)
    (uncut way.x t.x taken.x (omega (arith, within.x)))
    (uncut way.y t.y taken.y (omega (arith, within.y)))
    (uncut way.z t.z taken.z (omega (arith, within.z)))

-- the part of an error along one axis
abbrev pub part : ℤ → ℤ → ℤ → ℤ → ℤ
part error axis length factor = rdiv (along error axis (unsigned_abs length) *ℤ factor) (pos 512)

same_part : (error axis other length factor : ℤ) (n : ℕ) → length ≡ pos n → axis ≡ other
    → part error axis length factor ≡ rdiv (along (pos n -ℤ (length -ℤ error)) other n *ℤ factor) (pos 512)
same_part error axis other length factor n l same =
    let back : error ≡ pos n -ℤ (length -ℤ error) = omega (arith, ints, l) in
    let size : unsigned_abs length ≡ n = ap unsigned_abs l in
    ap (λ m. rdiv (along error axis m *ℤ factor) (pos 512)) size
    ∙ ap (λ a. rdiv (along error a n *ℤ factor) (pos 512)) same
    ∙ ap (λ e. rdiv (along e other n *ℤ factor) (pos 512)) back

pub moved : (way : Row) (t : Taken) (length error factor : ℤ) (move : Vec3) → IsTaken way t → length ≤ℤ pos 32767 → pos 0 <ℤ length
    → length ≡ pos (root t.square) → move.x ≡ part error t.x length factor → move.y ≡ part error t.y length factor
    → move.z ≡ part error t.z length factor → Within (2 ^ 16) move → IsMove (vector_of way) length error factor move
moved way t length error factor move taken high some is x y z size =
    let same : axes_of t ≡ vector_of way = same_way way t taken (omega (arith, ints, is)) in
    let long : root t.square ≡ length_of (vector_of way) = ap root taken.square ∙ ap length_of same in
    let l : length ≡ pos (length_of (vector_of way)) = is ∙ ap pos long in
    record {
      long = l;
      apart = omega (arith, ints, l, some);
      value = same_axes move _
          (x ∙ same_part error t.x way.x length factor (length_of (vector_of way)) l (ap (λ (v : Vec3). v.x) same))
          (y ∙ same_part error t.y way.y length factor (length_of (vector_of way)) l (ap (λ (v : Vec3). v.y) same))
          (z ∙ same_part error t.z way.z length factor (length_of (vector_of way)) l (ap (λ (v : Vec3). v.z) same));
      size = size;
    }

-- the factor that counts, by the least error that isn't pulled
factor_counts : (contact : Bool) (slack error factor given rest : ℤ) (n : ℕ) → slack ≡ cond contact (pos 0) (pos 32768) → error ≡ pos n -ℤ rest
    → unsigned_abs error ≤ 32767 → (slack ≤ℤ error → factor ≡ pos 0) → (error <ℤ slack → factor ≡ given)
    → factor ≡ pulled_by given contact rest n
factor_counts false slack error factor given rest n s e size none some = some (omega (arith, ints, s, size_above error))
factor_counts true slack error factor given rest n s e size none some = by_lt_z error (pos 0)
    (λ h. some (omega (arith, ints, s)) ∙ sym (cond-false (int_le rest (pos n)) (pos 0) given (grind (arith, ints, nat_tests))))
    (λ h. none (omega (arith, ints, s)) ∙ sym (cond-true (int_le rest (pos n)) (pos 0) given (grind (arith, ints, nat_tests))))

-- a move by the factor that counts is what the bond is pulled by
pub pulled : (way : Vec3) (length error factor given rest slack : ℤ) (contact : Bool) (move : Vec3)
    → slack ≡ cond contact (pos 0) (pos 32768) → error ≡ length -ℤ rest → unsigned_abs error ≤ 32767 → (slack ≤ℤ error → factor ≡ pos 0)
    → (error <ℤ slack → factor ≡ given) → pos 0 ≤ℤ given → IsMove way length error factor move → IsPulled way rest given contact move
pulled way length error factor given rest slack contact move s e size none some asked m =
    let back : length -ℤ error ≡ rest = omega (arith, ints, e) in
    let short : error ≡ pos (length_of way) -ℤ rest = omega (arith, ints, e, m.long) in
    let counts = factor_counts contact slack error factor given rest (length_of way) s short size none some in
    record {
      asked = asked;
      apart = m.apart;
      value = m.value
          ∙ ap (λ r. scaled factor (pos 512) (corrections way r)) back
          ∙ ap (λ f. scaled f (pos 512) (corrections way rest)) counts;
      size = m.size;
    }
