use Rattle.std.proofs.Common.{◌≡◌, refl, rules, w64, FitsSigned, ℕ, ◌+◌, ◌≤◌, List, [], ◌∷◌, ◌++◌, length, append_assoc, arith}
use Rattle.std.specs.Prelude.{ℤ}
use Rattle.std.proofs.lemmas.Int.{ints, to_z-of_z}
use Rattle.std.proofs.lemmas.List.{length_push}
use Rattle.pbd_session.specs.Replaying.{axis}
use Rattle.std.specs.Fmt.{signed_decimal}
use Rattle.pbd_run.proofs.line.push_axes.Goals as goal

-- how much longer a space makes a line, and how much a number and the space before it
one_longer : (old new : List ℕ) → new ≡ old ++ 32 ∷ [] → length new ≡ length old + 1
one_longer old new is = rw is (length_push old 32)

longer : (old spaced new : List ℕ) → spaced ≡ old ++ 32 ∷ [] → length new ≤ length spaced + 20 → length new ≤ length old + 21
longer old spaced new is most = omega (arith, most, one_longer old spaced is)

grouped : (l x y z : List ℕ) → (((((l ++ 32 ∷ []) ++ x) ++ 32 ∷ []) ++ y) ++ 32 ∷ []) ++ z ≡ l ++ 32 ∷ (x ++ 32 ∷ (y ++ 32 ∷ z))
grouped l x y z = simp append_assoc refl

axes_pushed : (l : List ℕ) {l1 l2 l3 l4 l5 l6 : List ℕ} {a b c x y z : ℤ} → l1 ≡ l ++ 32 ∷ [] → l2 ≡ l1 ++ signed_decimal a
    → l3 ≡ l2 ++ 32 ∷ [] → l4 ≡ l3 ++ signed_decimal b → l5 ≡ l4 ++ 32 ∷ [] → l6 ≡ l5 ++ signed_decimal c → a ≡ x → b ≡ y → c ≡ z
    → l6 ≡ l ++ 32 ∷ (signed_decimal x ++ 32 ∷ (signed_decimal y ++ 32 ∷ signed_decimal z))
axes_pushed l {x} {y} {z} e1 e2 e3 e4 e5 e6 ax by cz =
    rw (e6, e5, e4, e3, e2, e1, ax, by, cz) (grouped l (signed_decimal x) (signed_decimal y) (signed_decimal z))

pub returns-clause-bytes : goal.returns-clause-bytes
returns-clause-bytes c =
    let f : FitsSigned w64 (axis c.args.axes.now 0) = search rules in
    axes_pushed c.args.line.now c.push.ensures c.push_signed.ensures.bytes c.push-2.ensures c.push_signed-2.ensures.bytes
    c.push-3.ensures c.push_signed-3.ensures.bytes (to_z-of_z w64 (axis c.args.axes.now 0) f) (search (rules, to_z-of_z))
    (search (arith, ints, to_z-of_z))

pub push-requires-3 : goal.push-requires-3
push-requires-3 c =
    omega (
      arith,
      c.requires,
      longer _ _ _ c.push.ensures c.push_signed.ensures.len,
      longer _ _ _ c.push-2.ensures c.push_signed-2.ensures.len,
    )

pub push_signed-requires-2 : goal.push_signed-requires-2
push_signed-requires-2 c =
    omega (arith, c.requires, longer _ _ _ c.push.ensures c.push_signed.ensures.len, one_longer _ _ c.push-2.ensures)

pub push_signed-requires-3 : goal.push_signed-requires-3
push_signed-requires-3 c =
    omega (
      arith,
      c.requires,
      longer _ _ _ c.push.ensures c.push_signed.ensures.len,
      longer _ _ _ c.push-2.ensures c.push_signed-2.ensures.len,
      one_longer _ _ c.push-3.ensures,
    )

pub returns-clause-len : goal.returns-clause-len
returns-clause-len c =
    omega (
      arith,
      longer _ _ _ c.push.ensures c.push_signed.ensures.len,
      longer _ _ _ c.push-2.ensures c.push_signed-2.ensures.len,
      longer _ _ _ c.push-3.ensures c.push_signed-3.ensures.len,
    )
