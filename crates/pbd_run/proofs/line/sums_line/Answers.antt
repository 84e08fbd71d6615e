use Rattle.std.proofs.Common.{◌≡◌, refl, List, [], ◌∷◌, ◌++◌, ℕ, append_assoc, codes, decimal}
use Rattle.std.specs.Fmt.{signed_decimal}
use Rattle.pbd_session.specs.Replaying.{axis}
use Rattle.pbd_outcome.specs.Generated.{sums_line}
use Rattle.pbd_run.proofs.line.sums_line.Goals as goal

grouped : (w a b c d e f g h i : List ℕ) → (((((((w ++ a) ++ 32 ∷ []) ++ b) ++ 32 ∷ []) ++ c) ++ 32 ∷ (d ++ 32 ∷ (e ++ 32 ∷ f))) ++ 32
    ∷ (g ++ 32 ∷ (h ++ 32 ∷ i))) ++ 10 ∷ []
    ≡ w ++ (a ++ 32 ∷ (b ++ 32 ∷ (c ++ 32 ∷ (d ++ 32 ∷ (e ++ 32 ∷ (f ++ 32 ∷ (g ++ 32 ∷ (h ++ 32 ∷ (i ++ 10 ∷ [])))))))))
grouped w a b c d e f g h i = simp append_assoc refl

pub returns : goal.returns
unfolding sums_line
returns c =
    let s = c.args.sums.now in
    rw (
      c.push-4.ensures,
      c.push_axes-2.ensures.bytes,
      c.push_axes.ensures.bytes,
      c.push_number-3.ensures.bytes,
      c.push-3.ensures,
      c.push_number-2.ensures.bytes,
      c.push-2.ensures,
      c.push_number.ensures.bytes,
      c.push.ensures,
      c.new-line.ensures,
      c.from.ensures,
      c.from-2.ensures,
    )
    (grouped (codes "sums ") (decimal s.steps) (decimal s.live) (decimal s.contacts) (signed_decimal (axis s.at 0))
    (signed_decimal (axis s.at 1)) (signed_decimal (axis s.at 2)) (signed_decimal (axis s.before 0)) (signed_decimal (axis s.before 1))
    (signed_decimal (axis s.before 2)))
