use Rattle.std.proofs.Common.{◌≡◌, ◌∙◌, ◌∷◌, [], ℕ, ℤ, pos, to_z, of_z, FitsSigned}
use Rattle.std.specs.Int.{w128}
use Rattle.std.proofs.lemmas.Int.{to_z-of_z}
use Rattle.pbd_session.specs.Replaying.{against}
use Rattle.pbd_session.specs.declared.ending.Compared.{Compared}
use Rattle.pbd_session.specs.declared.ending.Field.TheVariants.{Steps, Live, Contacts}
use Rattle.pbd_session.specs.declared.ending.Field.{Field}
use Rattle.pbd_session.proofs.replay.compared_sums.Goals as goal

-- counts are compared as they are
counts : {x : Compared} {a b : ℤ} {m n : ℕ} (field : Field) → FitsSigned w128 a → FitsSigned w128 b → a ≡ pos m → b ≡ pos n
    → x ≡ against field (to_z w128 (of_z w128 a)) (to_z w128 (of_z w128 b)) → x ≡ against field (pos m) (pos n)
counts {x} {a} {b} field fa fb is other e = e ∙ (λ i. against field ((to_z-of_z w128 a fa ∙ is) i) ((to_z-of_z w128 b fb ∙ other) i))

pub returns : goal.returns
returns c =
    let steps = counts Steps (record { sfits = c.from.type_inv })
    (record { sfits = c.from-2.type_inv }) c.from.ensures c.from-2.ensures c.against.ensures in
    let live = counts Live (record { sfits = c.from-3.type_inv })
    (record { sfits = c.from-4.type_inv }) c.from-3.ensures c.from-4.ensures c.against-2.ensures in
    let contacts = counts Contacts (record { sfits = c.from-5.type_inv })
    (record { sfits = c.from-6.type_inv }) c.from-5.ensures c.from-6.ensures c.against-3.ensures in
    λ i. steps i ∷ live i ∷ contacts i ∷ c.against_axis.ensures i ∷ c.against_axis-2.ensures i ∷ c.against_axis-3.ensures i
    ∷ c.against_axis-4.ensures i ∷ c.against_axis-5.ensures i ∷ c.against_axis-6.ensures i ∷ []
