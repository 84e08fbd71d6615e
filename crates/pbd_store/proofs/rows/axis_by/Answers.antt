use Rattle.std.proofs.Common.{◌≡◌, ◌∙◌, ◌*◌, ◌<◌, ◌^◌, ℕ, ap, arith, pos, to_z, of_z, w32, w64, ℤ, FitsSigned, ◌+ℤ◌, ◌-ℤ◌, ◌*ℤ◌}
use Rattle.std.proofs.lemmas.Int.{ints, to_z-of_z}
use Rattle.pbd_num.proofs.Sizes.{fits}
use Rattle.pbd_num.proofs.VectorSizes.{word}
use Rattle.pbd_store.specs.InRows.{axis_of}
use Rattle.pbd_store.proofs.InRows.{axis_fits, joined_below, joined_above}
use Rattle.pbd_store.proofs.rows.axis_by.Goals as goal

-- both halves, as they are joined in 64 bits
joined : (join : ℤ → ℤ → ℤ) (low : ℤ) (high : ℕ) (near beyond : ℤ) → FitsSigned w32 low → high < 2 ^ 32 → FitsSigned w64 near
    → FitsSigned w64 beyond → near ≡ to_z w32 (of_z w32 low) → beyond ≡ pos high → join low (pos (high * 2147483648)) ≡ axis_of low high
    → word (join (word near) (word (word beyond *ℤ pos 2147483648))) ≡ axis_of low high
joined join low high near beyond range high_range near_fits beyond_fits near_is beyond_is whole =
    let first : word near ≡ low = to_z-of_z w64 near near_fits ∙ near_is ∙ to_z-of_z w32 low range in
    let second : word beyond ≡ pos high = to_z-of_z w64 beyond beyond_fits ∙ beyond_is in
    let far = to_z-of_z w64 (pos (high * 2147483648)) (fits (pos (high * 2147483648)) (omega (arith, high_range))) in
    (λ t. word (join (first t) (word (second t *ℤ pos 2147483648)))) ∙ (λ t. word (join low (far t))) ∙ ap (λ (z : ℤ). word z) whole
    ∙ to_z-of_z w64 (axis_of low high) (axis_fits low high range high_range)

pub returns-then-low-lt0 : goal.returns-then-low-lt0
returns-then-low-lt0 c =
    let range = c.ranges.low in
    let below = simp to_z-of_z at c.if-low-lt0.true in
    joined (λ a b. a -ℤ b) c.args.low c.args.high c.from.result c.from-beyond.result range c.ranges.high.fits
    (record { sfits = c.from.type_inv }) (record { sfits = c.from-beyond.type_inv }) c.from.ensures c.from-beyond.ensures
    (joined_below c.args.low c.args.high (omega (arith, ints, below)))

pub returns-else-low-lt0 : goal.returns-else-low-lt0
returns-else-low-lt0 c =
    let range = c.ranges.low in
    let above = simp to_z-of_z at c.if-low-lt0.false in
    joined (λ a b. a +ℤ b) c.args.low c.args.high c.from-else-low-lt0.result c.from-beyond.result range c.ranges.high.fits
    (record { sfits = c.from-else-low-lt0.type_inv }) (record { sfits = c.from-beyond.type_inv }) c.from-else-low-lt0.ensures
    c.from-beyond.ensures (joined_above c.args.low c.args.high (omega (arith, ints, above)))
