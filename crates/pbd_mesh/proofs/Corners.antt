-- Links between cells of a grid: where they are alike, and where they touch a particle.
use Rattle.std.proofs.Common.{◌≡◌, ◌∙◌, sym, ℕ, ◌+◌, ◌-◌, ◌*◌, ◌<◌, ◌≤◌, ◌⊎◌, inl, inr, true, false, ◌==◌, ◌&&◌, ◌||◌, arith}
use Rattle.std.proofs.lemmas.Bool.{and_parts, or_cases, cases_lt, eqb-true, false_from_ne_true}
use Rattle.std.proofs.Math.Nat.{mul-le-mul_right}
use Rattle.pbd_world.specs.declared.parts.Link.{Link}
use Rattle.pbd_world.specs.Valid.{join_alike}

-- a row below another is a whole row before it
pub row_before : (W x y : ℕ) → x < y → x * W + W ≤ y * W
row_before W x y h = let k : (x + 1) * W ≤ y * W = mul-le-mul_right W (omega arith) in omega (arith, k)

-- a number names one cell
pub cell_of : (W x y c d : ℕ) → c < W → d < W → x * W + c ≡ y * W + d → (x ≡ y) × (c ≡ d)
cell_of W x y c d hc hd e = elim (cases_lt x y) [
  | inl below ↦ absurd (omega (arith, row_before W x y below))
  | inr above ↦ elim (cases_lt y x) [
    | inl below ↦ absurd (omega (arith, row_before W y x below))
    | inr level ↦ (let same : x ≡ y = omega arith in (same, (let f : y * W + c ≡ y * W + d = rw same at e in omega (arith, f))))
  ]
]

-- a link from a cell of row r to a cell h rows below it, in these columns, of a grid with W columns
pub record Shaped (W base r h first second : ℕ) (l : Link) : Type 0 where
  pub a : l.a ≡ base + r * W + first
  pub b : l.b ≡ base + (r + h) * W + second
  pub first_within : first < W
  pub second_within : second < W
  pub ordered : h ≡ 0 → first < second

-- two links that join the same particles join the same cells
pub same_shape : (W base r h f s q g u v : ℕ) (l m : Link) → Shaped W base r h f s l → Shaped W base q g u v m → join_alike l m ≡ true
    → (r ≡ q) × (h ≡ g) × (f ≡ u) × (s ≡ v)
same_shape W base r h f s q g u v l m p t alike =
    elim (or_cases (l.a == m.a && l.b == m.b) (l.a == m.b && l.b == m.a) alike) [
      | inl e ↦
          let ends = and_parts (l.a == m.a) (l.b == m.b) e in
          let ea = eqb-true l.a m.a ends.0 in
          let eb = eqb-true l.b m.b ends.1 in
          let x = cell_of W r q f u p.first_within t.first_within (omega (arith, ea, p.a, t.a)) in
          let y = cell_of W (r + h) (q + g) s v p.second_within t.second_within (omega (arith, eb, p.b, t.b)) in
          (x.0, omega (arith, x.0, y.0), x.1, y.1)
      | inr e ↦
          let ends = and_parts (l.a == m.b) (l.b == m.a) e in
          let ea = eqb-true l.a m.b ends.0 in
          let eb = eqb-true l.b m.a ends.1 in
          let x = cell_of W r (q + g) f v p.first_within t.second_within (omega (arith, ea, p.a, t.b)) in
          let y = cell_of W (r + h) q s u p.second_within t.first_within (omega (arith, eb, p.b, t.a)) in
          let left = p.ordered (omega (arith, x.0, y.0)) in
          let right = t.ordered (omega (arith, x.0, y.0)) in
          absurd (omega (arith, x.1, y.1, left, right))
    ]

-- a link of these shapes begins at a corner: the least row and column of its ends
pub record Corner (W base total span r c : ℕ) (l : Link) : Type 0 where
  pub h : ℕ
  pub w : ℕ
  pub first : ℕ
  pub second : ℕ
  pub shaped : Shaped W base r h first second l
  pub sum : h + w ≡ total
  pub tall : (h ≡ 0) ⊎ (h ≡ span)
  pub wide : (w ≡ 0) ⊎ (w ≡ span)
  pub ends : ((first ≡ c) × (second ≡ c + w)) ⊎ ((first ≡ c + w) × (second ≡ c))

-- links with different corners are not alike
pub other_corners : (W base total span r c q d : ℕ) (l m : Link) → ((r ≡ q) → (c ≡ d) → ⊥) → Corner W base total span r c l
    → Corner W base total span q d m → join_alike l m ≡ false
other_corners W base total span r c q d l m differ p t = false_from_ne_true (join_alike l m) (λ alike.
    let same = same_shape W base r p.h p.first p.second q t.h t.first t.second l m p.shaped t.shaped alike in
    differ same.0 (elim p.ends [
      | inl e ↦ elim t.ends [
        | inl f ↦ omega (arith, same.2, e.0, f.0)
        | inr f ↦ omega
            (arith, same.1, same.2, same.3, e.0, e.1, f.0, f.1, p.sum, t.sum)
      ]
      | inr e ↦ elim t.ends [
        | inl f ↦ omega (arith, same.1, same.2, same.3, e.0, e.1, f.0, f.1, p.sum, t.sum)
        | inr f ↦ omega
            (arith, same.3, e.1, f.1)
      ]
    ]))

-- nor are links of different kinds
pub other_totals : (W base total span r c sum reach q d : ℕ) (l m : Link) → (total ≡ sum → ⊥) → Corner W base total span r c l
    → Corner W base sum reach q d m → join_alike l m ≡ false
other_totals W base total span r c sum reach q d l m differ p t = false_from_ne_true (join_alike l m) (λ alike.
    let same = same_shape W base r p.h p.first p.second q t.h t.first t.second l m p.shaped t.shaped alike in
    differ (elim p.ends [
      | inl e ↦ elim t.ends [
        | inl f ↦ omega (arith, same.1, same.2, same.3, e.0, e.1, f.0, f.1, p.sum, t.sum)
        | inr f ↦ omega
            (arith, same.1, same.2, same.3, e.0, e.1, f.0, f.1, p.sum, t.sum)
      ]
      | inr e ↦ elim t.ends [
        | inl f ↦ omega (arith, same.1, same.2, same.3, e.0, e.1, f.0, f.1, p.sum, t.sum)
        | inr f ↦ omega
            (arith, same.1, same.2, same.3, e.0, e.1, f.0, f.1, p.sum, t.sum)
      ]
    ]))

-- a diagonal one cell high isn't alike with a link two cells long
pub diagonal_not_bend : (W base r c q d : ℕ) (l m : Link) → Corner W base 2 1 r c l → Corner W base 2 2 q d m → join_alike l m ≡ false
diagonal_not_bend W base r c q d l m p t = false_from_ne_true (join_alike l m) (λ alike.
    let same = same_shape W base r p.h p.first p.second q t.h t.first t.second l m p.shaped t.shaped alike in
    let high : p.h ≡ 1 = elim p.tall [
      | inl e ↦ elim p.wide
          [ inl f ↦ absurd (omega (arith, e, f, p.sum)) | inr f ↦ absurd (omega (arith, e, f, p.sum)) ]
      | inr e ↦ e
    ] in
    elim t.tall [ inl e ↦ omega (arith, same.1, high, e) | inr e ↦ omega (arith, same.1, high, e) ])

-- ---- the ends at a particle

-- a particle of this row and column is one of the ends
pub touches : (W base r h f s x y i : ℕ) (l : Link) → Shaped W base r h f s l → y < W → i ≡ base + x * W + y → (l.a == i || l.b == i) ≡ true
    → ((x ≡ r) × (y ≡ f)) ⊎ ((x ≡ r + h) × (y ≡ s))
touches W base r h f s x y i l p within is t = elim (or_cases (l.a == i) (l.b == i) t) [
  | inl e ↦ (let k = eqb-true l.a i e in inl (cell_of W x r y f within p.first_within (omega (arith, k, is, p.a))))
  | inr e ↦ (let k = eqb-true l.b i e in inr (cell_of W x (r + h) y s within p.second_within (omega (arith, k, is, p.b))))
]

-- a link whose corner is elsewhere isn't at the particle
pub other_rows : (W base total span r c x y i : ℕ) (l : Link) → Corner W base total span r c l → y < W → i ≡ base + x * W + y → (r ≡ x → ⊥)
    → (r ≡ x - span → ⊥) → (l.a == i || l.b == i) ≡ false
other_rows W base total span r c x y i l p within is here before = false_from_ne_true (l.a == i || l.b == i) (λ t.
    elim (touches W base r p.h p.first p.second x y i l p.shaped within is t) [
      | inl e ↦ here (sym e.0)
      | inr e ↦ elim p.tall [ inl k ↦ here (omega (arith, e.0, k)) | inr k ↦ before (omega (arith, e.0, k)) ]
    ])

pub other_columns : (W base total span r c x y i : ℕ) (l : Link) → Corner W base total span r c l → y < W → i ≡ base + x * W + y
    → (c ≡ y → ⊥) → (c ≡ y - span → ⊥) → (l.a == i || l.b == i) ≡ false
other_columns W base total span r c x y i l p within is here before = false_from_ne_true (l.a == i || l.b == i) (λ t.
    let at : (y ≡ c) ⊎ (y ≡ c + p.w) = elim (touches W base r p.h p.first p.second x y i l p.shaped within is t) [
      | inl e ↦ elim p.ends [ inl f ↦ inl (e.1 ∙ f.0) | inr f ↦ inr (e.1 ∙ f.0) ]
      | inr e ↦ elim p.ends [ inl f ↦ inr (e.1 ∙ f.1) | inr f ↦ inl (e.1 ∙ f.1) ]
    ] in
    elim at [
      | inl e ↦ here (sym e)
      | inr e ↦ elim p.wide [ inl k ↦ here (omega (arith, e, k)) | inr k ↦ before (omega (arith, e, k)) ]
    ])
