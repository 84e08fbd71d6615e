use Rattle.std.proofs.Common.{◌≡◌, arith, w64, FitsSigned, ◌+ℤ◌, ◌-ℤ◌, ◌*ℤ◌, ◌<ℤ◌, ◌<◌, ◌≤◌, ◌^◌, pos, unsigned_abs, sym, ◌∙◌, ℤ}
use Rattle.std.proofs.lemmas.Int.{to_z-of_z}
use Rattle.pbd_num.specs.Rounding.{rdiv}
use Rattle.pbd_num.specs.Vectors.{dot as dot_product}
use Rattle.pbd_num.specs.declared.Vec3.{Vec3}
use Rattle.pbd_num.proofs.Sizes.{fits}
use Rattle.pbd_num.proofs.VectorSizes.{word}
use Rattle.pbd_world.specs.declared.parts.Plane.{Plane}
use Rattle.pbd_shape.specs.Valid.{IsPlane}
use Rattle.pbd_shape.proofs.Moves.{Lacks, lacks, plane_touches, plane_clears, square_low, square_high}
use Rattle.pbd_shape.proofs.plane.in_front.Goals.{After-dot}
use Rattle.pbd_shape.proofs.plane.in_front.Goals as goal

-- a number of less than 64 bits stands as it is
word_is : (z : ℤ) → unsigned_abs z < 2 ^ 63 → word z ≡ z
word_is z small = to_z-of_z w64 z (fits z small)

-- what the place lacks
lack : (c : After-dot) → Lacks c.args.plane c.args.p c.dot.result
lack c = lacks c.args.plane c.args.p c.dot.result c.requires.plane.offset c.dot.ensures.size c.dot.ensures.value

-- what a move along one axis asks
abbrev Asks : ℤ → ℤ → ℤ → ℤ → Type 0
Asks f l a s = record {
  from : unsigned_abs f ≤ 2 ^ 29;
  lack : unsigned_abs l ≤ 2 ^ 42;
  axis : unsigned_abs a ≤ 2 ^ 10;
  square : pos 0 <ℤ s;
  square_size : unsigned_abs s ≤ 2 ^ 40;
}

axis_asks : {plane : Plane} {p : Vec3} {product square : ℤ} (from axis : ℤ) → Lacks plane p product → IsPlane plane
    → square ≡ dot_product plane.normal plane.normal → unsigned_abs from ≤ 2 ^ 29 → unsigned_abs axis ≤ 2 ^ 10
    → Asks (word from) (word (word plane.offset -ℤ word product)) (word axis) (word square)
axis_asks {plane} {square = square} from axis lack h is from_size axis_size =
    let low : pos 0 <ℤ square = rw is (square_low plane.normal h.some) in
    let high : unsigned_abs square ≤ 2 ^ 40 = rw is (square_high plane.normal h.normal) in
    rw (lack.is, word_is from (omega arith), word_is axis (omega arith), word_is square (omega (arith, high)))
    (record { from = from_size; lack = lack.size; axis = axis_size; square = low; square_size = high })

-- where an axis comes to
axis_comes : (from axis lack square to : ℤ) → unsigned_abs from ≤ 2 ^ 29 → unsigned_abs axis ≤ 2 ^ 10 → FitsSigned w64 to
    → to ≡ word from +ℤ rdiv (lack *ℤ word axis) square → word to ≡ from +ℤ rdiv (lack *ℤ axis) square
axis_comes from axis lack square to h k t e =
    to_z-of_z w64 to t ∙ e ∙ (λ i. word_is from (omega arith) i +ℤ rdiv (lack *ℤ word_is axis (omega arith) i) square)

pub overflow_sub-lack : goal.overflow_sub-lack
overflow_sub-lack c = (lack (goal.at.overflow_sub-lack c).After-dot).fits_signed

pub axis_out-requires : goal.axis_out-requires
axis_out-requires c = axis_asks c.args.p.x c.args.plane.normal.x (lack (goal.at.axis_out-requires c).After-dot) c.requires.plane
    c.dot-square.ensures.value c.requires.place.x c.requires.plane.normal.x

pub axis_out-requires-2 : goal.axis_out-requires-2
axis_out-requires-2 c = axis_asks c.args.p.y c.args.plane.normal.y (lack (goal.at.axis_out-requires-2 c).After-dot) c.requires.plane
    c.dot-square.ensures.value c.requires.place.y c.requires.plane.normal.y

pub axis_out-requires-3 : goal.axis_out-requires-3
axis_out-requires-3 c = axis_asks c.args.p.z c.args.plane.normal.z (lack (goal.at.axis_out-requires-3 c).After-dot) c.requires.plane
    c.dot-square.ensures.value c.requires.place.z c.requires.plane.normal.z

pub returns-then-not-is_behind : goal.returns-then-not-is_behind
returns-then-not-is_behind c = plane_clears c.args.plane c.args.p (lack (goal.at.returns-then-not-is_behind c).After-dot).is
    (sym c.is_behind.ensures ∙ c.if-not-is_behind.true)

pub returns : goal.returns
returns c =
    let n = c.args.plane.normal in
    let p = c.args.p in
    let size = c.requires.plane.normal in
    let place = c.requires.place in
    let square : word c.dot-square.result ≡ dot_product n n = to_z-of_z w64 c.dot-square.result (record { sfits = c.dot-square.type_inv })
    ∙ c.dot-square.ensures.value in
    plane_touches c.args.plane p (lack (goal.at.returns c).After-dot).is square
    (sym c.is_behind.ensures ∙ c.if-not-is_behind.false)
    (axis_comes p.x n.x _ _ c.axis_out.result place.x size.x (record { sfits = c.axis_out.type_inv }) c.axis_out.ensures)
    (axis_comes p.y n.y _ _ c.axis_out-2.result place.y size.y (record { sfits = c.axis_out-2.type_inv }) c.axis_out-2.ensures)
    (axis_comes p.z n.z _ _ c.axis_out-3.result place.z size.z (record { sfits = c.axis_out-3.type_inv }) c.axis_out-3.ensures)
