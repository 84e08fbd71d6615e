use Rattle.std.proofs.Common.{◌≡◌, ◌∙◌, ℤ, Bool, rules, w32, w64, of_z, to_z, FitsSigned}
use Rattle.std.proofs.lemmas.Int.{to_z-of_z}
use Rattle.pbd_store.specs.Flying.{flown_at, loss_at}
use Rattle.pbd_store.proofs.flight.fly_row.Goals as goal

-- an axis that was widened
widened : (wide axis : ℤ) → FitsSigned w64 wide → FitsSigned w32 axis → wide ≡ to_z w32 (of_z w32 axis) → to_z w64 (of_z w64 wide) ≡ axis
widened wide axis fits fits_axis e = to_z-of_z w64 wide fits ∙ e ∙ to_z-of_z w32 axis fits_axis

-- what was told of an axis, of the numbers that were given
flown : (flies : Bool) (to : ℤ) {damping gravity at before d g a b : ℤ} → FitsSigned w64 to → to ≡ flown_at d g flies a b → d ≡ damping → g ≡ gravity
    → a ≡ at → b ≡ before → to_z w64 (of_z w64 to) ≡ flown_at damping gravity flies at before
flown flies to fits e ed eg ea eb = to_z-of_z w64 to fits ∙ e ∙ (λ t. flown_at (ed t) (eg t) flies (ea t) (eb t))

taken : (flies : Bool) (lost : ℤ) {damping at before d a b : ℤ} → FitsSigned w64 lost → lost ≡ loss_at d flies a b → d ≡ damping → a ≡ at → b ≡ before
    → to_z w64 (of_z w64 lost) ≡ loss_at damping flies at before
taken flies lost fits e ed ea eb = to_z-of_z w64 lost fits ∙ e ∙ (λ t. loss_at (ed t) flies (ea t) (eb t))

pub returns : goal.returns
returns c =
    let at_x = widened c.from.result c.args.at.x (record { sfits = c.from.type_inv }) (search rules) c.from.ensures in
    let before_x = widened c.from-2.result c.args.before.x (record { sfits = c.from-2.type_inv }) (search rules) c.from-2.ensures in
    let gravity_x = c.forces_along.ensures.gravity ∙ to_z-of_z w64 c.args.forces.gravity.x (search rules) in
    let at_y = widened c.from-3.result c.args.at.y (record { sfits = c.from-3.type_inv }) (search rules) c.from-3.ensures in
    let before_y = widened c.from-4.result c.args.before.y (record { sfits = c.from-4.type_inv }) (search rules) c.from-4.ensures in
    let gravity_y = c.forces_along-2.ensures.gravity ∙ to_z-of_z w64 c.args.forces.gravity.y (search rules) in
    let at_z = widened c.from-5.result c.args.at.z (record { sfits = c.from-5.type_inv }) (search rules) c.from-5.ensures in
    let before_z = widened c.from-6.result c.args.before.z (record { sfits = c.from-6.type_inv }) (search rules) c.from-6.ensures in
    let gravity_z = c.forces_along-3.ensures.gravity ∙ to_z-of_z w64 c.args.forces.gravity.z (search rules) in
    record {
      to = λ t. record {
        x = flown c.args.flies c.fly_axis-x.result.to (search rules) c.fly_axis-x.ensures.to c.forces_along.ensures.damping gravity_x at_x before_x t;
        y = flown c.args.flies c.fly_axis-y.result.to (search rules) c.fly_axis-y.ensures.to c.forces_along-2.ensures.damping gravity_y at_y before_y t;
        z = flown c.args.flies c.fly_axis-z.result.to (search rules) c.fly_axis-z.ensures.to c.forces_along-3.ensures.damping gravity_z at_z before_z t;
      };
      lost = λ t. record {
        x = taken c.args.flies c.fly_axis-x.result.lost (search rules) c.fly_axis-x.ensures.lost c.forces_along.ensures.damping at_x before_x t;
        y = taken c.args.flies c.fly_axis-y.result.lost (search rules) c.fly_axis-y.ensures.lost c.forces_along-2.ensures.damping at_y before_y t;
        z = taken c.args.flies c.fly_axis-z.result.lost (search rules) c.fly_axis-z.ensures.lost c.forces_along-3.ensures.damping at_z before_z t;
      };
      lost_size = search rules;
    }
