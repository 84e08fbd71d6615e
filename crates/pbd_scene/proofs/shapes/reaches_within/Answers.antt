use Rattle.std.proofs.Common.{◌≡◌, ◌∙◌, ℤ, refl}
use Rattle.std.proofs.lemmas.Int.{to_z-of_z}
use Rattle.pbd_num.specs.declared.Vec3.{Vec3}
use Rattle.pbd_num.specs.Vectors.{minus}
use Rattle.pbd_scene.specs.Entries.{reaches_within, on_by, back_by}
use Rattle.pbd_scene.proofs.shapes.reaches_within.Goals.{After-holds}
use Rattle.pbd_scene.proofs.shapes.reaches_within.Goals as goal

-- the way by the radius on each axis, and back
way_is : (c : After-holds) → c.on_each_axis-way.result ≡ record { x = c.args.radius; y = c.args.radius; z = c.args.radius }
way_is c = let fits = c.ranges.radius in simp to_z-of_z at c.on_each_axis-way.ensures.value

above : (c : After-holds) → c.plus.result ≡ on_by c.args.radius c.args.centre
unfolding on_by
above c = c.plus.ensures.value ∙ rw (way_is c) refl

below : (n : ℤ) (centre way : Vec3) → way ≡ record { x = n; y = n; z = n } → minus centre way ≡ back_by n centre
unfolding back_by
below n centre way is = rw is refl

pub returns-then-holds : goal.returns-then-holds
unfolding reaches_within
returns-then-holds c =
    let at = (goal.at.returns-then-holds c).After-holds in
    let down = c.minus.ensures.value ∙ below c.args.radius c.args.centre c.on_each_axis-way.result (way_is at) in
    rw (← above at, ← down, ← c.holds.ensures, c.if-holds.true, ← c.holds-then-holds.ensures) refl

pub returns-else-holds : goal.returns-else-holds
unfolding reaches_within
returns-else-holds c = rw (← above (goal.at.returns-else-holds c).After-holds, ← c.holds.ensures, c.if-holds.false) refl
