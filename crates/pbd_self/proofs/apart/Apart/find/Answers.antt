use Rattle.std.proofs.Common.{◌≡◌, ◌<◌, ◌≤◌, subst, ℤ, w64, length}
use Rattle.std.specs.Result.{OnOk, OnErr}
use Rattle.std.proofs.lemmas.Int.{to_z-of_z}
use Rattle.pbd_grid.specs.Looks.{looks_for}
use Rattle.pbd_grid.specs.Near.{near_pairs}
use Rattle.pbd_self.specs.Apart.{may_touch}
use Rattle.pbd_self.proofs.apart.Apart.find.Goals as goal

pub returns-clause-pairs : goal.returns-clause-pairs
returns-clause-pairs c =
    subst (λ (t : ℤ). OnOk c.pairs.result (c.pairs.new.out.entries
    ≡ near_pairs c.args.places.now t (may_touch c.args.self.now.held.now c.args.self.now.links.now)))
    (to_z-of_z w64 c.args.thickness c.ranges.thickness) c.pairs.ensures.pairs

pub returns-clause-fits : goal.returns-clause-fits
returns-clause-fits c =
    subst (λ (t : ℤ). OnOk c.pairs.result (length (near_pairs c.args.places.now t (may_touch c.args.self.now.held.now c.args.self.now.links.now))
    ≤ c.args.out.now.room))
    (to_z-of_z w64 c.args.thickness c.ranges.thickness) c.pairs.ensures.fits

pub returns-clause-full : goal.returns-clause-full
returns-clause-full c =
    subst (λ (t : ℤ). OnErr c.pairs.result (c.args.out.now.room
    < length (near_pairs c.args.places.now t (may_touch c.args.self.now.held.now c.args.self.now.links.now))))
    (to_z-of_z w64 c.args.thickness c.ranges.thickness) c.pairs.ensures.full

pub returns-clause-looks : goal.returns-clause-looks
returns-clause-looks c =
    subst (λ (t : ℤ). OnOk c.pairs.result (c.pairs.new.self.looks ≡ looks_for c.args.grid.now.chains t c.args.places.now))
    (to_z-of_z w64 c.args.thickness c.ranges.thickness) c.pairs.ensures.looks

pub returns-clause-most : goal.returns-clause-most
returns-clause-most c =
    subst (λ (t : ℤ). c.pairs.new.self.looks ≤ looks_for c.args.grid.now.chains t c.args.places.now)
    (to_z-of_z w64 c.args.thickness c.ranges.thickness) c.pairs.ensures.most
