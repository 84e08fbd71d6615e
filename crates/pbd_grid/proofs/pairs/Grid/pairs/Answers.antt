use Rattle.std.proofs.Common.{◌≡◌, ◌<◌, ◌≤◌, subst, ap, ℕ, ℤ, w64, length}
use Rattle.std.specs.Result.{OnOk, OnErr}
use Rattle.std.proofs.lemmas.Int.{to_z-of_z}
use Rattle.pbd_grid.specs.Near.{near_pairs}
use Rattle.pbd_grid.specs.Looks.{Searched, looks_for}
use Rattle.pbd_grid.proofs.Looking.{side_is}
use Rattle.pbd_grid.proofs.pairs.Grid.pairs.Goals as goal

pub find_pairs-requires-clause-laid : goal.find_pairs-requires-clause-laid
find_pairs-requires-clause-laid g c = rw c.as_slice.ensures c.link_all.ensures.laid

pub returns-clause-pairs : goal.returns-clause-pairs
returns-clause-pairs g c =
    let is = side_is c.args.thickness _ c.requires.low (to_z-of_z w64 c.args.thickness c.ranges.thickness) in
    subst (λ (t : ℤ). OnOk c.find_pairs.result (c.find_pairs.new.out.entries
    ≡ near_pairs c.args.places.now t (g.F.PairFilter.test c.args.filter.now))) is c.find_pairs.ensures.pairs

pub returns-clause-fits : goal.returns-clause-fits
returns-clause-fits g c =
    let is = side_is c.args.thickness _ c.requires.low (to_z-of_z w64 c.args.thickness c.ranges.thickness) in
    subst (λ (t : ℤ). OnOk c.find_pairs.result (length (near_pairs c.args.places.now t (g.F.PairFilter.test c.args.filter.now))
    ≤ c.args.out.now.room)) is c.find_pairs.ensures.fits

pub returns-clause-full : goal.returns-clause-full
returns-clause-full g c =
    let is = side_is c.args.thickness _ c.requires.low (to_z-of_z w64 c.args.thickness c.ranges.thickness) in
    subst (λ (t : ℤ). OnErr c.find_pairs.result (c.args.out.now.room
    < length (near_pairs c.args.places.now t (g.F.PairFilter.test c.args.filter.now)))) is c.find_pairs.ensures.full

pub returns-clause-looks : goal.returns-clause-looks
returns-clause-looks g c =
    let is = side_is c.args.thickness _ c.requires.low (to_z-of_z w64 c.args.thickness c.ranges.thickness) in
    subst (λ (n : ℕ). OnOk c.find_pairs.result (c.find_pairs.new.looks ≡ looks_for n c.args.thickness c.args.places.now))
    (ap (λ (s : Searched). s.chains) c.self.view_is)
    (subst (λ (t : ℤ). OnOk c.find_pairs.result (c.find_pairs.new.looks ≡ looks_for c.self.inside.count t c.args.places.now)) is
    c.find_pairs.ensures.looks)

pub returns-clause-most : goal.returns-clause-most
returns-clause-most g c =
    let is = side_is c.args.thickness _ c.requires.low (to_z-of_z w64 c.args.thickness c.ranges.thickness) in
    subst (λ (n : ℕ). c.find_pairs.new.looks ≤ looks_for n c.args.thickness c.args.places.now)
    (ap (λ (s : Searched). s.chains) c.self.view_is)
    (subst (λ (t : ℤ). c.find_pairs.new.looks ≤ looks_for c.self.inside.count t c.args.places.now) is c.find_pairs.ensures.most)
