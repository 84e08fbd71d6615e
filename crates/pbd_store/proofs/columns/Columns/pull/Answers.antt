use Rattle.std.proofs.Common.{arith, sym, ◌^◌, subst, ℕ}
use Rattle.std.proofs.lemmas.Int.{to_z-of_z}
use Rattle.pbd_num.specs.declared.Vec3.{Vec3}
use Rattle.pbd_num.specs.Vectors.{Within}
use Rattle.pbd_store.specs.Gathering.{index_at}
use Rattle.pbd_store.proofs.Listing.{count_is, place_is}
use Rattle.pbd_store.proofs.Parting.{covers_as, pairs_longer, moved_padded, moved_parted, moved_fixed}
use Rattle.pbd_store.proofs.columns.Columns.pull.Goals as goal

pub pull-requires-clause-pairs : goal.pull-requires-clause-pairs
pull-requires-clause-pairs g c = pairs_longer (omega (
  arith,
  count_is c.self.invariant.padded c.self.view_is,
  c.self.invariant.padded.places,
)) c.requires.pairs

pub pull-requires-clause-first : goal.pull-requires-clause-first
pull-requires-clause-first g c = λ j p. subst (λ (v : Vec3). Within (2 ^ 29) v)
    (place_is c.self.invariant.padded c.self.view_is (index_at c.args.pairs.first.now j))
    (c.requires.inside (index_at c.args.pairs.first.now j) (c.requires.pairs.first j p))

pub pull-requires-clause-second : goal.pull-requires-clause-second
pull-requires-clause-second g c = λ j p. subst (λ (v : Vec3). Within (2 ^ 29) v)
    (place_is c.self.invariant.padded c.self.view_is (index_at c.args.pairs.second.now j))
    (c.requires.inside (index_at c.args.pairs.second.now j) (c.requires.pairs.second j p))

pub invariant_of-self : goal.invariant_of-self
invariant_of-self g c = record {
  padded = moved_padded c.self.invariant.padded c.self.view_is c.args.pairs _ c.requires.pairs _ _ c.pull.new.self c.pull.ensures.places;
  long = c.self.invariant.long;
  weighs = c.self.invariant.weighs;
}

pub returns-clause-particles : goal.returns-clause-particles
returns-clause-particles g c = moved_parted c.self.invariant.padded c.self.view_is c.args.pairs _ c.requires.pairs _ _ c.pull.new.self
    c.pull.ensures.places

pub returns-clause-fixed : goal.returns-clause-fixed
returns-clause-fixed g c = moved_fixed c.self.invariant.padded c.self.view_is c.args.pairs _ c.requires.pairs _ _ c.pull.new.self
    c.pull.ensures.places

pub returns-clause-covered : goal.returns-clause-covered
returns-clause-covered g c =
    let range = c.ranges.limit in
    let place = λ (i : ℕ). sym (place_is c.self.invariant.padded c.self.view_is i) in
    covers_as (λ j p. place (index_at c.args.pairs.first.now j)) (λ j p. place (index_at c.args.pairs.second.now j))
    (simp to_z-of_z at c.pull.ensures.covered)
