use Rattle.std.proofs.Common.{◌≡◌, ◌^◌, ◌∙◌, ℕ, List, ap, arith, length, subst, sym}
use Rattle.std.proofs.lemmas.Int.{to_z-of_z}
use Rattle.std.proofs.lemmas.List.{with_items_is}
use Rattle.std.specs.Vec.{with_items}
use Rattle.pbd_num.specs.declared.Vec3.{Vec3}
use Rattle.pbd_num.specs.Vectors.{Within}
use Rattle.pbd_num.proofs.Ranges.{wider}
use Rattle.pbd_store.specs.Gathering.{index_at}
use Rattle.pbd_store.specs.declared.rows.Place.{Place}
use Rattle.pbd_store.specs.InRows.{places_in, places_by, AreFlat}
use Rattle.pbd_store.specs.Listed.{place_at}
use Rattle.pbd_store.specs.Pairs.{PlacesParted, opposites_in, ways_in}
use Rattle.pbd_store.proofs.InRows.{by_long, lent_seen, rows_long}
use Rattle.pbd_store.proofs.Parting.{covers_as, pairs_longer, halves_parted}
use Rattle.pbd_store.proofs.rows.PlaceRows.pull.Goals as goal

pub pull_rows-requires-clause-pairs : goal.pull_rows-requires-clause-pairs
pull_rows-requires-clause-pairs c = pairs_longer (omega (
  arith,
  ap (λ (vs : List Vec3). length vs) c.self.view_is,
  by_long c.self.inside.low.items c.self.inside.high.items,
  ap (λ (rs : List Place). length rs) c.as_mut_slice.ensures.value,
)) c.requires.pairs

pub pull_rows-requires-clause-first : goal.pull_rows-requires-clause-first
pull_rows-requires-clause-first c =
    let lent = lent_seen c.self.inside.low.items c.self.inside.high.items c.self.invariant.long c.self.view_is c.as_mut_slice.ensures.value in
    λ j p. let near = c.requires.first j p in
    subst (λ (v : Vec3). Within (2 ^ 29) v) (sym (lent _ (wider _ (2 ^ 29) (2 ^ 30) (omega arith) near))) near

pub pull_rows-requires-clause-second : goal.pull_rows-requires-clause-second
pull_rows-requires-clause-second c =
    let lent = lent_seen c.self.inside.low.items c.self.inside.high.items c.self.invariant.long c.self.view_is c.as_mut_slice.ensures.value in
    λ j p. let near = c.requires.second j p in
    subst (λ (v : Vec3). Within (2 ^ 29) v) (sym (lent _ (wider _ (2 ^ 29) (2 ^ 30) (omega arith) near))) near

pub invariant_of-self : goal.invariant_of-self
invariant_of-self c =
    let new = with_items_is c.self.inside.low c.pull_rows.new.rows (omega (arith, c.pull_rows.auto.rows, c.as_mut_slice.ensures.len)) in
    let same : length (places_in c.pull_rows.new.rows) ≡ length (places_in c.self.inside.low.items) = c.pull_rows.ensures.places.whole
    ∙ ap (λ (rs : List Place). length (places_in rs)) c.as_mut_slice.ensures.value in
    record {
      long = c.self.invariant.long ∙ sym (ap (λ (rs : List Place). length rs) new ∙ rows_long c.self.inside.low.items c.pull_rows.new.rows same);
      flat = subst (λ (rs : List Place). AreFlat rs) (sym new) c.pull_rows.ensures.flat;
    }

pub returns-clause-places : goal.returns-clause-places
returns-clause-places c =
    let first = c.args.pairs.first.now in
    let second = c.args.pairs.second.now in
    let back = opposites_in c.args.moves.back.now in
    let forth = ways_in c.args.moves.forth.now in
    let low = c.self.inside.low.items in
    let high = c.self.inside.high.items in
    let new = with_items_is c.self.inside.low c.pull_rows.new.rows (omega (arith, c.pull_rows.auto.rows, c.as_mut_slice.ensures.len)) in
    let near = λ (n : ℕ) (w : Within (2 ^ 29) (place_at c.args.self.now n)).
    subst (λ (vs : List Vec3). Within (2 ^ 29) (place_at vs n)) (sym c.self.view_is) w in
    coe 0 1 (t. PlacesParted (length first) first second back forth (c.self.view_is t)
    (places_by (with_items c.self.inside.low c.pull_rows.new.rows).items high))
    (halves_parted low high c.self.invariant.long (with_items c.self.inside.low c.pull_rows.new.rows).items
    (coe 0 1 (t. PlacesParted (length first) first second back forth (places_in (c.as_mut_slice.ensures.value t))
    (places_in (sym new t))) c.pull_rows.ensures.places)
    (λ j p. near (index_at first j) (c.requires.first j p)) (λ j p. near (index_at second j) (c.requires.second j p)))

pub returns-clause-covered : goal.returns-clause-covered
returns-clause-covered c =
    let range = c.ranges.limit in
    let near = λ (k : ℕ) (w : Within (2 ^ 29) (place_at c.args.self.now k)). lent_seen c.self.inside.low.items c.self.inside.high.items
    c.self.invariant.long c.self.view_is c.as_mut_slice.ensures.value k (wider _ (2 ^ 29) (2 ^ 30) (omega arith) w) in
    covers_as (λ j p. near _ (c.requires.first j p)) (λ j p. near _ (c.requires.second j p)) (simp to_z-of_z at c.pull_rows.ensures.covered)
