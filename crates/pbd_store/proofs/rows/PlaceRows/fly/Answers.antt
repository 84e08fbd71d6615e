use Rattle.std.proofs.Common.{◌≡◌, refl, ap, ◌∙◌, sym, ◌^◌, ◌<◌, ◌≤◌, ℕ, arith, subst, List, length}
use Rattle.std.proofs.lemmas.List.{with_items_is}
use Rattle.std.specs.Vec.{with_items}
use Rattle.pbd_num.specs.declared.Vec3.{Vec3}
use Rattle.pbd_num.specs.Vectors.{Within}
use Rattle.pbd_store.specs.declared.rows.High.{High}
use Rattle.pbd_store.specs.declared.rows.Place.{Place}
use Rattle.pbd_store.specs.InRows.{place_in, places_by, AreHalves}
use Rattle.pbd_store.specs.Listed.{place_at}
use Rattle.pbd_store.specs.Flying.{halves_at, places_at, are_free, WrittenFirst, AreSummed}
use Rattle.pbd_store.proofs.Flights.{HaveFlown, at_written, before_written, at_halves, before_halves, places_summed, written_as, low_place}
use Rattle.pbd_store.proofs.InRows.{by_long}
use Rattle.pbd_store.proofs.rows.PlaceRows.fly.Goals as goal
use Rattle.pbd_store.proofs.rows.PlaceRows.fly.Goals.{After-fly_rows}

-- what is as long as the places of halves is as long as the low rows that were lent of them
long : {low lent : List Place} (high : List High) {vs : List Vec3} {n : ℕ} → places_by low high ≡ vs → lent ≡ low → n ≤ length vs
    → n ≤ length lent
long {low} {lent} high e el h = omega (
  arith,
  h,
  ap (λ (ws : List Vec3). length ws) e,
  by_long low high,
  ap (λ (rows : List Place). length rows) el,
)

pub fly_rows-requires-clause-at_long : goal.fly_rows-requires-clause-at_long
fly_rows-requires-clause-at_long c = long c.self.inside.high.items c.self.view_is c.as_mut_slice.ensures.value c.requires.at_long

pub fly_rows-requires-clause-high_long : goal.fly_rows-requires-clause-high_long
fly_rows-requires-clause-high_long c = omega (
  arith,
  long c.self.inside.high.items c.self.view_is refl c.requires.at_long,
  c.self.invariant.long,
  ap (λ (hs : List High). length hs) c.as_mut_slice-2.ensures.value,
)

pub fly_rows-requires-clause-before_long : goal.fly_rows-requires-clause-before_long
fly_rows-requires-clause-before_long c = long c.before-2.inside.high.items c.before-2.view_is c.as_mut_slice-3.ensures.value c.requires.before_long

-- what is seen of a list holds of the list
near : {vs ws : List Vec3} {n : ℕ} → ws ≡ vs → ((j : ℕ) → j < n → Within (2 ^ 29) (place_at vs j))
    → (j : ℕ) → j < n → Within (2 ^ 29) (place_at ws j)
near e h j lt = subst (λ (vs : List Vec3). Within (2 ^ 29) (place_at vs j)) (sym e) (h j lt)

lent_near : {low lent : List Place} {high : List High} {vs : List Vec3} {n : ℕ} → AreHalves low high → places_by low high ≡ vs → lent ≡ low
    → ((j : ℕ) → j < n → Within (2 ^ 29) (place_at vs j)) → (j : ℕ) → j < n → Within (2 ^ 29) (place_in lent j)
lent_near {low} {lent} {high} halves e el h j lt = subst (λ (v : Vec3). Within (2 ^ 29) v)
    (sym (low_place low high halves.long j (near e h j lt)) ∙ ap (λ (rows : List Place). place_in rows j) (sym el)) (near e h j lt)

pub fly_rows-requires-clause-at : goal.fly_rows-requires-clause-at
fly_rows-requires-clause-at c = lent_near c.self.invariant c.self.view_is c.as_mut_slice.ensures.value c.requires.at

pub fly_rows-requires-clause-before : goal.fly_rows-requires-clause-before
fly_rows-requires-clause-before c = lent_near c.before-2.invariant c.before-2.view_is c.as_mut_slice-3.ensures.value c.requires.before

-- the lists that were lent, with their rows as they have flown
low_is : (c : After-fly_rows) → (with_items c.self.inside.low c.fly_rows.new.at).items ≡ c.fly_rows.new.at
low_is c = with_items_is c.self.inside.low c.fly_rows.new.at (omega (arith, c.fly_rows.auto.at, c.as_mut_slice.ensures.len))

high_is : (c : After-fly_rows) → (with_items c.self.inside.high c.fly_rows.new.high).items ≡ c.fly_rows.new.high
high_is c = with_items_is c.self.inside.high c.fly_rows.new.high (omega (arith, c.fly_rows.auto.high, c.as_mut_slice-2.ensures.len))

before_is : (c : After-fly_rows) → (with_items c.before-2.inside.low c.fly_rows.new.before).items ≡ c.fly_rows.new.before
before_is c = with_items_is c.before-2.inside.low c.fly_rows.new.before
    (omega (arith, c.fly_rows.auto.before, c.as_mut_slice-3.ensures.len))

flown : (c : After-fly_rows) → HaveFlown c.args.forces c.args.held.now c.self.inside.low.items c.self.inside.high.items
    c.before-2.inside.low.items c.before-2.inside.high.items (with_items c.self.inside.low c.fly_rows.new.at).items
    (with_items c.self.inside.high c.fly_rows.new.high).items (with_items c.before-2.inside.low c.fly_rows.new.before).items
flown c = record {
  rows = written_as c.as_mut_slice.ensures.value c.as_mut_slice-2.ensures.value c.as_mut_slice-3.ensures.value (low_is c) (high_is c)
      (before_is c) c.fly_rows.ensures.rows;
  halves = c.self.invariant;
  halves_before = c.before-2.invariant;
  near = near c.self.view_is c.requires.at;
  near_before = near c.before-2.view_is c.requires.before;
}

pub invariant_of-self : goal.invariant_of-self
invariant_of-self c = at_halves (flown (goal.at.invariant_of-self c).After-fly_rows)

pub invariant_of-before : goal.invariant_of-before
invariant_of-before c = before_halves (flown (goal.at.invariant_of-before c).After-fly_rows)

pub returns-clause-at : goal.returns-clause-at
returns-clause-at c = coe 0 1 (t. WrittenFirst (length c.args.held.now)
    (λ j. places_at c.args.forces.damping c.args.forces.gravity (are_free c.args.held.now j)
    (place_at (c.self.view_is t) j) (place_at (c.before-2.view_is t) j)) (c.self.view_is t)
    (places_by (with_items c.self.inside.low c.fly_rows.new.at).items (with_items c.self.inside.high c.fly_rows.new.high).items))
    (at_written (flown (goal.at.returns-clause-at c).After-fly_rows))

pub returns-clause-before : goal.returns-clause-before
returns-clause-before c = coe 0 1 (t. WrittenFirst (length c.args.held.now) (place_at (c.self.view_is t)) (c.before-2.view_is t)
    (places_by (with_items c.before-2.inside.low c.fly_rows.new.before).items c.before-2.inside.high.items))
    (before_written (flown (goal.at.returns-clause-before c).After-fly_rows))

pub returns-clause-sums : goal.returns-clause-sums
returns-clause-sums c =
    let then = (goal.at.returns-clause-sums c).After-fly_rows in
    coe 0 1 (t. AreSummed c.args.forces (length c.args.held.now) (are_free c.args.held.now)
    (place_at (c.self.view_is t)) (place_at (c.before-2.view_is t)) (place_at (places_by
    (with_items c.self.inside.low c.fly_rows.new.at).items (with_items c.self.inside.high c.fly_rows.new.high).items)) c.fly_rows.result)
    (places_summed (flown then) c.fly_rows.result (coe 0 1 (t. AreSummed c.args.forces (length c.args.held.now) (are_free c.args.held.now)
    (place_in (c.as_mut_slice.ensures.value t)) (place_in (c.as_mut_slice-3.ensures.value t))
    (halves_at (sym (low_is then) t) (sym (high_is then) t)) c.fly_rows.result) c.fly_rows.ensures.sums))
