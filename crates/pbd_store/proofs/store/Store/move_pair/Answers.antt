use Rattle.std.proofs.Common.{sym, ap, ◌∙◌, ◌&&◌, ◌^◌, unsigned_abs, rules, w64, FitsSigned}
use Rattle.std.proofs.lemmas.Int.{to_z-of_z}
use Rattle.pbd_num.proofs.Ranges.{wider}
use Rattle.pbd_num.specs.Vectors.{is_within, plus}
use Rattle.pbd_store.specs.Stored.{Stored}
use Rattle.pbd_store.proofs.Places.{within_at}
use Rattle.pbd_store.proofs.store.Store.move_pair.Goals as goal
use Rattle.pbd_world.proofs.WholeLemmas.{limit_low, limit_high}

pub moved-goals-requires-clause-first : goal.moved-goals-requires-clause-first
moved-goals-requires-clause-first g c =
    let limit = ap (λ (s : Stored). unsigned_abs s.limit) c.self.view_is in
    wider _ (unsigned_abs c.self.inside.limit) (2 ^ 29) (limit_high c.self.inside.limit c.self.invariant)
    (within_at limit c.ends_of-ends.ensures.first c.requires.first_place)

pub moved-goals-requires-clause-second : goal.moved-goals-requires-clause-second
moved-goals-requires-clause-second g c =
    let limit = ap (λ (s : Stored). unsigned_abs s.limit) c.self.view_is in
    wider _ (unsigned_abs c.self.inside.limit) (2 ^ 29) (limit_high c.self.inside.limit c.self.invariant)
    (within_at limit c.ends_of-ends.ensures.second c.requires.second_place)

pub both_within-requires-clause-low : goal.both_within-requires-clause-low
both_within-requires-clause-low g c =
    let l : FitsSigned w64 c.self.inside.limit = search rules in
    simp to_z-of_z (limit_low c.self.inside.limit c.self.invariant)

pub both_within-requires-clause-high : goal.both_within-requires-clause-high
both_within-requires-clause-high g c =
    let l : FitsSigned w64 c.self.inside.limit = search rules in
    simp to_z-of_z (limit_high c.self.inside.limit c.self.invariant)

pub returns-then-not-both_within-clause-test : goal.returns-then-not-both_within-clause-test
returns-then-not-both_within-clause-test g c =
    let l : FitsSigned w64 c.self.inside.limit = search rules in
    let test = simp to_z-of_z at c.both_within.ensures in
    let limit = ap (λ (s : Stored). s.limit) c.self.view_is in
    let first = c.moved-goals.ensures.first ∙ (λ t. plus (c.ends_of-ends.ensures.first t) c.args.moves.first) in
    let second = c.moved-goals.ensures.second ∙ (λ t. plus (c.ends_of-ends.ensures.second t) c.args.moves.second) in
    sym c.if-not-both_within.true ∙ test ∙ (λ t. is_within (limit t) (first t) && is_within (limit t) (second t))
