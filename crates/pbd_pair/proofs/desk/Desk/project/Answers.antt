use Rattle.std.proofs.Common.{◌≡◌, ℕ, ◌∙◌, ◌<◌, List, length, ap, sym, arith, subst, Option, Some}
use Rattle.pbd_store.specs.Blocks.{blocks_of}
use Rattle.pbd_store.specs.Pairs.{row_in, ArePairs, AreBetween, IsWay}
use Rattle.pbd_num.specs.declared.row.Row.{Row}
use Rattle.pbd_world.specs.declared.parts.Particle.{Particle}
use Rattle.pbd_world.specs.declared.bond.Bond.{Bond}
use Rattle.pbd_world.specs.Particles.{particle_at}
use Rattle.pbd_store.specs.Gathering.{index_at}
use Rattle.pbd_pair.specs.declared.laid.Laid.{Laid}
use Rattle.pbd_pair.specs.Laid.{Lists, AreOfBatch, SuitIf}
use Rattle.pbd_pair.proofs.Asked.{asked}
use Rattle.pbd_pair.proofs.Chunks.{are_pairs, ends_kept, is_found, known_bonds, laid_first, laid_pairs, laid_second, numbers_laid}
use Rattle.pbd_pair.proofs.Chunks.{taken_first, taken_second, ways_of, weighed}
use Rattle.pbd_pair.proofs.desk.Desk.project.Goals as goal

-- the columns that came with a chunk are its own
own_columns : {bond : ℕ → Bond} {numbers : List ℕ} {ps : List Particle} {laid : Laid} {given : Option Laid} → given ≡ Some laid
    → SuitIf given bond numbers ps → AreOfBatch bond numbers ps laid
own_columns {bond} {numbers} {ps} is suit = subst (λ (o : Option Laid). SuitIf o bond numbers ps) is suit

pub ways-requires : goal.ways-requires
ways-requires g c =
    let can = c.requires.can in
    let pairs = laid_pairs can (own_columns c.in-Some.is c.requires.laid) c.pairs-pairs.result c.pairs-pairs.ensures.first
    c.pairs-pairs.ensures.second in
    asked (omega arith) c.requires.some_lanes c.requires.lanes
    (subst (λ (n : ℕ). ArePairs n (length c.args.store.now.particles) c.pairs-pairs.result) (sym pairs.first_long) pairs)
    can.inside

pub project-requires : goal.project-requires
project-requires g c =
    let can = c.requires.can in
    let laid = own_columns c.in-Some.is c.requires.laid in
    let pairs = c.pairs-pairs.ensures in
    let long = (laid_pairs can laid c.pairs-pairs.result pairs.first pairs.second).first_long in
    asked (omega arith) c.requires.some_lanes c.requires.lanes can
    (is_found can laid pairs.first pairs.second (λ j p. c.ways.ensures.value j (omega (arith, p, long))))

pub returns-in-Some-clause-cost : goal.returns-in-Some-clause-cost
returns-in-Some-clause-cost g c =
    let pairs = laid_pairs c.requires.can (own_columns c.in-Some.is c.requires.laid) c.pairs-pairs.result
    c.pairs-pairs.ensures.first c.pairs-pairs.ensures.second in
    omega (arith, c.ways.ensures.cost, c.project.ensures.cost, ap (λ (n : ℕ). blocks_of n g.row.L) pairs.first_long)

pub take_ends-requires : goal.take_ends-requires
take_ends-requires g c = known_bonds c.requires.can

pub between-requires : goal.between-requires
between-requires g c =
    let pairs = are_pairs c.requires.can c.take_ends.new.self c.pairs-ends.result c.take_ends.ensures c.pairs-ends.ensures.first
    c.pairs-ends.ensures.second in
    asked (omega arith) c.requires.some_lanes c.requires.lanes
    (subst (λ (n : ℕ). ArePairs n (length c.args.store.now.particles) c.pairs-ends.result) (sym pairs.first_long) pairs)
    c.requires.can.inside

pub lay-requires-clause-known : goal.lay-requires-clause-known
lay-requires-clause-known g c = known_bonds c.requires.can

pub lay-requires-clause-sized : goal.lay-requires-clause-sized
lay-requires-clause-sized g c =
    let can = c.requires.can in
    let taken = c.take_ends.ensures in
    let ends = c.pairs-ends.ensures in
    let pairs = are_pairs can c.take_ends.new.self c.pairs-ends.result taken ends.first ends.second in
    let told = subst (λ (n : ℕ). AreBetween n c.args.store.now.particles c.pairs-ends.result.first.now c.pairs-ends.result.second.now
    c.between.new.between) pairs.first_long c.between.ensures.value in
    weighed can (taken_first can c.take_ends.new.self c.pairs-ends.result taken ends.first ends.second)
    (taken_second can c.take_ends.new.self c.pairs-ends.result taken ends.first ends.second) told

pub project-requires-in-None : goal.project-requires-in-None
project-requires-in-None g c =
    let can = c.requires.can in
    let e = c.take_ends.ensures in
    let a = c.pairs-ends.ensures.first in
    let b = c.pairs-ends.ensures.second in
    let ends = are_pairs can c.take_ends.new.self c.pairs-ends.result e a b in
    let is_first = taken_first can c.take_ends.new.self c.pairs-ends.result e a b in
    let is_second = taken_second can c.take_ends.new.self c.pairs-ends.result e a b in
    let told = subst (λ (n : ℕ). AreBetween n c.args.store.now.particles c.pairs-ends.result.first.now c.pairs-ends.result.second.now
    c.between.new.between) ends.first_long c.between.ensures.value in
    let kept = ends_kept can e c.lay.ensures.ends.0 c.lay.ensures.ends.1 in
    let laid = numbers_laid can c.rows-rows.result.laid kept c.lay.ensures.laid is_first is_second told c.lay.ensures.first_whole
    c.lay.ensures.second_whole
    c.rows-rows.ensures.laid in
    let firsts = c.rows-rows.ensures.first ∙ sym (ap (λ (ls : Lists). ls.first) c.rows-rows.ensures.laid) in
    let seconds = c.rows-rows.ensures.second ∙ sym (ap (λ (ls : Lists). ls.second) c.rows-rows.ensures.laid) in
    let ways = subst (λ (rows : List Row). (j : ℕ) → j < length c.args.chunk.numbers.now → IsWay (row_in rows j)
    (particle_at c.args.store.now.particles (index_at c.pairs-ends.result.first.now j)).at
    (particle_at c.args.store.now.particles (index_at c.pairs-ends.result.second.now j)).at) (sym c.rows-rows.ensures.ways) told.ways in
    asked (omega arith) c.requires.some_lanes c.requires.lanes can
    (is_found can laid firsts seconds (ways_of can c.rows-rows.result.ways.now c.pairs-ends.result.first.now c.pairs-ends.result.second.now
    c.rows-rows.result.pairs.first.now c.rows-rows.result.pairs.second.now ways is_first is_second
    (laid_first can laid c.rows-rows.result.pairs firsts seconds) (laid_second can laid c.rows-rows.result.pairs firsts seconds)))

pub returns-in-None-clause-cost : goal.returns-in-None-clause-cost
returns-in-None-clause-cost g c =
    let pairs = are_pairs c.requires.can c.take_ends.new.self c.pairs-ends.result c.take_ends.ensures c.pairs-ends.ensures.first
    c.pairs-ends.ensures.second in
    omega (arith, c.between.ensures.cost, c.project-in-None.ensures.cost, ap (λ (n : ℕ). blocks_of n g.row.L) pairs.first_long)
