use Rattle.std.proofs.Common.{◌≡◌, ◌∙◌, ◌+◌, ℕ, length, refl, ap, arith}
use Rattle.pbd_chain.specs.Linked.{chain_at, item_at}
use Rattle.pbd_chain.proofs.Walks.{chain_linked}
use Rattle.pbd_grid.specs.Blocks.{slot_of}
use Rattle.pbd_grid.proofs.Looking.{finds, finds_behind}
use Rattle.pbd_grid.proofs.Counting.{IsFollowed-begins, followed_fits, followed_in, followed_small, IsFollowed-more, followed_smaller}
use Rattle.pbd_grid.proofs.Counting.{followed_next, found_all, read_all, found_behind, read_behind, looks_are}
use Rattle.pbd_grid.proofs.lookup.Crowd.follow.Goals as goal

pub behind-init : goal.behind-init
behind-init g c = IsFollowed-begins (finds c.args.self.now.places.now c.args.self.now.cells.side (g.F.PairFilter.test c.args.filter.now)
    c.args.i c.args.begun.cell) (chain_at c.args.self.now.chains.now.chains
    (slot_of (length c.args.self.now.chains.now.chains) c.args.begun.cell)) c.args.i c.args.begun.first c.args.found.now
    (ap (λ (n : ℕ). item_at c.args.self.now.chains.now.chains (slot_of n c.args.begun.cell) 0) c.requires.laid.counted
    ∙ c.requires.begun.first)

pub push_if-requires : goal.push_if-requires
push_if-requires g c = followed_fits c.behind.invariant c.wanted.result c.wanted.ensures c.requires.room

pub next-requires : goal.next-requires
next-requires g c =
    let e : slot_of (length c.args.self.now.chains.now.chains) c.args.begun.cell
    ≡ slot_of c.args.self.now.cells.count c.args.begun.cell = ap (λ (n : ℕ). slot_of n c.args.begun.cell) c.requires.laid.counted in
    chain_linked c.args.self.now.chains.now.chains (slot_of (length c.args.self.now.chains.now.chains) c.args.begun.cell) c.behind.j
    (omega (arith, e, c.requires.begun.slot, c.requires.laid.counted)) (followed_in c.behind.invariant)

pub behind-preserved : goal.behind-preserved
behind-preserved g c = IsFollowed-more c.behind.invariant c.wanted.result c.push_if.new.found c.in-Some.next c.wanted.ensures
    c.push_if.ensures (followed_next c.behind.invariant c.next.result (c.next.ensures
    (slot_of (length c.args.self.now.chains.now.chains) c.args.begun.cell)) c.in-Some.next c.in-Some.is) (omega (arith, c.behind-test.true))

pub behind-smaller : goal.behind-smaller
behind-smaller g c = followed_smaller c.behind.invariant (length c.args.self.now.places.now) c.in-Some.next
    (c.requires.laid.falling (slot_of (length c.args.self.now.chains.now.chains) c.args.begun.cell))
    (followed_next c.behind.invariant c.next.result (c.next.ensures
    (slot_of (length c.args.self.now.chains.now.chains) c.args.begun.cell)) c.in-Some.next c.in-Some.is)

pub returns-in_default : goal.returns-in_default
returns-in_default g c = record {
  found = found_all c.behind.invariant c.wanted.result c.push_if.new.found c.wanted.ensures c.push_if.ensures c.next.result
      (c.next.ensures (slot_of (length c.args.self.now.chains.now.chains) c.args.begun.cell)) c.in_default.is;
  looks = looks_are c.requires.laid c.args.i c.args.begun.cell (c.behind.looks + 1) (slot_of c.args.self.now.cells.count c.args.begun.cell)
      refl c.requires.begun.slot (read_all c.behind.invariant c.next.result
      (c.next.ensures (slot_of (length c.args.self.now.chains.now.chains) c.args.begun.cell)) c.in_default.is (omega (arith, c.behind-test.true)));
}

pub returns-after-behind : goal.returns-after-behind
returns-after-behind g c =
    let falls = c.requires.laid.falling (slot_of (length c.args.self.now.chains.now.chains) c.args.begun.cell) in record {
      found = found_behind c.behind.invariant (length c.args.self.now.places.now) falls (omega (arith, c.behind-test.false))
          (finds_behind c.args.self.now.places.now c.args.self.now.cells.side (g.F.PairFilter.test c.args.filter.now) c.args.i
          c.args.begun.cell);
      looks = looks_are c.requires.laid c.args.i c.args.begun.cell c.behind.looks (slot_of c.args.self.now.cells.count c.args.begun.cell)
          refl c.requires.begun.slot (read_behind c.behind.invariant (length c.args.self.now.places.now) falls
          (omega (arith, c.behind-test.false)));
    }

pub overflow_add-looks : goal.overflow_add-looks
overflow_add-looks g c = omega (
  arith,
  c.requires.laid.few,
  followed_small c.behind.invariant (length c.args.self.now.places.now)
      (c.requires.laid.falling (slot_of (length c.args.self.now.chains.now.chains) c.args.begun.cell)),
)
