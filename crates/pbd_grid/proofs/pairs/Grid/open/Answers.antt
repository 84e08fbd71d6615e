use Rattle.std.proofs.Common.{◌∙◌, ap, ℕ, length}
use Rattle.std.proofs.lemmas.List.{length-replicate}
use Rattle.pbd_chain.specs.Linked.{Linked}
use Rattle.pbd_world.specs.Room.{Roomed}
use Rattle.pbd_grid.specs.declared.lookup.GridCell.{GridCell}
use Rattle.pbd_grid.proofs.pairs.Grid.open.Goals as goal

pub invariant_of-result : goal.invariant_of-result
invariant_of-result c = record {
  few = c.requires;
  some = c.chains_for-count.ensures.some;
  counted = ap (λ (l : Linked). length l.chains) c.in_ok-chains.ensures ∙ length-replicate c.chains_for-count.result _;
  items = ap (λ (l : Linked). l.items) c.in_ok-chains.ensures;
  cubes_room = ap (λ (r : Roomed GridCell). r.room) c.in_ok-cubes.ensures;
  room = ap (λ (r : Roomed ℕ). r.room) c.in_ok-found.ensures;
}
