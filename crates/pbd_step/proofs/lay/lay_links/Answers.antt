use Rattle.std.proofs.Common.{◌≡◌, ℕ, List, length, IsTrue, refl, sym, ap, ◌∙◌, arith, subst}
use Rattle.pbd_world.specs.declared.parts.Link.{Link}
use Rattle.pbd_world.specs.Bonds.{link_bond}
use Rattle.pbd_world.specs.Colours.{order}
use Rattle.pbd_world.specs.Contacts.{link_pairs}
use Rattle.pbd_world.specs.Step.{link_order}
use Rattle.pbd_world.specs.Valid.{are_valid_links}
use Rattle.pbd_store.specs.Gathering.{index_at}
use Rattle.pbd_pair.specs.declared.bonds.Bonds.TheVariants.{Links}
use Rattle.pbd_pair.specs.Laid.{lists_in, AreLaid}
use Rattle.pbd_step.proofs.Laying.{a_weight_each, layable, order_few}
use Rattle.pbd_step.proofs.UnderWay.{link_bonds}
use Rattle.pbd_step.proofs.lay.lay_links.Goals as goal

pub lay-requires-clause-layable : goal.lay-requires-clause-layable
lay-requires-clause-layable g c =
    let state = c.args.state.now in
    let limit = state.store.limit in
    let n : ℕ = length state.store.particles in
    let same = c.deref.ensures.value in
    let valid : IsTrue (are_valid_links limit n c.deref.result.now) =
    subst (λ (ls : List Link). IsTrue (are_valid_links limit n ls)) (sym same) c.requires.valid in
    layable c.args.colours.now.live c.requires.limit (link_bonds limit n c.deref.result.now (Links c.deref.result) refl (λ k. refl) valid)
    (c.order.ensures ∙ ap (λ (pairs : List (ℕ × ℕ)). order pairs c.args.colours.now.live)
    (c.requires.links.pairs ∙ ap (λ (ls : List Link). link_pairs ls)
    (sym same))) (ap (λ (ws : List ℕ). length ws) c.deref-2.ensures.value
    ∙ a_weight_each state.weights.items state.store.particles c.requires.weights)

pub lay-requires-clause-room : goal.lay-requires-clause-room
lay-requires-clause-room g c =
    let has = c.requires.links in
    let links = c.args.state.now.links.items in
    let many : length c.order.result.now ≡ length (link_order links) =
    ap (λ (ns : List ℕ). length ns) (c.order.ensures ∙ (λ i. order (has.pairs i)
    (has.live i))) in
    omega (arith, many, order_few links, c.requires.rows.rows)

pub lay-requires-clause-even : goal.lay-requires-clause-even
lay-requires-clause-even g c = c.requires.rows.even

pub returns-clause-laid : goal.returns-clause-laid
returns-clause-laid g c =
    let has = c.requires.links in
    let in_order = c.order.ensures ∙ (λ i. order (has.pairs i) (has.live i)) in
    coe 0 1 (i. AreLaid (link_bond (c.deref.ensures.value i)) (index_at (c.deref-2.ensures.value i)) (in_order i) (lists_in c.lay.new.self))
    c.lay.ensures.laid

pub returns-clause-rows : goal.returns-clause-rows
returns-clause-rows g c = record { even = c.lay.ensures.laid.even; rows = c.lay.ensures.room }
