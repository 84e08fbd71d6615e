use Rattle.std.proofs.Common.{◌≡◌, ℕ, List, length, FitsSigned, w64, refl, sym, ap, ◌∙◌, arith, subst}
use Rattle.std.proofs.lemmas.Int.{to_z-of_z}
use Rattle.pbd_world.specs.Bonds.{contact_bond}
use Rattle.pbd_world.specs.Colours.{order}
use Rattle.pbd_world.specs.Step.{contact_order}
use Rattle.pbd_world.proofs.OrderCounts.{contacts_count}
use Rattle.pbd_store.specs.Gathering.{index_at}
use Rattle.pbd_colour.specs.Pairs.{InRange}
use Rattle.pbd_pair.specs.declared.bonds.Bonds.{Bonds}
use Rattle.pbd_pair.specs.declared.bonds.Bonds.TheVariants.{Contacts}
use Rattle.pbd_pair.specs.Laid.{lists_in, AreLaid, AreLayable}
use Rattle.pbd_step.proofs.Laying.{a_weight_each, layable}
use Rattle.pbd_step.proofs.UnderWay.{contact_bonds}
use Rattle.pbd_step.proofs.lay.lay_contacts.Goals as goal

pub lay-requires-clause-layable : goal.lay-requires-clause-layable
lay-requires-clause-layable g c =
    let state = c.args.state.now in
    let limit = state.store.limit in
    let n : ℕ = length state.store.particles in
    let fit : FitsSigned w64 c.args.thickness = c.ranges.thickness in
    let pairs = c.pairs.result.now in
    let range : InRange n pairs = subst (λ (k : ℕ). InRange k pairs) c.requires.found c.pairs.ensures.in_range in
    let these : c.colouring.result.now.pairs ≡ pairs = c.colouring.ensures.pairs ∙ sym c.pairs.ensures.value in
    let live = c.colouring.result.now.live in
    let bonds : Bonds = Contacts c.pairs.result c.args.thickness in
    let fits = contact_bonds limit c.args.thickness n pairs bonds refl (λ k. refl) c.requires.limit c.requires.thickness range in
    let all : AreLayable bonds c.order.result.now c.deref.result.now =
    layable live c.requires.limit fits (c.order.ensures ∙ ap (λ (ps : List (ℕ × ℕ)).
    order ps live) these) (ap (λ (ws : List ℕ). length ws) c.deref.ensures.value ∙ a_weight_each state.weights.items state.store.particles
    c.requires.weights) in
    simp to_z-of_z all

pub lay-requires-clause-room : goal.lay-requires-clause-room
lay-requires-clause-room g c =
    let told = c.colouring.ensures in
    let many : length c.order.result.now ≡ length (contact_order c.args.found.now.pairs) =
    ap (λ (ns : List ℕ). length ns) (c.order.ensures ∙ (λ i. order
    (told.pairs i) (told.live i))) in
    omega (
      arith,
      many,
      contacts_count c.args.found.now.pairs,
      ap (λ (ps : List (ℕ × ℕ)). length ps) c.pairs.ensures.value,
      c.pairs.ensures.few,
      c.requires.rows.rows,
    )

pub lay-requires-clause-even : goal.lay-requires-clause-even
lay-requires-clause-even g c = c.requires.rows.even

pub returns-clause-laid : goal.returns-clause-laid
returns-clause-laid g c =
    let fit : FitsSigned w64 c.args.thickness = c.ranges.thickness in
    let told = c.colouring.ensures in
    let in_order = c.order.ensures ∙ (λ i. order (told.pairs i) (told.live i)) in
    let laid = simp to_z-of_z at c.lay.ensures.laid in
    coe 0 1 (i. AreLaid (contact_bond c.args.thickness (c.pairs.ensures.value i)) (index_at (c.deref.ensures.value i)) (in_order i)
    (lists_in
    c.lay.new.self)) laid

pub returns-clause-rows : goal.returns-clause-rows
returns-clause-rows g c = record { even = c.lay.ensures.laid.even; rows = c.lay.ensures.room }
