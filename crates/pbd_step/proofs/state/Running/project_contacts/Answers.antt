use Rattle.std.proofs.Common.{◌≡◌, ◌+◌, ◌-◌, ◌^◌, ◌≤◌, ℕ, min, length, OnOk, FitsSigned, to_z, of_z, w64, arith}
use Rattle.std.proofs.Common.{refl, sym, ap, ◌∙◌, subst}
use Rattle.std.proofs.lemmas.Int.{to_z-of_z}
use Rattle.pbd_world.specs.Bonds.{contact_bond}
use Rattle.pbd_world.specs.Colours.{order}
use Rattle.pbd_world.specs.Work.{bonds_work}
use Rattle.pbd_colour.specs.Pairs.{InRange}
use Rattle.pbd_pair.specs.declared.bonds.Bonds.TheVariants.{Contacts}
use Rattle.pbd_pair.specs.Laid.{front_of, lists_in, AreOfBatch}
use Rattle.pbd_pair.proofs.LaidParts.{first_laid, laid_by_weights}
use Rattle.pbd_step.specs.Projecting.{AreBondsOf, CanProjectAll}
use Rattle.pbd_world.proofs.OrderCounts.{contacts_count}
use Rattle.pbd_step.proofs.InOrder.{as_many_rows}
use Rattle.pbd_step.proofs.Staying.{projects}
use Rattle.pbd_step.proofs.UnderWay.{contact_bonds}
use Rattle.pbd_step.proofs.state.Running.project_contacts.Goals as goal

pub first_rows-requires-clause-fits : goal.first_rows-requires-clause-fits
first_rows-requires-clause-fits g c =
    let told = c.colouring-colours.ensures in
    omega (arith, as_many_rows c.order.ensures told.pairs told.live, c.requires.laid.long)

pub project_all-requires : goal.project_all-requires
project_all-requires g c =
    let limit = c.args.self.now.state.store.limit in
    let n : ℕ = length c.args.self.now.state.store.particles in
    let pairs = c.pairs.result.now in
    let fit : FitsSigned w64 c.args.thickness = c.ranges.thickness in
    let same : to_z w64 (of_z w64 c.args.thickness) ≡ c.args.thickness = to_z-of_z w64 c.args.thickness fit in
    let range : InRange n pairs = subst (λ (k : ℕ). InRange k pairs) c.requires.found c.pairs.ensures.in_range in
    let these : pairs ≡ c.colouring-colours.result.now.pairs = c.pairs.ensures.value ∙ sym c.colouring-colours.ensures.pairs in
    let fits = contact_bonds limit c.args.thickness n pairs (Contacts c.pairs.result c.args.thickness) refl
    (λ k. refl) c.requires.limit c.requires.thickness range in
    let bonds : AreBondsOf limit n (Contacts c.pairs.result (to_z w64 (of_z w64 c.args.thickness))) c.colouring-colours.result.now.pairs =
    coe 0 1 (i. AreBondsOf limit n (Contacts c.pairs.result (sym same i)) (these i)) fits in
    let state = c.args.self.now.state in
    let colours = c.colouring-colours.result.now in
    let ps = state.store.particles in
    let rows = c.first_rows.result in
    let count = as_many_rows c.order.ensures c.colouring-colours.ensures.pairs c.colouring-colours.ensures.live in
    let of = first_laid rows (c.first_rows.ensures ∙ ap (λ (k : ℕ). front_of k (lists_in c.args.self.now.scratch.laid_contacts)) count)
    (laid_by_weights ps c.requires.weights c.requires.laid) in
    let can : CanProjectAll (2 ^ 119) (Contacts c.pairs.result (to_z w64 (of_z w64 c.args.thickness))) rows colours.pairs colours.live
    state.store
    state.totals = record {
      fit = bonds;
      rows = coe 0 1 (i. AreOfBatch (contact_bond (sym same i) (sym c.pairs.ensures.value i))
          (order (sym c.colouring-colours.ensures.pairs i)
          (sym c.colouring-colours.ensures.live i)) ps rows) of;
      few = omega (arith, ap length these, c.pairs.ensures.few);
      movable = c.requires.movable;
    } in
    (omega arith, (c.requires.lanes_low, (c.requires.lanes_high, can)))

pub returns-clause-done : goal.returns-clause-done
returns-clause-done g c =
    let fit : FitsSigned w64 c.args.thickness = c.ranges.thickness in
    let same : to_z w64 (of_z w64 c.args.thickness) ≡ c.args.thickness = to_z-of_z w64 c.args.thickness fit in
    let told = c.colouring-colours.ensures in
    projects c.args.self.now c.project_all.new.store c.project_all.new.totals c.project_all.new.projector
    c.project_all.ensures.done (λ i. contact_bond (same i) (c.pairs.ensures.value i)) (λ i. order (told.pairs i) (told.live i))
    c.project_all.ensures.not_fallen c.project_all.ensures.width

pub returns-clause-handed : goal.returns-clause-handed
returns-clause-handed g c =
    let before = g.P.Projector.count c.args.self.now.projector in
    let after = g.P.Projector.count c.project_all.new.projector in
    let same : length (order c.colouring-colours.result.now.pairs c.colouring-colours.result.now.live)
    ≡ length c.args.self.now.scratch.found.pairs = (λ i. length
    (order (c.colouring-colours.ensures.pairs i) (c.colouring-colours.ensures.live i)))
    ∙ contacts_count c.args.self.now.scratch.found.pairs in
    subst (λ (k : ℕ). OnOk c.project_all.result (after ≡ min (before + k) (2 ^ 64 - 1))) same c.project_all.ensures.handed

pub returns-clause-cost : goal.returns-clause-cost
returns-clause-cost g c =
    coe 0 1 (i. c.project_all.new.steps ≤ c.args.steps.now + bonds_work (g.P.Projector.width c.args.self.now.projector)
    (c.colouring-colours.ensures.pairs i) (c.colouring-colours.ensures.live i)) c.project_all.ensures.cost
