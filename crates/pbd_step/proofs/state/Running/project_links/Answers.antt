use Rattle.std.proofs.Common.{◌≡◌, ◌+◌, ◌-◌, ◌^◌, ◌≤◌, ℕ, min, length, List, OnOk, IsTrue, arith, refl, sym, ap, ◌∙◌}
use Rattle.std.proofs.Common.{subst}
use Rattle.pbd_world.specs.declared.parts.Link.{Link}
use Rattle.pbd_world.specs.Bonds.{link_bond}
use Rattle.pbd_world.specs.Colours.{order}
use Rattle.pbd_world.specs.Contacts.{link_pairs}
use Rattle.pbd_world.specs.Valid.{are_valid_links}
use Rattle.pbd_world.specs.Work.{bonds_work}
use Rattle.pbd_world.specs.World.{live_count}
use Rattle.pbd_pair.specs.declared.bonds.Bonds.{Bonds}
use Rattle.pbd_pair.specs.declared.bonds.Bonds.TheVariants.{Links}
use Rattle.pbd_pair.specs.Laid.{front_of, lists_in, AreOfBatch}
use Rattle.pbd_pair.proofs.LaidParts.{first_laid, laid_by_weights}
use Rattle.pbd_step.specs.Projecting.{AreBondsOf, CanProjectAll}
use Rattle.pbd_world.proofs.OrderCounts.{links_count}
use Rattle.pbd_step.proofs.InOrder.{as_many_rows}
use Rattle.pbd_step.proofs.Staying.{projects}
use Rattle.pbd_step.proofs.UnderWay.{link_bonds, few_links}
use Rattle.pbd_step.proofs.state.Running.project_links.Goals as goal

pub first_rows-requires-clause-fits : goal.first_rows-requires-clause-fits
first_rows-requires-clause-fits g c =
    let has = c.requires.links in
    omega (arith, as_many_rows c.order.ensures has.pairs has.live, c.requires.laid.long)

pub project_all-requires : goal.project_all-requires
project_all-requires g c =
    let state = c.args.self.now.state in
    let limit = state.store.limit in
    let n : ℕ = length state.store.particles in
    let links = c.deref.result.now in
    let bonds : Bonds = Links c.deref.result in
    let same : links ≡ state.links.items = c.deref.ensures.value in
    let has = c.requires.links in
    let valid : IsTrue (are_valid_links limit n links) = subst (λ (ls : List Link). IsTrue (are_valid_links limit n ls))
    (sym same) c.requires.valid in
    let fits : AreBondsOf limit n bonds c.args.self.now.colours.pairs =
    subst (λ (pairs : List (ℕ × ℕ)). AreBondsOf limit n bonds pairs) (ap (λ (ls : List Link). link_pairs ls) same ∙ sym has.pairs)
    (link_bonds limit n links bonds refl (λ k. refl) valid) in
    let colours = c.args.self.now.colours in
    let ps = state.store.particles in
    let rows = c.first_rows.result in
    let count = as_many_rows c.order.ensures c.requires.links.pairs c.requires.links.live in
    let of = first_laid rows (c.first_rows.ensures ∙ ap (λ (k : ℕ). front_of k (lists_in c.args.self.now.scratch.laid_links)) count)
    (laid_by_weights ps c.requires.weights c.requires.laid) in
    let can : CanProjectAll (2 ^ 119) bonds rows colours.pairs colours.live state.store state.totals = record {
      fit = fits;
      rows = coe 0 1 (i. AreOfBatch (link_bond (sym same i)) (order (sym has.pairs i) (sym has.live i)) ps rows) of;
      few = omega (arith, ap length has.pairs, few_links limit n state.links.items c.requires.valid);
      movable = c.requires.movable;
    } in
    (omega arith, (c.requires.lanes_low, (c.requires.lanes_high, can)))

pub returns-clause-done : goal.returns-clause-done
returns-clause-done g c =
    let has = c.requires.links in
    projects c.args.self.now c.project_all.new.store c.project_all.new.totals c.project_all.new.projector
    c.project_all.ensures.done (ap link_bond c.deref.ensures.value) (λ i. order (has.pairs i) (has.live i))
    c.project_all.ensures.not_fallen c.project_all.ensures.width

pub returns-clause-handed : goal.returns-clause-handed
returns-clause-handed g c =
    let links = c.args.self.now.state.links.items in
    let colours = c.args.self.now.colours in
    let has = c.requires.links in
    let before = g.P.Projector.count c.args.self.now.projector in
    let after = g.P.Projector.count c.project_all.new.projector in
    let same : length (order colours.pairs colours.live) ≡ live_count links = (λ i. length (order (has.pairs i) (has.live i)))
    ∙ links_count links in
    subst (λ (k : ℕ). OnOk c.project_all.result (after ≡ min (before + k) (2 ^ 64 - 1))) same c.project_all.ensures.handed

pub returns-clause-cost : goal.returns-clause-cost
returns-clause-cost g c =
    let has = c.requires.links in
    coe 0 1 (i. c.project_all.new.steps ≤ c.args.steps.now + bonds_work (g.P.Projector.width c.args.self.now.projector) (has.pairs i)
    (has.live i)) c.project_all.ensures.cost
