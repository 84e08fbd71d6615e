use Rattle.std.proofs.Common.{◌≡◌, ◌+◌, rules, sym, ap, ◌∙◌, arith, refl, List, length, subst, FitsSigned, ℕ, ◌≤◌, ◌<◌}
use Rattle.std.specs.Int.{w64}
use Rattle.std.proofs.lemmas.Int.{to_z-of_z}
use Rattle.pbd_world.specs.Contacts.{contacts_of}
use Rattle.pbd_world.specs.Work.{finding_work}
use Rattle.pbd_self.specs.Touching.{Found, touching}
use Rattle.pbd_step.specs.States.{world_of}
use Rattle.pbd_step.proofs.Finding.{thickness_range, places_inside}
use Rattle.pbd_step.proofs.Costing.{looked_at}
use Rattle.pbd_step.proofs.state.Running.find.Goals.{After-detect, After-touching_pairs_are_contacts}
use Rattle.pbd_step.proofs.state.Running.find.Goals as goal

-- the pairs that touch are the contacts of the world
touching_are : (g : _) (c : After-touching_pairs_are_contacts g)
    → touching c.args.setting.now.thickness c.args.self.now.colours c.args.self.now.state.store.particles
    ≡ contacts_of c.args.setting.now.thickness c.args.self.now.state.links.items c.args.self.now.state.store.particles
touching_are g c = c.touching_pairs_are_contacts.ensures c.args.setting.now.thickness c.args.self.now.state.links.items
    c.args.self.now.state.store.particles c.args.self.now.colours c.requires.going.links.pairs c.requires.going.links.live

pub detect-requires : goal.detect-requires
detect-requires g c =
    let w = world_of c.args.setting.now c.args.self.now.state in
    let range = thickness_range w c.requires.going.under_way.well_formed in
    let f : FitsSigned w64 c.args.setting.now.thickness = search rules in
    simp to_z-of_z (
      omega arith,
      (
        sym c.requires.going.space.found,
        (
          c.requires.going.links.particles ∙ sym c.requires.going.space.found,
          (range.0, (range.1, places_inside w c.requires.going.under_way.well_formed)),
        ),
      ),
    )

pub returns-in-Ok-clause-found : goal.returns-in-Ok-clause-found
returns-in-Ok-clause-found g c =
    let f : FitsSigned w64 c.args.setting.now.thickness = search rules in
    let found = simp to_z-of_z at c.in-Ok.ensures.found in
    let same = touching_are g (goal.at.returns-in-Ok-clause-found g c).After-touching_pairs_are_contacts in
    ap (λ (f : Found). f.pairs) found ∙ same

pub returns-in-Ok-clause-few : goal.returns-in-Ok-clause-few
returns-in-Ok-clause-few g c =
    let f : FitsSigned w64 c.args.setting.now.thickness = search rules in
    let few = simp to_z-of_z at c.in-Ok.ensures.few in
    let same = touching_are g (goal.at.returns-in-Ok-clause-few g c).After-touching_pairs_are_contacts in
    subst (λ (pairs : List (ℕ × ℕ)). length pairs ≤ 262144) same few

pub returns-in-Err-clause-full : goal.returns-in-Err-clause-full
returns-in-Err-clause-full g c =
    let f : FitsSigned w64 c.args.setting.now.thickness = search rules in
    let full = simp to_z-of_z at c.in-Err.ensures.full in
    let same = touching_are g (goal.at.returns-in-Err-clause-full g c).After-touching_pairs_are_contacts in
    (subst (λ (pairs : List (ℕ × ℕ)). 262144 < length pairs) same full, refl)

pub returns-in-Ok-clause-particles : goal.returns-in-Ok-clause-particles
returns-in-Ok-clause-particles g c = ap (λ (f : Found). f.particles) c.in-Ok.ensures.found

pub returns-in-Err-clause-particles : goal.returns-in-Err-clause-particles
returns-in-Err-clause-particles g c = ap (λ (f : Found). f.particles) c.in-Err.ensures.emptied

detecting_cost : (g : _) (c : After-detect g)
    → c.detect.new.steps ≤ c.args.steps.now + finding_work (world_of c.args.setting.now c.args.self.now.state)
detecting_cost g c =
    let f : FitsSigned w64 c.args.setting.now.thickness = search rules in
    let free = simp to_z-of_z at c.detect.ensures.free in
    looked_at (world_of c.args.setting.now c.args.self.now.state) c.args.steps.now c.detect.new.steps c.requires.going.space.found
    c.detect.ensures.cost free

pub returns-in-Ok-clause-cost : goal.returns-in-Ok-clause-cost
returns-in-Ok-clause-cost g c = detecting_cost g (goal.at.returns-in-Ok-clause-cost g c).After-detect

pub returns-in-Err-clause-cost : goal.returns-in-Err-clause-cost
returns-in-Err-clause-cost g c = detecting_cost g (goal.at.returns-in-Err-clause-cost g c).After-detect
