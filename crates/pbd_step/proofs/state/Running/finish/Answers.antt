use Rattle.std.proofs.Common.{arith, sym, ap, ◌∙◌, ◌^◌, subst, ℕ, ℤ, pos, length, List, Bool, IsTrue, to_z, of_z, w64, Ok, Err}
use Rattle.std.proofs.lemmas.Result.{err_from_is_err_and}
use Rattle.std.proofs.lemmas.List.{length-replicate}
use Rattle.pbd_world.specs.Step.{settled, rub}
use Rattle.pbd_world.specs.Ledger.{ledger_of}
use Rattle.pbd_world.specs.Valid.{is_between}
use Rattle.pbd_world.specs.World.{World, parts_of}
use Rattle.pbd_world.proofs.WorldParts.{formed}
use Rattle.pbd_world.proofs.WorkLemmas.{finishing_is}
use Rattle.pbd_step.specs.declared.state.Scratch.{Scratch}
use Rattle.pbd_step.specs.States.{world_of, now_of, HasLinks, HaveSpace, KnowsLinks}
use Rattle.pbd_step.specs.Staying.{passing_of, AreBondsLaid, AreContactsLaid, IsGoing, StaysInStep}
use Rattle.pbd_step.proofs.Staying.{prepared, known_laid, tools_go, tools_in_step, pass_in_step, both_in_step, pass_goes}
use Rattle.pbd_step.proofs.Stepping.{finished_is}
use Rattle.pbd_step.proofs.UnderWay.{moved_world, more_under_way, thickness_kept, thickness_of}
use Rattle.pbd_step.proofs.Costing.{settling_same}
use Rattle.pbd_step.proofs.state.Running.finish.Goals.{After-clear}
use Rattle.pbd_step.proofs.state.Running.finish.Goals as goal

-- the scratch once the bonds are laid and the flags are cleared
abbrev laid_scratch : (g : _) → After-clear g → Scratch
laid_scratch g c = record c.args.self.now.scratch {
  laid_links = c.lay_links.new.columns;
  laid_contacts = c.lay_contacts.new.columns;
  are_links_laid = c.lay_links.new.are_laid;
  touched = c.clear.new.self;
}

has_space : (g : _) (c : After-clear g) (n m : ℕ) → HaveSpace n m c.args.self.now.scratch → HaveSpace n m (laid_scratch g c)
has_space g c = prepared c.args.self.now.scratch c.lay_links.new.columns c.lay_contacts.new.columns c.clear.new.self c.lay_links.new.are_laid
    c.lay_links.ensures.rows c.lay_contacts.ensures.rows (ap (λ (fs : List Bool). length fs) c.clear.ensures ∙ length-replicate _ _)

knows : (g : _) (c : After-clear g) → KnowsLinks c.args.self.now.state c.args.self.now.scratch
    → KnowsLinks c.args.self.now.state (laid_scratch g c)
knows g c = known_laid c.args.self.now.state c.args.self.now.scratch c.lay_links.new.columns c.lay_contacts.new.columns c.clear.new.self
    c.lay_links.new.are_laid c.lay_links.ensures.laid

laid_in_step : (g : _) (c : After-clear g) → StaysInStep g.P.Projector.count g.P.Projector.width c.args.self.now
    (record c.args.self.now { scratch = laid_scratch g c })
laid_in_step g c = tools_in_step c.args.self.now (laid_scratch g c) (has_space g c) (knows g c)

goes_on : (g : _) (c : After-clear g) → IsGoing (2 ^ 100) c.args.setting.now (record c.args.self.now { scratch = laid_scratch g c })
goes_on g c = tools_go c.args.setting.now c.args.self.now (laid_scratch g c) (has_space g c) (knows g c) c.requires.going

pub lay_links-requires : goal.lay_links-requires
lay_links-requires g c =
    let going = c.requires.going in
    let f = formed (parts_of (world_of c.args.setting.now c.args.self.now.state)) going.under_way.well_formed in
    (omega arith, (c.requires.lanes_high, (f.limit, (f.links, (going.weights, (going.links, (going.space.laid_links, going.knows.laid)))))))

pub lay_contacts-requires : goal.lay_contacts-requires
lay_contacts-requires g c =
    let going = c.requires.going in
    let w : World = world_of c.args.setting.now c.args.self.now.state in
    let f = formed (parts_of w) going.under_way.well_formed in
    let thin = thickness_of w f in
    let thickness : IsTrue (is_between (pos 0) (pos 1048576) (to_z w64 (of_z w64 w.thickness))) =
    subst (λ (t : ℤ). IsTrue (is_between (pos 0) (pos 1048576) t)) (sym (thickness_kept w.thickness thin)) thin in
    (omega arith, (c.requires.lanes_high, (f.limit, (thickness, (going.weights, (going.space.found, going.space.laid_contacts))))))

pub project_in_passes-requires : goal.project_in_passes-requires
project_in_passes-requires g c =
    let run = c.args.self.now in
    let w : World = world_of c.args.setting.now run.state in
    let thin = thickness_of w (formed (parts_of w) c.requires.going.under_way.well_formed) in
    let cleared = (goal.at.project_in_passes-requires g c).After-clear in
    let laid : AreBondsLaid w.thickness run.state (laid_scratch g cleared) = record {
      links = c.lay_links.ensures.laid;
      contacts = subst (λ (t : ℤ). AreContactsLaid t run.state run.scratch.found.pairs c.lay_contacts.new.columns)
          (thickness_kept w.thickness thin)
          c.lay_contacts.ensures.laid;
    } in
    (omega arith, (c.requires.lanes_low, (c.requires.lanes_high, (goes_on g cleared, laid))))

pub rub_and_tear-requires : goal.rub_and_tear-requires
rub_and_tear-requires g c =
    let cleared = (goal.at.rub_and_tear-requires g c).After-clear in
    let start = record c.args.self.now { scratch = laid_scratch g cleared } in (
      omega arith,
      (
        c.requires.lanes_low,
        (
          c.requires.lanes_high,
          pass_goes _ c.args.setting.now start c.project_in_passes.new.self (goes_on g cleared) c.project_in_passes.ensures.stays
              (more_under_way _ (omega arith) c.in_ok-project_in_passes.ensures.under_way),
        ),
      ),
    )

pub returns-in_err-project_in_passes-clause-outcome : goal.returns-in_err-project_in_passes-clause-outcome
returns-in_err-project_in_passes-clause-outcome g c =
    let p = err_from_is_err_and c.from_residual.result c.from_residual.ensures.1 in
    let run = c.args.self.now in
    rw (p.1, p.2) (finished_is (world_of c.args.setting.now run.state) run.scratch.found.pairs (now_of run.state) c.clear.new.self
    (Err c.in_err-project_in_passes.field-0.0) c.requires.going.space.touched c.clear.ensures c.in_err-project_in_passes.ensures.outcome)

pub returns-clause-outcome : goal.returns-clause-outcome
returns-clause-outcome g c =
    let run = c.args.self.now in
    let s = passing_of c.project_in_passes.new.self in
    let stays = c.project_in_passes.ensures.stays in
    let moved = moved_world c.args.setting.now run.state c.project_in_passes.new.self.state stays.moved.same stays.moved.limit in
    finished_is (world_of c.args.setting.now run.state) run.scratch.found.pairs (now_of run.state) c.clear.new.self
    (Ok s) c.requires.going.space.touched c.clear.ensures c.in_ok-project_in_passes.ensures.outcome
    ∙ sym (ap (λ (v : World). Ok v) (c.rub_and_tear.ensures.world
    ∙ (λ i. settled (moved i) (stays.scratch i).found.pairs (rub c.args.setting.now.friction s))))

pub returns-in_err-project_in_passes-clause-stays : goal.returns-in_err-project_in_passes-clause-stays
returns-in_err-project_in_passes-clause-stays g c = both_in_step c.args.self.now _ c.project_in_passes.new.self
    (laid_in_step g (goal.at.returns-in_err-project_in_passes-clause-stays g c).After-clear)
    (pass_in_step _ c.project_in_passes.new.self c.project_in_passes.ensures.stays)

pub returns-clause-stays : goal.returns-clause-stays
returns-clause-stays g c = both_in_step c.args.self.now c.project_in_passes.new.self c.rub_and_tear.new.self
    (both_in_step c.args.self.now _ c.project_in_passes.new.self (laid_in_step g (goal.at.returns-clause-stays g c).After-clear)
    (pass_in_step _ c.project_in_passes.new.self c.project_in_passes.ensures.stays)) c.rub_and_tear.ensures.stays

pub returns-clause-links : goal.returns-clause-links
returns-clause-links g c =
    let now = c.rub_and_tear.new.self in
    subst (λ (n : ℕ). HasLinks n now.state.links.items now.colours) c.project_in_passes.ensures.stays.moved.whole
    c.rub_and_tear.ensures.links

pub returns-clause-contacts : goal.returns-clause-contacts
returns-clause-contacts g c = ap (λ (w : World). w.contacts) c.rub_and_tear.ensures.world
    ∙ ap (λ (t : Scratch). length t.found.pairs) c.project_in_passes.ensures.stays.scratch

pub returns-clause-handed : goal.returns-clause-handed
returns-clause-handed g c = ap g.P.Projector.count c.rub_and_tear.ensures.projector ∙ c.in_ok-project_in_passes.ensures.handed

pub returns-in_err-project_in_passes-clause-cost : goal.returns-in_err-project_in_passes-clause-cost
returns-in_err-project_in_passes-clause-cost g c =
    let run = c.args.self.now in
    omega (
      arith,
      c.project_in_passes.ensures.cost,
      finishing_is g.row.L (g.P.Projector.width run.projector)
          (world_of c.args.setting.now run.state) run.scratch.found.pairs,
    )

pub returns-clause-cost : goal.returns-clause-cost
returns-clause-cost g c =
    let run = c.args.self.now in
    let w = world_of c.args.setting.now run.state in
    let then = c.project_in_passes.new.self.state in
    let stays = c.project_in_passes.ensures.stays in
    let settled = settling_same g.row.L w (world_of c.args.setting.now then) then.store.particles (ledger_of then.totals)
    (moved_world c.args.setting.now run.state then stays.moved.same stays.moved.limit) stays.moved.whole in
    omega (
      arith,
      c.project_in_passes.ensures.cost,
      c.rub_and_tear.ensures.cost,
      settled,
      finishing_is g.row.L (g.P.Projector.width run.projector) w run.scratch.found.pairs,
    )
