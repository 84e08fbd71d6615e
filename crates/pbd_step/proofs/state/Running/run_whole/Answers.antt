use Rattle.std.proofs.Common.{◌≡◌, sym, ap, ◌∙◌, arith, subst, length, ℕ, ◌≤◌, List}
use Rattle.pbd_world.specs.declared.parts.Particle.{Particle}
use Rattle.pbd_world.specs.declared.parts.Link.{Link}
use Rattle.pbd_world.specs.World.{World, IsSound}
use Rattle.pbd_world.specs.Contacts.{link_pairs}
use Rattle.pbd_colour.specs.Pairs.{Coloured}
use Rattle.pbd_step.specs.States.{world_of, fixed_links, HasLinks, HaveSpace}
use Rattle.pbd_step.specs.Solving.{AreAlike}
use Rattle.pbd_step.proofs.Keeping.{formed_fit, taken_fit, same_alike, alike_join, kept_moved, weights_taken, taken_alike}
use Rattle.pbd_step.proofs.Assuming.{flipped}
use Rattle.pbd_step.proofs.state.Running.run_whole.Goals as goal

pub restore-requires : goal.restore-requires
restore-requires g c =
    let kept = c.take_over.new.state in
    let run = c.args.self.now in
    let state = run.state in
    let stays = c.take_steps.ensures.stays in
    let fit = taken_fit kept.store.particles state.store.particles kept.links.items state.links.items c.take_over.ensures.particles
    c.take_over.ensures.links (formed_fit (world_of c.args.setting.now state) c.requires.kept.sound.well_formed) in
    let taken : AreAlike state kept = taken_alike c.take_over.ensures in
    let alike : AreAlike c.take_steps.new.self.state kept = alike_join c.take_steps.new.self.state state kept stays.alike taken in
    let colours = ap (λ (k : Coloured). k.particles) stays.pairs ∙ c.requires.kept.links.particles ∙ taken.particles in
    let pairs = ap (λ (k : Coloured). k.pairs) stays.pairs ∙ c.requires.kept.links.pairs
    ∙ ap (λ (ls : List Link). link_pairs ls) (sym c.take_over.ensures.links) in
    let room : length kept.links.items ≤ c.take_steps.new.self.colours.room =
    omega (arith, ap (λ (k : Coloured). k.room) stays.pairs, c.requires.kept.links.room, taken.links) in
    let space = coe 0 1 (i. HaveSpace (taken.particles i) (taken.links i) c.take_steps.new.self.scratch)
    (stays.space (length state.store.particles) (length state.links.items) c.requires.kept.space) in
    let fixed = stays.fixed ∙ ap fixed_links (sym c.take_over.ensures.links) in
    let live = (stays.links c.requires.kept.links).live in
    let knows = stays.knows c.requires.kept.knows in (
      omega arith,
      (
        c.requires.lanes_high,
        (alike, (fit.links, (fit.in_range, (colours, (pairs, (room, (space, (fixed, (live, knows))))))))),
      ),
    )

pub returns-in-Err-clause-obeys : goal.returns-in-Err-clause-obeys
returns-in-Err-clause-obeys g c =
    let setting = c.args.setting.now in
    record { outcome = c.in-Err.ensures.outcome; kept = c.restore.ensures.taken.world setting ∙ c.take_over.ensures.world setting }

pub returns-in-Err-clause-kept : goal.returns-in-Err-clause-kept
returns-in-Err-clause-kept g c =
    let kept = c.take_over.new.state in
    let state = c.args.self.now.state in
    let setting = c.args.setting.now in
    let same : world_of setting c.restore.new.state ≡ world_of setting state = c.restore.ensures.taken.world setting
    ∙ c.take_over.ensures.world setting in
    let many = ap (λ (ps : List Particle). length ps) c.take_over.ensures.particles in
    let links = ap (λ (ls : List Link). length ls) c.take_over.ensures.links in
    kept_moved setting state c.restore.new.state kept c.restore.new.colours c.restore.new.scratch
    (subst (λ (w : World). IsSound w) (sym same) c.requires.kept.sound)
    (weights_taken c.restore.new.state state (c.restore.ensures.taken.weights ∙ c.take_over.ensures.weights)
    (c.restore.ensures.taken.particles ∙ c.take_over.ensures.particles)
    c.requires.kept.weights) (same_alike state c.restore.new.state setting (sym (c.restore.ensures.taken.weights ∙ c.take_over.ensures.weights))
    (sym same))
    (same_alike kept state setting c.take_over.ensures.weights (c.take_over.ensures.world setting))
    (subst (λ (ls : List Link). HasLinks (length state.store.particles) ls c.restore.new.colours) (sym c.restore.ensures.taken.links)
    (subst (λ (n : ℕ). HasLinks n kept.links.items c.restore.new.colours) many c.restore.ensures.links))
    (coe 0 1 (i. HaveSpace (many i) (links i) c.restore.new.scratch) c.restore.ensures.space) c.restore.ensures.knows

pub returns-clause-kept : goal.returns-clause-kept
returns-clause-kept g c =
    let ready = c.in_default.ensures.ready in
    record {
      sound = ready.sound;
      weights = ready.weights;
      links = ready.links;
      space = ready.space;
      knows = ready.knows;
      alike = alike_join c.take_over.new.state c.args.self.now.state c.take_steps.new.self.state
          (same_alike c.take_over.new.state c.args.self.now.state c.args.setting.now
          c.take_over.ensures.weights (c.take_over.ensures.world c.args.setting.now))
          (flipped c.take_steps.new.self.state c.args.self.now.state c.take_steps.ensures.stays.alike);
    }

pub returns-in-Err-clause-not_fallen : goal.returns-in-Err-clause-not_fallen
returns-in-Err-clause-not_fallen g c = c.take_steps.ensures.stays.not_fallen

pub returns-in-Err-clause-width : goal.returns-in-Err-clause-width
returns-in-Err-clause-width g c = c.take_steps.ensures.stays.width

pub returns-clause-not_fallen : goal.returns-clause-not_fallen
returns-clause-not_fallen g c = c.take_steps.ensures.stays.not_fallen

pub returns-clause-width : goal.returns-clause-width
returns-clause-width g c = c.take_steps.ensures.stays.width

pub returns-in-Err-clause-copies : goal.returns-in-Err-clause-copies
returns-in-Err-clause-copies g c = omega (arith, c.take_over.ensures.copies, c.take_steps.ensures.stays.copies, c.restore.ensures.taken.copies)

pub returns-clause-copies : goal.returns-clause-copies
returns-clause-copies g c = omega (arith, c.take_over.ensures.copies, c.take_steps.ensures.stays.copies)
