use Rattle.std.proofs.Common.{◌≡◌, sym, ap, ◌∙◌, length}
use Rattle.pbd_world.specs.World.{World}
use Rattle.pbd_encoding.specs.Encoding.{header_of, state_bytes}
use Rattle.pbd_encoding.specs.Form.{form_checked}
use Rattle.pbd_encoding.specs.Laws.{form_on}
use Rattle.pbd_encoding.proofs.Telling.{told_state}
use Rattle.pbd_state.specs.Reading.{sound_on}
use Rattle.pbd_state.proofs.Lawful.{form_given, told_given, reads_form, reads_told, where_ok}
use Rattle.pbd_state.proofs.reading.read_state.Goals.{After-check_form}
use Rattle.pbd_state.proofs.reading.read_state.Goals as goal

-- the form that is looked at is that of the scene's states
form_is : (g : _) (c : After-check_form g) → form_on c.args.scene.now c.args.solver.now.world c.args.bytes.now
    ≡ form_checked c.as_slice.result.now c.counts_of-counts.result.particles c.counts_of-counts.result.links c.args.bytes.now
form_is g c =
    let scene = c.args.scene.now in
    let counts = c.counts_of-counts.ensures in
    let seen = c.shown.ensures.world in
    let header = c.as_slice.ensures ∙ c.header_of-header.ensures.bytes ∙ ap (λ (v : World). header_of scene v) c.shown-2.ensures.world in
    let n = counts.particles ∙ ap (λ (v : World). length v.particles) seen in
    let m = counts.links ∙ ap (λ (v : World). length v.links) seen in
    form_given scene c.args.bytes.now c.as_slice.result.now c.args.solver.now.world _ _ header n m

pub returns-in-Err-clause-value : goal.returns-in-Err-clause-value
returns-in-Err-clause-value g c =
    let form = form_is g (goal.at.returns-in-Err-clause-value g c).After-check_form in
    sym (reads_form c.args.scene.now c.args.bytes.now c.args.solver.now.world c.in-Err.fault (form ∙ sym c.in-Err.ensures.value))

pub returns-clause-value : goal.returns-clause-value
returns-clause-value g c =
    let w = c.args.solver.now.world in
    let bytes = c.args.bytes.now in
    let form = form_is g (goal.at.returns-clause-value g c).After-check_form in
    let told = told_given w bytes c.new-view.result.text c.new-view.ensures.text in
    c.take_over.ensures.value ∙ ap (λ (v : World). sound_on (length w.particles) (length w.links) v) told
    ∙ sym (reads_told c.args.scene.now bytes w (form ∙ sym c.in_default.ensures.value))

pub returns-clause-taken : goal.returns-clause-taken
returns-clause-taken g c =
    let w = c.args.solver.now.world in
    let scene = c.args.scene.now in
    let bytes = c.args.bytes.now in
    let form = form_is g (goal.at.returns-clause-taken g c).After-check_form in
    let told = told_given w bytes c.new-view.result.text c.new-view.ensures.text in
    let state = told_state scene bytes w c.told-scene c.check_form.ensures.fits (form ∙ sym c.in_default.ensures.value) in
    where_ok c.take_over.result (λ is. ap (λ (v : World). state_bytes scene v) (is ∙ told) ∙ state) c.take_over.ensures.world
