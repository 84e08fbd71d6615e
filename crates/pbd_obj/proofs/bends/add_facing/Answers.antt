use Rattle.std.proofs.Common.{◌∙◌, refl, length}
use Rattle.std.proofs.lemmas.Result.{err_from_is_err_and}
use Rattle.pbd_obj.proofs.SharedLemmas.{facing_begins, facing_next, facing_stops, known_within}
use Rattle.pbd_obj.proofs.bends.add_facing.Goals as goal

pub loop-edge-init : goal.loop-edge-init
loop-edge-init c = facing_begins c.args.mesh.now c.args.settings c.args.all.now.edges.now c.args.found.now c.requires.joined

pub add_across-requires-clause-within : goal.add_across-requires-clause-within
add_across-requires-clause-within c = known_within (length c.args.mesh.now.places) c.args.all.now.edges.now _ c.args.all.now.shared.now
    c.copied-known.result c.requires.shared (c.copied-known.ensures ∙ c.get.ensures.value) c.requires.within

pub loop-edge-preserved : goal.loop-edge-preserved
loop-edge-preserved c = facing_next c.args.mesh.now c.args.settings c.args.all.now.edges.now c.args.found.now c.loop-edge.found
    c.add_across.new.found c.loop-edge.edge-index _ _ c.args.all.now.shared.now c.copied-known.result c.loop-edge.invariant c.requires.shared
    c.loop-edge-test.true refl (c.copied-known.ensures ∙ c.get.ensures.value) c.in_ok-add_across.ensures.ok

pub returns-in_err-add_across-clause-err : goal.returns-in_err-add_across-clause-err
returns-in_err-add_across-clause-err c =
    let p = err_from_is_err_and c.from_residual.result c.from_residual.ensures.1 in
    rw (p.1, p.2) (facing_stops c.args.mesh.now c.args.settings c.args.all.now.edges.now c.args.found.now c.loop-edge.found c.loop-edge.edge-index _
    _ c.args.all.now.shared.now c.copied-known.result c.in_err-add_across.field-0.0 c.loop-edge.invariant c.requires.shared
    c.loop-edge-test.true refl (c.copied-known.ensures ∙ c.get.ensures.value) c.in_err-add_across.ensures.err)
