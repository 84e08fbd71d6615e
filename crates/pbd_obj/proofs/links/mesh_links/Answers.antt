use Rattle.std.proofs.lemmas.Result.{err_from_is_err_and}
use Rattle.pbd_obj.specs.declared.links.FoundLinks.{FoundLinks}
use Rattle.pbd_obj.specs.Nets.{HoldsJoined}
use Rattle.pbd_obj.proofs.NetLemmas.{bends_stop, mesh_links_are, pairs_none, shear_stops, stretch_stops}
use Rattle.pbd_obj.proofs.links.mesh_links.Goals.{After-new-2}
use Rattle.pbd_obj.proofs.links.mesh_links.Goals as goal

-- before the first face nothing is found
abbrev none_found : After-new-2 → FoundLinks
none_found c = record { base = c.args.base; room = c.args.room; links = c.new.result; joined = c.new-2.result }

none_joined : (c : After-new-2) → HoldsJoined (none_found c)
none_joined c = rw c.new.ensures (pairs_none c.new-2.result c.new-2.ensures.empty)

pub add_kind-requires-clause-joined : goal.add_kind-requires-clause-joined
add_kind-requires-clause-joined c = none_joined (goal.at.add_kind-requires-clause-joined c).After-new-2

pub returns-in_err-add_kind-clause-err : goal.returns-in_err-add_kind-clause-err
returns-in_err-add_kind-clause-err c =
    let at = (goal.at.returns-in_err-add_kind-clause-err c).After-new-2 in
    let p = err_from_is_err_and c.from_residual.result c.from_residual.ensures.1 in
    rw (p.1, p.2) (stretch_stops c.args.settings.now c.args.mesh.now (none_found at) c.in_err-add_kind.field-0.0 (none_joined at)
    c.new.ensures c.in_err-add_kind.ensures.err)

pub returns-in_err-add_kind-2-clause-err : goal.returns-in_err-add_kind-2-clause-err
returns-in_err-add_kind-2-clause-err c =
    let at = (goal.at.returns-in_err-add_kind-2-clause-err c).After-new-2 in
    let p = err_from_is_err_and c.from_residual-in_err-add_kind-2.result c.from_residual-in_err-add_kind-2.ensures.1 in
    rw (p.1, p.2) (shear_stops c.args.settings.now c.args.mesh.now (none_found at) c.add_kind.new.found c.in_err-add_kind-2.field-0.0
    (none_joined at) c.new.ensures c.in_ok-add_kind.ensures.ok c.in_err-add_kind-2.ensures.err)

pub returns-in_err-add_bends-clause-err : goal.returns-in_err-add_bends-clause-err
returns-in_err-add_bends-clause-err c =
    let at = (goal.at.returns-in_err-add_bends-clause-err c).After-new-2 in
    let p = err_from_is_err_and c.from_residual-in_err-add_bends.result c.from_residual-in_err-add_bends.ensures.1 in
    rw (p.1, p.2) (bends_stop c.args.settings.now c.args.mesh.now (none_found at) c.add_kind.new.found c.add_kind-2.new.found
    c.in_err-add_bends.field-0.0 (none_joined at) c.new.ensures c.in_ok-add_kind.ensures.ok c.in_ok-add_kind-2.ensures.ok
    c.in_err-add_bends.ensures.err)

pub returns-clause-links : goal.returns-clause-links
returns-clause-links c =
    let at = (goal.at.returns-clause-links c).After-new-2 in
    mesh_links_are c.args.settings.now c.args.mesh.now (none_found at) c.add_kind.new.found c.add_kind-2.new.found c.add_bends.new.found
    (none_joined at) c.new.ensures c.in_ok-add_kind.ensures.ok c.in_ok-add_kind-2.ensures.ok c.in_ok-add_bends.ensures.ok
