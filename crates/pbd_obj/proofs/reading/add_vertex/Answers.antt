use Rattle.std.proofs.Common.{◌∙◌, sym, ap, inr, Ok}
use Rattle.pbd_script.specs.Lines.{words}
use Rattle.pbd_obj.specs.Reading.{vertex}
use Rattle.pbd_obj.proofs.ReadLemmas.{vertex_far, vertex_near}
use Rattle.pbd_obj.proofs.reading.add_vertex.Goals as goal

pub returns-then-not-inside-clause-err : goal.returns-then-not-inside-clause-err
returns-then-not-inside-clause-err c =
    inr (vertex_far c.args.line c.args.mesh.now (vertex (words c.args.rest.now)) c.in-Some.place (sym c.in-Some.is ∙ c.vertex.ensures)
    (sym c.if-not-inside.ensures.test))

pub returns-clause-ok : goal.returns-clause-ok
returns-clause-ok c =
    vertex_near c.args.line c.args.mesh.now (vertex (words c.args.rest.now)) c.in-Some.place (sym c.in-Some.is ∙ c.vertex.ensures)
    (sym c.if-not-inside.ensures.test)
    ∙ ap (λ ps. Ok (record { places = ps; sizes = c.args.mesh.now.sizes; corners = c.args.mesh.now.corners })) (sym c.in_ok-push.ensures.ok)
