use Rattle.std.proofs.Common.{arith, [], ◌∷◌}
use Rattle.pbd_script.specs.Lines.{words}
use Rattle.pbd_obj.proofs.MeshLemmas.{line_few, line_is}
use Rattle.pbd_obj.proofs.reading.add_line.Goals as goal

pub returns-in-Some-clause-ok : goal.returns-in-Some-clause-ok
returns-in-Some-clause-ok c =
    rw (line_is c.args.number c.args.line.now c.without_return.result.now c.args.mesh.now
    (c.in-Some.word.now ∷ words c.in-Some.rest.now) c.without_return.ensures c.in-Some.ensures.words) c.add_words.ensures.ok

pub returns-in-Some-clause-err : goal.returns-in-Some-clause-err
returns-in-Some-clause-err c =
    rw (line_is c.args.number c.args.line.now c.without_return.result.now c.args.mesh.now
    (c.in-Some.word.now ∷ words c.in-Some.rest.now) c.without_return.ensures c.in-Some.ensures.words) c.add_words.ensures.err

pub returns-in-Some-clause-few : goal.returns-in-Some-clause-few
returns-in-Some-clause-few c = line_few c.args.number c.args.line.now c.args.mesh.now c.add_words.new.mesh c.add_words.result
    (returns-in-Some-clause-ok c)

pub returns-in-None-clause-ok : goal.returns-in-None-clause-ok
returns-in-None-clause-ok c = line_is c.args.number c.args.line.now c.without_return.result.now c.args.mesh.now [] c.without_return.ensures
    c.in-None.ensures.words

pub returns-in-None-clause-few : goal.returns-in-None-clause-few
returns-in-None-clause-few c = omega arith
