use Rattle.std.proofs.Common.{◌∙◌}
use Rattle.pbd_obj.proofs.SharedLemmas.{note_is}
use Rattle.pbd_obj.proofs.bends.note.Goals as goal

pub returns-clause-ok : goal.returns-clause-ok
returns-clause-ok c = note_is c.args.edge c.args.shared.now c.insert.new.self c.copied.result c.with_one-known.result
    (c.copied.ensures ∙ c.get.ensures.value) c.with_one-known.ensures c.in_ok-insert.ensures.updates.0
