use Rattle.std.proofs.Common.{◌∙◌, sym, length}
use Rattle.std.proofs.lemmas.Bool.{cond-false}
use Rattle.pbd_store.proofs.Listing.{count_is}
use Rattle.pbd_store.proofs.columns.Columns.row_if.Goals as goal

pub returns-else-wanted : goal.returns-else-wanted
returns-else-wanted g c = count_is c.self.invariant.padded c.self.view_is
    ∙ sym (cond-false c.args.wanted c.args.i (length c.args.self.now) c.if-wanted.false)
