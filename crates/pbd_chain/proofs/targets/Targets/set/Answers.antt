use Rattle.std.proofs.Common.{◌≡◌, ◌∙◌, ap, arith, map}
use Rattle.std.proofs.lemmas.List.{with_items_is}
use Rattle.std.specs.Vec.{with_items}
use Rattle.pbd_chain.specs.Told.{told}
use Rattle.pbd_chain.proofs.Codes.{code_written}
use Rattle.pbd_chain.proofs.targets.Targets.set.Goals as goal

pub returns : goal.returns
returns c = rw (← c.self.view_is) (
    let e : (with_items c.self.inside.codes c.write.new.codes).items
    ≡ c.write.new.codes = with_items_is c.self.inside.codes c.write.new.codes
    (omega (arith, c.write.auto.codes, c.as_mut_slice.ensures.len)) in
    ap (map told) e ∙ code_written c.self.inside.codes.items c.as_mut_slice.result.now c.write.new.codes c.args.k c.code.result c.args.item
    c.as_mut_slice.ensures.value c.write.ensures c.code.ensures)
