use Rattle.std.proofs.Common.{◌∙◌, ap, sym, List, [], ◌∷◌, ◌++◌, take}
use Rattle.std.proofs.lemmas.List.{take_more}
use Rattle.pbd_world.proofs.list.List.copied.Goals as goal

pub loop-item-preserved : goal.loop-item-preserved
loop-item-preserved g c =
    let items = c.args.items.now in
    let i = c.loop-item.item-index in
    let item = c.item-item.result in
    c.in_ok-push.ensures.ok
    ∙ ap (λ (before : List g.row.T.Denot). before ++ item ∷ []) c.loop-item.invariant
    ∙ ap (λ (x : g.row.T.Denot). take i items ++ x ∷ []) c.item-item.is
    ∙ sym (take_more items i item c.loop-item-test.true)
