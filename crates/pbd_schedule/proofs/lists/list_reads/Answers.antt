use Rattle.std.proofs.Common.{List, ◌∷◌, [], ◌++◌, length, ap, ◌∙◌, sym, arith}
use Rattle.std.proofs.lemmas.List.FromFn.{map-range_with_len_more, length-map-range_with_len}
use Rattle.pbd_world.specs.Room.{Roomed}
use Rattle.pbd_schedule.specs.declared.event.Event.{Event}
use Rattle.pbd_schedule.specs.declared.event.Event.TheVariants.{Read}
use Rattle.pbd_schedule.proofs.lists.list_reads.Goals as goal

pub loop-k-preserved : goal.loop-k-preserved
loop-k-preserved c =
    let k = c.loop-k.k in
    let inv = c.loop-k.invariant in
    let did = c.push.ensures.fits (omega (
      arith,
      inv.0,
      ap (λ (l : List Event). length l) inv.1,
      length-map-range_with_len Read 0 k,
      ap (λ (l : Roomed Event). l.room) c.clear.ensures,
      c.requires,
    )) in (
      ap (λ (l : Roomed Event). l.room) did ∙ inv.0,
      ap (λ (l : Roomed Event). l.entries) did ∙ ap (λ (l : List Event). l ++ Read k ∷ []) inv.1
          ∙ sym (map-range_with_len_more Read 0 k k (omega arith)),
    )
