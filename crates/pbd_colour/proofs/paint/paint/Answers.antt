use Rattle.std.proofs.Common.{◌≡◌, ◌<◌, ◌∙◌, length, arith}
use Rattle.pbd_world.specs.Colours.{pair_at, colour}
use Rattle.pbd_colour.proofs.Painting.{next_is, IsPainted-more_dead, IsPainted-more_serial, IsPainted-more_marked}
use Rattle.pbd_colour.proofs.paint.paint.Goals as goal
use Rattle.pbd_colour.proofs.paint.paint.Goals.{then-live-i+then-c-lt63, else-live-i, else-live-i-via-then-live-i+else-c-lt63}
use Rattle.pbd_colour.proofs.paint.paint.Goals.{else-live-i-via-else-live-i}

pub loop-i-preserved : goal.loop-i-preserved
loop-i-preserved c =
    let painted = c.loop-i.invariant in
    let range = c.requires.pairs c.loop-i.i c.loop-i-test.true in
    let within : c.loop-i.i < length c.loop-i.colours = omega arith in
    let left : (pair_at c.args.pairs.now c.loop-i.i).0 < length c.loop-i.used = omega (arith, range.0) in
    let right : (pair_at c.args.pairs.now c.loop-i.i).1 < length c.loop-i.used = omega (arith, range.1) in
    let is : c.least_unused-c.result ≡ colour c.args.pairs.now c.args.live.now c.loop-i.i = c.least_unused-c.ensures.least
    ∙ next_is painted left right in
    elim c.if-live-i.branch [
      | then-live-i+then-c-lt63 w ↦ rw w.used-is (IsPainted-more_marked painted c.least_unused-c.result w.mark.new.used
          w.mark-then-c-lt63.new.used within is w.if-live-i.true
          (omega arith) w.mark.ensures.has w.mark-then-c-lt63.ensures.has w.mark-then-c-lt63.ensures.small)
      | else-live-i w ↦ rw w.used-is (elim w.else-live-i.branch [
        | else-live-i-via-then-live-i+else-c-lt63 v ↦ IsPainted-more_serial painted c.least_unused-c.result within is v.if-c-lt63.false
        | else-live-i-via-else-live-i v ↦ IsPainted-more_dead painted c.least_unused-c.result within is v.if-live-i.false
      ])
    ]
