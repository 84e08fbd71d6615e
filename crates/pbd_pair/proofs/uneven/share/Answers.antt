use Rattle.std.proofs.Common.{◌<◌, length, arith}
use Rattle.std.proofs.lemmas.Bool.{and_parts}
use Rattle.pbd_pair.proofs.Filling.{filled_as, filled_more}
use Rattle.pbd_pair.proofs.Sharing.{shared_first, shared_second}
use Rattle.pbd_pair.proofs.uneven.share.Goals as goal

pub loop-j-preserved : goal.loop-j-preserved
loop-j-preserved c =
    let p : c.loop-j.j < length c.args.portions.first.now = omega arith in
    let e = c.requires.shareable.each c.loop-j.j p in
    let portion = c.get.ensures.portion in
    let of = c.get.ensures.value in
    let rows = c.rows-shares.ensures in
    let room : c.loop-j.j < 128 = omega (arith, c.requires.shareable.few) in
    record {
      back = filled_more c.rows-shares.result.first room (λ t. shared_first e portion of (rows.first (and_parts _ _ t).1))
          (filled_as c.loop-j.invariant.back (λ i r h t. h (and_parts _ _ t).0));
      forth = filled_more c.rows-shares.result.second room (λ t. shared_second e portion of (rows.second (and_parts _ _ t).1))
          (filled_as c.loop-j.invariant.forth (λ i r h t. h (and_parts _ _ t).0));
    }
