use Rattle.pbd_pair.proofs.Sharing.{is_portion, is_portion_of, shared_words}
use Rattle.pbd_pair.proofs.uneven.Portions.get.Goals as goal

pub returns : goal.returns
returns c =
    let known = c.requires.shareable.each c.args.j c.requires.some in
    let w = shared_words known (record { sfits = c.max.type_inv }) c.max.ensures.value in
    record {
      portion = simp (w.k_is, w.first_is, w.guess_is, w.total_is) (is_portion c.max.result known w.sum_is);
      value = simp (w.k_is, w.first_is, w.guess_is, w.total_is) (is_portion_of c.max.result known w.sum_is);
    }
