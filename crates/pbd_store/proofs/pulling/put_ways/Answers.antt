use Rattle.std.proofs.Common.{ℕ, arith, sym, ◌∙◌, subst, inl, inr, slice_set}
use Rattle.std.proofs.lemmas.List.{get_or-set_same, get_or-set_other, length-set}
use Rattle.pbd_num.specs.declared.row.Row.{Row}
use Rattle.pbd_num.specs.Rows.{no_row}
use Rattle.pbd_num.specs.Vectors.{minus}
use Rattle.pbd_store.specs.Gathering.{index_at}
use Rattle.pbd_store.specs.InRows.{place_in_row, places_in}
use Rattle.pbd_store.specs.Listed.{place_at}
use Rattle.pbd_store.specs.Pairs.{IsWay, row_in}
use Rattle.pbd_store.proofs.pulling.put_ways.Goals as goal
use Rattle.pbd_num.proofs.Below.{split_below}

pub loop-j-preserved : goal.loop-j-preserved
loop-j-preserved c =
    let j = c.loop-j.j in
    let way : IsWay c.way_from.result (place_at (places_in c.args.rows.now) (index_at c.args.pairs.first.now j))
    (place_at (places_in c.args.rows.now) (index_at c.args.pairs.second.now j)) = (
      c.way_from.ensures.0 ∙ (λ t. minus (place_in_row (c.row_in-to.ensures t)) (place_in_row (c.row_in-from.ensures t))),
      c.way_from.ensures.1,
    ) in
    record {
      whole = length-set c.loop-j.ways j c.way_from.result ∙ c.loop-j.invariant.whole;
      ways = λ k lt. elim (split_below k j lt) [
        | inl p ↦ subst (λ (r : Row). IsWay r (place_at (places_in c.args.rows.now) (index_at c.args.pairs.first.now k))
            (place_at (places_in c.args.rows.now) (index_at c.args.pairs.second.now k)))
            (sym (get_or-set_other c.loop-j.ways j k c.way_from.result no_row (λ e. absurd (omega arith)))) (c.loop-j.invariant.ways k p)
        | inr e ↦ subst (λ (m : ℕ). IsWay (row_in (slice_set c.loop-j.ways j c.way_from.result) m)
            (place_at (places_in c.args.rows.now) (index_at c.args.pairs.first.now m))
            (place_at (places_in c.args.rows.now) (index_at c.args.pairs.second.now m))) (sym e)
            (subst (λ (r : Row). IsWay r (place_at (places_in c.args.rows.now) (index_at c.args.pairs.first.now j))
            (place_at (places_in c.args.rows.now) (index_at c.args.pairs.second.now j)))
            (sym (get_or-set_same c.loop-j.ways j c.way_from.result no_row (omega (arith, c.loop-j.invariant.whole, c.told-ways, c.requires.pairs.few)))) way)
      ];
    }
