use Rattle.std.proofs.Common.{◌∙◌, sym, refl}
use Rattle.pbd_obj.proofs.AddLemmas.{counts_begin, counts_end, counts_found, counts_next}
use Rattle.pbd_obj.proofs.links.first_overfull.Goals as goal

pub loop-link-init : goal.loop-link-init
loop-link-init c = counts_begin c.args.base c.args.vertices c.args.links.now c.in_ok-counts.counts.items c.in_ok-counts.ensures

pub returns-in-Some-clause-first : goal.returns-in-Some-clause-first
returns-in-Some-clause-first c =
    let found = rw c.as_slice.ensures.value at (sym c.in-Some.is ∙ c.counted_end.ensures) in
    counts_found c.args.base c.args.vertices c.args.links.now c.loop-link.link-index c.loop-link.counts.items _ _ c.in-Some.end
    c.loop-link.invariant c.loop-link-test.true refl (c.requires c.loop-link.link-index _ c.loop-link-test.true) found

pub loop-link-preserved : goal.loop-link-preserved
loop-link-preserved c =
    let free = rw c.as_slice.ensures.value at (sym c.in_default.is ∙ c.counted_end.ensures) in
    counts_next c.args.base c.args.vertices c.args.links.now c.loop-link.link-index c.loop-link.counts.items c.count.new.counts.items _ _
    c.loop-link.invariant c.loop-link-test.true refl (c.requires c.loop-link.link-index _ c.loop-link-test.true) free c.count.ensures

pub returns-clause-first : goal.returns-clause-first
returns-clause-first c = counts_end c.args.base c.args.vertices c.args.links.now c.loop-link.link-index c.loop-link.counts.items
    c.loop-link.invariant c.loop-link-test.false
