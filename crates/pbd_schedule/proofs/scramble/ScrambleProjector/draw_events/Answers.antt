use Rattle.std.proofs.Common.{◌≡◌, List, ◌*◌, ap, sym, ◌∙◌, arith, length}
use Rattle.std.proofs.lemmas.List.FromFn.{length-map-range_with_len}
use Rattle.pbd_world.specs.Room.{Roomed}
use Rattle.pbd_schedule.specs.declared.event.Event.{Event}
use Rattle.pbd_schedule.specs.declared.event.Event.TheVariants.{Read}
use Rattle.pbd_schedule.specs.Drawn.{Drawing, drawn, later, first_events}
use Rattle.pbd_schedule.proofs.scramble.ScrambleProjector.draw_events.Goals as goal

pub draw-requires-clause-reads : goal.draw-requires-clause-reads
draw-requires-clause-reads c =
    let reads = c.as_mut_slice.ensures.value ∙ ap (λ (l : Roomed Event). l.entries) c.list_reads.ensures in
    reads ∙ ap first_events (sym (ap (λ (l : List Event). length l) reads ∙ length-map-range_with_len Read 0 c.args.n))

pub draw-requires-clause-few : goal.draw-requires-clause-few
draw-requires-clause-few c =
    let reads = c.as_mut_slice.ensures.value ∙ ap (λ (l : Roomed Event). l.entries) c.list_reads.ensures in
    omega (arith, ap (λ (l : List Event). length l) reads, length-map-range_with_len Read 0 c.args.n, c.requires)

pub returns : goal.returns
returns c =
    let reads = c.as_mut_slice.ensures.value ∙ ap (λ (l : Roomed Event). l.entries) c.list_reads.ensures in
    let many : length c.as_mut_slice.result.now ≡ c.args.n = ap (λ (l : List Event). length l) reads
    ∙ length-map-range_with_len Read 0 c.args.n in
    let old = c.self.view_is in
    let words = ap (λ (d : Drawing). d.words) old in
    let handed = ap (λ (d : Drawing). d.handed) old in
    λ i. record {
      words = (c.draw.ensures.words ∙ (λ j. later (3 * many j) (words j))) i;
      events = (ap (λ (l : Roomed Event). l.entries) c.draw.ensures.events ∙ (λ j. drawn (words j) (many j))) i;
      handed = handed i;
    }
