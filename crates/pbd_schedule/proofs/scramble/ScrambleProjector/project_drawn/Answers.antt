use Rattle.std.proofs.Common.{◌≡◌, ℕ, ◌<◌, List, ap, sym, ◌∙◌, arith, length, subst}
use Rattle.pbd_store.specs.Moving.{motion_of}
use Rattle.pbd_pair.specs.Bonds.{bond_of}
use Rattle.pbd_schedule.specs.declared.event.Event.{Event}
use Rattle.pbd_schedule.specs.Legal.{IsLegal}
use Rattle.pbd_schedule.specs.Drawn.{Drawing}
use Rattle.pbd_schedule.proofs.DrawingOn.{length-drawn}
use Rattle.pbd_schedule.proofs.DrawnLegal.{drawn_legal}
use Rattle.pbd_schedule.proofs.Interleaving.{not_bad}
use Rattle.pbd_schedule.proofs.scramble.ScrambleProjector.project_drawn.Goals as goal

pub run_events-requires : goal.run_events-requires
run_events-requires g c =
    let events = c.as_slice-events.ensures ∙ ap (λ (d : Drawing). d.events) (c.self-2.view_is ∙ c.draw_events.ensures) in
    let few : length c.as_slice-events.result.now < 4294967296 =
    omega (
      arith,
      ap (λ (l : List Event). length l) events,
      length-drawn c.self.inside.words c.count_bonds.result,
      c.count_bonds.ensures.few,
    ) in
    (omega arith, (omega arith, (omega arith, (c.requires.batch, (c.requires.inside, (c.requires.weights, (c.requires.room, few)))))))

pub unreachable-requires : goal.unreachable-requires
unreachable-requires g c =
    let events = c.as_slice-events.ensures ∙ ap (λ (d : Drawing). d.events) (c.self-2.view_is ∙ c.draw_events.ensures) in
    let drawn_so = subst (IsLegal c.count_bonds.result) (sym events) (drawn_legal c.self.inside.words c.count_bonds.result) in
    let legal = subst (λ (n : ℕ). IsLegal n c.as_slice-events.result.now) c.count_bonds.ensures.value drawn_so in
    not_bad c.args.store.now.limit (bond_of c.args.bonds) c.args.batch.now c.as_slice-events.result.now
    (motion_of c.args.store.now c.args.totals.now) ((c.run_events.new.store ≡ c.args.store.now)
    × (c.run_events.new.totals ≡ c.args.totals.now)) c.in-Err-BadEvent.field-0 c.in-Err-BadEvent.field-0-0
    c.in-Err-BadEvent.ensures.outcome legal c.in-Err-BadEvent.field-0-is
