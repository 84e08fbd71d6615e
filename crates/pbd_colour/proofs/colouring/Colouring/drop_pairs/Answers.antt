use Rattle.std.proofs.Common.{◌∙◌, ◌<◌, sym, ap, subst, refl, Bool, List, get_or, length, arith}
use Rattle.pbd_world.specs.Lending.{overwritten}
use Rattle.pbd_world.specs.Colours.{live_at}
use Rattle.pbd_colour.specs.Pairs.{Coloured, dropped}
use Rattle.pbd_colour.specs.Swept.{ArePainted}
use Rattle.pbd_colour.proofs.KeptLemmas.{live_below, written, InRange-as, ArePainted-as, Holds-as, IsColoured-read, IsWritten, painted_within}
use Rattle.pbd_colour.proofs.colouring.Colouring.drop_pairs.Goals.{After-take_out, After-mend}
use Rattle.pbd_colour.proofs.colouring.Colouring.drop_pairs.Goals as goal

-- what the loans leave
live_written : (c : After-take_out) → IsWritten c.self.inside.live.entries c.take_out.new.live (length c.self.inside.pairs.entries)
live_written c = written c.take_out.new.live c.take_out.auto.live c.as_mut_slice.ensures.value c.self.invariant.live_length

colours_written : (c : After-mend) → IsWritten c.self.inside.colours.entries c.mend.new.colours (length c.self.inside.pairs.entries)
colours_written c = written c.mend.new.colours c.mend.auto.colours c.as_mut_slice-2.ensures.value c.self.invariant.colours_length

painted : (c : After-mend) → ArePainted c.self.inside.pairs.entries (overwritten c.self.inside.live.entries c.take_out.new.live)
    (overwritten c.self.inside.colours.entries c.mend.new.colours)
painted c = ArePainted-as c.as_slice-2.ensures c.as_slice-3.ensures (sym (colours_written c).is) c.mend.ensures.painted

pub take_out-requires : goal.take_out-requires
take_out-requires c =
    let i = c.self.invariant in
    let pairs = sym c.as_slice.ensures in
    let live = sym c.as_mut_slice.ensures.value in
    record {
      pairs = InRange-as (sym i.held.count) pairs i.in_range;
      length = ap length (sym live) ∙ i.live_length ∙ ap length pairs;
      few = omega (arith, ap length c.as_slice.ensures, i.within, i.few);
      held = Holds-as live (sym i.held.count) (sym i.held.items) pairs i.held;
      in_range = λ k l. let n = get_or c.args.sorted.now k 0 in subst (λ (bs : List Bool). n < length bs) live
          (live_below c.self.inside.live.entries n (ap (λ (s : Coloured). live_at s.live n) c.self.view_is ∙ c.requires.live k l));
    }

pub mend-requires : goal.mend-requires
mend-requires c =
    let i = c.self.invariant in
    let held = c.take_out.ensures.held in
    let kept = live_written (goal.at.mend-requires c).After-take_out in
    let live = sym (c.as_slice-3.ensures ∙ kept.is) in
    let count = ap length c.as_slice-2.ensures in
    record {
      held = record {
        few = omega (arith, count, i.within, i.few);
        in_range = InRange-as (sym (held.count ∙ i.held.count)) (sym c.as_slice-2.ensures) i.in_range;
        flags = ap length c.as_slice-3.ensures ∙ kept.long ∙ sym count;
        held = Holds-as live (sym held.count) (sym held.items) (c.as_slice.ensures ∙ sym c.as_slice-2.ensures) held;
      };
      in_range = λ k l. omega (
        arith,
        live_below c.self.inside.live.entries (get_or c.args.sorted.now k 0)
            (ap (λ (s : Coloured). live_at s.live (get_or c.args.sorted.now k 0)) c.self.view_is ∙ c.requires.live k l),
        i.live_length,
        count,
      );
      colours = ap length c.as_mut_slice-2.ensures.value ∙ i.colours_length ∙ sym count;
      marks = i.marks_length ∙ sym count;
      before = record {
        was = c.self.inside.live.entries;
        dropped_from = sym live ∙ c.take_out.ensures.live ∙ ap (dropped c.args.sorted.now) c.as_mut_slice.ensures.value;
        painted = ArePainted-as (sym c.as_slice-2.ensures) refl (sym c.as_mut_slice-2.ensures.value) i.coloured.painted;
      };
    }

pub gather-requires : goal.gather-requires
gather-requires c =
    let i = c.self.invariant in
    let at = goal.at.gather-requires c in
    let flags = (live_written at.After-take_out).long in
    rw (c.as_slice-4.ensures, c.as_slice-5.ensures) (record {
      colours = (colours_written at.After-mend).long ∙ sym flags;
      within = painted_within c.self.inside.pairs.entries _ _ (painted at.After-mend) flags;
      few = omega (arith, flags, i.within, i.few);
      numbers = omega (arith, flags, i.within, i.order_room);
      starts = ap length c.as_mut_slice-3.ensures.value ∙ i.starts_length;
    })

pub invariant_of-self : goal.invariant_of-self
invariant_of-self c =
    let i = c.self.invariant in
    let at = goal.at.invariant_of-self c in
    let flags = live_written at.After-take_out in
    let starts = written c.gather.new.starts c.gather.auto.starts c.as_mut_slice-3.ensures.value i.starts_length in
    record {
      few = i.few;
      within = i.within;
      pairs_room = i.pairs_room;
      live_room = i.live_room;
      marks_room = c.mend.ensures.sized.room ∙ i.marks_room;
      colours_room = i.colours_room;
      order_room = c.gather.ensures.room ∙ i.order_room;
      live_length = flags.long;
      marks_length = c.mend.ensures.sized.count ∙ i.marks_length;
      unmarked = c.mend.ensures.unmarked;
      colours_length = (colours_written at.After-mend).long;
      used_length = i.used_length;
      toward_length = i.toward_length;
      starts_length = starts.long;
      in_range = i.in_range;
      coloured = IsColoured-read c.as_slice-4.ensures c.as_slice-5.ensures starts.is flags.long (painted at.After-mend)
          c.gather.ensures.entries c.gather.ensures.starts;
      told = i.told;
      held = Holds-as (sym flags.is) i.held.count i.held.items c.as_slice.ensures c.take_out.ensures.held;
    }

pub returns : goal.returns
returns c =
    let live = (live_written (goal.at.returns c).After-take_out).is ∙ c.take_out.ensures.live
    ∙ ap (dropped c.args.sorted.now) c.as_mut_slice.ensures.value in
    let colouring : List Bool → Coloured = λ bs. record {
      particles = c.self.inside.particles;
      room = c.self.inside.room;
      pairs = c.self.inside.pairs.entries;
      live = bs;
    } in
    ap colouring live ∙ ap (λ (s : Coloured). record s { live = dropped c.args.sorted.now s.live }) c.self.view_is
