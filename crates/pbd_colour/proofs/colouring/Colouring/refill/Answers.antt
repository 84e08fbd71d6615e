use Rattle.std.proofs.Common.{◌≡◌, ◌∙◌, ◌/◌, ◌&&◌, eqb, sym, ap, subst, true, false, Bool, ℕ, List, length, arith}
use Rattle.std.proofs.lemmas.List.{length-replicate}
use Rattle.pbd_world.specs.Room.{Roomed}
use Rattle.pbd_world.specs.Lending.{overwritten}
use Rattle.pbd_world.specs.Colours.{live_at}
use Rattle.pbd_colour.specs.Held.{end_at}
use Rattle.pbd_colour.specs.Pairs.{Coloured}
use Rattle.pbd_colour.specs.Toward.{AreTold}
use Rattle.pbd_colour.proofs.KeptLemmas.{written, InRange-as, ArePainted-as, IsColoured-read, painted_within}
use Rattle.pbd_colour.proofs.Marking.{before_live, all_unmarked}
use Rattle.pbd_colour.proofs.colouring.Colouring.refill.Goals as goal

pub fill-requires-2 : goal.fill-requires-2
fill-requires-2 c = omega (arith, c.requires.fits, ap (λ (s : Coloured). s.room) c.self.view_is, c.self.invariant.colours_room)

pub refill-requires : goal.refill-requires
refill-requires c = omega (arith, c.requires.fits, ap (λ (s : Coloured). s.room) c.self.view_is, c.self.invariant.marks_room)

pub paint-requires : goal.paint-requires
paint-requires c =
    let pairs : c.as_slice-2.result.now ≡ c.args.pairs.now = c.as_slice-2.ensures
    ∙ ap (λ (r : Roomed (ℕ × ℕ)). r.entries) c.copy_all.ensures in
    let used = ap length c.as_mut_slice-3.ensures.value ∙ c.self.invariant.used_length ∙ ap (λ (s : Coloured). s.particles) c.self.view_is in
    record {
      pairs = InRange-as (sym used) (sym pairs) c.requires.in_range;
      live = ap length (c.as_slice-3.ensures ∙ ap (λ (r : Roomed Bool). r.entries) c.fill.ensures)
          ∙ length-replicate (length c.args.pairs.now) true ∙ sym (ap length pairs);
      colours = ap length (c.as_mut_slice-4.ensures.value ∙ ap (λ (r : Roomed ℕ). r.entries) c.fill-2.ensures)
          ∙ length-replicate (length c.args.pairs.now) 0 ∙ sym (ap length pairs);
    }

pub gather-requires : goal.gather-requires
gather-requires c =
    let count : length c.copy_all.new.list.entries ≡ length c.args.pairs.now =
    ap (λ (r : Roomed (ℕ × ℕ)). length r.entries) c.copy_all.ensures in
    let flags : length c.fill.new.self.entries ≡ length c.copy_all.new.list.entries = ap (λ (r : Roomed Bool). length r.entries) c.fill.ensures
    ∙ length-replicate (length c.args.pairs.now) true ∙ sym count in
    let colours = written c.paint.new.colours c.paint.auto.colours c.as_mut_slice-4.ensures.value
    (ap (λ (r : Roomed ℕ). length r.entries) c.fill-2.ensures ∙ length-replicate (length c.args.pairs.now) 0) in
    let painted = ArePainted-as c.as_slice-2.ensures c.as_slice-3.ensures (sym colours.is) (λ i l a. c.paint.ensures i l) in
    let room = ap (λ (s : Coloured). s.room) c.self.view_is in
    rw (c.as_slice-4.ensures, c.as_slice-5.ensures) (record {
      colours = colours.long ∙ sym (flags ∙ count);
      within = painted_within c.copy_all.new.list.entries c.fill.new.self.entries _ painted flags;
      few = omega (arith, flags, count, c.requires.fits, room, c.self.invariant.few);
      numbers = omega (arith, flags, count, c.requires.fits, room, c.self.invariant.order_room);
      starts = ap length c.as_mut_slice-5.ensures.value ∙ c.self.invariant.starts_length;
    })

pub invariant_of-self : goal.invariant_of-self
invariant_of-self c =
    let pairs : c.copy_all.new.list.entries ≡ c.args.pairs.now = ap (λ (r : Roomed (ℕ × ℕ)). r.entries) c.copy_all.ensures in
    let live = ap (λ (r : Roomed Bool). r.entries) c.fill.ensures in
    let marks = ap (λ (r : Roomed Bool). r.entries) c.refill.ensures in
    let flags = ap length live ∙ length-replicate (length c.args.pairs.now) true ∙ sym (ap length pairs) in
    let colours = written c.paint.new.colours c.paint.auto.colours c.as_mut_slice-4.ensures.value
    (ap (λ (r : Roomed ℕ). length r.entries) c.fill-2.ensures ∙ length-replicate (length c.args.pairs.now) 0) in
    let used = written c.paint.new.used c.paint.auto.used c.as_mut_slice-3.ensures.value c.self.invariant.used_length in
    let sets = written c.tell_all.new.sets c.tell_all.auto.sets c.as_mut_slice-2.ensures.value c.self.invariant.toward_length in
    let starts = written c.gather.new.starts c.gather.auto.starts c.as_mut_slice-5.ensures.value c.self.invariant.starts_length in
    record {
      few = c.self.invariant.few;
      within = omega (arith, ap length pairs, c.requires.fits, ap (λ (s : Coloured). s.room) c.self.view_is);
      pairs_room = ap (λ (r : Roomed (ℕ × ℕ)). r.room) c.copy_all.ensures ∙ c.self.invariant.pairs_room;
      live_room = ap (λ (r : Roomed Bool). r.room) c.fill.ensures ∙ c.self.invariant.live_room;
      marks_room = ap (λ (r : Roomed Bool). r.room) c.refill.ensures ∙ c.self.invariant.marks_room;
      colours_room = ap (λ (r : Roomed ℕ). r.room) c.fill-2.ensures ∙ c.self.invariant.colours_room;
      order_room = c.gather.ensures.room ∙ c.self.invariant.order_room;
      live_length = flags;
      marks_length = ap length marks ∙ length-replicate (length c.args.pairs.now) false ∙ sym (ap length pairs);
      unmarked = all_unmarked (length c.args.pairs.now) c.refill.new.self.entries marks;
      colours_length = colours.long ∙ sym (ap length pairs);
      used_length = used.long;
      toward_length = sets.long;
      starts_length = starts.long;
      in_range = InRange-as (sym (ap (λ (s : Coloured). s.particles) c.self.view_is)) (sym pairs) c.requires.in_range;
      coloured = IsColoured-read c.as_slice-4.ensures c.as_slice-5.ensures starts.is flags
          (ArePainted-as c.as_slice-2.ensures c.as_slice-3.ensures (sym colours.is) (λ i l a. c.paint.ensures i l))
          c.gather.ensures.entries c.gather.ensures.starts;
      told = subst (λ (ps : List (ℕ × ℕ)). AreTold ps (overwritten c.self.inside.toward.entries c.tell_all.new.sets)) (sym pairs)
          (subst (AreTold c.args.pairs.now) (sym sets.is) c.tell_all.ensures);
      held = record {
        items = c.hold_instead.ensures.items ∙ c.self.invariant.held.items;
        count = c.hold_instead.ensures.count ∙ c.self.invariant.held.count;
        holds = λ p x l. c.hold_instead.ensures.holds p x (omega (arith, l, c.self.invariant.held.count))
            ∙ ap (λ (b : Bool). b && eqb (end_at c.args.pairs.now x) p)
            (before_live (length c.args.pairs.now) (x / 2) c.fill.new.self.entries live)
            ∙ ap (λ (ps : List (ℕ × ℕ)). live_at c.fill.new.self.entries (x / 2) && eqb (end_at ps x) p) (sym pairs);
      };
    }
