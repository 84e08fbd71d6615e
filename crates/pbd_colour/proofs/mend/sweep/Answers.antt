use Rattle.std.proofs.Common.{◌≡◌, ◌∙◌, Bool, false, subst, ap, length, arith}
use Rattle.std.proofs.lemmas.List.{length-set}
use Rattle.pbd_world.specs.Room.{Roomed}
use Rattle.pbd_world.specs.Colours.{live_at}
use Rattle.pbd_colour.specs.Marked.{AreUnmarked}
use Rattle.pbd_colour.proofs.Marking.{IsSweeping-begun, IsSweeping-on, unmarked_all, as_many, as_many_then, as_many_with, as_many_as}
use Rattle.pbd_colour.proofs.Sweeping.{IsSwept-all}
use Rattle.pbd_colour.proofs.mend.sweep.Goals as goal

pub loop-i-init : goal.loop-i-init
loop-i-init c = record {
  sweeping = IsSweeping-begun c.args.held.pairs.now c.args.held.live.now c.args.colours.now c.args.marks.now.entries c.next-i.result
      c.requires.swept (omega (arith, c.next-i.ensures.below, c.requires.marks)) c.next-i.ensures.unmarked;
  sized = as_many;
}

pub loop-i-preserved : goal.loop-i-preserved
loop-i-preserved c =
    let inv = c.loop-i.invariant in
    let look = c.look_again.ensures in
    let next = c.next-i-in-loop-i.ensures in
    let met = c.look_again.new.marks in
    let less = ap (λ (r : Roomed Bool). r.entries) c.unmark.ensures in
    let size : length met.entries ≡ length c.args.held.pairs.now = look.sized.count ∙ inv.sized.count ∙ c.requires.marks in
    record {
      sweeping = IsSweeping-on c.args.held.pairs.now c.args.held.live.now inv.sweeping less (omega (arith, c.loop-i-test.true, size)) look.swept
          look.before next.above
          (omega (arith, next.below, ap length less, length-set met.entries c.loop-i.i false, size)) next.unmarked;
      sized = as_many_then (as_many_then inv.sized look.sized) (as_many_with c.loop-i.i false c.unmark.ensures);
    }

pub forget-requires : goal.forget-requires
forget-requires c =
    let marks = c.loop-i.marks.entries in
    let inv = c.loop-i.invariant in
    let last : c.loop-i.i ≡ length marks = omega (arith, inv.sized.count, c.requires.marks, inv.sweeping.within, c.loop-i-test.false) in
    unmarked_all marks (subst (AreUnmarked marks 0) last inv.sweeping.unmarked)

pub returns : goal.returns
returns c =
    let marks = c.loop-i.marks.entries in
    let inv = c.loop-i.invariant in
    let last : c.loop-i.i ≡ length marks = omega (arith, inv.sized.count, c.requires.marks, inv.sweeping.within, c.loop-i-test.false) in
    record {
      painted = IsSwept-all c.args.held.pairs.now c.args.held.live.now c.loop-i.colours marks c.loop-i.i inv.sweeping.swept c.loop-i-test.false;
      unmarked = λ k. ap (λ (r : Roomed Bool). live_at r.entries k) c.forget.ensures
          ∙ unmarked_all marks (subst (AreUnmarked marks 0) last inv.sweeping.unmarked) k;
      sized = as_many_as inv.sized c.forget.ensures;
    }
