use Rattle.std.proofs.Common.{◌≡◌, ℕ, ◌+◌, ◌*◌, ◌-◌, ◌%◌, ◌<◌, suc, List, [], ◌++◌, ◌∷◌, ap, sym, ◌∙◌, arith, length, take, refl}
use Rattle.std.proofs.Math.Seq.{take-length}
use Rattle.std.proofs.Math.Nat.{mod-lt}
use Rattle.std.proofs.lemmas.List.{get_or-take, length-take, length-append}
use Rattle.rand_pcg.specs.Lcg.{Lcg}
use Rattle.rand_pcg.specs.Pcg.{pcg32}
use Rattle.pbd_world.specs.Room.{Roomed}
use Rattle.pbd_schedule.specs.declared.event.Event.{Event}
use Rattle.pbd_schedule.specs.declared.event.Event.TheVariants.{Read}
use Rattle.pbd_schedule.specs.Legal.{event_at}
use Rattle.pbd_schedule.specs.Drawn.{drawn_from, gone_on, drawn_place, later}
use Rattle.pbd_schedule.proofs.DrawingOn.{still_to_come, all_reads, gone_fewer, drawn_more, later_more, none_more, some_left}
use Rattle.pbd_schedule.proofs.draw.draw.Goals as goal

pub loop-init : goal.loop-init
loop-init c =
    let coming = c.args.coming.now in
    let m = length coming in
    let all = take-length coming ∙ c.requires.reads in
    let whole : 3 * m - 0 ≡ 3 * m = omega arith in
    let cleared = ap (λ (l : Roomed Event). l.entries) c.clear.ensures in
    record {
      size = refl;
      left = omega arith;
      to_come = omega (arith, ap still_to_come all, all_reads m);
      room = ap (λ (l : Roomed Event). l.room) c.clear.ensures ∙ c.requires.room;
      events = λ i. cleared i ++ drawn_from (whole i) c.args.words.now (all i);
      count = ap (λ (l : Roomed Event). length l.entries) c.clear.ensures;
      words = ap (λ (j : ℕ). later j c.args.words.now) whole;
    }

pub loop-preserved : goal.loop-preserved
loop-preserved c =
    let inv = c.loop.invariant in
    let m = length c.args.coming.now in
    let g = c.loop.words in
    let left = c.loop.left in
    let coming = take left c.loop.coming in
    let size : length coming ≡ left = omega (arith, length-take left c.loop.coming, inv.left) in
    let some = some_left coming (omega (arith, inv.to_come)) in
    let place = drawn_place g coming in
    let within : place < length coming = mod-lt (pcg32 g).0 some in
    let index : c.next_word.result % left ≡ place = (λ i. (c.next_word.ensures i).0 % sym size i) in
    let item = ap (λ (j : ℕ). event_at c.loop.coming j) index
    ∙ sym (get_or-take left c.loop.coming place (Read 0) (omega (arith, within, size))) in
    let gone = c.go_on-left.ensures.coming ∙ ap (gone_on coming) index in
    let words : c.next_word.new.self ≡ (pcg32 g).1 = ap (λ (p : ℕ × Lcg). p.1) c.next_word.ensures in
    let pushed = c.push.ensures.fits (omega (arith, inv.count, inv.room, c.requires.few)) in
    let entries = ap (λ (l : Roomed Event). l.entries) pushed in
    let more : 3 * m - c.loop.counter ≡ suc (3 * m - (c.loop.counter + 1)) = omega arith in
    let k = 3 * m - (c.loop.counter + 1) in
    record {
      size = c.go_on-left.ensures.size ∙ inv.size;
      left = omega (arith, c.go_on-left.ensures.fewer, c.go_on-left.ensures.size, inv.left);
      to_come = omega (arith, inv.to_come, gone_fewer coming place within, ap still_to_come gone);
      room = ap (λ (l : Roomed Event). l.room) pushed ∙ inv.room;
      events = ap (λ (h : Lcg). c.push.new.self.entries ++ drawn_from k h (take c.go_on-left.result c.go_on-left.new.coming)) words
          ∙ drawn_more c.loop.events.entries c.push.new.self.entries (3 * m - c.loop.counter) k g coming
          (take c.go_on-left.result c.go_on-left.new.coming) (event_at c.loop.coming (c.next_word.result % left)) more entries item gone
          ∙ inv.events;
      count = ap (λ (l : List Event). length l) entries ∙ length-append c.loop.events.entries
          (event_at c.loop.coming (c.next_word.result % left) ∷ []) ∙ omega (arith, inv.count);
      words = ap (later k) words ∙ later_more (3 * m - c.loop.counter) k g more ∙ inv.words;
    }

pub returns-clause-events : goal.returns-clause-events
returns-clause-events c =
    let inv = c.loop.invariant in
    let m = length c.args.coming.now in
    let same = none_more c.loop.events.entries (3 * m - c.loop.counter) c.loop.words c.args.words.now (take c.loop.left c.loop.coming) m
    (omega arith) inv.events in
    λ i. record { entries = same i; room = inv.room i }
