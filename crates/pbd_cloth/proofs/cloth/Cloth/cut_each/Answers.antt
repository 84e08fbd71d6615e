use Rattle.std.proofs.Common.{◌≡◌, ◌∙◌, ap, ℕ, arith}
use Rattle.std.specs.Prelude.{if◌then◌else◌}
use Rattle.pbd_world.specs.declared.command.Reply.{Reply}
use Rattle.pbd_world.specs.Session.{is_refused}
use Rattle.pbd_cloth.proofs.Cutting.{cut_none, cut_next, cut_all}
use Rattle.pbd_cloth.proofs.cloth.Cloth.cut_each.Goals as goal

pub loop-i-init : goal.loop-i-init
loop-i-init c = cut_none c.args.links.now c.args.self.now

pub loop-i-preserved : goal.loop-i-preserved
loop-i-preserved c =
    let refused = c.refused-count.ensures ∙ ap {A = Reply} {B = ℕ} (λ r. if is_refused r then 1 else 0) c.apply-reply.ensures.reply in
    cut_next c.args.links.now c.loop-i.i 0 c.from.result c.loop-i.count c.refused-count.result c.args.self.now c.loop-i.self
    c.apply-reply.new.self
    (omega arith) c.loop-i.invariant c.from.ensures refused c.apply-reply.ensures.cloth

pub returns-clause-cloth : goal.returns-clause-cloth
returns-clause-cloth c = (cut_all c.args.links.now c.loop-i.i c.loop-i.count c.args.self.now c.loop-i.self
    (omega arith) c.loop-i.invariant).0

pub returns-clause-count : goal.returns-clause-count
returns-clause-count c = (cut_all c.args.links.now c.loop-i.i c.loop-i.count c.args.self.now c.loop-i.self
    (omega arith) c.loop-i.invariant).1
