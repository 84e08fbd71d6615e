-- What commands and their replies cost, one after another.
use Rattle.std.proofs.Common.{◌≡◌, refl, ℕ, ◌+◌, ◌<◌, ◌≤◌, List, ◌∷◌, length, arith}
use Rattle.pbd_world.specs.declared.command.Command.{Command}
use Rattle.pbd_world.specs.declared.command.Reply.{Reply}
use Rattle.pbd_world.specs.declared.command.Reply.TheVariants.{Frame, Ledger}
use Rattle.pbd_world.specs.World.{World}
use Rattle.pbd_world.specs.Work.{command_work, reply_work, session_work}
use Rattle.pbd_session.proofs.Running.{Does}

-- a frame reads each particle, and so does a ledger
pub frame_reads : (v w : World) (r : Reply) → v ≡ w → r ≡ Frame → length v.particles ≡ reply_work w r
unfolding reply_work
frame_reads v w r same is = rw (same, is) refl

pub ledger_reads : (v w : World) (r : Reply) → v ≡ w → r ≡ Ledger → length v.particles ≡ reply_work w r
unfolding reply_work
ledger_reads v w r same is = rw (same, is) refl

-- once a command was done and answered, what is left and what was spent are at most what they were
pub paid_next : (width lanes : ℕ) {w v : World} {left : List Command} {c : Command} {cs : List Command} {r : Reply}
    {whole next new : ℕ} (mid : ℕ) → left ≡ c ∷ cs → Does w v c r
    → mid + session_work width lanes w left ≤ whole → next ≤ mid + command_work width lanes w c → new ≤ next + reply_work v r
    → new + session_work width lanes v cs ≤ whole
unfolding session_work
paid_next width lanes {w} {c} {cs} {whole} mid is does spent done printed =
    let before : mid + session_work width lanes w (c ∷ cs) ≤ whole = rw is at spent in
    let wrote = rw (does.world, does.reply) at printed in
    rw does.world (omega (arith, before, done, wrote))
