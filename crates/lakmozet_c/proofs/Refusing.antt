-- A reply with another number than 0 is a refusal.
use Rattle.std.proofs.Common.{◌≡◌, refl}
use Rattle.std.specs.Prelude.{IsTrue}
use Rattle.pbd_world.specs.declared.command.Reply.{Reply}
use Rattle.pbd_world.specs.declared.command.Reply.TheVariants.{Done, Frame, Ledger, Refused}
use Rattle.pbd_world.specs.Session.{is_refused}
use Rattle.pbd_log.specs.Entries.{answer_of}

pub refused : (r : Reply) → ((answer_of r).number ≡ 0 → ⊥) → IsTrue (is_refused r)
refused Done other = absurd (other refl)
refused Frame other = absurd (other refl)
refused Ledger other = absurd (other refl)
refused (Refused why) other = refl
