use Rattle.std.proofs.Common.{◌≡◌, ap, refl, true, length, arith, Some}
use Rattle.std.specs.Prelude.{nat_lt}
use Rattle.std.proofs.lemmas.Bool.Decides.{nat_tests}
use Rattle.pbd_cloth.specs.Slots.{Slotted}
use Rattle.lakmozet_c.proofs.slots.restore.Goals as goal

pub returns-then-slot-slots : goal.returns-then-slot-slots
returns-then-slot-slots c =
    let there : nat_lt c.args.slot (length c.args.cloth.now.slots) ≡ true = grind (arith, nat_tests) in
    record {
      held = rw there (ap (λ (x : Slotted). Some x) c.restore.ensures.cloth);
      answer = rw there refl;
      sound = c.restore.ensures.sound;
    }
