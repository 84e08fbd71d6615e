use Rattle.std.proofs.Common.{refl, arith}
use Rattle.pbd_step.proofs.open.with_room.Goals as goal

pub returns-in-Ok-clause-space : goal.returns-in-Ok-clause-space
returns-in-Ok-clause-space c = record {
  found = refl;
  touched = c.requires.touched;
  pairs = omega (arith, c.in-Ok.ensures.pairs);
  numbers = omega (arith, c.in-Ok.ensures.numbers);
  laid_links = c.in-Ok.ensures.laid_links;
  laid_contacts = c.in-Ok.ensures.laid_contacts;
}

pub returns-in-Ok-clause-unused : goal.returns-in-Ok-clause-unused
returns-in-Ok-clause-unused c = record { numbers = c.in-Ok.ensures.with_tear_length; unlaid = refl }
