use Rattle.std.proofs.Common.{◌≡◌, drop}
use Rattle.pbd_world.specs.Valid.{are_valid_keys}
use Rattle.pbd_world.proofs.ValidLemmas.{rising}
use Rattle.pbd_world.proofs.single.are_valid_keys.Given as goal

-- the keys are valid where the rest rises from here
abbrev pub invariant-loop-key : goal.invariant-loop-key
invariant-loop-key l = are_valid_keys l.limit l.keys ≡ rising l.limit l.next (drop l.key-index l.keys)
