use Rattle.std.proofs.Common.{◌≡◌, ◌^◌, ◌<◌, take}
use Rattle.pbd_script.specs.Lines.{value}
use Rattle.pbd_script.proofs.lines.value_of.Given as goal

-- the number that the digits so far write
abbrev pub invariant-loop-digit : goal.invariant-loop-digit
invariant-loop-digit l = record {
  value : l.n ≡ value (take l.digit-index l.digits);
  bound : l.n < 10 ^ l.digit-index;
}
