-- What the printing code's named sums stand for.
use Rattle.std.specs.Prelude.{◌≤◌, length}
use Rattle.pbd_world.specs.Ledger.{sum_of}
use Rattle.pbd_session.specs.Printing.{NamedSum}
use Rattle.pbd_session.specs.declared.printing.NamedTotal.{NamedTotal}

abbrev pub named_of : NamedTotal → NamedSum
named_of s = record { name = s.name.now; sum = sum_of s.sum }

-- its name has at most 8 bytes, as those of the ledger have
abbrev pub IsShort : NamedTotal → Type 0
IsShort s = length s.name.now ≤ 8
