-- Reading to the end, with a limit.
use Rattle.std.specs.Prelude.{◌≡◌, ◌≤◌, ◌+◌, ℕ, List, length, Option, Result, Ok, Err, Vec}
use Rattle.std.specs.Io.KnownBytes.{Consumes, IsAtEnd}
use Rattle.std.specs.declared.alloc.Global.{Global}
use Rattle.pbd_run.specs.declared.reading.ReadEnd.{ReadEnd}
use Rattle.pbd_run.specs.declared.reading.ReadEnd.TheVariants.{Failed, TooLong, OutOfMemory}

-- the end was reached, with these bytes
pub record ReachesEnd (limit : ℕ) (old new : Option (List ℕ)) (bytes : List ℕ) : Type 0 where
  pub consumed : Consumes old new bytes
  pub ended : IsAtEnd new
  pub short : length bytes ≤ limit

-- one byte past the limit came
abbrev pub Overruns : ℕ → Option (List ℕ) → Option (List ℕ) → Type 0
Overruns limit old new = (bytes : List ℕ) × Consumes old new bytes × (length bytes ≡ limit + 1)

abbrev pub ReadsAll : ℕ → Option (List ℕ) → Option (List ℕ) → Result (Vec ℕ Global) ReadEnd → Type 0
ReadsAll limit old new (Ok v) = ReachesEnd limit old new v.items
ReadsAll limit old new (Err TooLong) = Overruns limit old new
ReadsAll limit old new (Err Failed) = Unit {0}
ReadsAll limit old new (Err OutOfMemory) = Unit {0}
