-- What a code of an item or nothing tells.
use Rattle.std.specs.Prelude.{ℕ, zero, suc, Option, Some, None}

-- nothing where it is 0, and else the number before it
abbrev pub told : ℕ → Option ℕ
told zero = None
told (suc n) = Some n
