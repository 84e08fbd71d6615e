-- What a hasher takes up.
use Rattle.std.specs.Prelude.{ℕ, List, ◌++◌}
use Rattle.sha2.specs.Hashers.{Holds256}
use Rattle.sha2.specs.declared.Sha256.{Sha256}

-- a hasher took up these bytes behind all that it had
abbrev pub Fed : Sha256 → Sha256 → List ℕ → Type 0
Fed before after bytes = (done : List ℕ) → Holds256 before done → Holds256 after (done ++ bytes)
