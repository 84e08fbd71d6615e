-- What a call opens a count of its own with.
use Rattle.std.specs.Prelude.{◌≡◌, ◌<◌, ℕ}
use Rattle.std.specs.declared.sync.ledger.Blank.{Blank}

-- a blank for the ledger of this name and of so many parts, at least one, so that a count can be opened with it
pub record IsBlankOf (name parts : ℕ) (blank : Blank) : Type 0 where
  pub named : blank.name ≡ name
  pub cut : blank.parts ≡ parts
  pub some : 0 < blank.parts
