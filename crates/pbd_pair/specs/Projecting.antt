-- Batches of bonds.
use Rattle.std.specs.Prelude.{◌≡◌, ℕ, ◌+◌, ◌*◌, ◌^◌, ◌<◌, ◌≤◌, ℤ, List, length, slice_index_or, Result, Ok, Err, MatchResult}
use Rattle.pbd_world.specs.declared.bond.Bond.{Bond}
use Rattle.pbd_world.specs.declared.totals.Totals.{Totals}
use Rattle.pbd_world.specs.declared.command.Left.{Left}
use Rattle.pbd_world.specs.Ledger.{ledger_of, HaveRoom}
use Rattle.pbd_world.specs.Particles.{Motion}
use Rattle.pbd_world.specs.Bonds.{projected}
use Rattle.pbd_store.specs.Stored.{Stored}
use Rattle.pbd_store.specs.Moving.{motion_of, AreInside, Weigh}
use Rattle.pbd_pair.specs.declared.bonds.Bonds.{Bonds}
use Rattle.pbd_pair.specs.Bonds.{bond_of, bond_count, IsBond, IsBound}

-- two bonds without a common particle
pub record ShareNone (b c : Bond) : Type 0 where
  pub aa : b.a ≡ c.a → ⊥
  pub ab : b.a ≡ c.b → ⊥
  pub ba : b.b ≡ c.a → ⊥
  pub bb : b.b ≡ c.b → ⊥

-- no two bonds of a batch have a common particle
pub record AreApart (bond : ℕ → Bond) (batch : List ℕ) : Type 0 where
  pub each : (i j : ℕ) → i < j → j < length batch → ShareNone (bond (slice_index_or batch i 0)) (bond (slice_index_or batch j 0))

-- the numbers of a batch name bonds of n particles, no two with a common particle
pub record IsBatch (limit : ℤ) (n : ℕ) (bonds : Bonds) (batch : List ℕ) : Type 0 where
  pub numbers : (i : ℕ) → i < length batch → slice_index_or batch i 0 < bond_count bonds
  pub bond : (i : ℕ) → i < length batch → IsBond limit n (bond_of bonds (slice_index_or batch i 0))
  pub apart : AreApart (bond_of bonds) batch

-- 1 to l bonds can be projected together: no two have a common particle, the store's places and weights are in range, and the ledger
-- has room
pub record CanProject (l : ℕ) (bonds : Bonds) (block : List ℕ) (s : Stored) (t : Totals) : Type 0 where
  pub bound : IsBound s.limit
  pub short : length block ≤ l
  pub some : 0 < length block
  pub batch : IsBatch s.limit (length s.particles) bonds block
  pub inside : AreInside s.limit s.particles
  pub weights : Weigh s.particles
  pub room : HaveRoom (2 ^ 124) (ledger_of t)

-- what the bonds of a chunk come to one by one
abbrev pub projected_block : Bonds → List ℕ → Stored → Totals → Result Motion ℕ
projected_block bonds block s t = projected s.limit (bond_of bonds) block (motion_of s t)

-- the bonds of a chunk have moved and were booked as one by one, or the one that is named leaves the limit so
abbrev pub ComesTo : {T : Type 0} → Bonds → List ℕ → Stored → Stored → Totals → Totals → Result T Left → Type 0
ComesTo bonds block old new t u result = MatchResult result
    (λ _. projected_block bonds block old t ≡ Ok (motion_of new u))
    (λ left. projected_block bonds block old t ≡ Err left.element)

-- n bonds keep the places within the limit, and add little to the ledger
pub record StaysSound (n : ℕ) (old new : Stored) (t u : Totals) : Type 0 where
  pub inside : AreInside old.limit new.particles
  pub room : (k : ℕ) → HaveRoom k (ledger_of t) → HaveRoom (k + n * 2 ^ 32) (ledger_of u)
