-- Lists of bonds that belong to the pairs of a colouring.
use Rattle.std.specs.Prelude.{◌≡◌, ℕ, ◌+◌, ◌-◌, ◌<◌, ◌≤◌, ℤ, Bool, List, [], ◌∷◌, if◌then◌else◌, nat_lt, length, slice_index}
use Rattle.std.specs.Prelude.{MatchResult, OnOk, Result, Ok, Err}
use Rattle.pbd_world.specs.declared.parts.Particle.{Particle}
use Rattle.pbd_world.specs.declared.totals.Totals.{Totals}
use Rattle.pbd_world.specs.declared.command.Left.{Left}
use Rattle.pbd_world.specs.Ledger.{Ledger, ledger_of, HaveRoom}
use Rattle.pbd_world.specs.Bonds.{projected}
use Rattle.pbd_world.specs.Colours.{pair_at, order}
use Rattle.pbd_store.specs.Stored.{Stored}
use Rattle.pbd_store.specs.Moving.{motion_of, fixed_parts, AreInside, Weigh}
use Rattle.pbd_colour.specs.Pairs.{batch_of}
use Rattle.pbd_pair.specs.declared.bonds.Bonds.{Bonds}
use Rattle.pbd_pair.specs.declared.laid.Laid.{Laid}
use Rattle.pbd_pair.specs.Laid.{AreOfBatch}
use Rattle.pbd_pair.specs.Bonds.{bond_of, bond_count, IsBond}

-- bond k joins the particles of pair k, and is one of n particles in the ranges of the limit
pub record AreBondsOf (limit : ℤ) (n : ℕ) (bonds : Bonds) (pairs : List (ℕ × ℕ)) : Type 0 where
  pub count : bond_count bonds ≡ length pairs
  pub first : (k : ℕ) → k < length pairs → (bond_of bonds k).a ≡ (pair_at pairs k).0
  pub second : (k : ℕ) → k < length pairs → (bond_of bonds k).b ≡ (pair_at pairs k).1
  pub bond : (k : ℕ) → k < length pairs → IsBond limit n (bond_of bonds k)

-- the k-th of the batches in which live pairs are projected: colour k where k is below 63, and behind these each serial pair alone
unfoldable pub nth_batch : List (ℕ × ℕ) → List Bool → ℕ → List ℕ
nth_batch pairs live k = if nat_lt k 63 then batch_of pairs live k else slice_index (batch_of pairs live 63) (k - 63) ∷ []

-- particles within the limit and with weights in their range, and totals that have grown no further than to `bound`
pub record AreMovable (bound : ℕ) (limit : ℤ) (ps : List Particle) (totals : Ledger) : Type 0 where
  pub inside : AreInside limit ps
  pub weights : Weigh ps
  pub room : HaveRoom bound totals

-- the bonds of all pairs of a colouring can be projected one after another: each pair has its bond, there are at most 2^19 of
-- them, the live ones are laid in columns in their order, the particles of the store can be moved, and the totals have grown no
-- further than to `bound`
pub record CanProjectAll (bound : ℕ) (bonds : Bonds) (laid : Laid) (pairs : List (ℕ × ℕ)) (live : List Bool) (s : Stored)
    (t : Totals) : Type 0 where
  pub fit : AreBondsOf s.limit (length s.particles) bonds pairs
  pub few : length pairs ≤ 524288
  pub rows : AreOfBatch (bond_of bonds) (order pairs live) s.particles laid
  pub movable : AreMovable bound s.limit s.particles (ledger_of t)

-- the bonds of some numbers were projected one after another, or the first that would leave the limit is told: of the particles
-- the places alone were changed, and where none would leave, the totals have grown by no more than `grown`
pub record AreProjected (r : Result (Unit {0}) Left) (bonds : Bonds) (numbers : List ℕ) (grown : ℕ)
    (s new : Stored) (t u : Totals) : Type 0 where
  pub outcome : MatchResult r
      (λ _. projected s.limit (bond_of bonds) numbers (motion_of s t) ≡ Ok (motion_of new u))
      (λ left. projected s.limit (bond_of bonds) numbers (motion_of s t) ≡ Err left.element)
  pub limit : new.limit ≡ s.limit
  pub copies : new.copies ≡ s.copies
  pub fixed : fixed_parts new.particles ≡ fixed_parts s.particles
  pub inside : OnOk r (AreInside s.limit new.particles)
  pub room : OnOk r ((n : ℕ) → HaveRoom n (ledger_of t) → HaveRoom (n + grown) (ledger_of u))
