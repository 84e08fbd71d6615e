-- Chains of pairs: the pairs of each particle, with two items for each pair.
use Rattle.std.specs.Prelude.{◌≡◌, ℕ, ◌/◌, ◌%◌, ◌<◌, ◌≤◌, nat_lt, ◌==◌, ◌&&◌, Bool, cond, List, length}
use Rattle.pbd_chain.specs.Linked.{Linked, is_in, chain_at}
use Rattle.pbd_world.specs.Colours.{pair_at, live_at}
use Rattle.pbd_colour.specs.Pairs.{InRange}

-- item 2k is the first end of pair k, and item 2k + 1 the second: the particle at that end
abbrev pub end_at : List (ℕ × ℕ) → ℕ → ℕ
end_at pairs x = cond (x % 2 == 0) (pair_at pairs (x / 2)).0 (pair_at pairs (x / 2)).1

-- the particle at the other end of the pair
abbrev pub far_at : List (ℕ × ℕ) → ℕ → ℕ
far_at pairs x = cond (x % 2 == 0) (pair_at pairs (x / 2)).1 (pair_at pairs (x / 2)).0

-- the pairs before pair n
abbrev pub before : ℕ → ℕ → Bool
before n k = nat_lt k n

-- the chain of each particle has the ends there of the pairs that pass the test, and nothing else
pub record Holds (test : ℕ → Bool) (particles room : ℕ) (pairs : List (ℕ × ℕ)) (chains : Linked) : Type 0 where
  pub items : chains.items ≡ room
  pub count : length chains.chains ≡ particles
  pub holds : (p x : ℕ) → p < particles → is_in x (chain_at chains.chains p) ≡ (test (x / 2) && (end_at pairs x == p))

-- pairs with a flag each, and the chains of the ends of those that are live
pub record AreHeld (pairs : List (ℕ × ℕ)) (live : List Bool) (chains : Linked) : Type 0 where
  pub few : length pairs ≤ 524288
  pub in_range : InRange (length chains.chains) pairs
  pub flags : length live ≡ length pairs
  pub held : Holds (live_at live) (length chains.chains) chains.items pairs chains

-- two lists of flags are the same from `start` up to `end`, which is at most the length of the first
abbrev pub AgreeTo : List Bool → List Bool → ℕ → ℕ → Type 0
AgreeTo flags others start end =
    start ≤ end × end ≤ length flags × ((k : ℕ) → start ≤ k → k < end → live_at flags k ≡ live_at others k)
