use Rattle.std.proofs.Common.{◌≡◌, ℕ, ◌<◌, ◌≤◌, List, length, get_or, slice_set, replicate, ◌+◌, ◌*◌, ◌∙◌, sym, ap, arith, Bool, true}
use Rattle.std.proofs.Common.{false, ◌&&◌, nat_lt}
use Rattle.std.proofs.lemmas.Bool.{lt-ltb}
use Rattle.std.proofs.lemmas.List.{length-set, length-replicate, get_or-replicate}
use Rattle.std.proofs.lemmas.List.Edits.{fill_by_more}
use Rattle.std.proofs.lemmas.List.FromFn.{fill_by_all, get_or-map-range_with_len, length-map-range_with_len}
use Rattle.std.proofs.Math.Nat.{lt_of_lt_of_le}
use Rattle.pbd_lanes.specs.Lane.{is_set, lanes_of}

-- the first i of n lanes hold what `f` gives
pub record Filled {A : Type 0} (d : A) (n : ℕ) (f : ℕ → A) (i : ℕ) (xs : List A) : Type 0 where
  pub whole : length xs ≡ n
  pub below : (k : ℕ) → k < i → get_or xs k d ≡ f k

pub filled_all : {A : Type 0} {d : A} {n : ℕ} {f : ℕ → A} {xs : List A} (i : ℕ) → n ≤ i → Filled d n f i xs → xs ≡ lanes_of n f
filled_all {A} {d} {n} {f} {xs} i p h = fill_by_all f xs n d h.whole (λ k q. h.below k (lt_of_lt_of_le q p))

-- one lane more
pub filled_more : {A : Type 0} {d : A} {n : ℕ} {f : ℕ → A} {i : ℕ} {xs : List A} (v : A) → Filled d n f i xs → i < n → v ≡ f i
    → Filled d n f (i + 1) (slice_set xs i v)
filled_more {A} {d} {n} {f} {i} {xs} v h p e = record {
  whole = length-set xs i v ∙ h.whole;
  below = λ k q. rw e (fill_by_more f xs i d (omega (arith, h.whole)) h.below k q);
}

-- ---- lanes that all have a particle

pub all_filled : (n start len : ℕ) → start + n ≤ len → replicate n true ≡ lanes_of n (λ j. nat_lt (start + j) len)
all_filled n start len room = fill_by_all (λ j. nat_lt (start + j) len) (replicate n true) n false (length-replicate n true)
    (λ k p. get_or-replicate n k true false p ∙ sym (lt-ltb (start + k) len (omega arith)))

-- where some have none
pub own_of : (n start len : ℕ) (set filled own : List Bool) → filled ≡ lanes_of n (λ j. nat_lt (start + j) len)
    → own ≡ lanes_of n (λ j. is_set set j && is_set filled j) → own ≡ lanes_of n (λ j. is_set set j && nat_lt (start + j) len)
own_of n start len set filled own ef eo = fill_by_all (λ j. is_set set j && nat_lt (start + j) len) own n false
    (ap (λ (bs : List Bool). length bs) eo ∙ length-map-range_with_len (λ j. is_set set j && is_set filled j) 0 n)
    (λ k p. ap (λ (bs : List Bool). is_set bs k) eo ∙ get_or-map-range_with_len (λ j. is_set set j && is_set filled j) 0 n k k false p
    (omega arith)
    ∙ ap (λ (b : Bool). is_set set k && b) (ap (λ (bs : List Bool). is_set bs k) ef
    ∙ get_or-map-range_with_len (λ j. nat_lt (start + j) len) 0 n k k false p (omega arith)))

-- the same of a block
pub own_block : (n block start len : ℕ) (set filled own : List Bool) → start ≡ block * n → filled ≡ lanes_of n (λ j. nat_lt (block * n + j) len)
    → own ≡ lanes_of n (λ j. is_set set j && is_set filled j) → own ≡ lanes_of n (λ j. is_set set j && nat_lt (start + j) len)
own_block n block start len set filled own es ef eo =
    own_of n start len set filled own (ef ∙ (λ t. lanes_of n (λ j. nat_lt (sym es t + j) len))) eo
