-- The world of a session that isn't the first.
use Rattle.std.proofs.Common.{◌≡◌, ◌∙◌, ap, refl, zero, suc, ℕ, ◌+◌, ◌-◌, ◌<◌, List, ◌∷◌, length, get_or, slice_set, arith}
use Rattle.std.proofs.lemmas.List.{get_or_default, length-set}
use Rattle.std.proofs.lemmas.List.Elements.{All-set}
use Rattle.pbd_world.specs.declared.command.Command.{Command}
use Rattle.pbd_world.specs.Meaning.{after}
use Rattle.pbd_world.specs.World.{World, IsSound}
use Rattle.pbd_host.specs.declared.request.Request.{Request}
use Rattle.pbd_host.specs.Hosted.{AreHosted, world_at}
use Rattle.pbd_host.specs.Tagged.{request_of}

set_later : (x : World) (xs : List World) (n : ℕ) (w v : World) (c : Command) → (n ≡ 0 → ⊥) → n < length (x ∷ xs) → w ≡ get_or xs (n - 1) w
    → v ≡ after w c → x ∷ slice_set xs (n - 1) v ≡ slice_set (x ∷ xs) n (after (world_at (x ∷ xs) n) c)
set_later x xs zero w v c test within at is = absurd (test refl)
set_later x xs (suc k) w v c test within at is =
    let e : suc k - 1 ≡ k = omega arith in
    let there : w ≡ world_at (x ∷ xs) (suc k) = at ∙ ap (λ i. get_or xs i w) e ∙ get_or_default xs k w _ (omega (arith, within)) in
    ap (λ i. x ∷ slice_set xs i v) e ∙ ap (λ (u : World). x ∷ slice_set xs k u) (is ∙ ap (λ (u : World). after u c) there)

pub set_seen : (x : World) (xs seen : List World) (n : ℕ) (w v : World) (c : Command) → x ∷ xs ≡ seen → (n ≡ 0 → ⊥) → n < length seen
    → w ≡ get_or xs (n - 1) w → v ≡ after w c → x ∷ slice_set xs (n - 1) v ≡ slice_set seen n (after (world_at seen n) c)
set_seen x xs seen n w v c seen_is test within at is =
    let there : n < length (x ∷ xs) = omega (arith, within, ap length seen_is) in
    set_later x xs n w v c test there at is ∙ ap (λ (us : List World). slice_set us n (after (world_at us n) c)) seen_is

-- one of the others has come to a sound world
pub other_set : (first : World) (others : List World) (k : ℕ) (w : World) → AreHosted first others → IsSound w
    → AreHosted first (slice_set others k w)
other_set first others k w are sound = record {
  few = omega (arith, are.few, length-set others k w);
  first = are.first;
  others = All-set IsSound others k w sound are.others;
}

-- the world that a command finds there
there : (x : World) (xs : List World) (n : ℕ) (w : World) → (n ≡ 0 → ⊥) → n < length (x ∷ xs) → w ≡ get_or xs (n - 1) w
    → w ≡ world_at (x ∷ xs) n
there x xs zero w test within at = absurd (test refl)
there x xs (suc k) w test within at =
    let e : suc k - 1 ≡ k = omega arith in
    at ∙ ap (λ i. get_or xs i w) e ∙ get_or_default xs k w _ (omega (arith, within))

pub world_seen : (x : World) (xs seen : List World) (n : ℕ) (w : World) → x ∷ xs ≡ seen → (n ≡ 0 → ⊥) → n < length seen
    → w ≡ get_or xs (n - 1) w → w ≡ world_at seen n
world_seen x xs seen n w seen_is test within at =
    there x xs n w test (omega (arith, within, ap length seen_is)) at ∙ ap (λ (us : List World). world_at us n) seen_is

-- what a line asks for, among all sessions
pub asked_of : (x : World) (xs seen : List World) (n : ℕ) (line : List ℕ) (r : Request) → x ∷ xs ≡ seen → n ≡ length xs
    → r ≡ request_of (1 + n) line → r ≡ request_of (length seen) line
asked_of x xs seen n line r seen_is count is =
    let many : 1 + n ≡ length seen = omega (arith, count, ap (λ (us : List World). length us) seen_is) in
    is ∙ ap (λ (m : ℕ). request_of m line) many
