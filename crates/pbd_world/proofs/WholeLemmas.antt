-- Parts as a whole: what the tests of the single ones leave to look at.
use Rattle.std.proofs.Common.{◌≡◌, refl, ap, ℕ, ◌<◌, ◌≤◌, ◌^◌, true, false, ◌&&◌, List, length, arith, ℤ, pos, ◌≤ℤ◌, unsigned_abs, All, inl}
use Rattle.std.proofs.Common.{inr}
use Rattle.std.specs.Prelude.{IsTrue, nat_le, ◌==◌}
use Rattle.std.specs.List.{list_all, range_with_len}
use Rattle.std.specs.Ordering.{int_eq}
use Rattle.std.proofs.lemmas.Int.{ints}
use Rattle.std.proofs.lemmas.Bool.{and_parts, cases_Bool, ltb-true, le-leb}
use Rattle.std.proofs.lemmas.Bool.Decides.{Decides-int_eq}
use Rattle.std.proofs.lemmas.List.Elements.{All-weaker}
use Rattle.std.proofs.lemmas.List.Sums.{AllPass-from_list_all}
use Rattle.pbd_world.specs.declared.parts.Link.{Link}
use Rattle.pbd_world.specs.declared.parts.Track.{Track}
use Rattle.pbd_world.specs.Valid.{is_limit, is_valid_link, are_valid_links, none_twice, join_alike, links_at, is_valid_track}
use Rattle.pbd_world.specs.Valid.{are_valid_tracks}
use Rattle.pbd_world.specs.Neighbours.{AreJoined, stand_alone, name_apart}
use Rattle.pbd_world.proofs.ValidLinks.{link_facts, joined_of}

-- ---- the limit

limit_is : (n : ℤ) → is_limit n ≡ true → (pos 0 ≤ℤ n) × (unsigned_abs n ≤ 2 ^ 29)
limit_is n t = elim (cases_Bool (int_eq n (pos (2 ^ 28)))) [
  | inl e ↦ (let is = (Decides-int_eq n (pos (2 ^ 28))).0 e in rw is (omega (arith, ints), omega arith))
  | inr f ↦ (let u : IsTrue (int_eq n (pos (2 ^ 29))) = rw f at t in let is = (Decides-int_eq n (pos (2 ^ 29))).0 u in
      rw is (omega (arith, ints), omega arith))
]

pub limit_low : (n : ℤ) → is_limit n ≡ true → pos 0 ≤ℤ n
limit_low n t = (limit_is n t).0

pub limit_high : (n : ℤ) → is_limit n ≡ true → unsigned_abs n ≤ 2 ^ 29
limit_high n t = (limit_is n t).1

-- ---- links

link_joined : (limit : ℤ) (n : ℕ) (l : Link) → is_valid_link limit n l ≡ true → AreJoined n l
link_joined limit n l t = joined_of limit n l ((link_facts limit n l).0 t)

pub links_joined : (limit : ℤ) (n : ℕ) (links : List Link) → list_all (is_valid_link limit n) links ≡ true → All (AreJoined n) links
links_joined limit n links t = All-weaker (λ (l : Link). is_valid_link limit n l ≡ true) (AreJoined n)
    (λ l h. link_joined limit n l h) links (AllPass-from_list_all (is_valid_link limit n) links t)

pub links_alone : (limit : ℤ) (n : ℕ) (links : List Link) → length links ≤ 524288 → list_all (is_valid_link limit n) links ≡ true
    → stand_alone n links ≡ are_valid_links limit n links
unfolding stand_alone
links_alone limit n links few valid = rw (le-leb (length links) 524288 few, valid) refl

pub links_broken : (limit : ℤ) (n : ℕ) (links : List Link) → nat_le (length links) 524288 && list_all (is_valid_link limit n) links ≡ false
    → are_valid_links limit n links ≡ false
links_broken limit n links broken = ap (λ x. x && none_twice join_alike links
    && list_all (λ i. nat_le (links_at links i) 32) (range_with_len 0 n)) broken

-- ---- tracks

track_among : (limit : ℤ) (n : ℕ) (t : Track) → is_valid_track limit n t ≡ true → t.particle < n
track_among limit n t h = let p3 = and_parts _ _ h in let p2 = and_parts _ _ p3.0 in let p1 = and_parts _ _ p2.0 in
    ltb-true t.particle n p1.0

pub tracks_among : (limit : ℤ) (n : ℕ) (tracks : List Track) → list_all (is_valid_track limit n) tracks ≡ true
    → All (λ (t : Track). t.particle < n) tracks
tracks_among limit n tracks h = All-weaker (λ (t : Track). is_valid_track limit n t ≡ true) (λ (t : Track). t.particle < n)
    (λ t k. track_among limit n t k) tracks (AllPass-from_list_all (is_valid_track limit n) tracks h)

pub tracks_apart : (limit : ℤ) (n : ℕ) (tracks : List Track) → length tracks ≤ 4096 → list_all (is_valid_track limit n) tracks ≡ true
    → name_apart tracks ≡ are_valid_tracks limit n tracks
unfolding name_apart
tracks_apart limit n tracks few valid = rw (le-leb (length tracks) 4096 few, valid) refl

pub tracks_broken : (limit : ℤ) (n : ℕ) (tracks : List Track)
    → nat_le (length tracks) 4096 && list_all (is_valid_track limit n) tracks ≡ false → are_valid_tracks limit n tracks ≡ false
tracks_broken limit n tracks broken = ap (λ x. x && none_twice {A = Track} (λ t u. t.particle == u.particle) tracks) broken
