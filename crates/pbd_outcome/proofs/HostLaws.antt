-- What `host` comes to, and its sessions apart.
use Rattle.std.proofs.Common.{◌≡◌, ◌∙◌, sym, ap, refl, ℕ, suc, ◌+◌, ◌≤◌, true, List, [], ◌∷◌, length, map, Some, Result, Ok, Err, inr}
use Rattle.std.proofs.Common.{arith}
use Rattle.std.specs.Prelude.{nat_le}
use Rattle.std.proofs.lemmas.Bool.Decides.{nat_tests}
use Rattle.std.proofs.lemmas.List.{length-map}
use Rattle.pbd_world.specs.declared.parts.Parts.{Parts}
use Rattle.pbd_world.specs.Outcomes.{◌>>=◌, with_fault}
use Rattle.pbd_world.specs.World.{World, opened}
use Rattle.pbd_host.specs.Tagged.{requests_of}
use Rattle.pbd_host.proofs.ApartLaws.{text_apart}
use Rattle.pbd_outcome.specs.Clauses.{Run, Settles}
use Rattle.pbd_outcome.specs.Hosting.{HostsApart}
use Rattle.pbd_outcome.specs.Outcome.{IsOutcome, Outcome, few_in, host_outcome, hosted, range, scene_in, scenes_in, settled, stops_in}
use Rattle.pbd_outcome.specs.Split.{host_split}
use Rattle.pbd_outcome.proofs.OneOutcome.{one_outcome}

pub hosted_halves : (input : List ℕ) (h : List (List ℕ) × List (List ℕ)) → host_split input ≡ Some h
    → hosted input ≡ settled (few_in h.0 >>= λ texts. scenes_in 0 texts >>= λ scenes.
    Ok (host_outcome (map opened scenes) (requests_of (length scenes) h.1)))
unfolding hosted
hosted_halves input h e = rw e refl

pub few_enough : (texts : List (List ℕ)) → length texts ≤ 16 → few_in texts ≡ Ok texts
few_enough texts few = let test : nat_le (length texts) 16 ≡ true = grind (arith, nat_tests) in rw test refl

-- what is done with the scenes, if there are few and each has parts
pub hosted_scenes : (input : List ℕ) (h : List (List ℕ) × List (List ℕ)) → host_split input ≡ Some h → length h.0 ≤ 16
    → hosted input ≡ settled (scenes_in 0 h.0 >>= λ scenes. Ok (host_outcome (map opened scenes) (requests_of (length scenes) h.1)))
hosted_scenes input h e few =
    hosted_halves input h e ∙ ap (λ r. settled (r >>= λ texts. scenes_in 0 texts >>= λ scenes.
    Ok (host_outcome (map opened scenes) (requests_of (length scenes) h.1)))) (few_enough h.0 few)

pub hosted_on : (input : List ℕ) (h : List (List ℕ) × List (List ℕ)) (scenes : List Parts) → host_split input ≡ Some h → length h.0 ≤ 16
    → scenes_in 0 h.0 ≡ Ok scenes → hosted input ≡ host_outcome (map opened scenes) (requests_of (length scenes) h.1)
hosted_on input h scenes e few accepted =
    hosted_scenes input h e few ∙ ap (λ (r : Result (List Parts) Outcome).
    settled (r >>= λ scenes. Ok (host_outcome (map opened scenes) (requests_of (length scenes) h.1)))) accepted

-- ---- as many scenes as texts

one_longer : (r : Result Parts Outcome) (m : Result (List Parts) Outcome) (count : ℕ) (scenes : List Parts)
    → ((more : List Parts) → m ≡ Ok more → length more ≡ count) → (r >>= λ parts. m >>= λ more. Ok (parts ∷ more)) ≡ Ok scenes
    → length scenes ≡ suc count
one_longer (Err o) m count scenes all is = cc
one_longer (Ok p) (Err o) count scenes all is = cc
one_longer (Ok p) (Ok more) count scenes all is = let e : p ∷ more ≡ scenes = cc in ap length (sym e) ∙ ap suc (all more refl)

pub as_many : (n : ℕ) (texts : List (List ℕ)) (scenes : List Parts) → scenes_in n texts ≡ Ok scenes → length scenes ≡ length texts
unfolding scenes_in
as_many n [] scenes is = let e : [] ≡ scenes = cc in ap length (sym e)
as_many n (text ∷ texts) scenes is = one_longer (with_fault (stops_in n) (scene_in range text)) (scenes_in (n + 1) texts)
    (length texts) scenes (λ more e. as_many (n + 1) texts more e) is

-- ---- sessions apart

pub hosts_apart : (run : Run) → Settles run → HostsApart run
hosts_apart run settles width input scenes lines is told has nr nw nm =
    let ws : List World = map opened scenes in
    let o : Outcome = host_outcome ws (requests_of (length scenes) lines) in
    let all : hosted input ≡ o = hosted_on input (has.texts, lines) scenes has.halves has.few has.accepted in
    let its : IsOutcome run.job input o = rw is (inr (has.short, sym all)) in
    let went = settles nr nw nm input (inr told) in
    let same : went.outcome ≡ o = one_outcome run.job input went.outcome o went.its its in
    let few : length ws ≤ 16 = omega (
      arith,
      length-map {A = Parts} {B = World} scenes opened,
      as_many 0 has.texts scenes has.accepted,
      has.few,
    ) in
    record {
      bytes = rw same at went.text;
      ending = went.ends ∙ ap (λ (o : Outcome). o.status) same;
      apart = λ t within. text_apart ws t (requests_of (length scenes) lines) few within;
    }
