-- A machine that keeps its turns in a ring of slots.
use Rattle.std.proofs.Common.{◌≡◌, ◌≢◌, refl, sym, ap, ◌∙◌, ℕ, zero, suc, ◌+◌, ◌-◌, ◌*◌, ◌/◌, ◌%◌, ◌<◌, ◌≤◌, inl, inr, List, [], ◌∷◌, ◌++◌}
use Rattle.std.proofs.Common.{length, length-append, length-set, take, drop, get_or, map, append_assoc, subst, arith}
use Rattle.std.specs.Prelude.{slice_set as set, Option, Some, None}
use Rattle.std.proofs.Math.Nat.{mul-le-mul, div-add-mod}
use Rattle.std.proofs.Math.Seq.{take-append_seam}
use Rattle.std.proofs.lemmas.Bool.{cases_lt}
use Rattle.std.proofs.lemmas.List.{get_or-set_same, get_or-set_other, take-set, take-append-le, take-append-drop, length-take}
use Rattle.pbd_world.specs.declared.command.Command.{Command}
use Rattle.pbd_world.specs.World.{World}
use Rattle.pbd_world.specs.Session.{last_world}
use Rattle.pbd_laws.specs.Machine.{Machine, slot_at, kept_or, acted, all_acted}
use Rattle.pbd_laws.specs.Machine.Act.{Play, Save, Restore}
use Rattle.pbd_laws.specs.Ring.{Turns, commands_of, Event, turn, turns_from, again_from, taken, acts_of, IsInTime, all_taken, all_acts}
use Rattle.pbd_laws.specs.Ring.{AreInTime}
use Rattle.pbd_laws.specs.Ring.Event.{Plays, Learns}
use Rattle.pbd_laws.proofs.Slots.{acted-append, played-slots, played-world}
use Rattle.pbd_laws.proofs.EitherOrder.{last-append}

-- ---- turns less than n apart have slots of their own

same_piece : (n a b p t r : ℕ) → n * a + r ≡ t → n * b + r ≡ p → t < p → p < t + n → ⊥
same_piece n a b p t r h k low high =
    let same : n ≤ n = omega arith in
    elim (cases_lt a b) [
      | inl above ↦ let l : a + 1 ≤ b = omega (arith, above) in absurd (omega (arith, mul-le-mul same l))
      | inr below ↦ absurd (omega (arith, mul-le-mul same below))
    ]

pub apart : (n t p : ℕ) → t < p → p < t + n → t % n ≢ p % n
apart n t p low high e = same_piece n (t / n) (p / n) p t (p % n) (ap (λ r. n * (t / n) + r) (sym e) ∙ div-add-mod t n)
    (div-add-mod p n) low high

-- ---- worlds of turns

-- the world after these turns
abbrev pub world_of : World → Turns → World
world_of w turns = last_world w (commands_of turns)

commands-append : (ts us : Turns) → commands_of (ts ++ us) ≡ commands_of ts ++ commands_of us
commands-append [] us = refl
commands-append (t ∷ ts) us = ap (λ (xs : List Command). t ++ xs) (commands-append ts us)
    ∙ sym (append_assoc t (commands_of ts) (commands_of us))

append_nothing : (cs : List Command) → cs ++ [] ≡ cs
append_nothing [] = refl
append_nothing (c ∷ cs) = ap (λ (xs : List Command). c ∷ xs) (append_nothing cs)

one_more_turn : (w : World) (ts : Turns) (cs : List Command) → world_of w (ts ++ (cs ∷ [])) ≡ last_world (world_of w ts) cs
one_more_turn w ts cs =
    ap (last_world w) (commands-append ts (cs ∷ [])) ∙ last-append w (commands_of ts) (cs ++ [])
    ∙ ap (last_world (world_of w ts)) (append_nothing cs)

-- ---- what holds of a machine that has played its turns

-- its world is that of its turns, and the slots of the last n of them from turn `low` on have the worlds before them
pub record Follows (w : World) (n low : ℕ) (ts : Turns) (m : Machine) : Type 0 where
  pub room : n ≤ length m.slots
  pub world : m.world ≡ world_of w ts
  pub kept : (t : ℕ) → low ≤ t → t < length ts → length ts ≤ t + n → slot_at m (t % n) ≡ Some (world_of w (take t ts))

below_n : (n t : ℕ) → 1 ≤ n → t % n < n
below_n n t h = omega (arith, h)

-- one turn more
turn_played : (w : World) (n low : ℕ) (ts : Turns) (m : Machine) (cs : List Command) → 1 ≤ n → Follows w n low ts m
    → Follows w n low (ts ++ (cs ∷ [])) (all_acted m (turn n (length ts) cs))
turn_played w n low ts m cs some f =
    let p = length ts in
    let saved = acted m (Save (p % n)) in
    let slots : (all_acted saved (map (λ command. Play command) cs)).slots ≡ set m.slots (p % n) (Some m.world) = played-slots saved cs in
    let many : length (ts ++ (cs ∷ [])) ≡ p + 1 = length-append ts (cs ∷ []) in
    record {
      room = omega (arith, ap length slots, length-set m.slots (p % n) (Some m.world), f.room);
      world = played-world saved cs ∙ ap (λ v. last_world v cs) f.world ∙ sym (one_more_turn w ts cs);
      kept = λ t above below late. ap (λ (xs : List (Option World)). get_or xs (t % n) None) slots ∙ elim (cases_lt t p) [
        | inl old ↦
            get_or-set_other m.slots (p % n) (t % n) (Some m.world) None (apart n t p old (omega (arith, late, many)))
            ∙ f.kept t above old (omega (arith, late, many))
            ∙ ap (λ (us : Turns). Some (world_of w us)) (sym (take-append-le t ts (cs ∷ []) (omega (arith, old))))
        | inr new ↦
            let is : t ≡ p = omega (arith, new, below, many) in
            ap (λ k. get_or (set m.slots (p % n) (Some m.world)) (k % n) None) is
            ∙ get_or-set_same m.slots (p % n) (Some m.world) None (omega (arith, below_n n p some, f.room))
            ∙ ap (λ v. Some v) (f.world ∙ ap (world_of w) (sym (take-append_seam ts (cs ∷ []))
            ∙ ap (λ k. take k (ts ++ (cs ∷ []))) (sym is)))
      ];
    }

-- many more
turns_played : (w : World) (n low : ℕ) (us ts : Turns) (m : Machine) (p : ℕ) → 1 ≤ n → p ≡ length ts → Follows w n low ts m
    → Follows w n low (ts ++ us) (all_acted m (turns_from n p us))
turns_played w n low [] ts m p some e f = subst (λ (xs : Turns). Follows w n low xs m) (sym (append_none ts)) f
  where
    append_none : (ts : Turns) → ts ++ [] ≡ ts
    append_none [] = refl
    append_none (t ∷ ts) = ap (λ (xs : Turns). t ∷ xs) (append_none ts)
turns_played w n low (cs ∷ us) ts m p some e f =
    let first = subst (λ k. Follows w n low (ts ++ (cs ∷ [])) (all_acted m (turn n k cs))) (sym e) (turn_played w n low ts m cs some f) in
    let rest = turns_played w n low us (ts ++ (cs ∷ [])) (all_acted m (turn n p cs)) (p + 1) some
    (omega (arith, e, length-append ts (cs ∷ []))) first in
    subst (λ (x : Machine). Follows w n low (ts ++ (cs ∷ us)) x) (sym (acted-append m (turn n p cs) (turns_from n (p + 1) us)))
    (subst (λ (xs : Turns). Follows w n low xs (all_acted (all_acted m (turn n p cs)) (turns_from n (p + 1) us)))
    (append_assoc ts (cs ∷ []) us) rest)

-- ---- an input that was learnt

take_part : (u t : ℕ) (xs : Turns) → u ≤ t → take u (take t xs) ≡ take u xs
take_part zero t xs h = refl
take_part (suc u) zero xs h = absurd (omega (arith, h))
take_part (suc u) (suc t) [] h = refl
take_part (suc u) (suc t) (x ∷ xs) h = ap (λ (ys : Turns). x ∷ ys) (take_part u t xs (omega (arith, h)))

-- back before turn t, in whose place other commands stand
gone_back : (w : World) (n t : ℕ) (ts : Turns) (m : Machine) (cs : List Command) → t < length ts → length ts ≤ t + n → Follows w n 0 ts m
    → Follows w n (length ts - n) (take t (set ts t cs)) (acted m (Restore (t % n)))
gone_back w n t ts m cs before late f =
    let us = set ts t cs in
    let same : take t us ≡ take t ts = take-set ts t cs in
    let many : length (take t us) ≡ t = omega (arith, length-take t us, length-set ts t cs, before) in
    record {
      room = f.room;
      world = ap (kept_or m.world) (f.kept t (omega arith) before late) ∙ ap (world_of w) (sym same);
      kept = λ u above below near.
          f.kept u (omega arith) (omega (arith, below, many, before)) (omega (arith, above))
          ∙ ap (λ (xs : Turns). Some (world_of w xs)) (sym (take_part u t ts (omega (arith, below, many))) ∙ ap (take u) (sym same));
    }

learnt : (w : World) (n t : ℕ) (ts : Turns) (m : Machine) (cs : List Command) → 1 ≤ n → t < length ts → length ts ≤ t + n
    → Follows w n 0 ts m
    → Follows w n 0 (set ts t cs) (all_acted m (again_from n t (set ts t cs)))
learnt w n t ts m cs some before late f =
    let us = set ts t cs in
    let many : length us ≡ length ts = length-set ts t cs in
    let back = acted m (Restore (t % n)) in
    let again = turns_played w n (length ts - n) (drop t us) (take t us) back t some (omega (arith, length-take t us, many, before))
    (gone_back w n t ts m cs before late f) in
    let whole = subst (λ (xs : Turns). Follows w n (length ts - n) xs (all_acted back (turns_from n t (drop t us))))
    (take-append-drop t us) again in
    record {
      room = whole.room;
      world = whole.world;
      kept = λ u above below near. whole.kept u (omega (arith, near, many)) below near;
    }

-- ---- a game

event_followed : (w : World) (n : ℕ) (ts : Turns) (m : Machine) (e : Event) → 1 ≤ n → IsInTime n ts e → Follows w n 0 ts m
    → Follows w n 0 (taken ts e) (all_acted m (acts_of n ts e))
event_followed w n ts m (Plays cs) some h f = turn_played w n 0 ts m cs some f
event_followed w n ts m (Learns t cs) some h f = learnt w n t ts m cs some h.0 h.1 f

all_followed : (w : World) (n : ℕ) (ts : Turns) (m : Machine) (es : List Event) → 1 ≤ n → AreInTime n ts es → Follows w n 0 ts m
    → Follows w n 0 (all_taken ts es) (all_acted m (all_acts n ts es))
all_followed w n ts m [] some h f = f
all_followed w n ts m (e ∷ es) some h f =
    subst (λ (x : Machine). Follows w n 0 (all_taken ts (e ∷ es)) x) (sym (acted-append m (acts_of n ts e) (all_acts n (taken ts e) es)))
    (all_followed w n (taken ts e) (all_acted m (acts_of n ts e)) es some h.1 (event_followed w n ts m e some h.0 f))

pub game-world : (m : Machine) (n : ℕ) (es : List Event) → 1 ≤ n → n ≤ length m.slots → AreInTime n [] es
    → (all_acted m (all_acts n [] es)).world ≡ last_world m.world (commands_of (all_taken [] es))
game-world m n es some room h =
    (all_followed m.world n [] m es some h (record {
      room = room;
      world = refl;
      kept = λ t above below late. absurd (omega (arith, below));
    })).world

pub games-alike : (l m : Machine) (k n : ℕ) (es fs : List Event) → 1 ≤ k → k ≤ length l.slots → 1 ≤ n → n ≤ length m.slots
    → AreInTime k [] es → AreInTime n [] fs → l.world ≡ m.world → all_taken [] es ≡ all_taken [] fs
    → (all_acted l (all_acts k [] es)).world ≡ (all_acted m (all_acts n [] fs)).world
games-alike l m k n es fs some_k room_k some_n room_n h j e same =
    game-world l k es some_k room_k h
    ∙ ap (λ (w : World). last_world w (commands_of (all_taken [] es))) e
    ∙ ap (λ (ts : Turns). last_world m.world (commands_of ts)) same
    ∙ sym (game-world m n fs some_n room_n j)
