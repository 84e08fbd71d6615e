-- Steps one after another.
use Rattle.std.proofs.Common.{◌≡◌, refl, sym, ap, ◌∙◌, ℕ, suc, ◌+◌, ◌-◌, ◌<◌, ◌≤◌, ◌^◌, min, arith, subst, Result, Ok, Err}
use Rattle.std.specs.Prelude.{IfOk}
use Rattle.pbd_world.specs.declared.command.Refusal.{Refusal}
use Rattle.pbd_world.specs.Meaning.{steps_of}
use Rattle.pbd_world.specs.Outcomes.{◌>>=◌}
use Rattle.pbd_world.specs.Step.{step}
use Rattle.pbd_world.specs.World.{World, IsSound, AreOfOneScene}
use Rattle.pbd_world.proofs.StepSound.{step_sound}
use Rattle.pbd_step.specs.Solving.{bonds_of, bonds_from, bonds_over}

-- a step that was done leads to a sound world, one step on
pub next_sound : (w v : World) → IsSound w → w.steps < 1000000 → step w ≡ Ok v → IsSound v × (v.steps ≡ w.steps + 1)
next_sound w v sound few e =
    let all = subst (λ (r : Result World Refusal). IfOk r (λ u. IsSound u × (u.steps ≡ w.steps + 1) × AreOfOneScene w u)) e
    (step_sound w sound (omega (arith, few))) in
    (all.0, all.1)

-- where the steps so far have led, and those that are left, make the whole
pub record Running (n i : ℕ) (start now : World) : Type 0 where
  pub sound : IsSound now
  pub steps : now.steps ≡ start.steps + i
  pub rest : steps_of (n - i) now ≡ steps_of n start

-- the bonds that were handed so far
pub record Handed (n i : ℕ) (start now : World) (before count : ℕ) : Type 0 where
  pub so_far : ℕ
  pub rest : so_far + bonds_over (n - i) now ≡ bonds_over n start
  pub counted : count ≡ min (before + so_far) (2 ^ 64 - 1)

pub runs_none : (n : ℕ) (w : World) → IsSound w → Running n 0 w w
runs_none n w sound = record {
  sound = sound;
  steps = omega arith;
  rest = (let e : n - 0 ≡ n = omega arith in ap (λ (k : ℕ). steps_of k w) e);
}

on_step : (k : ℕ) (w : World) (r : Result World Refusal) → step w ≡ r → steps_of (suc k) w ≡ (r >>= steps_of k)
on_step k w r e = ap (λ (s : Result World Refusal). s >>= steps_of k) e

pub left_one : (n i : ℕ) → i < n → n - i ≡ suc (n - (i + 1))
left_one n i lt = omega (arith, lt)

pub runs_more : (n i : ℕ) (start w v : World) → i < n → start.steps + n ≤ 1000000 → Running n i start w → step w ≡ Ok v
    → Running n (i + 1) start v
runs_more n i start w v lt few h e =
    let next = next_sound w v h.sound (omega (arith, h.steps, few, lt)) e in
    record {
      sound = next.0;
      steps = omega (arith, next.1, h.steps);
      rest = sym (on_step (n - (i + 1)) w (Ok v) e) ∙ ap (λ (k : ℕ). steps_of k w) (sym (left_one n i lt)) ∙ h.rest;
    }

pub runs_out : (n i : ℕ) (start w : World) (refusal : Refusal) → i < n → Running n i start w → step w ≡ Err refusal
    → steps_of n start ≡ Err refusal
runs_out n i start w refusal lt h e = sym h.rest ∙ ap (λ (k : ℕ). steps_of k w) (left_one n i lt) ∙ on_step (n - (i + 1)) w (Err refusal) e

pub runs_all : (n i : ℕ) (start w : World) → n ≤ i → Running n i start w → steps_of n start ≡ Ok w
runs_all n i start w le h = sym h.rest ∙ (let e : n - i ≡ 0 = omega (arith, le) in ap (λ (k : ℕ). steps_of k w) e)

unfold_over : (k : ℕ) (w : World) → bonds_over (suc k) w ≡ bonds_from w (bonds_over k) (step w)
unfolding bonds_over
unfold_over k w = refl

none_over : (w : World) → bonds_over 0 w ≡ 0
unfolding bonds_over
none_over w = refl

pub handed_none : (n : ℕ) (w : World) (before : ℕ) → before < 2 ^ 64 → Handed n 0 w w before before
handed_none n w before fits = record {
  so_far = 0;
  rest = (let e : n - 0 ≡ n = omega arith in rw e (omega arith));
  counted = omega (arith, fits);
}

pub handed_more : (n i : ℕ) (start w v : World) (before count next : ℕ) → i < n → step w ≡ Ok v → Handed n i start w before count
    → next ≡ min (count + bonds_of w v) (2 ^ 64 - 1) → Handed n (i + 1) start v before next
handed_more n i start w v before count next lt e h is =
    let split : bonds_over (n - i) w ≡ bonds_of w v + bonds_over (n - (i + 1)) v = ap (λ (k : ℕ). bonds_over k w) (left_one n i lt)
    ∙ unfold_over (n - (i + 1)) w ∙ ap (λ (r : Result World Refusal). bonds_from w (bonds_over (n - (i + 1))) r) e in
    record {
      so_far = h.so_far + bonds_of w v;
      rest = omega (arith, split, h.rest);
      counted = omega (arith, is, h.counted);
    }

pub handed_all : (n i : ℕ) (start w : World) (before count : ℕ) → n ≤ i → Handed n i start w before count
    → count ≡ min (before + bonds_over n start) (2 ^ 64 - 1)
handed_all n i start w before count le h =
    let none : bonds_over (n - i) w ≡ 0 = (let e : n - i ≡ 0 = omega (arith, le) in ap (λ (k : ℕ). bonds_over k w) e) ∙ none_over w in
    omega (arith, none, h.rest, h.counted)
