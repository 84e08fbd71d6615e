-- What becomes of eight marks.
use Rattle.std.proofs.Common.{◌≡◌, ◌∙◌, refl, sym, ap, subst, zero, suc, ℕ, ◌+◌, ◌-◌, ◌<◌, List, [], ◌∷◌, ◌++◌, length, slice_set, Ok, Err}
use Rattle.std.proofs.Common.{Option, Some, None, arith, All, IfSome, true, false, Bool, cond}
use Rattle.std.proofs.Math.ListN.{replicate, get_or}
use Rattle.std.specs.Prelude.{nat_lt}
use Rattle.std.specs.List.{AllByRecursion}
use Rattle.std.proofs.lemmas.Bool.{ltb-false}
use Rattle.std.proofs.lemmas.List.{length-set, length-map, length-append, map-set, map-append, get_or-map}
use Rattle.std.proofs.lemmas.List.Elements.{All-set, All-push, All-replicate, All-get_or, All-from_recursion, recursion_from_All}
use Rattle.pbd_world.specs.World.{World, IsSound, AreOfOneScene, unchanging}
use Rattle.pbd_step.specs.Solving.{Solved}
use Rattle.pbd_marks.specs.declared.command.MarkRefusal.TheVariants.{BadMark, MarkEmpty}
use Rattle.pbd_marks.specs.Marked.{no_marks, mark_at, set, kept, rewound}
use Rattle.pbd_marks.specs.Keeping.{AreOpened, Kept, worlds_in, IsOfScene, IsMarkOf, AreMarks, FitTogether, scene_of, marked, kept_by}
use Rattle.pbd_marks.specs.Keeping.{none_set}

-- ---- the worlds of solvers

pub world_of_scene : {P : Type 0} (scene : World) (solvers : List (Solved P)) (k : ℕ) (d : Solved P) → k < length (worlds_in solvers)
    → All (IsOfScene scene) (worlds_in solvers) → IsOfScene scene (get_or solvers k d).world
world_of_scene {P = P} scene solvers k d inside all =
    let within : k < length solvers = omega (arith, inside, length-map {A = Solved P} {B = World} solvers (λ s. s.world)) in
    subst (IsOfScene scene) (get_or-map {X = Solved P} {Y = World} (λ s. s.world) solvers k d d.world within)
    (All-get_or (IsOfScene scene) (worlds_in solvers) k d.world inside all)

pub worlds_set : {P : Type 0} (solvers : List (Solved P)) (k : ℕ) (solver : Solved P) (w : World) → solver.world ≡ w
    → worlds_in (slice_set solvers k solver) ≡ slice_set (worlds_in solvers) k w
worlds_set {P = P} solvers k solver w is =
    map-set {A = Solved P} {B = World} (λ s. s.world) solvers k solver
    ∙ ap (λ v. slice_set (worlds_in solvers) k v) is

pub length-worlds : {P : Type 0} (solvers : List (Solved P)) → length (worlds_in solvers) ≡ length solvers
length-worlds {P = P} solvers = length-map {A = Solved P} {B = World} solvers (λ s. s.world)

pub at_later : {X : Type 0} (x : X) (xs : List X) (k : ℕ) (d : X) → 0 < k → get_or (x ∷ xs) k d ≡ get_or xs (k - 1) d
at_later x xs zero d later = absurd (omega (arith, later))
at_later x xs (suc k) d later = let e : suc k - 1 ≡ k = omega arith in rw e refl

pub set_later : {X : Type 0} (x : X) (xs : List X) (k : ℕ) (y : X) → 0 < k → slice_set (x ∷ xs) k y ≡ x ∷ slice_set xs (k - 1) y
set_later x xs zero y later = absurd (omega (arith, later))
set_later x xs (suc k) y later = let e : suc k - 1 ≡ k = omega arith in rw e refl

-- ---- a mark that is set

pub scene_set : (ws : List World) (k : ℕ) (w : World) → IsOfScene (scene_of ws) w → scene_of (slice_set ws k w) ≡ scene_of ws
scene_set [] k w same = refl
scene_set (v ∷ vs) zero w same = same
scene_set (v ∷ vs) (suc k) w same = refl

pub marked_set : (bs : List Bool) (ws : List World) (k : ℕ) (w : World) → length bs ≡ length ws
    → marked (slice_set bs k true) (slice_set ws k w) ≡ slice_set (marked bs ws) k (Some w)
marked_set [] ws k w same = refl
marked_set (b ∷ bs) [] k w same = absurd (omega (arith, same))
marked_set (b ∷ bs) (v ∷ vs) zero w same = refl
marked_set (b ∷ bs) (v ∷ vs) (suc k) w same = ap (λ os. (cond b (Some v) None) ∷ os) (marked_set bs vs k w (omega (arith, same)))

pub marked_at : (bs : List Bool) (ws : List World) (k : ℕ) (b : Bool) (w : World) → k < length bs → k < length ws
    → get_or (marked bs ws) k None ≡ cond (get_or bs k b) (Some (get_or ws k w)) None
marked_at [] ws k b w short long = absurd (omega (arith, short))
marked_at (c ∷ cs) [] k b w short long = absurd (omega (arith, long))
marked_at (c ∷ cs) (v ∷ vs) zero b w short long = refl
marked_at (c ∷ cs) (v ∷ vs) (suc k) b w short long = marked_at cs vs k b w (omega (arith, short)) (omega (arith, long))

pub set_fits : (bs : List Bool) (ws : List World) (k : ℕ) (w : World) → FitTogether bs ws → IsMarkOf (scene_of ws) w
    → FitTogether (slice_set bs k true) (slice_set ws k w)
set_fits bs ws k w fit is =
    let scene = sym (scene_set ws k w is.of_scene) in
    let marks = sym (marked_set bs ws k w (fit.eight_set ∙ sym fit.eight)) in
    record {
      eight_set = length-set bs k true ∙ fit.eight_set;
      eight = length-set ws k w ∙ fit.eight;
      of_scene = subst (λ (s : World). All (IsOfScene s) (slice_set ws k w)) scene
          (All-set (IsOfScene (scene_of ws)) ws k w is.of_scene fit.of_scene);
      kept = subst (λ (s : World). AreMarks (record { scene = s; marks = marked (slice_set bs k true) (slice_set ws k w) })) scene (
          subst (λ (os : List (Option World)). AreMarks (record { scene = scene_of ws; marks = os })) marks (record {
            eight = length-set (marked bs ws) k (Some w) ∙ fit.kept.eight;
            worlds = All-set (λ mark. IfSome mark (IsMarkOf (scene_of ws))) (marked bs ws) k (Some w) is fit.kept.worlds;
          })
          );
    }

-- what callers see after mark k is set
pub record IsSet (kept : Kept) (k : ℕ) (w : World) (bs : List Bool) (ws : List World) : Type 0 where
  pub fit : FitTogether bs ws
  pub outcome : set kept.marks k w ≡ Ok (marked bs ws)
  pub scene : scene_of ws ≡ kept.scene

kept_set_there : (bs : List Bool) (ws : List World) (k : ℕ) (w : World) → FitTogether bs ws → nat_lt 7 k ≡ false → IsSound w
    → IsOfScene (scene_of ws) w → IsSet (kept_by bs ws) k w (slice_set bs k true) (slice_set ws k w)
kept_set_there bs ws k w fit there sound of_scene = record {
  fit = set_fits bs ws k w fit (record { sound = sound; of_scene = of_scene });
  outcome = ap (λ b. cond b (Err BadMark) (Ok (slice_set (marked bs ws) k (Some w)))) there
      ∙ ap (λ os. Ok os) (sym (marked_set bs ws k w (fit.eight_set ∙ sym fit.eight)));
  scene = scene_set ws k w of_scene;
}

pub kept_set : (kept : Kept) (bs cs : List Bool) (ws new : List World) (k : ℕ) (w : World) → kept_by bs ws ≡ kept → FitTogether bs ws
    → nat_lt 7 k ≡ false → IsSound w → IsOfScene kept.scene w → cs ≡ slice_set bs k true → new ≡ slice_set ws k w → IsSet kept k w cs new
kept_set kept bs cs ws new k w seen fit there sound of_scene flags is =
    subst (λ (ds : List Bool). IsSet kept k w ds new) (sym flags) (
    subst (λ (vs : List World). IsSet kept k w (slice_set bs k true) vs) (sym is) (
    subst (λ (s : Kept). IsSet s k w (slice_set bs k true) (slice_set ws k w)) seen (
    kept_set_there bs ws k w fit there sound (of_scene ∙ sym (ap (λ (s : Kept). s.scene) seen))
    )
    )
    )

-- ---- a mark to which a world goes back

kept_where : (b : Bool) (w : World) → kept (cond b (Some w) None) ≡ cond b (Ok w) (Err MarkEmpty)
kept_where true w = refl
kept_where false w = refl

rewound_there : (bs : List Bool) (ws : List World) (k : ℕ) (x : Bool) (y : World) → FitTogether bs ws → nat_lt 7 k ≡ false
    → rewound (marked bs ws) k ≡ cond (get_or bs k x) (Ok (get_or ws k y)) (Err MarkEmpty)
rewound_there bs ws k x y fit there =
    let below = ltb-false 7 k there in
    ap (λ b. cond b (Err BadMark) (kept (mark_at (marked bs ws) k))) there
    ∙ ap (λ o. kept o) (marked_at bs ws k x y (omega (arith, below, fit.eight_set)) (omega (arith, below, fit.eight)))
    ∙ kept_where (get_or bs k x) (get_or ws k y)

pub rewound_empty : (seen : Kept) (bs : List Bool) (ws : List World) (k : ℕ) (x : Bool) (y : World) → kept_by bs ws ≡ seen
    → FitTogether bs ws → nat_lt 7 k ≡ false → get_or bs k x ≡ false → rewound seen.marks k ≡ Err MarkEmpty
rewound_empty seen bs ws k x y is fit there empty =
    sym (ap (λ (s : Kept). rewound s.marks k) is) ∙ rewound_there bs ws k x y fit there
    ∙ ap (λ b. cond b (Ok (get_or ws k y)) (Err MarkEmpty)) empty

pub rewound_set : {P : Type 0} (seen : Kept) (bs : List Bool) (solvers : List (Solved P)) (k : ℕ) (x : Bool) (s : Solved P)
    → kept_by bs (worlds_in solvers) ≡ seen → FitTogether bs (worlds_in solvers) → nat_lt 7 k ≡ false → get_or bs k x ≡ true
    → s ≡ get_or solvers k s → rewound seen.marks k ≡ Ok s.world
rewound_set {P = P} seen bs solvers k x s is fit there set at =
    let within : k < length solvers = omega (arith, ltb-false 7 k there, fit.eight, length-worlds solvers) in
    sym (ap (λ (s : Kept). rewound s.marks k) is)
    ∙ rewound_there bs (worlds_in solvers) k x s.world fit there
    ∙ ap (λ b. cond b (Ok (get_or (worlds_in solvers) k s.world)) (Err MarkEmpty)) set
    ∙ ap (λ w. Ok w) (get_or-map {X = Solved P} {Y = World} (λ s. s.world) solvers k s s.world within
    ∙ ap (λ (s : Solved P). s.world) (sym at))

pub rewound_scene : {P : Type 0} (seen : Kept) (bs : List Bool) (solvers : List (Solved P)) (k : ℕ) (w : World) (s : Solved P)
    → kept_by bs (worlds_in solvers) ≡ seen → FitTogether bs (worlds_in solvers) → nat_lt 7 k ≡ false → IsOfScene seen.scene w
    → s ≡ get_or solvers k s → AreOfOneScene w s.world
rewound_scene {P = P} seen bs solvers k w s is fit there of_scene at =
    of_scene
    ∙ sym (ap (λ (s : Kept). s.scene) is)
    ∙ sym (ap (λ (s : Solved P). unchanging s.world) at ∙ world_of_scene (scene_of (worlds_in solvers)) solvers k s
    (omega (arith, ltb-false 7 k there, fit.eight)) fit.of_scene)

-- ---- marks that are opened

pub one_more : {P : Type 0} (w : World) (n : ℕ) (solvers : List (Solved P)) (solver : Solved P) → AreOpened w n (worlds_in solvers)
    → solver.world ≡ w → AreOpened w (n + 1) (worlds_in (solvers ++ solver ∷ []))
one_more {P = P} w n solvers solver so_far is =
    subst (λ (ws : List World). AreOpened w (n + 1) ws) (sym (map-append {A = Solved P} {B = World} (λ s. s.world) solvers (solver ∷ [])))
    (record {
      many = omega (arith, so_far.many, length-append (worlds_in solvers) (solver.world ∷ []));
      opened = All-push (λ v. v ≡ w) (worlds_in solvers) solver.world so_far.opened is;
    })

same_by_recursion : {X : Type 0} (x : X) (xs : List X) → AllByRecursion (λ y. y ≡ x) xs → xs ≡ replicate (length xs) x
same_by_recursion x [] all = refl
same_by_recursion x (y ∷ ys) all = ap (λ z. z ∷ ys) all.0 ∙ ap (λ zs. x ∷ zs) (same_by_recursion x ys all.1)

eight_alike : (w : World) (ws : List World) → AreOpened w 8 ws → ws ≡ replicate 8 w
eight_alike w ws are = same_by_recursion w ws (recursion_from_All (λ v. v ≡ w) ws are.opened) ∙ ap (λ n. replicate n w) are.many

-- what eight empty marks are seen as
pub record AreFirst (w : World) (ws : List World) : Type 0 where
  pub fit : FitTogether none_set ws
  pub scene : scene_of ws ≡ unchanging w
  pub marks : marked none_set ws ≡ no_marks

eight_first : (w : World) → AreFirst w (replicate 8 w)
eight_first w = record {
  fit = record {
    eight_set = refl;
    eight = refl;
    of_scene = All-replicate (IsOfScene (unchanging w)) 8 w refl;
    kept = record { eight = refl; worlds = All-replicate (λ mark. IfSome mark (IsMarkOf (unchanging w))) 8 None tt };
  };
  scene = refl;
  marks = refl;
}

opened_first : (w : World) (ws : List World) → AreOpened w 8 ws → AreFirst w ws
opened_first w ws are = subst (λ (vs : List World). AreFirst w vs) (sym (eight_alike w ws are)) (eight_first w)

pub with_first : (w v : World) (ws : List World) → v ≡ w → AreOpened w 7 ws → AreFirst w (v ∷ ws)
with_first w v ws is others = opened_first w (v ∷ ws) (record {
  many = omega (arith, others.many);
  opened = All-from_recursion (λ u. u ≡ w) (v ∷ ws) (is, recursion_from_All (λ u. u ≡ w) ws others.opened);
})
