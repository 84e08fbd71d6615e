-- What callers see of eight marks, and what holds of them.
use Rattle.std.specs.Prelude.{◌≡◌, pos, ℕ, Bool, false, if◌then◌else◌, List, [], ◌∷◌, length, map, Option, Some, None, All, IfSome}
use Rattle.pbd_world.specs.World.{World, IsSound, opened, unchanging, no_parts}
use Rattle.pbd_step.specs.Solving.{Solved}

-- the scene, as far as no command changes it, and the marks
pub record Kept : Type 0 where
  pub scene : World
  pub marks : List (Option World)

-- a world is of the scene
abbrev pub IsOfScene : World → World → Type 0
IsOfScene scene w = unchanging w ≡ scene

-- a sound world of the scene
pub record IsMarkOf (scene w : World) : Type 0 where
  pub sound : IsSound w
  pub of_scene : IsOfScene scene w

-- eight marks, each nothing or a sound world of the scene
pub record AreMarks (kept : Kept) : Type 0 where
  pub eight : length kept.marks ≡ 8
  pub worlds : All (λ mark. IfSome mark (IsMarkOf kept.scene)) kept.marks

-- ---- the worlds of the solvers, and which marks are set

abbrev pub worlds_in : {P : Type 0} → List (Solved P) → List World
worlds_in {P = P} solvers = map {A = Solved P} {B = World} (λ solver. solver.world) solvers

-- n times the world w
pub record AreOpened (w : World) (n : ℕ) (ws : List World) : Type 0 where
  pub many : length ws ≡ n
  pub opened : All (λ v. v ≡ w) ws

-- the scene of worlds of one scene, of which there is always one
abbrev pub scene_of : List World → World
scene_of [] = opened (no_parts (pos 0))
scene_of (w ∷ ws) = unchanging w

abbrev pub none_set : List Bool
none_set = false ∷ false ∷ false ∷ false ∷ false ∷ false ∷ false ∷ false ∷ []

-- the worlds whose marks are set
abbrev pub marked : List Bool → List World → List (Option World)
marked [] ws = []
marked (b ∷ bs) [] = []
marked (b ∷ bs) (w ∷ ws) = (if b then Some w else None) ∷ marked bs ws

abbrev pub kept_by : List Bool → List World → Kept
kept_by are_set ws = record { scene = scene_of ws; marks = marked are_set ws }

-- eight worlds of one scene, and what callers see of them
pub record FitTogether (are_set : List Bool) (ws : List World) : Type 0 where
  pub eight_set : length are_set ≡ 8
  pub eight : length ws ≡ 8
  pub of_scene : All (IsOfScene (scene_of ws)) ws
  pub kept : AreMarks (kept_by are_set ws)
