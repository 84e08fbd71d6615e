-- The scene of a run: its parts, its limit, and what stops it.
use Rattle.std.proofs.Common.{◌≡◌, ap, refl, ℕ, ℤ, false, List, [], Option, Some, None, Result, Ok, Err, ◌⊎◌, inl, inr}
use Rattle.std.specs.Str.{is_utf8}
use Rattle.std.specs.Io.KnownBytes.{Keeps}
use Rattle.toml.specs.Data.{Members}
use Rattle.pbd_world.specs.declared.parts.Parts.{Parts}
use Rattle.pbd_world.specs.Outcomes.{◌>>=◌}
use Rattle.pbd_scene.specs.Scene as scene
use Rattle.pbd_scene.specs.declared.fault.SceneFault.{SceneFault}
use Rattle.pbd_scene.specs.declared.fault.SceneFault.TheVariants as faults
use Rattle.pbd_run.specs.declared.scene.SceneStop.{SceneStop}
use Rattle.pbd_run.specs.declared.scene.SceneStop.TheVariants.{NotText, Fault}
use Rattle.pbd_outcome.specs.declared.status.Status.{Status}
use Rattle.pbd_outcome.specs.declared.status.Status.TheVariants.{SceneNotText, OutOfMemory}
use Rattle.pbd_outcome.specs.Outcome.{Outcome, parts_in, scene_in, settled, stops, tree_in}
use Rattle.pbd_run.specs.Calls.{Does, EndsForScene, Stops}

-- ---- what was read

pub no_text : (limit : ℤ) (bytes : List ℕ) → is_utf8 bytes ≡ false → scene_in limit bytes ≡ Err (stops SceneNotText [])
unfolding scene_in
no_text limit bytes e = rw e refl

pub parts_read : (limit : ℤ) (tree : Option Members) (parts : Parts) → scene.Reads limit (Ok parts) tree → tree_in limit tree ≡ Ok parts
parts_read limit None parts reads = absurd reads
parts_read limit (Some t) parts reads = ap parts_in reads

neither : {A B : Type 0} → A ⊎ B → (A → ⊥) → (B → ⊥) → ⊥
neither (inl a) f g = f a
neither (inr b) f g = g b

pub fault_read : (limit : ℤ) (tree : Option Members) (fault : SceneFault) → scene.Reads limit (Err fault) tree
    → Stops (Fault fault) (tree_in limit tree)
fault_read limit tree faults.OutOfMemory reads = tt
fault_read limit None faults.NotToml reads = refl
fault_read limit (Some t) faults.NotToml reads = absurd reads
fault_read limit None (faults.Refused rule table position key) reads = absurd (neither reads (λ e. cc) (λ e. cc))
fault_read limit (Some t) (faults.Refused rule table position key) reads = ap parts_in reads

-- ---- what stops a run

stopped : (r : Result Parts Outcome) (then : Parts → Result Outcome Outcome) (o : Outcome) (a b : Option (List ℕ)) (m n : ℕ) (s : Status)
    → r ≡ Err o → Does o a b m n s → Does (settled (r >>= then)) a b m n s
stopped r then o a b m n s is does = rw is does

pub gave_up : (o : Outcome) (a b : Option (List ℕ)) (m n : ℕ) (s : Status) → s ≡ OutOfMemory → Keeps a b → Does o a b m n s
gave_up o a b m n s is keeps = rw is keeps

-- whatever was to be done with the parts
pub scene_ended : (why : SceneStop) (r : Result Parts Outcome) (then : Parts → Result Outcome Outcome) (a b : Option (List ℕ)) (m n : ℕ)
    (s : Status) → Stops why r → EndsForScene why a b m n s → Does (settled (r >>= then)) a b m n s
scene_ended NotText r then a b m n s stops does = stopped r then _ a b m n s stops does
scene_ended (Fault faults.NotToml) r then a b m n s stops does = stopped r then _ a b m n s stops does
scene_ended (Fault (faults.Refused rule table position key)) r then a b m n s stops does = stopped r then _ a b m n s stops does
scene_ended (Fault faults.OutOfMemory) r then a b m n s stops does = gave_up (settled (r >>= then)) a b m n s does.0 does.1
