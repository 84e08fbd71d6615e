-- One pass by its three parts, and passes one after another.
use Rattle.std.proofs.Common.{◌≡◌, ap, sym, ◌∙◌, ℕ, suc, ◌+◌, ◌-◌, ◌*◌, ◌^◌, ◌<◌, ◌≤◌, min, add-mul, one-mul, Bool, List, arith, ℤ, Result}
use Rattle.std.proofs.Common.{Ok, Err, length}
use Rattle.pbd_world.specs.declared.command.Phase.TheVariants as phases
use Rattle.pbd_world.specs.declared.command.Refusal.{Refusal}
use Rattle.pbd_world.specs.declared.parts.Particle.{Particle}
use Rattle.pbd_world.specs.declared.parts.ShapeLists.{ShapeLists}
use Rattle.pbd_world.specs.Outcomes.{◌>>=◌, with_fault, repeated}
use Rattle.pbd_world.specs.Ledger.{Ledger}
use Rattle.pbd_world.specs.Particles.{Motion}
use Rattle.pbd_world.specs.World.{World}
use Rattle.pbd_world.specs.Work.{shapes_work}
use Rattle.pbd_world.specs.Shapes.{shapes_of}
use Rattle.pbd_world.specs.Bonds.{projected, contact_bond}
use Rattle.pbd_world.specs.Step.{Passing, pass, leaves, contact_order, link_part, contact_part, shape_part}
use Rattle.pbd_store.specs.Blocks.{blocks_of}
use Rattle.pbd_shape.specs.Shaping.{all_pushed, push_cost}

stage : {A C E F : Type 0} (f : E → F) (r : Result A E) (x : A) (k : A → Result C F) → r ≡ Ok x → (with_fault f r >>= k) ≡ k x
stage {A} {C} {E} {F} f r x k e = ap (λ (q : Result A E). with_fault f q >>= k) e

fails : {A C E F : Type 0} (f : E → F) (r : Result A E) (n : E) (k : A → Result C F) → r ≡ Err n → (with_fault f r >>= k) ≡ Err (f n)
fails {A} {C} {E} {F} f r n k e = ap (λ (q : Result A E). with_fault f q >>= k) e

module _ (w : World) (contacts : List (ℕ × ℕ)) (s : Passing) where
  abbrev shapes : Motion → Result Passing Refusal
  shapes n = with_fault (leaves w phases.Shape) (shape_part w (record s { motion = n }))

  abbrev touch : Motion → Result Passing Refusal
  touch m = with_fault (leaves w phases.Contact) (contact_part w contacts m) >>= shapes

  pub link_leaves : (n : ℕ) → link_part w s.motion ≡ Err n → pass w contacts s ≡ Err (leaves w phases.Link n)
  unfolding pass
  link_leaves n e = fails (leaves w phases.Link) (link_part w s.motion) n touch e

  module _ (m : Motion) (linked : link_part w s.motion ≡ Ok m) where
    linked_on : pass w contacts s ≡ touch m
    unfolding pass
    linked_on = stage (leaves w phases.Link) (link_part w s.motion) m touch linked

    pub contact_leaves : (n : ℕ) → contact_part w contacts m ≡ Err n → pass w contacts s ≡ Err (leaves w phases.Contact n)
    contact_leaves n e = linked_on ∙ fails (leaves w phases.Contact) (contact_part w contacts m) n shapes e

    module _ (k : Motion) (touched : contact_part w contacts m ≡ Ok k) where
      touched_on : pass w contacts s ≡ shapes k
      touched_on = linked_on ∙ stage (leaves w phases.Contact) (contact_part w contacts m) k shapes touched

      pub shape_leaves : (n : ℕ) → shape_part w (record s { motion = k }) ≡ Err n → pass w contacts s ≡ Err (leaves w phases.Shape n)
      shape_leaves n e = touched_on ∙ ap (with_fault (leaves w phases.Shape)) e

      pub pass_done : (t : Passing) → shape_part w (record s { motion = k }) ≡ Ok t → pass w contacts s ≡ Ok t
      pass_done t e = touched_on ∙ ap (with_fault (leaves w phases.Shape)) e

-- ---- the parts, by equal lists and numbers

pub contact_part_is : (w : World) (contacts found : List (ℕ × ℕ)) (l t : ℤ) (m : Motion) (r : Result Motion ℕ) → found ≡ contacts
    → l ≡ w.limit → t ≡ w.thickness → projected l (contact_bond t found) (contact_order found) m ≡ r → contact_part w contacts m ≡ r
contact_part_is w contacts found l t m r ef el et h = (λ i.
    projected (sym el i) (contact_bond (sym et i) (sym ef i)) (contact_order (sym ef i)) m) ∙ h

pub shape_part_is : (w : World) (s : Passing) (flags : List Bool) (l : ℤ) (lists : ShapeLists) (r : Result Passing ℕ)
    → flags ≡ s.touched → l ≡ w.limit → lists ≡ w.shapes
    → all_pushed l (shapes_of lists) (record s { touched = flags }) ≡ r → shape_part w s ≡ r
shape_part_is w s flags l lists r ef el es h =
    (λ i. all_pushed (sym el i) (shapes_of (sym es i)) (record s { touched = sym ef i })) ∙ h

-- what the shape part costs
pub shape_cost_is : (width many : ℕ) (w : World) (lists : ShapeLists) → lists ≡ w.shapes → many ≡ length w.particles
    → push_cost (shapes_of lists) (blocks_of many width) ≡ shapes_work width w
shape_cost_is width many w lists es em = λ i. push_cost (shapes_of (es i)) (blocks_of (em i) width)

-- a pass doesn't look at the particles and totals of its world
pub same_pass : (w v : World) (ps : List Particle) (t : Ledger) (contacts : List (ℕ × ℕ)) (s : Passing)
    → v ≡ record w { particles = ps; totals = t } → pass v contacts s ≡ pass w contacts s
unfolding pass
same_pass w v ps t contacts s e = ap (λ (u : World). pass u contacts s) e

-- ---- passes one after another

module _ (f : Passing → Result Passing Refusal) (n i : ℕ) (lt : i < n) (s : Passing) where
  next : repeated (n - i) f s ≡ (f s >>= repeated (n - (i + 1)) f)
  next = let e : n - i ≡ suc (n - (i + 1)) = omega (arith, lt) in ap (λ (k : ℕ). repeated k f s) e

  pub pass_on : (t : Passing) → f s ≡ Ok t → repeated (n - (i + 1)) f t ≡ repeated (n - i) f s
  pass_on t e = sym (next ∙ ap (λ (r : Result Passing Refusal). r >>= repeated (n - (i + 1)) f) e)

  pub pass_out : (e : Refusal) → f s ≡ Err e → repeated (n - i) f s ≡ Err e
  pass_out r e = next ∙ ap (λ (q : Result Passing Refusal). q >>= repeated (n - (i + 1)) f) e

pub passes_done : (f : Passing → Result Passing Refusal) (n i : ℕ) (s : Passing) → n ≤ i → repeated (n - i) f s ≡ Ok s
passes_done f n i s le = let e : n - i ≡ 0 = omega (arith, le) in ap (λ (k : ℕ). repeated k f s) e

pub passes_begin : (f : Passing → Result Passing Refusal) (n : ℕ) (s : Passing) → repeated (n - 0) f s ≡ repeated n f s
passes_begin f n s = let e : n - 0 ≡ n = omega arith in ap (λ (k : ℕ). repeated k f s) e

-- what is handed out in one pass more
pub counts_on : (before given next k i : ℕ) → given ≡ min (before + i * k) (2 ^ 64 - 1) → next ≡ min (given + k) (2 ^ 64 - 1)
    → next ≡ min (before + (i + 1) * k) (2 ^ 64 - 1)
counts_on before given next k i e h = let one : (i + 1) * k ≡ i * k + k = omega (arith, add-mul i 1 k, one-mul k) in
    omega (arith, one, e, h)
