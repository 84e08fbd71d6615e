-- The thirds of an input: what its mesh and its halves come to together.
use Rattle.std.proofs.Common.{◌≡◌, ◌∙◌, ap, refl, ℕ, List, [], length, Option, Some, None, Result, Ok, Err, inl, inr}
use Rattle.pbd_world.specs.declared.parts.Parts.{Parts}
use Rattle.pbd_world.specs.Outcomes.{◌>>=◌}
use Rattle.pbd_obj.specs.declared.mesh.ObjMesh.{ObjMesh}
use Rattle.pbd_obj.specs.declared.mesh.ObjFault.{ObjFault}
use Rattle.pbd_obj.specs.declared.mesh.ObjFault.TheVariants.{BadNumber, BadFace, OutOfRange, TooMany, TooManyAtParticle, OutOfMemory}
use Rattle.pbd_obj.specs.MeshLinks.{with_mesh}
use Rattle.pbd_obj.specs.Reading.{IsFaultOf, read}
use Rattle.pbd_outcome.specs.declared.status.Status.{Status}
use Rattle.pbd_outcome.specs.declared.status.Status.TheVariants.{NoScript}
use Rattle.pbd_outcome.specs.Outcome.{Outcome, halves_in, mesh_in, meshed, obj_refused, range, scene_in, settled, stops}
use Rattle.pbd_outcome.specs.Split.{split}
use Rattle.pbd_run.specs.Calls.{Does, EndsForMesh, HasHalves, HasMesh, StopsAtHalves, on_halves, with_text}
use Rattle.pbd_run.specs.Forms.{obj_on}
use Rattle.pbd_run.proofs.InputLaws.{of_halves}
use Rattle.pbd_run.proofs.SceneLaws.{gave_up}

-- ---- by the parts

-- what a mesh's text comes to with the halves behind it
on_text : List ℕ → List ℕ → Parts → List ℕ → Outcome
on_text text scene parts script = settled (mesh_in (read text) >>= λ mesh. mesh_in (with_mesh mesh parts) >>= λ whole.
    Ok (obj_on (length parts.particles) mesh whole script))

nested : {A B : Type 0} (r : Result A Outcome) (s : A → Result B Outcome) (f : A → B → Result Outcome Outcome)
    → settled (r >>= λ a. s a >>= λ b. f a b) ≡ settled (r >>= λ a. s a >>= λ b. Ok (settled (f a b)))
nested (Ok a) s f = one (s a) (f a)
  where
    one : {B : Type 0} (s : Result B Outcome) (f : B → Result Outcome Outcome) → settled (s >>= f) ≡ settled (s >>= λ b. Ok (settled (f b)))
    one (Ok b) f = refl
    one (Err o) f = refl
nested (Err o) s f = refl

then_halves : (input : List ℕ) (outer : List ℕ × List ℕ) → split input ≡ Some outer → meshed input ≡ on_halves (on_text outer.0) outer.1
unfolding meshed on_text obj_on
then_halves input outer is = rw is (nested (halves_in (split outer.1)) (λ h. scene_in range h.0) _)

-- ---- what stops a run

pub no_outer : (input : List ℕ) (a b : Option (List ℕ)) (m n : ℕ) (s : Status) → split input ≡ None → Does (stops NoScript []) a b m n s
    → Does (meshed input) a b m n s
unfolding meshed
no_outer input a b m n s none does = rw none does

pub halves_stop : (input text rest : List ℕ) (a b : Option (List ℕ)) (m n : ℕ) (s : Status) → split input ≡ Some (text, rest)
    → StopsAtHalves rest a b m n s → Does (meshed input) a b m n s
halves_stop input text rest a b m n s is stopped = rw (then_halves input (text, rest) is) (stopped (on_text text))

faulty : {A : Type 0} (r : Result A ObjFault) (then : A → Result Outcome Outcome) (fault : ObjFault) → r ≡ Err fault
    → settled (mesh_in r >>= then) ≡ obj_refused fault
faulty r then fault is = rw is refl

refused : {A B : Type 0} (r : Result A ObjFault) (f : A → Result B ObjFault) (g : A → B → Result Outcome Outcome) (fault : ObjFault)
    → (r >>= f) ≡ Err fault → settled (mesh_in r >>= λ a. mesh_in (f a) >>= g a) ≡ obj_refused fault
refused (Ok a) f g fault is = faulty (f a) (g a) fault is
refused (Err e) f g fault is = let same : e ≡ fault = cc in ap obj_refused same

-- a fault other than want of memory is that of what was to come
meant : {A : Type 0} (r : Result A ObjFault) (fault : ObjFault) → (fault ≡ OutOfMemory → ⊥) → IsFaultOf r fault → r ≡ Err fault
meant r fault other (inl memory) = absurd (other memory)
meant r fault other (inr is) = is

ended : {A : Type 0} (r : Result A ObjFault) (fault : ObjFault) (o : Outcome) (a b : Option (List ℕ)) (m n : ℕ) (s : Status)
    → IsFaultOf r fault → (r ≡ Err fault → o ≡ obj_refused fault) → EndsForMesh fault a b m n s → Does o a b m n s
ended r (BadNumber line) o a b m n s is same does = rw (same (meant r (BadNumber line) (λ e. cc) is)) does
ended r (BadFace line) o a b m n s is same does = rw (same (meant r (BadFace line) (λ e. cc) is)) does
ended r (OutOfRange line) o a b m n s is same does = rw (same (meant r (OutOfRange line) (λ e. cc) is)) does
ended r TooMany o a b m n s is same does = rw (same (meant r TooMany (λ e. cc) is)) does
ended r (TooManyAtParticle vertex) o a b m n s is same does = rw (same (meant r (TooManyAtParticle vertex) (λ e. cc) is)) does
ended r OutOfMemory o a b m n s is same does = gave_up o a b m n s does.0 does.1

text_refused : (text scene : List ℕ) (parts : Parts) (script : List ℕ) (fault : ObjFault) → (with_text text parts) ≡ Err fault
    → on_text text scene parts script ≡ obj_refused fault
unfolding on_text
text_refused text scene parts script fault is = refused (read text) (λ mesh. with_mesh mesh parts) _ fault is

pub mesh_stops : (input text rest scene : List ℕ) (parts : Parts) (script : List ℕ) (fault : ObjFault) (a b : Option (List ℕ)) (m n : ℕ)
    (s : Status) → split input ≡ Some (text, rest) → HasHalves rest scene parts script → IsFaultOf (with_text text parts) fault
    → EndsForMesh fault a b m n s → Does (meshed input) a b m n s
mesh_stops input text rest scene parts script fault a b m n s is has of does =
    rw (then_halves input (text, rest) is ∙ of_halves (on_text text) rest scene parts script has)
    (ended (with_text text parts) fault (on_text text scene parts script) a b m n s of (text_refused text scene parts script fault) does)

-- ---- a mesh in its scene

text_gave : (text scene : List ℕ) (parts : Parts) (script : List ℕ) (mesh : ObjMesh) (base : ℕ) (whole : Parts)
    → HasMesh text parts mesh base whole → on_text text scene parts script ≡ obj_on base mesh whole script
unfolding on_text
text_gave text scene parts script mesh base whole has = rw (has.gives, has.makes, has.first) refl

pub thirds_are : (input text rest scene : List ℕ) (parts : Parts) (script : List ℕ) (mesh : ObjMesh) (base : ℕ) (whole : Parts)
    → split input ≡ Some (text, rest) → HasHalves rest scene parts script → HasMesh text parts mesh base whole
    → meshed input ≡ obj_on base mesh whole script
thirds_are input text rest scene parts script mesh base whole is has gave =
    then_halves input (text, rest) is ∙ of_halves (on_text text) rest scene parts script has
    ∙ text_gave text scene parts script mesh base whole gave
