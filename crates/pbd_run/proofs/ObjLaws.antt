-- A session that is written as OBJ text, one command after another.
use Rattle.std.proofs.Common.{◌≡◌, ap, refl, ℕ, ◌+◌, List, [], ◌∷◌, ◌++◌}
use Rattle.std.specs.Prelude.{if◌then◌else◌}
use Rattle.pbd_world.specs.declared.command.Command.{Command}
use Rattle.pbd_world.specs.Meaning.{after, reply}
use Rattle.pbd_world.specs.Session.{is_refused, refused_count}
use Rattle.pbd_world.specs.World.{World}
use Rattle.pbd_obj.specs.declared.mesh.ObjMesh.{ObjMesh}
use Rattle.pbd_outcome.specs.ObjText.{obj_session_text, obj_text}
use Rattle.pbd_run.specs.Serving.{served_refusals, served_text}

pub served_obj : (base : ℕ) (mesh : ObjMesh) (w : World) (cs : List Command)
    → served_text after (λ w c. obj_text base mesh (after w c) (reply w c)) w cs ≡ obj_session_text base mesh w cs
unfolding served_text obj_session_text
served_obj base mesh w [] = refl
served_obj base mesh w (c ∷ cs) = ap (λ t. obj_text base mesh (after w c) (reply w c) ++ t) (served_obj base mesh (after w c) cs)

pub refused_commands : (w : World) (cs : List Command) → served_refusals after (λ w c. is_refused (reply w c)) w cs ≡ refused_count w cs
unfolding served_refusals refused_count
refused_commands w [] = refl
refused_commands w (c ∷ cs) = ap (λ n. (if is_refused (reply w c) then 1 else 0) + n) (refused_commands (after w c) cs)
