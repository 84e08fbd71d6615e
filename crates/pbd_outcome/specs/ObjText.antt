-- What `obj` writes: replies as OBJ text, and the line of a mesh that is refused.
use Rattle.std.specs.Prelude.{ℕ, codes, decimal, List, [], ◌∷◌, ◌++◌}
use Rattle.std.specs.List.{flat_map}
use Rattle.pbd_world.specs.declared.command.Command.{Command}
use Rattle.pbd_world.specs.declared.command.Reply.{Reply}
use Rattle.pbd_world.specs.declared.command.Reply.TheVariants.{Done, Frame, Ledger, Refused}
use Rattle.pbd_world.specs.declared.parts.Particle.{Particle}
use Rattle.pbd_world.specs.Meaning.{after, reply}
use Rattle.pbd_world.specs.Text.{header_line}
use Rattle.pbd_world.specs.World.{World}
use Rattle.pbd_obj.specs.declared.mesh.ObjMesh.{ObjMesh}
use Rattle.pbd_obj.specs.declared.mesh.ObjFault.{ObjFault}
use Rattle.pbd_obj.specs.declared.mesh.ObjFault.TheVariants.{BadNumber, BadFace, OutOfRange, TooMany, TooManyAtParticle, OutOfMemory}
use Rattle.pbd_obj.specs.Meshes.{faces}
use Rattle.pbd_obj.specs.Writing.{face_line, vertex_line}
use Rattle.pbd_session.specs.Printing.{text_after}
use Rattle.pbd_outcome.specs.Statuses.{error_line}

-- ---- replies

-- what stands before a line that is no part of a mesh, so that it is read past as a comment
abbrev pub comment : List ℕ
comment = codes "# "

-- the line of a vertex where a particle is
abbrev pub particle_line : Particle → List ℕ
particle_line p = vertex_line p.at

-- A frame is a mesh: all particles of the world as vertices, and then the faces of a mesh whose first vertex is particle
-- `base`.
unfoldable pub obj_frame : ℕ → ObjMesh → World → List ℕ
obj_frame base mesh w = (comment ++ header_line w) ++ (flat_map particle_line w.particles ++ flat_map (face_line base) (faces mesh))

-- a frame, or the lines of another reply as comments
unfoldable pub obj_text : ℕ → ObjMesh → World → Reply → List ℕ
obj_text base mesh w Frame = obj_frame base mesh w
obj_text base mesh w Done = text_after comment w Done
obj_text base mesh w Ledger = text_after comment w Ledger
obj_text base mesh w (Refused r) = text_after comment w (Refused r)

-- what a session writes so for its commands
unfoldable pub obj_session_text : ℕ → ObjMesh → World → List Command → List ℕ
obj_session_text base mesh w [] = []
obj_session_text base mesh w (c ∷ cs) = obj_text base mesh (after w c) (reply w c) ++ obj_session_text base mesh (after w c) cs

-- ---- a refused mesh

-- Want of memory writes no line, and has neither number nor name.
abbrev pub fault_number : ObjFault → ℕ
fault_number (BadNumber line) = 1
fault_number (BadFace line) = 2
fault_number (OutOfRange line) = 3
fault_number TooMany = 4
fault_number (TooManyAtParticle vertex) = 5
fault_number OutOfMemory = 0

abbrev pub fault_name : ObjFault → List ℕ
fault_name (BadNumber line) = codes "BadNumber"
fault_name (BadFace line) = codes "BadFace"
fault_name (OutOfRange line) = codes "OutOfRange"
fault_name TooMany = codes "TooMany"
fault_name (TooManyAtParticle vertex) = codes "TooManyAtParticle"
fault_name OutOfMemory = []

-- the line or the vertex at which it is, counted from 1, or 0
abbrev pub fault_place : ObjFault → ℕ
fault_place (BadNumber line) = line
fault_place (BadFace line) = line
fault_place (OutOfRange line) = line
fault_place TooMany = 0
fault_place (TooManyAtParticle vertex) = vertex
fault_place OutOfMemory = 0

unfoldable pub obj_line : ObjFault → List ℕ
obj_line fault =
    error_line (codes "14" ∷ codes "ObjRefused" ∷ decimal (fault_number fault) ∷ fault_name fault
    ∷ codes "at" ∷ decimal (fault_place fault) ∷ [])
