-- The mesh that the lines of a text give, or the first bad line's fault.
use Rattle.std.specs.Prelude.{◌≡◌, ◌⊎◌, ℕ, ◌-◌, nat_le, pos, Bool, ◌&&◌, ◌==◌, if◌then◌else◌, bytes_eq, codes, List, [], ◌∷◌, ◌++◌, length}
use Rattle.std.specs.Prelude.{Option, Some, None, Result, Ok, Err}
use Rattle.std.specs.Bool.{MatchBool}
use Rattle.std.specs.List.{before_first, enumerate_from}
use Rattle.std.specs.Option.{option_map, option_and_then}
use Rattle.std.specs.Str.Lines.{strip_carriage_return}
use Rattle.pbd_num.specs.declared.Vec3.{Vec3}
use Rattle.pbd_num.specs.Vectors.{is_within}
use Rattle.pbd_script.specs.Commands.{vector_of}
use Rattle.pbd_script.specs.Lines.{pieces, words}
use Rattle.pbd_world.specs.Outcomes.{in_turn}
use Rattle.pbd_world.specs.Valid.{none_twice}
use Rattle.pbd_obj.specs.declared.mesh.ObjMesh.{ObjMesh}
use Rattle.pbd_obj.specs.declared.mesh.ObjFault.{ObjFault}
use Rattle.pbd_obj.specs.declared.mesh.ObjFault.TheVariants.{BadNumber, BadFace, OutOfRange, OutOfMemory}
use Rattle.pbd_obj.specs.Decimals.{is_minus, short_count, units_of}

-- ---- vertices

-- the first three words behind `v`
abbrev pub vertex : List (List ℕ) → Option Vec3
vertex (x ∷ y ∷ z ∷ more) = vector_of (units_of x) (units_of y) (units_of z)
vertex words = None

abbrev pub with_vertex : ℕ → ObjMesh → Option Vec3 → Result ObjMesh ObjFault
with_vertex line mesh None = Err (BadNumber line)
with_vertex line mesh (Some place) =
    if is_within (pos 536870912) place
    then Ok (record mesh { places = mesh.places ++ place ∷ [] })
    else Err (OutOfRange line)

-- ---- faces

abbrev pub is_slash : ℕ → Bool
is_slash b = b == 47

-- without the one `-` that may stand before it
abbrev pub without_minus : List ℕ → List ℕ
without_minus [] = []
without_minus (b ∷ rest) = if b == 45 then rest else b ∷ rest

-- vertex k of n, counted from 1, from the first on or from the last back; as a number from 0
abbrev pub kth_vertex : ℕ → Bool → ℕ → Option ℕ
kth_vertex n from_last k = if nat_le 1 k && nat_le k n then Some (if from_last then n - k else k - 1) else None

-- up to the first `/`: perhaps `-`, and 1 to 9 digits
abbrev pub named_by : ℕ → List ℕ → Option ℕ
named_by n part = option_and_then (λ k. kth_vertex n (is_minus part) k) (short_count 9 (without_minus part))

-- which of n vertices a word names
unfoldable pub corner : ℕ → List ℕ → Option ℕ
corner n word = named_by n (before_first is_slash word)

-- what each word names, where each names a vertex
abbrev pub corners : ℕ → List (List ℕ) → Option (List ℕ)
corners n [] = Some []
corners n (word ∷ words) = option_and_then (λ c. option_map (λ cs. c ∷ cs) (corners n words)) (corner n word)

-- at least three corners, and none twice
abbrev pub is_face : List ℕ → Bool
is_face face = nat_le 3 (length face) && none_twice {A = ℕ} (λ a b. a == b) face

-- the words behind `f`
abbrev pub face : ℕ → List (List ℕ) → Option (List ℕ)
face n words = option_and_then (λ cs. if is_face cs then Some cs else None) (corners n words)

abbrev pub with_face : ℕ → ObjMesh → Option (List ℕ) → Result ObjMesh ObjFault
with_face line mesh None = Err (BadFace line)
with_face line mesh (Some face) = Ok (record mesh { sizes = mesh.sizes ++ length face ∷ []; corners = mesh.corners ++ face })

-- ---- lines

-- a mesh with what a line of these words adds; a line is read past that begins with another word or with none
abbrev pub with_words : ℕ → ObjMesh → List (List ℕ) → Result ObjMesh ObjFault
with_words line mesh [] = Ok mesh
with_words line mesh (word ∷ words) =
    if bytes_eq word (codes "v") then with_vertex line mesh (vertex words) else
    if bytes_eq word (codes "f") then with_face line mesh (face (length mesh.places) words) else
    Ok mesh

unfoldable pub with_line : ℕ × List ℕ → ObjMesh → Result ObjMesh ObjFault
with_line line mesh = with_words line.0 mesh (words (strip_carriage_return line.1))

abbrev pub no_mesh : ObjMesh
no_mesh = record { places = []; sizes = []; corners = [] }

-- line by line, counted from 1
unfoldable pub read : List ℕ → Result ObjMesh ObjFault
read text = in_turn with_line (enumerate_from 1 (pieces text)) no_mesh

-- a fault is that of what was to come, or want of memory
abbrev pub IsFaultOf : {T : Type 0} → Result T ObjFault → ObjFault → Type 0
IsFaultOf meant fault = (fault ≡ OutOfMemory) ⊎ (meant ≡ Err fault)

-- the corners of a face were pushed, or the words name none
abbrev pub PushesFace : Option (List ℕ) → List ℕ → List ℕ → Bool → Type 0
PushesFace meant old new is = MatchBool is ((f : List ℕ) × (meant ≡ Some f) × (new ≡ old ++ f)) (meant ≡ None)
