-- Worked rows: what the definitions compute.
use Rattle.std.specs.Prelude.{◌≡◌, ◌+◌, true, refl, ℕ, ℤ, pos, neg_ℤ, List, [], ◌∷◌, map, codes, Option, Some, None, Ok, Err}
use Rattle.std.specs.Fmt.{digits}
use Rattle.pbd_num.specs.declared.Vec3.{Vec3}
use Rattle.pbd_num.specs.Rounding.{rdiv, root}
use Rattle.pbd_world.specs.declared.parts.Link.{Link}
use Rattle.pbd_world.specs.declared.parts.Kind.{Kind}
use Rattle.pbd_world.specs.declared.parts.Kind.TheVariants.{Stretch, Shear, Bend}
use Rattle.pbd_obj.specs.declared.mesh.ObjMesh.{ObjMesh}
use Rattle.pbd_obj.specs.declared.mesh.ObjFault.{ObjFault}
use Rattle.pbd_obj.specs.declared.mesh.ObjFault.TheVariants.{BadNumber, BadFace, OutOfRange}
use Rattle.pbd_obj.specs.Decimals.{decimal, scaled, units, units_of}
use Rattle.pbd_obj.specs.Reading.{corner, with_line, read}
use Rattle.pbd_obj.specs.Facing.{edge, edges, facing}
use Rattle.pbd_obj.specs.declared.settings.MeshSettings.{MeshSettings}
use Rattle.pbd_obj.specs.Settings.{stiff, stiff_settings}
use Rattle.pbd_obj.specs.MeshLinks.{link, mesh_links}
use Rattle.pbd_obj.specs.declared.triangles.Triangle.{Triangle}
use Rattle.pbd_obj.specs.Triangles.{fan_triangle, triangles}
use Rattle.pbd_obj.specs.Writing.{coordinate, vertex_line, face_line, mesh_text}

-- ---- decimals

-- a word, and how many units it is
abbrev decimal_rows : List (List ℕ × Option ℤ)
decimal_rows =
    (codes "0.1", Some (pos 6554))
    ∷ (codes "1e-1", Some (pos 6554))
    -- half a unit, and half a unit below zero, are rounded away from it
    ∷ (codes "0.00000762939453125", Some (pos 1))
    ∷ (codes "-0.00000762939453125", Some (neg_ℤ (pos 1)))
    ∷ (codes "+2.", Some (pos 131072))
    ∷ (codes ".5E+1", Some (pos 327680))
    ∷ (codes "000000000000000000000000e99", Some (pos 0))
    -- no digit, two points, 25 digits, an exponent of three digits, and one of none
    ∷ (codes ".", None)
    ∷ (codes "1.2.3", None)
    ∷ (codes "0.000000000000000000000001", None)
    ∷ (codes "1e100", None)
    ∷ (codes "1e", None)
    ∷ []

decimals_are_read : map (λ row. units_of row.0) decimal_rows ≡ map (λ row. row.1) decimal_rows
unfolding units_of decimal units scaled rdiv
decimals_are_read = refl

-- ---- corners

-- a word, and the vertex of four that it names
abbrev corner_rows : List (List ℕ × Option ℕ)
corner_rows =
    (codes "1", Some 0)
    ∷ (codes "2/7", Some 1)
    ∷ (codes "-2//3", Some 2)
    -- no vertex 0, no plus, at most nine digits, and at least one
    ∷ (codes "-0", None)
    ∷ (codes "+1", None)
    ∷ (codes "0000000001", None)
    ∷ (codes "/3", None)
    ∷ []

corners_are_named : map (λ row. corner 4 row.0) corner_rows ≡ map (λ row. row.1) corner_rows
unfolding corner
corners_are_named = refl

-- ---- texts

-- a text, and why it is no mesh
abbrev bad_text_rows : List (List ℕ × ObjFault)
bad_text_rows =
    (codes "v 1 2", BadNumber 1)
    ∷ (codes "\nf 1 2 3", BadFace 2)
    ∷ (codes "v 8193 0 0", OutOfRange 1)
    ∷ []

faults_are_found : map (λ row. read row.0) bad_text_rows ≡ map (λ row. Err row.1) bad_text_rows
unfolding read with_line units_of decimal units scaled rdiv corner
faults_are_found = refl

place : ℕ → ℕ → ℕ → Vec3
place x y z = record { x = pos x; y = pos y; z = pos z }

square : ObjMesh
square = record {
  places = place 0 0 0 ∷ place 65536 0 0 ∷ place 65536 65536 0 ∷ place 0 65536 0 ∷ [];
  sizes = 4 ∷ [];
  corners = 0 ∷ 1 ∷ 2 ∷ 3 ∷ [];
}

square_is_read : read (codes "v 0 0 0\nv 1 0 0\r\nv 1 1 0 # the third\nv 0 1 0\n\nf 1 2/7 -2//3 4\n") ≡ Ok square
unfolding read with_line units_of decimal units scaled rdiv corner square place
square_is_read = refl

-- ---- lines

sixteen_places : coordinate (pos 1) ≡ codes "0.0000152587890625"
unfolding coordinate digits
sixteen_places = refl

below_zero : coordinate (neg_ℤ (pos 98304)) ≡ codes "-1.5"
unfolding coordinate digits
below_zero = refl

tenth_is_written : coordinate (pos 6554) ≡ codes "0.100006103515625"
unfolding coordinate digits
tenth_is_written = refl

face_is_written : face_line 3 (0 ∷ 1 ∷ 2 ∷ []) ≡ codes "f 4 5 6\n"
unfolding face_line digits
face_is_written = refl

square_is_written : mesh_text square ≡ codes "v 0 0 0\nv 1 0 0\nv 1 1 0\nv 0 1 0\nf 1 2 3 4\n"
unfolding mesh_text vertex_line face_line coordinate square place digits
square_is_written = refl

-- ---- links

-- a link of a mesh from particle 7 on
joins : Kind → ℕ → ℕ → ℕ → Link
joins kind a b rest = record { a = 7 + a; b = 7 + b; rest = pos rest; k = 256; tear = pos 0; kind = kind; live = true }

-- a square, and a triangle over half of it the other way round
folded : ObjMesh
folded = record {
  places = place 0 0 0 ∷ place 3 0 0 ∷ place 3 4 0 ∷ place 0 4 0 ∷ [];
  sizes = 4 ∷ 3 ∷ [];
  corners = 0 ∷ 1 ∷ 2 ∷ 3 ∷ 2 ∷ 1 ∷ 0 ∷ [];
}

doubles_are_left_out : mesh_links stiff_settings folded 7 ≡ joins Stretch 0 1 3 ∷ joins Stretch 1 2 4 ∷ joins Stretch 2 3 3
    ∷ joins Stretch 3 0 4 ∷ joins Stretch 0 2 5 ∷ joins Shear 1 3 5 ∷ []
unfolding mesh_links link root folded joins place
doubles_are_left_out = refl

-- ---- what faces each other

-- two triangles at the edge of 1 and 2
across_triangles : facing (edges ((0 ∷ 1 ∷ 2 ∷ []) ∷ (2 ∷ 1 ∷ 3 ∷ []) ∷ [])) ≡ (0, 3) ∷ (0, 3) ∷ (0, 3) ∷ (0, 3) ∷ []
unfolding facing edge
across_triangles = refl

-- two squares at the edge of 1 and 2
across_squares : facing (edges ((0 ∷ 1 ∷ 2 ∷ 3 ∷ []) ∷ (1 ∷ 4 ∷ 5 ∷ 2 ∷ []) ∷ [])) ≡ (0, 4) ∷ (3, 5) ∷ (0, 4) ∷ (3, 5) ∷ []
unfolding facing edge
across_squares = refl

-- three triangles at one edge
across_three : facing (edges ((0 ∷ 1 ∷ 2 ∷ []) ∷ (2 ∷ 1 ∷ 3 ∷ []) ∷ (1 ∷ 2 ∷ 4 ∷ []) ∷ [])) ≡ []
unfolding facing edge
across_three = refl

-- a triangle and its back
across_itself : facing (edges ((0 ∷ 1 ∷ 2 ∷ []) ∷ (2 ∷ 1 ∷ 0 ∷ []) ∷ [])) ≡ []
unfolding facing edge
across_itself = refl

-- two triangles, whose other corners are joined by one link that bends
bent : MeshSettings
bent = record { weight = 1; stretch = stiff; shear = stiff; bend = Some (record { stiffness = 40; tear = pos 9 }) }

pair_of_triangles : ObjMesh
pair_of_triangles = record {
  places = place 0 0 0 ∷ place 3 0 0 ∷ place 0 4 0 ∷ place 3 4 0 ∷ [];
  sizes = 3 ∷ 3 ∷ [];
  corners = 0 ∷ 1 ∷ 2 ∷ 2 ∷ 1 ∷ 3 ∷ [];
}

one_link_bends : mesh_links bent pair_of_triangles 7 ≡ joins Stretch 0 1 3 ∷ joins Stretch 1 2 5 ∷ joins Stretch 2 0 4 ∷ joins Stretch 1 3 4
    ∷ joins Stretch 3 2 3 ∷ record (joins Bend 0 3 5) { k = 40; tear = pos 9 } ∷ []
unfolding mesh_links link root pair_of_triangles joins place bent facing edge
one_link_bends = refl

-- ---- triangles

abbrev triangle : ℕ → ℕ → ℕ → Triangle
triangle a b c = record { a = a; b = b; c = c }

-- a triangle, a square and a face of five corners
fans : triangles (record { places = []; sizes = 3 ∷ 4 ∷ 5 ∷ []; corners = 2 ∷ 0 ∷ 1 ∷ 4 ∷ 5 ∷ 6 ∷ 7 ∷ 9 ∷ 8 ∷ 3 ∷ 2 ∷ 0 ∷ [] })
    ≡ triangle 2 0 1 ∷ triangle 4 5 6 ∷ triangle 4 6 7 ∷ triangle 9 8 3 ∷ triangle 9 3 2 ∷ triangle 9 2 0 ∷ []
unfolding fan_triangle
fans = refl
