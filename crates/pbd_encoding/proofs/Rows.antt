-- Worked rows: the bytes of a small world and of its scene, written out, and bytes that can and can not stand in it.
use Rattle.std.specs.Prelude.{◌≡◌, refl, ℕ, zero, suc, pos, neg_ℤ, Bool, true, false, List, [], ◌∷◌, ◌++◌, map}
use Rattle.pbd_num.specs.Vectors.{zero_vector}
use Rattle.pbd_world.specs.declared.parts.Kind.TheVariants.{Plain}
use Rattle.pbd_world.specs.Ledger.{Sum, zero_sum, zero_totals}
use Rattle.pbd_world.specs.Shapes.{no_shapes}
use Rattle.pbd_world.specs.World.{World}
use Rattle.pbd_log.specs.Entries.{number_bytes, signed_bytes, vector_bytes}
use Rattle.pbd_encoding.specs.Encoding.{wide_bytes, sum_bytes, header_bytes, head_bytes, first_totals_bytes, last_totals_bytes, state_bytes}
use Rattle.pbd_encoding.specs.Form.{is_foreign}
use Rattle.pbd_encoding.specs.Scene.{scene_head_bytes, link_bytes, key_bytes, plane_bytes, sphere_bytes, shape_bytes, scene_bytes}

-- n bytes of one value
abbrev pub many : ℕ → ℕ → List ℕ
many zero byte = []
many (suc n) byte = byte ∷ many n byte

abbrev sum : Sum
sum = record { x = pos 1; y = neg_ℤ (pos 1); z = pos 0 }

-- two particles, the second held, and a link between them that isn't live
abbrev small : World
small = record {
  limit = pos 268435456;
  steps = 258;
  particles = record { at = record { x = pos 1; y = neg_ℤ (pos 2); z = pos 65536 }; before = zero_vector; weight = 1; held = false }
      ∷ record { at = zero_vector; before = record { x = pos 3; y = pos 0; z = pos 0 }; weight = 1; held = true } ∷ [];
  links = record { a = 0; b = 1; rest = pos 1; k = 256; tear = pos 0; kind = Plain; live = false } ∷ [];
  tracks = [];
  shapes = no_shapes;
  gravity = record { x = pos 0; y = neg_ℤ (pos 10); z = pos 0 };
  passes = 4;
  damping = pos 0;
  thickness = pos 0;
  friction = pos 0;
  contacts = 5;
  totals = record zero_totals { damping = sum; pin = sum };
  opening = zero_sum;
}

sum_row : sum_bytes sum ≡ many 15 0 ++ 1 ∷ [] ++ many 16 255 ++ many 16 0
unfolding sum_bytes wide_bytes number_bytes
sum_row = refl

small_row : state_bytes (many 32 7) small ≡
    80 ∷ 66 ∷ 68 ∷ 83 ∷ 84 ∷ 65 ∷ 84 ∷ 1 ∷ [] ++ many 32 7
    ++ 0 ∷ 0 ∷ 0 ∷ 2 ∷ 0 ∷ 0 ∷ 0 ∷ 1 ∷ [] ++ many 48 0
    ++ many 6 0 ++ 1 ∷ 2 ∷ [] ++ many 8 0 ++ many 7 255 ++ 246 ∷ [] ++ many 8 0
    ++ many 7 0 ++ 1 ∷ [] ++ many 7 255 ++ 254 ∷ [] ++ many 5 0 ++ 1 ∷ 0 ∷ 0 ∷ [] ++ many 24 0
    ++ many 24 0 ++ many 7 0 ++ 3 ∷ [] ++ many 16 0
    ++ 0 ∷ 1 ∷ []
    ++ 0 ∷ []
    ++ 0 ∷ 0 ∷ 0 ∷ 5 ∷ [] ++ many 48 0 ++ many 15 0 ++ 1 ∷ [] ++ many 16 255 ++ many 16 0 ++ many 48 0
    ++ many 48 0 ++ many 48 0 ++ many 15 0 ++ 1 ∷ [] ++ many 16 255 ++ many 16 0
unfolding state_bytes head_bytes header_bytes first_totals_bytes last_totals_bytes sum_bytes wide_bytes vector_bytes signed_bytes
    number_bytes
small_row = refl

-- its scene, with a track and a plane: the settings and the opening, two weights, a link, the track with its one key, and the
-- plane
abbrev led : World
led = record small {
  tracks = record { particle = 1; keys = record { step = 7; place = zero_vector } ∷ [] } ∷ [];
  shapes = record no_shapes { planes = record { normal = record { x = pos 0; y = pos 1; z = pos 0 }; offset = neg_ℤ (pos 1) } ∷ [] };
}

led_row : scene_bytes led ≡
    many 4 0 ++ 16 ∷ 0 ∷ 0 ∷ 0 ∷ [] ++ 0 ∷ 0 ∷ 0 ∷ 4 ∷ [] ++ many 72 0
    ++ 0 ∷ 0 ∷ 0 ∷ 2 ∷ [] ++ 0 ∷ 1 ∷ [] ++ 0 ∷ 1 ∷ []
    ++ 0 ∷ 0 ∷ 0 ∷ 1 ∷ [] ++ 0 ∷ 0 ∷ 0 ∷ 0 ∷ 0 ∷ 0 ∷ 0 ∷ 1 ∷ [] ++ many 7 0 ++ 1 ∷ [] ++ 1 ∷ 0 ∷ [] ++ many 8 0 ++ 3 ∷ []
    ++ 0 ∷ 0 ∷ 0 ∷ 1 ∷ [] ++ 0 ∷ 0 ∷ 0 ∷ 1 ∷ 0 ∷ 0 ∷ 0 ∷ 1 ∷ [] ++ 0 ∷ 0 ∷ 0 ∷ 7 ∷ [] ++ many 24 0
    ++ 0 ∷ 0 ∷ 0 ∷ 1 ∷ [] ++ many 15 0 ++ 1 ∷ [] ++ many 8 0 ++ many 8 255
    ++ many 4 0
unfolding scene_bytes scene_head_bytes link_bytes key_bytes plane_bytes sphere_bytes shape_bytes sum_bytes wide_bytes vector_bytes
    signed_bytes number_bytes
led_row = refl

-- of two particles and a link the flags stand at 224 to 226: a header's byte has to be the header's, and a flag 0 or 1
foreign_rows : map {A = ℕ × ℕ} {B = Bool} (λ at_byte. is_foreign (many 96 7) 2 1 at_byte.0 at_byte.1)
    ((95, 7) ∷ (95, 8) ∷ (223, 255) ∷ (224, 2) ∷ (226, 1) ∷ (227, 255) ∷ [])
    ≡ false ∷ true ∷ false ∷ true ∷ false ∷ false ∷ []
foreign_rows = refl
