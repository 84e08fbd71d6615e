-- What is written, piece by piece.
use Rattle.std.proofs.Common.{◌≡◌, ◌∙◌, sym, ap, refl, ℕ, zero, suc, ◌+◌, ◌-◌, ◌*◌, ◌/◌, ◌%◌, ◌<◌, ◌≤◌, List, [], ◌∷◌, ◌++◌, length, map}
use Rattle.std.proofs.Common.{arith, append_assoc, append-nil, codes, decimal, length-append, ℤ, unsigned_abs}
use Rattle.std.specs.Prelude.{◌==◌, if◌then◌else◌}
use Rattle.std.specs.List.{flat_map}
use Rattle.std.proofs.lemmas.Bool.{ne_eqb}
use Rattle.pbd_num.specs.declared.Vec3.{Vec3}
use Rattle.pbd_world.specs.Text.{line}
use Rattle.pbd_obj.specs.Writing.{coordinate, corner_text, decimals, face_line, fraction, sign, vertex_line}

-- ---- decimals

some_digits : (old mid new digits : List ℕ) (n : ℕ) → 0 < n → mid ≡ old ++ 46 ∷ [] → new ≡ mid ++ digits
    → new ≡ old ++ (if n == 0 then [] else 46 ∷ digits)
some_digits old mid new digits n some point rest = rw (ne_eqb n 0 (λ (e : n ≡ 0). absurd (omega (arith, some, e))))
    (rest ∙ ap (λ m. m ++ digits) point ∙ append_assoc old (46 ∷ []) digits)

-- a point and the decimals, where there are any
pub fraction_some : (old mid new : List ℕ) (n : ℕ) → 0 < n → mid ≡ old ++ 46 ∷ [] → new ≡ mid ++ decimals 16 n → new ≡ old ++ fraction n
fraction_some old mid new n some point rest = some_digits old mid new (decimals 16 n) n some point rest

pub fraction_none : (old : List ℕ) (n : ℕ) → n ≤ 0 → old ≡ old ++ fraction n
fraction_none old n none = let e : n ≡ 0 = omega (arith, none) in rw e (sym (append-nil old))

-- the decimals of n so far, and those that are left of the rest
pub record DecimalsSoFar (n : ℕ) (start now : List ℕ) (rest count : ℕ) : Type 0 where
  pub bytes : now ++ decimals (16 - count) rest ≡ start ++ decimals 16 n
  pub size : length now ≤ length start + count
  pub small : rest < 65536

pub decimals_begin : (n : ℕ) (start : List ℕ) → n < 65536 → DecimalsSoFar n start start n 0
decimals_begin n start small = record { bytes = refl; size = omega arith; small = small }

pub decimals_more : (k rest : ℕ) → (rest ≡ 0 → ⊥) → decimals (suc k) rest ≡ (48 + rest * 10 / 65536) ∷ decimals k (rest * 10 % 65536)
decimals_more k rest some = rw (ne_eqb rest 0 some) refl

decimals_zero : (k : ℕ) → decimals k 0 ≡ []
decimals_zero zero = refl
decimals_zero (suc k) = refl

pub decimals_next : (n : ℕ) (start old now : List ℕ) (rest count : ℕ) → DecimalsSoFar n start old rest count → count < 16 → (rest ≡ 0 → ⊥)
    → now ≡ old ++ (48 + rest * 10 / 65536) ∷ [] → DecimalsSoFar n start now (rest * 10 % 65536) (count + 1)
decimals_next n start old now rest count so_far lt some push =
    let left : 16 - count ≡ suc (16 - (count + 1)) = omega (arith, lt) in
    let digit = 48 + rest * 10 / 65536 in
    let all : now ++ decimals (16 - (count + 1)) (rest * 10 % 65536) ≡ old ++ decimals (16 - count) rest =
    rw (left, decimals_more (16 - (count + 1)) rest some, push)
    (append_assoc old (digit ∷ []) (decimals (16 - (count + 1)) (rest * 10 % 65536))) in
    record {
      bytes = all ∙ so_far.bytes;
      size = rw push (omega (arith, so_far.size, length-append old (digit ∷ [])));
      small = omega arith;
    }

pub decimals_zero_ends : (n : ℕ) (start now : List ℕ) (rest count : ℕ) → DecimalsSoFar n start now rest count → rest ≡ 0
    → now ≡ start ++ decimals 16 n
decimals_zero_ends n start now rest count so_far is =
    let none : decimals (16 - count) rest ≡ [] = rw is (decimals_zero (16 - count)) in
    sym (append-nil now) ∙ (ap (λ t. now ++ t) (sym none) ∙ so_far.bytes)

pub decimals_all_end : (n : ℕ) (start now : List ℕ) (rest count : ℕ) → DecimalsSoFar n start now rest count → 16 ≤ count
    → now ≡ start ++ decimals 16 n
decimals_all_end n start now rest count so_far le =
    let none : 16 - count ≡ 0 = omega (arith, le) in
    sym (append-nil now) ∙ (ap (λ k. now ++ decimals k rest) (sym none) ∙ so_far.bytes)

-- ---- the line of a face

mapped : {X : Type 0} (f : X → List ℕ) (xs : List X) → flat_map (λ w. 32 ∷ w) (map {A = X} {B = List ℕ} f xs) ≡ flat_map (λ x. 32 ∷ f x) xs
mapped f [] = refl
mapped f (x ∷ xs) = ap (λ t. (32 ∷ f x) ++ t) (mapped f xs)

line_is : (w : List ℕ) (ws : List (List ℕ)) → line (w ∷ ws) ≡ w ++ (flat_map (λ v. 32 ∷ v) ws ++ 10 ∷ [])
line_is w [] = refl
line_is w (next ∷ ws) = ap (λ t. w ++ 32 ∷ t) (line_is next ws ∙ sym (append_assoc next (flat_map (λ v. 32 ∷ v) ws) (10 ∷ [])))

pub face_line_is : (base : ℕ) (corners : List ℕ) → face_line base corners ≡ codes "f"
    ++ (flat_map (λ corner. corner_text (base + corner + 1)) corners ++ codes "\n")
unfolding face_line
face_line_is base corners = line_is (codes "f") (map (λ corner. decimal (base + corner + 1)) corners)
    ∙ ap (λ t. codes "f" ++ (t ++ codes "\n")) (mapped (λ corner. decimal (base + corner + 1)) corners)

-- ---- the line of a vertex

pub coordinate_is : (old : List ℕ) (u : ℤ) (n : ℕ) → n ≡ unsigned_abs u
    → ((old ++ sign u) ++ decimal (n / 65536)) ++ fraction (n % 65536) ≡ old ++ coordinate u
unfolding coordinate
coordinate_is old u n is = rw is (append_assoc (old ++ sign u) (decimal (unsigned_abs u / 65536)) (fraction (unsigned_abs u % 65536))
    ∙ append_assoc old (sign u) (decimal (unsigned_abs u / 65536) ++ fraction (unsigned_abs u % 65536)))

pub vertex_line_is : (place : Vec3) → ((((((([] ++ codes "v ") ++ coordinate place.x) ++ codes " ") ++ coordinate place.y) ++ codes " ")
    ++ coordinate place.z) ++ codes "\n") ≡ vertex_line place
unfolding vertex_line
vertex_line_is place = pieces7 (codes "v ") (coordinate place.x) (codes " ") (coordinate place.y) (codes " ") (coordinate place.z)
    (codes "\n")
  where
    pieces7 : (a b c d e f g : List ℕ) → (((((a ++ b) ++ c) ++ d) ++ e) ++ f) ++ g ≡ a ++ (b ++ (c ++ (d ++ (e ++ (f ++ g)))))
    pieces7 a b c d e f g = simp append_assoc refl
