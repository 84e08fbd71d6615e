-- The header and the scene, read and written.
use Rattle.std.proofs.Common.{◌≡◌, ◌∙◌, sym, ap, subst, refl, ℕ, ◌^◌, ◌<◌, ◌≤◌, ◌⊎◌, inl, inr, true, false, ◌||◌, eqb, ltb, ℤ, pos, List}
use Rattle.std.proofs.Common.{[], ◌∷◌, ◌++◌, length, get_or, take, drop, Option, Some, None, Result, Ok, append_assoc, arith}
use Rattle.std.specs.Prelude.{unsigned_abs, IsTrue}
use Rattle.std.proofs.Math.Seq.{drop-cons}
use Rattle.std.proofs.lemmas.Bool.{eqb-true, ltb-false, le-ltb, and_parts, or_cases}
use Rattle.std.proofs.lemmas.List.{take_at, drop_at, take-append-drop, length-append, length-take}
use Rattle.std.proofs.lemmas.Bool.Decides.{Decides-int_eq}
use Rattle.std.proofs.lemmas.Slice.Eq.{bytes_eq-Decides}
use Rattle.pbd_world.specs.Valid.{is_limit}
use Rattle.pbd_log.specs.Laws.{IsBytes}
use Rattle.pbd_log.specs.Entries.{number_bytes}
use Rattle.pbd_log.specs.Logs.{name, IsKnown, IsVersion, opening_bytes, header_bytes}
use Rattle.pbd_log.specs.Reading.{◌>>>◌, or_at, Head, head_at, version_at, limit_at, scene_at, length_offset, number_at}
use Rattle.pbd_log.proofs.Numbers.{IsBytes-drop}
use Rattle.pbd_log.proofs.Fields.{Takes, takes_then, step_takes, some_is, guard_none, guard_some, number_field}

-- one of two numbers
pub limit_cases : (limit : ℤ) → IsTrue (is_limit limit) → (limit ≡ pos 268435456) ⊎ (limit ≡ pos 536870912)
limit_cases limit is = elim (or_cases _ _ is) [
  | inl e ↦ inl ((Decides-int_eq limit (pos 268435456)).0 e)
  | inr e ↦ inr
      ((Decides-int_eq limit (pos 536870912)).0 e)
]

pub version_takes : (bytes : List ℕ) (version : ℕ) (rest : List ℕ) → IsBytes bytes → version_at bytes ≡ Some (version, rest)
    → IsKnown version × Takes bytes (name ++ version ∷ []) rest
unfolding version_at
version_takes bytes version rest fits e =
    let g = guard_none _ _ _ e in
    let long : 8 ≤ length bytes = ltb-false _ _ g.0 in
    let h = guard_some _ _ _ g.1 in
    let a = and_parts _ _ h.0 in
    let named : take 7 bytes ≡ name = (bytes_eq-Decides (take 7 bytes) name).0 a.0 in
    let b = or_cases _ _ a.1 in
    let p = some_is (get_or bytes 7 0, drop 8 bytes) (version, rest) h.1 in
    let is : (get_or bytes 7 0 ≡ 1) ⊎ (get_or bytes 7 0 ≡ 2) = elim b [ inl t ↦ inl (eqb-true _ _ t) | inr t ↦ inr (eqb-true _ _ t) ] in
    let behind : drop 7 bytes ≡ get_or bytes 7 0 ∷ drop 8 bytes = drop-cons bytes 7 0 (omega arith) in
    let parts : bytes ≡ name ++ (get_or bytes 7 0 ∷ drop 8 bytes) = sym (take-append-drop 7 bytes)
    ∙ ap (λ (t : List ℕ). t ++ drop 7 bytes) named ∙ ap (λ (t : List ℕ). name ++ t) behind in
    subst (λ (q : ℕ × List ℕ). IsKnown q.0 × Takes bytes (name ++ q.0 ∷ []) q.1) p
    (is, record { parts = parts; rest_fits = IsBytes-drop 8 bytes fits })

read_limit : (n : ℕ) → (eqb n 268435456 || eqb n 536870912) ≡ true → IsTrue (is_limit (pos n))
read_limit n is =
    let P : ℕ → Type 0 = λ m. IsTrue (is_limit (pos m)) in
    let old : P 268435456 = refl in
    let new : P 536870912 = refl in
    elim (or_cases (eqb n 268435456) (eqb n 536870912) is)
    [ inl e ↦ subst P (sym (eqb-true n 268435456 e)) old | inr e ↦ subst P (sym (eqb-true n 536870912 e)) new ]

limit_takes : (bytes : List ℕ) (limit : ℤ) (rest : List ℕ) → IsBytes bytes → limit_at 2 bytes ≡ Some (limit, rest)
    → IsTrue (is_limit limit) × Takes bytes (number_bytes 8 (unsigned_abs limit)) rest
unfolding limit_at
limit_takes bytes limit rest fits e =
    let a = step_takes (number_at 8) (number_bytes 8) (λ n. n < 256 ^ 8) (number_field 8) bytes _ (limit, rest) fits e in
    let g = guard_some _ _ _ a.3 in
    let known : IsTrue (is_limit (pos a.0.0)) = read_limit a.0.0 g.0 in
    subst (λ (q : ℤ × List ℕ). IsTrue (is_limit q.0) × Takes bytes (number_bytes 8 (unsigned_abs q.0)) q.1) (some_is _ _ g.1) (known, a.1)

old_limit_takes : (bytes : List ℕ) (limit : ℤ) (rest : List ℕ) → IsBytes bytes → limit_at 1 bytes ≡ Some (limit, rest)
    → (limit ≡ pos 268435456) × Takes bytes [] rest
unfolding limit_at
old_limit_takes bytes limit rest fits e =
    subst (λ (q : ℤ × List ℕ). (q.0 ≡ pos 268435456) × Takes bytes [] q.1) (some_is _ _ e) (refl, record { parts = refl; rest_fits = fits })

pub limit_again : (limit : ℤ) (rest : List ℕ) → IsTrue (is_limit limit)
    → limit_at 2 (number_bytes 8 (unsigned_abs limit) ++ rest) ≡ Some (limit, rest)
unfolding limit_at
limit_again limit rest known =
    let P : ℤ → Type 0 = λ z. limit_at 2 (number_bytes 8 (unsigned_abs z) ++ rest) ≡ Some (z, rest) in
    elim (limit_cases limit known) [
      | inl e ↦ subst P (sym e) (rw ((number_field 8).again 268435456 rest (omega arith)) refl)
      | inr e ↦ subst P (sym e) (rw ((number_field 8).again 536870912 rest (omega arith)) refl)
    ]

scene_takes : (bytes scene rest : List ℕ) → IsBytes bytes → scene_at bytes ≡ Some (scene, rest)
    → Takes bytes (number_bytes 4 (length scene) ++ scene) rest × (length scene < 2 ^ 32)
unfolding scene_at
scene_takes bytes scene rest fits e =
    let a = step_takes (number_at 4) (number_bytes 4) (λ n. n < 256 ^ 4) (number_field 4) bytes _ (scene, rest) fits e in
    let g = guard_none _ _ _ a.3 in
    let long : a.0.0 ≤ length a.0.1 = ltb-false _ _ g.0 in
    let len : length (take a.0.0 a.0.1) ≡ a.0.0 = omega (arith, length-take a.0.0 a.0.1) in
    let second : Takes a.0.1 (take a.0.0 a.0.1) (drop a.0.0 a.0.1) =
    record { parts = sym (take-append-drop a.0.0 a.0.1); rest_fits = IsBytes-drop a.0.0 a.0.1 a.1.rest_fits } in
    let both = takes_then bytes (number_bytes 4 a.0.0) a.0.1 (take a.0.0 a.0.1) (drop a.0.0 a.0.1) a.1 second in
    let whole : Takes bytes (number_bytes 4 (length (take a.0.0 a.0.1)) ++ take a.0.0 a.0.1) (drop a.0.0 a.0.1) =
    subst (λ (k : ℕ). Takes bytes (number_bytes 4 k ++ take a.0.0 a.0.1) (drop a.0.0 a.0.1)) (sym len) both in
    subst (λ (q : List ℕ × List ℕ). Takes bytes (number_bytes 4 (length q.0) ++ q.0) q.1 × (length q.0 < 2 ^ 32)) (some_is _ _ g.1)
    (whole, omega (arith, len, a.2))

pub scene_again : (scene rest : List ℕ) → length scene < 2 ^ 32
    → scene_at (number_bytes 4 (length scene) ++ scene ++ rest) ≡ Some (scene, rest)
unfolding scene_at
scene_again scene rest lt =
    let long : ltb (length (scene ++ rest)) (length scene) ≡ false = le-ltb _ _ (omega (arith, length-append scene rest)) in
    rw (
      append_assoc (number_bytes 4 (length scene)) scene rest,
      (number_field 4).again (length scene) (scene ++ rest) lt,
      long,
      take_at scene rest (length scene) refl,
      drop_at scene rest (length scene) refl,
    ) refl

-- ---- the two together

-- the bytes begin with this header and this scene
pub record IsHead (bytes : List ℕ) (head : Head) : Type 0 where
  pub known : IsVersion head.version head.limit
  pub short : length head.scene < 2 ^ 32
  pub parts : bytes ≡ header_bytes head.version head.limit (length head.scene) ++ head.scene ++ head.body
  pub fits : IsBytes head.body

abbrev head_of : ℕ → ℤ → List ℕ → List ℕ → Head
head_of version limit scene body = record { version = version; limit = limit; scene = scene; body = body }

old_opening : (bytes r1 r2 : List ℕ) (limit : ℤ) → Takes bytes (name ++ 1 ∷ []) r1 → limit_at 1 r1 ≡ Some (limit, r2)
    → IsVersion 1 limit × Takes bytes (opening_bytes 1 limit) r2
unfolding opening_bytes
old_opening bytes r1 r2 limit a e =
    let b = old_limit_takes r1 limit r2 a.rest_fits e in
    (inl (refl, b.0), takes_then bytes (name ++ 1 ∷ []) r1 [] r2 a b.1)

new_opening : (bytes r1 r2 : List ℕ) (limit : ℤ) → Takes bytes (name ++ 2 ∷ []) r1 → limit_at 2 r1 ≡ Some (limit, r2)
    → IsVersion 2 limit × Takes bytes (opening_bytes 2 limit) r2
unfolding opening_bytes
new_opening bytes r1 r2 limit a e =
    let b = limit_takes r1 limit r2 a.rest_fits e in
    (inr (refl, b.0), takes_then bytes (name ++ 2 ∷ []) r1 (number_bytes 8 (unsigned_abs limit)) r2 a b.1)

pub opening_takes : (version : ℕ) (bytes r1 r2 : List ℕ) (limit : ℤ) → IsKnown version → Takes bytes (name ++ version ∷ []) r1
    → limit_at version r1 ≡ Some (limit, r2) → IsVersion version limit × Takes bytes (opening_bytes version limit) r2
opening_takes version bytes r1 r2 limit is =
    let P : ℕ → Type 0 = λ v. Takes bytes (name ++ v ∷ []) r1 → limit_at v r1 ≡ Some (limit, r2)
    → IsVersion v limit × Takes bytes (opening_bytes v limit) r2 in
    elim is [
      | inl e ↦ subst P (sym e) (old_opening bytes r1 r2 limit)
      | inr e ↦ subst P (sym e) (new_opening bytes r1 r2 limit)
    ]

whole_head : (version : ℕ) (bytes r2 scene body : List ℕ) (limit : ℤ) → IsVersion version limit
    → Takes bytes (opening_bytes version limit) r2 → Takes r2 (number_bytes 4 (length scene) ++ scene) body → length scene < 2 ^ 32
    → IsHead bytes (head_of version limit scene body)
unfolding header_bytes
whole_head version bytes r2 scene body limit known opened rest short =
    let o = opening_bytes version limit in
    let t = takes_then bytes o r2 (number_bytes 4 (length scene) ++ scene) body opened rest in
    let regrouped : (o ++ (number_bytes 4 (length scene) ++ scene)) ++ body ≡ o ++ number_bytes 4 (length scene) ++ scene
    ++ body = ap (λ (x : List ℕ). x ++ body) (sym (append_assoc o (number_bytes 4 (length scene)) scene)) in
    record { known = known; short = short; parts = t.parts ∙ regrouped; fits = t.rest_fits }

bind_at : {A B : Type 0} (place : ℕ) (o : Option A) (f : A → Result B ℕ) (y : B) → (or_at place o >>> f) ≡ Ok y
    → (x : A) × (o ≡ Some x) × (f x ≡ Ok y)
bind_at place (Some x) f y e = (x, refl, e)
bind_at place None f y e = absurd cc

pub ok_is : (x y : Head) → (let ok : Head → Result Head ℕ = λ h. Ok h in ok x ≡ ok y) → x ≡ y
ok_is x y e = cc

pub head_takes : (bytes : List ℕ) (head : Head) → IsBytes bytes → head_at bytes ≡ Ok head → IsHead bytes head
unfolding head_at
head_takes bytes head fits e =
    let a = bind_at 0 (version_at bytes) _ head e in
    let v = version_takes bytes a.0.0 a.0.1 fits a.1 in
    let b = bind_at 8 (limit_at a.0.0 a.0.1) _ head a.2 in
    let o = opening_takes a.0.0 bytes a.0.1 b.0.1 b.0.0 v.0 v.1 b.1 in
    let c = bind_at (length_offset a.0.0) (scene_at b.0.1) _ head b.2 in
    let s = scene_takes b.0.1 c.0.0 c.0.1 o.1.rest_fits c.1 in
    subst (λ (h : Head). IsHead bytes h) (ok_is _ _ c.2) (whole_head a.0.0 bytes b.0.1 c.0.0 c.0.1 b.0.0 o.0 o.1 s.0 s.1)

pub named_again : (version : ℕ) (rest : List ℕ) → IsKnown version → version_at (name ++ version ∷ rest) ≡ Some (version, rest)
unfolding version_at
named_again version rest is =
    let P : ℕ → Type 0 = λ v. version_at (name ++ v ∷ rest) ≡ Some (v, rest) in
    let long : (v : ℕ) → ltb (length (name ++ v ∷ rest)) 8 ≡ false = λ v. le-ltb _ _ (omega arith) in
    let one : P 1 = rw (long 1) refl in
    let two : P 2 = rw (long 2) refl in
    elim is [ inl e ↦ subst P (sym e) one | inr e ↦ subst P (sym e) two ]

old_again : (scene body : List ℕ) → length scene < 2 ^ 32
    → head_at (header_bytes 1 (pos 268435456) (length scene) ++ scene ++ body) ≡ Ok (head_of 1 (pos 268435456) scene body)
unfolding head_at header_bytes opening_bytes
old_again scene body short =
    let limit : limit_at 1 (number_bytes 4 (length scene) ++ scene ++ body)
    ≡ Some (pos 268435456, number_bytes 4 (length scene) ++ scene ++ body) = unfold limit_at in refl in
    rw (named_again 1 (number_bytes 4 (length scene) ++ scene ++ body) (inl refl), limit, scene_again scene body short) refl

new_again : (limit : ℤ) (scene body : List ℕ) → IsTrue (is_limit limit) → length scene < 2 ^ 32
    → head_at (header_bytes 2 limit (length scene) ++ scene ++ body) ≡ Ok (head_of 2 limit scene body)
unfolding head_at header_bytes opening_bytes
new_again limit scene body known short =
    let n = number_bytes 8 (unsigned_abs limit) in
    let tail = number_bytes 4 (length scene) ++ scene ++ body in
    let regrouped : (n ++ number_bytes 4 (length scene)) ++ scene ++ body ≡ n
    ++ (number_bytes 4 (length scene) ++ scene ++ body) = simp append_assoc in
    rw (regrouped, named_again 2 (n ++ tail) (inr refl), limit_again limit tail known, scene_again scene body short) refl

pub head_again : (version : ℕ) (limit : ℤ) (scene body : List ℕ) → IsVersion version limit → length scene < 2 ^ 32
    → head_at (header_bytes version limit (length scene) ++ scene ++ body) ≡ Ok (head_of version limit scene body)
head_again version limit scene body known short =
    let P : ℕ → ℤ → Type 0 = λ v l. head_at (header_bytes v l (length scene) ++ scene ++ body) ≡ Ok (head_of v l scene body) in
    elim known [
      | inl e ↦ subst (λ v. P v limit) (sym e.0) (subst (λ l. P 1 l) (sym e.1) (old_again scene body short))
      | inr e ↦ subst (λ v. P v limit) (sym e.0) (new_again limit scene body e.1 short)
    ]
