-- Where bytes go wrong: in one place, and only where they spell nothing.
use Rattle.std.proofs.Common.{◌≡◌, ◌∙◌, sym, ap, subst, refl, ℕ, ◌^◌, ◌<◌, ◌⊎◌, inl, inr, ℤ, List, [], ◌∷◌, ◌++◌, length, get_or, drop}
use Rattle.std.proofs.Common.{Option, Some, None, Result, Ok, Err, append_assoc, append-nil, arith}
use Rattle.std.specs.Prelude.{unsigned_abs}
use Rattle.std.specs.List.{flat_map, AllByRecursion}
use Rattle.std.proofs.lemmas.List.{length-append, append_cancel_left, drop_at}
use Rattle.byteorder.specs.Numbers.{length-bytes_high_first}
use Rattle.pbd_log.specs.declared.entry.Entry.{Entry}
use Rattle.pbd_log.specs.Laws.{IsBytes}
use Rattle.pbd_log.specs.Entries.{number_bytes, entry_bytes, IsEntry}
use Rattle.pbd_log.specs.Logs.{name, IsKnown, IsVersion, opening_bytes, header_bytes, end_bytes, Spells, SpellsNothing, BeginsNoEntry}
use Rattle.pbd_log.specs.Logs.{FailsInName, FailsInLimit, FailsInScene, FailsToEnd, FailsBehind, IsFault}
use Rattle.pbd_log.specs.Reading.{◌>>>◌, or_at, Head, head_at, version_at, limit_at, scene_at, length_offset}
use Rattle.pbd_log.proofs.Heads.{IsHead, head_again, version_takes, opening_takes, named_again, limit_again, scene_again, ok_is}
use Rattle.pbd_log.proofs.Bodies.{same_entries}
use Rattle.pbd_log.proofs.Logs.{body_of, spelled_is, ends_in_none}
use Rattle.pbd_log.proofs.Entries.{none_some}

-- ---- two ways to begin

same_named : (v w : ℕ) (r s : List ℕ) → name ++ v ∷ r ≡ name ++ w ∷ s → (v ≡ w) × (r ≡ s)
same_named v w r s e = (ap (λ (x : List ℕ). get_or x 7 0) e, ap (λ (x : List ℕ). drop 8 x) e)

-- an opening begins with the name and a known version
opening_named : (bytes : List ℕ) (version : ℕ) (limit : ℤ) (rest : List ℕ) → IsVersion version limit
    → bytes ≡ opening_bytes version limit ++ rest → (r : List ℕ) × IsKnown version × (bytes ≡ name ++ version ∷ r)
unfolding opening_bytes
opening_named bytes version limit rest known =
    let P : ℕ → Type 0 = λ v. bytes ≡ opening_bytes v limit ++ rest → (r : List ℕ) × IsKnown v × (bytes ≡ name ++ v ∷ r) in
    let old : P 1 = λ e. (rest, inl refl, e) in
    let new : P 2 = λ e. (number_bytes 8 (unsigned_abs limit) ++ rest, inr refl, e) in
    elim known [ inl p ↦ subst P (sym p.0) old | inr p ↦ subst P (sym p.0) new ]

number_dropped : (x : ℕ) (rest : List ℕ) → drop 8 (number_bytes 8 x ++ rest) ≡ rest
unfolding number_bytes
number_dropped x rest = drop_at (number_bytes 8 x) rest 8 (length-bytes_high_first 8 x)

-- what follows two openings of the same bytes is the same
same_opening : (v w : ℕ) (l k : ℤ) (r s : List ℕ) → IsVersion v l → IsVersion w k → opening_bytes v l ++ r ≡ opening_bytes w k ++ s
    → (v ≡ w) × (r ≡ s)
unfolding opening_bytes
same_opening v w l k r s p q =
    let P : ℕ → ℕ → Type 0 = λ x y. opening_bytes x l ++ r ≡ opening_bytes y k ++ s → (x ≡ y) × (r ≡ s) in
    let one_one : P 1 1 = λ e. same_named 1 1 r s e in
    let one_two : P 1 2 = λ e. absurd (omega (arith, ap (λ (x : List ℕ). get_or x 7 0) e)) in
    let two_one : P 2 1 = λ e. absurd (omega (arith, ap (λ (x : List ℕ). get_or x 7 0) e)) in
    let two_two : P 2 2 = λ e. (
      refl,
      sym (number_dropped (unsigned_abs l) r) ∙ ap (λ (x : List ℕ). drop 16 x) e
          ∙ number_dropped (unsigned_abs k) s,
    ) in
    let from_one : P 1 w = elim q [ inl b ↦ subst (P 1) (sym b.0) one_one | inr b ↦ subst (P 1) (sym b.0) one_two ] in
    let from_two : P 2 w = elim q [ inl b ↦ subst (P 2) (sym b.0) two_one | inr b ↦ subst (P 2) (sym b.0) two_two ] in
    elim p [ inl a ↦ subst (λ x. P x w) (sym a.0) from_one | inr a ↦ subst (λ x. P x w) (sym a.0) from_two ]

-- an opening, and the length of the scene behind it
opened : (bytes : List ℕ) (version : ℕ) (limit : ℤ) (scene body : List ℕ)
    → bytes ≡ header_bytes version limit (length scene) ++ scene ++ body
    → bytes ≡ opening_bytes version limit ++ (number_bytes 4 (length scene) ++ scene ++ body)
unfolding header_bytes
opened bytes version limit scene body e = e ∙ simp append_assoc

-- ---- what goes wrong early can't go on

name_not : (bytes : List ℕ) (offset version : ℕ) (limit : ℤ) (rest : List ℕ) → FailsInName bytes offset → IsVersion version limit
    → bytes ≡ opening_bytes version limit ++ rest → ⊥
name_not bytes offset version limit rest f known e =
    let n = opening_named bytes version limit rest known e in
    f.none version n.0 n.1 n.2

limit_not : (bytes : List ℕ) (offset version : ℕ) (limit : ℤ) (rest : List ℕ) → FailsInLimit bytes offset → IsVersion version limit
    → bytes ≡ opening_bytes version limit ++ rest → ⊥
unfolding opening_bytes
limit_not bytes offset version limit rest f known =
    let P : ℕ → Type 0 = λ v. bytes ≡ opening_bytes v limit ++ rest → ⊥ in
    let old : P 1 = λ e. absurd (omega (arith, ap (λ (x : List ℕ). get_or x 7 0) (sym f.named ∙ e))) in
    elim known [
      | inl p ↦ subst P (sym p.0) old
      | inr p ↦ subst P (sym p.0)
          (λ e. f.none limit rest p.1 (ap (λ (x : List ℕ). drop 8 x) (sym f.named ∙ e)))
    ]

scene_not : (bytes : List ℕ) (offset version : ℕ) (limit : ℤ) (scene body : List ℕ) → FailsInScene bytes offset → IsVersion version limit
    → length scene < 2 ^ 32 → bytes ≡ opening_bytes version limit ++ (number_bytes 4 (length scene) ++ scene ++ body) → ⊥
scene_not bytes offset version limit scene body f known short e =
    let same = same_opening f.version version f.limit limit f.rest (number_bytes 4 (length scene) ++ scene ++ body) f.known known
    (sym f.opened ∙ e) in
    f.none scene body short same.1

-- ---- one place

same_end : (total count : ℕ) (rest : List ℕ) (a b : ℕ) → FailsToEnd total count rest a → FailsToEnd total count rest b → a ≡ b
same_end total count rest a b f g =
    elim f [
      | inl p ↦ elim g [ inl q ↦ omega (arith, p.1, q.1) | inr q ↦ absurd (p.0 q.0 q.1) ]
      | inr p ↦ elim g [
        | inl q ↦ absurd (q.0 p.0 p.1)
        | inr q ↦
            let m : p.0 ≡ q.0 = append_cancel_left (end_bytes count) p.0 q.0 (sym p.1 ∙ q.1) in
            omega (arith, ap (λ (t : List ℕ). length t) m, p.3, q.3)
      ]
    ]

same_scene : (bytes : List ℕ) (a b : ℕ) → FailsInScene bytes a → FailsInScene bytes b → a ≡ b
same_scene bytes a b f g =
    let same = same_opening f.version g.version f.limit g.limit f.rest g.rest f.known g.known (sym f.opened ∙ g.opened) in
    f.place ∙ ap length_offset same.0 ∙ sym g.place

abbrev behind_head : (bytes : List ℕ) (offset : ℕ) → FailsBehind bytes offset → Head
behind_head bytes offset f = record {
  version = f.version;
  limit = f.limit;
  scene = f.scene;
  body = flat_map entry_bytes f.entries ++ f.rest;
}

behind_is : (bytes : List ℕ) (offset : ℕ) (f : FailsBehind bytes offset) → head_at bytes ≡ Ok (behind_head bytes offset f)
behind_is bytes offset f = ap head_at f.parts ∙ head_again f.version f.limit f.scene
    (flat_map entry_bytes f.entries ++ f.rest) f.known f.short

same_behind : (bytes : List ℕ) (a b : ℕ) → FailsBehind bytes a → FailsBehind bytes b → a ≡ b
same_behind bytes a b f g =
    let h = ok_is _ _ (sym (behind_is bytes a f) ∙ behind_is bytes b g) in
    let body : flat_map entry_bytes f.entries ++ f.rest ≡ flat_map entry_bytes g.entries ++ g.rest = ap (λ (x : Head). x.body) h in
    let same = same_entries f.entries g.entries f.rest g.rest f.each g.each f.no_entry g.no_entry body in
    same_end (length bytes) (length f.entries) f.rest a b f.no_end (rw (same.0, same.1) g.no_end)

behind_opened : (bytes : List ℕ) (offset : ℕ) (f : FailsBehind bytes offset)
    → bytes ≡ opening_bytes f.version f.limit ++ (number_bytes 4 (length f.scene) ++ f.scene ++ (flat_map entry_bytes f.entries ++ f.rest))
behind_opened bytes offset f = opened bytes f.version f.limit f.scene (flat_map entry_bytes f.entries ++ f.rest) f.parts

name_then : (bytes : List ℕ) (a b : ℕ) → FailsInName bytes a → IsFault bytes b → a ≡ b
name_then bytes a b f (inl n) = f.place ∙ sym n.place
name_then bytes a b f (inr (inl l)) = absurd (f.none 2 l.rest (inr refl) l.named)
name_then bytes a b f (inr (inr (inl s))) = absurd (name_not bytes a s.version s.limit s.rest f s.known s.opened)
name_then bytes a b f (inr (inr (inr e))) = absurd (name_not bytes a e.version e.limit _ f e.known (behind_opened bytes b e))

limit_then : (bytes : List ℕ) (a b : ℕ) → FailsInLimit bytes a → IsFault bytes b → a ≡ b
limit_then bytes a b f (inl n) = absurd (n.none 2 f.rest (inr refl) f.named)
limit_then bytes a b f (inr (inl l)) = f.place ∙ sym l.place
limit_then bytes a b f (inr (inr (inl s))) = absurd (limit_not bytes a s.version s.limit s.rest f s.known s.opened)
limit_then bytes a b f (inr (inr (inr e))) = absurd (limit_not bytes a e.version e.limit _ f e.known (behind_opened bytes b e))

scene_then : (bytes : List ℕ) (a b : ℕ) → FailsInScene bytes a → IsFault bytes b → a ≡ b
scene_then bytes a b f (inl n) = absurd (name_not bytes b f.version f.limit f.rest n f.known f.opened)
scene_then bytes a b f (inr (inl l)) = absurd (limit_not bytes b f.version f.limit f.rest l f.known f.opened)
scene_then bytes a b f (inr (inr (inl s))) = same_scene bytes a b f s
scene_then bytes a b f (inr (inr (inr e))) =
    absurd (scene_not bytes a e.version e.limit e.scene _ f e.known e.short (behind_opened bytes b e))

behind_then : (bytes : List ℕ) (a b : ℕ) → FailsBehind bytes a → IsFault bytes b → a ≡ b
behind_then bytes a b f (inl n) = absurd (name_not bytes b f.version f.limit _ n f.known (behind_opened bytes a f))
behind_then bytes a b f (inr (inl l)) = absurd (limit_not bytes b f.version f.limit _ l f.known (behind_opened bytes a f))
behind_then bytes a b f (inr (inr (inl s))) =
    absurd (scene_not bytes b f.version f.limit f.scene _ s f.known f.short (behind_opened bytes a f))
behind_then bytes a b f (inr (inr (inr e))) = same_behind bytes a b f e

pub one_fault_lem : (bytes : List ℕ) (offset place : ℕ) → IsFault bytes offset → IsFault bytes place → offset ≡ place
one_fault_lem bytes offset place (inl n) g = name_then bytes offset place n g
one_fault_lem bytes offset place (inr (inl l)) g = limit_then bytes offset place l g
one_fault_lem bytes offset place (inr (inr (inl s))) g = scene_then bytes offset place s g
one_fault_lem bytes offset place (inr (inr (inr e))) g = behind_then bytes offset place e g

-- ---- nothing is spelled there

spelled_opened : (bytes : List ℕ) (version : ℕ) (limit : ℤ) (scene : List ℕ) (entries : List Entry)
    → Spells bytes version limit scene entries → bytes ≡ opening_bytes version limit
    ++ (number_bytes 4 (length scene) ++ scene ++ body_of entries)
spelled_opened bytes version limit scene entries s =
    opened bytes version limit scene (body_of entries) (s.whole
    ∙ append_assoc (header_bytes version limit (length scene) ++ scene) (flat_map entry_bytes entries) (end_bytes (length entries)))

behind_not : (bytes : List ℕ) (offset version : ℕ) (limit : ℤ) (scene : List ℕ) (entries : List Entry) → FailsBehind bytes offset
    → Spells bytes version limit scene entries → ⊥
behind_not bytes offset version limit scene entries f s =
    let n = length entries in
    let h = ok_is _ _ (sym (behind_is bytes offset f) ∙ spelled_is bytes version limit scene entries s) in
    let body : flat_map entry_bytes f.entries ++ f.rest ≡ body_of entries = ap (λ (x : Head). x.body) h in
    let same = same_entries f.entries entries f.rest (end_bytes n) f.each s.each f.no_entry (ends_in_none n) body in
    let fails : FailsToEnd (length bytes) n (end_bytes n) offset =
    subst (λ r. FailsToEnd (length bytes) n r offset) same.1
    (subst (λ (es : List Entry). FailsToEnd (length bytes) (length es) f.rest offset) same.0 f.no_end) in
    elim fails [
      | inl p ↦ p.0 [] (sym (append-nil (end_bytes n)))
      | inr p ↦ absurd (omega (arith, ap (λ (t : List ℕ). length t) p.1, length-append (end_bytes n) p.0, p.2))
    ]

pub fault_spells_nothing : (bytes : List ℕ) (offset : ℕ) → IsFault bytes offset → SpellsNothing bytes
fault_spells_nothing bytes offset f version limit scene entries s =
    elim f [
      | inl n ↦ name_not bytes offset version limit _ n s.known (spelled_opened bytes version limit scene entries s)
      | inr f ↦ elim f [
        | inl l ↦ limit_not bytes offset version limit _ l s.known (spelled_opened bytes version limit scene entries s)
        | inr f ↦ elim f [
          | inl p ↦ scene_not bytes offset version limit scene _ p s.known s.short (spelled_opened bytes version limit scene entries s)
          | inr e ↦ behind_not bytes offset version limit scene entries e s
        ]
      ]
    ]

-- ---- what was refused

bind_err : {A B : Type 0} (place : ℕ) (o : Option A) (f : A → Result B ℕ) (e : ℕ) → (or_at place o >>> f) ≡ Err e
    → ((o ≡ None) × (e ≡ place)) ⊎ ((x : A) × (o ≡ Some x) × (f x ≡ Err e))
bind_err place None f e h = inl (refl, cc)
bind_err place (Some x) f e h = inr (x, refl, h)

no_version : (bytes : List ℕ) (offset : ℕ) → version_at bytes ≡ None → offset ≡ 0 → FailsInName bytes offset
no_version bytes offset none place = record {
  none = λ version rest known e.
      none_some (version, rest) (sym none ∙ ap version_at e ∙ named_again version rest known);
  place = place;
}

no_limit : (version : ℕ) (bytes rest : List ℕ) (offset : ℕ) → IsKnown version → bytes ≡ name ++ version ∷ rest
    → limit_at version rest ≡ None → offset ≡ 8 → FailsInLimit bytes offset
no_limit version bytes rest offset is =
    let P : ℕ → Type 0 = λ v. bytes ≡ name ++ v ∷ rest → limit_at v rest ≡ None → offset ≡ 8 → FailsInLimit bytes offset in
    let old : P 1 = λ named none place. absurd (unfold limit_at in cc) in
    let new : P 2 = λ named none place. record {
      rest = rest;
      named = named;
      none = λ limit more known e. none_some (limit, more) (sym none ∙ ap (limit_at 2) e ∙ limit_again limit more known);
      place = place;
    }
    in
    elim is [ inl e ↦ subst P (sym e) old | inr e ↦ subst P (sym e) new ]

no_scene : (bytes : List ℕ) (version : ℕ) (limit : ℤ) (rest : List ℕ) (offset : ℕ) → IsVersion version limit
    → bytes ≡ opening_bytes version limit ++ rest → scene_at rest ≡ None → offset ≡ length_offset version → FailsInScene bytes offset
no_scene bytes version limit rest offset known opened none place =
    record {
      version = version;
      limit = limit;
      rest = rest;
      known = known;
      opened = opened;
      none = λ scene more short e. none_some (scene, more) (sym none ∙ ap scene_at e ∙ scene_again scene more short);
      place = place;
    }

err_ok : (h : Head) (e : ℕ) → (let ok : Head → Result Head ℕ = λ x. Ok x in ok h ≡ Err e) → ⊥
err_ok h e is = cc

pub head_fails : (bytes : List ℕ) (offset : ℕ) → IsBytes bytes → head_at bytes ≡ Err offset → IsFault bytes offset
unfolding head_at
head_fails bytes offset fits e =
    elim (bind_err 0 (version_at bytes) _ offset e) [
      | inl p ↦ inl (no_version bytes offset p.0 p.1)
      | inr v ↦
          let t = version_takes bytes v.0.0 v.0.1 fits v.1 in
          elim (bind_err 8 (limit_at v.0.0 v.0.1) _ offset v.2) [
            | inl p ↦ inr (inl (no_limit v.0.0 bytes v.0.1 offset t.0 t.1.parts p.0 p.1))
            | inr l ↦
                let o = opening_takes v.0.0 bytes v.0.1 l.0.1 l.0.0 t.0 t.1 l.1 in
                elim (bind_err (length_offset v.0.0) (scene_at l.0.1) _ offset l.2) [
                  | inl p ↦ inr (inr (inl (no_scene bytes v.0.0 l.0.0 l.0.1 offset o.0 o.1.parts p.0 p.1)))
                  | inr s ↦ absurd (err_ok _ _ s.2)
                ]
          ]
    ]

pub body_fails : (bytes : List ℕ) (head : Head) (entries : List Entry) (rest : List ℕ) (count offset : ℕ) → IsHead bytes head
    → AllByRecursion IsEntry entries → head.body ≡ flat_map entry_bytes entries ++ rest → length entries ≡ count
    → BeginsNoEntry rest → FailsToEnd (length bytes) count rest offset → IsFault bytes offset
body_fails bytes head entries rest count offset h each parts counted none fails =
    let behind : FailsBehind bytes offset = record {
      version = head.version;
      limit = head.limit;
      scene = head.scene;
      entries = entries;
      rest = rest;
      known = h.known;
      short = h.short;
      each = each;
      parts = h.parts ∙ ap (λ (t : List ℕ). header_bytes head.version head.limit (length head.scene) ++ head.scene ++ t) parts;
      no_entry = none;
      no_end = subst (λ n. FailsToEnd (length bytes) n rest offset) (sym counted) fails;
    } in
    inr (inr (inr behind))
