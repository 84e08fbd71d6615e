-- A log is read in one way, and a refused one has one offset.
use Rattle.std.proofs.Common.{◌≡◌, ◌∙◌, sym, ap, subst, refl, ℕ, ◌^◌, ◌<◌, ◌≤◌, inl, inr, ℤ, List, [], ◌++◌, length, Some, None, Ok}
use Rattle.std.proofs.Common.{◌-◌, append_assoc, append-nil, arith}
use Rattle.std.specs.List.{flat_map, AllByRecursion}
use Rattle.std.proofs.lemmas.List.{length-append, nil_from_length}
use Rattle.std.specs.Prelude.{FitsSigned, IsTrue}
use Rattle.std.specs.Int.{w64}
use Rattle.pbd_log.specs.declared.entry.Entry.{Entry}
use Rattle.pbd_log.specs.Laws.{IsBytes, SameLog}
use Rattle.pbd_log.specs.Entries.{entry_bytes, IsEntry}
use Rattle.pbd_world.specs.Valid.{is_limit}
use Rattle.pbd_log.specs.Logs.{IsVersion, header_bytes, end_bytes, Spells, BeginsNoEntry, FailsToEnd}
use Rattle.pbd_log.specs.Reading.{entries_of, after_end, Head, head_at}
use Rattle.pbd_log.proofs.Heads.{IsHead, head_again, limit_cases, ok_is}
use Rattle.pbd_log.proofs.Bodies.{end_takes, end_again, end_begins_none, same_entries, entries_are}
use Rattle.pbd_log.proofs.Entries.{none_some}

abbrev pub body_of : List Entry → List ℕ
body_of entries = flat_map entry_bytes entries ++ end_bytes (length entries)

abbrev pub spelled_head : ℕ → ℤ → List ℕ → List Entry → Head
spelled_head version limit scene entries = record { version = version; limit = limit; scene = scene; body = body_of entries }

-- what is spelled has this head
pub spelled_is : (bytes : List ℕ) (version : ℕ) (limit : ℤ) (scene : List ℕ) (entries : List Entry)
    → Spells bytes version limit scene entries → head_at bytes ≡ Ok (spelled_head version limit scene entries)
spelled_is bytes version limit scene entries s =
    let regrouped : header_bytes version limit (length scene) ++ scene ++ flat_map entry_bytes entries ++ end_bytes (length entries)
    ≡ header_bytes version limit (length scene) ++ scene ++ body_of entries =
    append_assoc (header_bytes version limit (length scene) ++ scene) (flat_map entry_bytes entries) (end_bytes (length entries)) in
    ap head_at (s.whole ∙ regrouped) ∙ head_again version limit scene (body_of entries) s.known s.short

pub ends_in_none : (count : ℕ) → BeginsNoEntry (end_bytes count)
ends_in_none count = subst BeginsNoEntry (append-nil (end_bytes count)) (end_begins_none count [])

pub one_reading_lem : (bytes : List ℕ) (version version' : ℕ) (limit limit' : ℤ) (scene scene' : List ℕ) (entries entries' : List Entry) →
    Spells bytes version limit scene entries → Spells bytes version' limit' scene' entries'
    → SameLog version version' limit limit' scene scene' entries entries'
one_reading_lem bytes version version' limit limit' scene scene' entries entries' s s' =
    let h : spelled_head version limit scene entries ≡ spelled_head version' limit' scene' entries' =
    ok_is _ _ (sym (spelled_is bytes version limit scene entries s) ∙ spelled_is bytes version' limit' scene' entries' s') in
    let b : body_of entries ≡ body_of entries' = ap (λ (x : Head). x.body) h in
    record {
      same_version = ap (λ (x : Head). x.version) h;
      same_limit = ap (λ (x : Head). x.limit) h;
      same_scene = ap (λ (x : Head). x.scene) h;
      same_entries = (same_entries entries entries' (end_bytes (length entries)) (end_bytes (length entries')) s.each s'.each
          (ends_in_none (length entries)) (ends_in_none (length entries')) b).0;
    }

-- ---- what was read

pub found : (bytes : List ℕ) (head : Head) (entries : List Entry) (rest : List ℕ) → IsHead bytes head → AllByRecursion IsEntry entries
    → head.body ≡ flat_map entry_bytes entries ++ rest → rest ≡ end_bytes (length entries) → length entries < 2 ^ 64
    → Spells bytes head.version head.limit head.scene (entries_of head.body)
found bytes head entries rest h each parts ended counted =
    let body : head.body ≡ body_of entries = parts ∙ ap (λ (t : List ℕ). flat_map entry_bytes entries ++ t) ended in
    let all : entries_of head.body ≡ entries = ap entries_of body ∙ entries_are entries (length entries) each in
    let front = header_bytes head.version head.limit (length head.scene) ++ head.scene in
    let whole : bytes ≡ front ++ flat_map entry_bytes entries ++ end_bytes (length entries) = h.parts ∙ ap (λ (t : List ℕ). front ++ t) body
    ∙ sym (append_assoc front (flat_map entry_bytes entries) (end_bytes (length entries))) in
    subst (λ es. Spells bytes head.version head.limit head.scene es) (sym all)
    (record { known = h.known; short = h.short; each = each; counted = counted; whole = whole })

pub no_end_fails : (total count : ℕ) (rest : List ℕ) → count < 2 ^ 64 → length rest ≤ total → after_end count rest ≡ None
    → FailsToEnd total count rest (total - length rest)
no_end_fails total count rest lt le none = inl (
  λ more e. none_some more (sym none ∙ ap (after_end count) e ∙ end_again count more lt),
  omega arith,
)

pub past_end_fits : (total count : ℕ) (rest more : List ℕ) → IsBytes rest → length rest ≤ total → after_end count rest ≡ Some more
    → length more ≤ total
past_end_fits total count rest more fits le read =
    let t = end_takes count rest more fits read in
    omega (arith, ap (λ (x : List ℕ). length x) t.parts, length-append (end_bytes count) more)

pub past_end_fails : (total count : ℕ) (rest more : List ℕ) → IsBytes rest → length rest ≤ total → after_end count rest ≡ Some more
    → 0 < length more → FailsToEnd total count rest (total - length more)
past_end_fails total count rest more fits le read some =
    let t = end_takes count rest more fits read in
    let lt = past_end_fits total count rest more fits le read in
    inr (more, t.parts, some, omega (arith, lt))

pub is_ended : (count : ℕ) (rest more : List ℕ) → IsBytes rest → after_end count rest ≡ Some more → length more < 1 → rest ≡ end_bytes count
is_ended count rest more fits read few =
    let t = end_takes count rest more fits read in
    t.parts ∙ ap (λ (x : List ℕ). end_bytes count ++ x) (nil_from_length more (omega arith)) ∙ append-nil (end_bytes count)

pub rest_within : (bytes : List ℕ) (head : Head) (entries : List Entry) (rest : List ℕ) → IsHead bytes head
    → head.body ≡ flat_map entry_bytes entries ++ rest → length rest ≤ length bytes
rest_within bytes head entries rest h parts =
    let len : List ℕ → ℕ = λ x. length x in
    let header = header_bytes head.version head.limit (length head.scene) in
    omega (
      arith,
      ap len h.parts,
      ap len parts,
      length-append (header ++ head.scene) head.body,
      length-append (flat_map entry_bytes entries) rest,
    )

pub version_fits : (version : ℕ) (limit : ℤ) → IsVersion version limit → FitsSigned w64 limit
version_fits version limit known =
    elim known [
      | inl p ↦ subst (FitsSigned w64) (sym p.1) (omega arith)
      | inr p ↦ elim (limit_cases limit p.1) [
        | inl e ↦ subst (FitsSigned w64) (sym e) (omega arith)
        | inr e ↦ subst (FitsSigned w64) (sym e)
            (omega arith)
      ]
    ]

-- ---- what was written

pub parts_spell : (limit : ℤ) (scene : List ℕ) (entries : List Entry) → IsTrue (is_limit limit) → length scene < 2 ^ 32
    → AllByRecursion IsEntry entries → length entries < 2 ^ 64
    → Spells ((header_bytes 2 limit (length scene) ++ scene) ++ flat_map entry_bytes entries ++ end_bytes (length entries)) 2 limit scene
    entries
parts_spell limit scene entries known short each counted =
    record { known = inr (refl, known); short = short; each = each; counted = counted; whole = refl }
