-- Entries one after the other, and the end behind them.
use Rattle.std.proofs.Common.{◌≡◌, ◌∙◌, sym, ap, subst, refl, ℕ, zero, suc, ◌^◌, ◌<◌, ◌≤◌, true, eqb, List, [], ◌∷◌, ◌++◌, length, Option}
use Rattle.std.proofs.Common.{Some, None, append_assoc, append-nil, arith, eq-eqb}
use Rattle.std.specs.List.{flat_map, AllByRecursion}
use Rattle.std.proofs.lemmas.Bool.{eqb-true}
use Rattle.std.proofs.lemmas.List.{length-append}
use Rattle.std.proofs.lemmas.List.Concat.{flat_map-cons}
use Rattle.pbd_world.specs.declared.command.Command.{Command}
use Rattle.pbd_world.specs.Verbs.{row, verb_coded}
use Rattle.pbd_log.specs.declared.entry.Entry.{Entry}
use Rattle.pbd_log.specs.Laws.{IsBytes}
use Rattle.pbd_log.specs.Entries.{number_bytes, command_bytes, answer_bytes, optional_bytes, entry_bytes, IsEntry}
use Rattle.pbd_log.specs.Logs.{end_bytes, BeginsNoEntry}
use Rattle.pbd_log.specs.Reading.{byte_at, number_at, command_at, entry_at, then_more, entries_within, entries_of, after_end}
use Rattle.pbd_log.proofs.Fields.{Takes, takes_then, step_takes, some_is, guard_some, number_field, byte_field}
use Rattle.pbd_log.proofs.Entries.{entry_field, same_entry, none_some}

-- ---- the end

pub end_takes : (count : ℕ) (bytes more : List ℕ) → IsBytes bytes → after_end count bytes ≡ Some more → Takes bytes (end_bytes count) more
unfolding after_end end_bytes
end_takes count bytes more fits e =
    let a = step_takes byte_at (λ b. b ∷ []) (λ b. b < 256) byte_field bytes _ more fits e in
    let b = step_takes (number_at 8) (number_bytes 8) (λ n. n < 256 ^ 8) (number_field 8) a.0.1 _ more a.1.rest_fits a.3 in
    let g = guard_some _ _ _ b.3 in
    let h = guard_some _ _ _ g.1 in
    let t = takes_then bytes (a.0.0 ∷ []) a.0.1 (number_bytes 8 b.0.0) b.0.1 a.1 b.1 in
    subst (λ (r : List ℕ). Takes bytes (0 ∷ number_bytes 8 count) r) (some_is _ _ h.1)
    (subst (λ (z : ℕ). Takes bytes (z ∷ number_bytes 8 count) b.0.1) (eqb-true _ _ g.0)
    (subst (λ (n : ℕ). Takes bytes (a.0.0 ∷ number_bytes 8 n) b.0.1) (eqb-true _ _ h.0) t))

eqb_same : (n : ℕ) → eqb n n ≡ true
eqb_same n = eq-eqb n n refl

pub end_again : (count : ℕ) (more : List ℕ) → count < 2 ^ 64 → after_end count (end_bytes count ++ more) ≡ Some more
unfolding after_end end_bytes
end_again count more lt = rw ((number_field 8).again count more lt, eqb_same count) refl

-- an end is no entry
pub no_entry_at_end : (count : ℕ) (more : List ℕ) → entry_at (end_bytes count ++ more) ≡ None
unfolding entry_at command_at verb_coded row end_bytes
no_entry_at_end count more = refl

-- where no entry can be read none begins
pub begins_none : (rest : List ℕ) → entry_at rest ≡ None → BeginsNoEntry rest
begins_none rest none e more fits same = none_some (e, more) (sym none ∙ ap entry_at same ∙ entry_field.again e more fits)

pub end_begins_none : (count : ℕ) (more : List ℕ) → BeginsNoEntry (end_bytes count ++ more)
end_begins_none count more = begins_none (end_bytes count ++ more) (no_entry_at_end count more)

-- ---- entries

cons_append : (e : Entry) (es : List Entry) (rest : List ℕ)
    → flat_map entry_bytes (e ∷ es) ++ rest ≡ entry_bytes e ++ (flat_map entry_bytes es ++ rest)
cons_append e es rest = ap (λ (t : List ℕ). t ++ rest) (flat_map-cons entry_bytes e es)
    ∙ append_assoc (entry_bytes e) (flat_map entry_bytes es) rest

-- entries, and what no entry begins, are read in one way
pub same_entries : (es fs : List Entry) (r s : List ℕ) → AllByRecursion IsEntry es → AllByRecursion IsEntry fs → BeginsNoEntry r
    → BeginsNoEntry s
    → flat_map entry_bytes es ++ r ≡ flat_map entry_bytes fs ++ s → (es ≡ fs) × (r ≡ s)
same_entries [] [] r s he hf hr hs e = (refl, e)
same_entries [] (f ∷ fs) r s he hf hr hs e = absurd (hr f (flat_map entry_bytes fs ++ s) hf.0 (e ∙ cons_append f fs s))
same_entries (e ∷ es) [] r s he hf hr hs same = absurd (hs e (flat_map entry_bytes es ++ r) he.0 (sym same ∙ cons_append e es r))
same_entries (e ∷ es) (f ∷ fs) r s he hf hr hs same =
    let first = same_entry e f (flat_map entry_bytes es ++ r) (flat_map entry_bytes fs ++ s) he.0 hf.0
    (sym (cons_append e es r) ∙ same ∙ cons_append f fs s) in
    let others = same_entries es fs r s he.1 hf.1 hr hs first.1 in
    (rw (first.0, others.0) refl, others.1)

-- an entry has bytes
command_some : (c : Command) → 0 < length (command_bytes c)
unfolding command_bytes
command_some c = omega arith

entry_some : (e : Entry) → 0 < length (entry_bytes e)
unfolding entry_bytes
entry_some e = omega (
  arith,
  command_some e.command,
  length-append (command_bytes e.command ++ answer_bytes e.answer)
      (optional_bytes e.sums),
  length-append (command_bytes e.command) (answer_bytes e.answer),
)

-- ---- the entries that stand at the front

read_within : (n : ℕ) (es : List Entry) (r : List ℕ) → AllByRecursion IsEntry es → entry_at r ≡ None
    → length (flat_map entry_bytes es ++ r) ≤ n → entries_within n (flat_map entry_bytes es ++ r) ≡ es
read_within zero [] r he none le = refl
read_within zero (e ∷ es) r he none le =
    absurd (omega (
      arith,
      ap (λ (t : List ℕ). length t) (cons_append e es r),
      length-append (entry_bytes e) (flat_map entry_bytes es ++ r),
      entry_some e,
      le,
    ))
read_within (suc n) [] r he none le = rw none refl
read_within (suc n) (e ∷ es) r he none le =
    let len = ap (λ (t : List ℕ). length t) (cons_append e es r) in
    let shorter : length (flat_map entry_bytes es ++ r) ≤ n =
    omega (arith, len, length-append (entry_bytes e) (flat_map entry_bytes es ++ r), entry_some e, le) in
    ap (entries_within (suc n)) (cons_append e es r) ∙ rw (entry_field.again e (flat_map entry_bytes es ++ r) he.0)
    (ap (λ (t : List Entry). e ∷ t) (read_within n es r he.1 none shorter))

-- the entries of a log's body are those that it spells
pub entries_are : (es : List Entry) (count : ℕ) → AllByRecursion IsEntry es → entries_of (flat_map entry_bytes es ++ end_bytes count) ≡ es
unfolding entries_of
entries_are es count he =
    let none : entry_at (end_bytes count) ≡ None = ap entry_at (sym (append-nil (end_bytes count))) ∙ no_entry_at_end count [] in
    read_within (length (flat_map entry_bytes es ++ end_bytes count)) es (end_bytes count) he none (omega arith)

pub shorter_after : (bytes : List ℕ) (e : Entry) (rest : List ℕ) → IsBytes bytes → entry_at bytes ≡ Some (e, rest)
    → length rest < length bytes
shorter_after bytes e rest fits read =
    let t = entry_field.takes bytes e rest fits read in
    omega (arith, ap (λ (x : List ℕ). length x) t.0.parts, length-append (entry_bytes e) rest, entry_some e)

same_more : (n m : ℕ) (bytes : List ℕ) (o : Option (Entry × List ℕ)) → entry_at bytes ≡ o
    → ((x : Entry × List ℕ) → entry_at bytes ≡ Some x → entries_within n x.1 ≡ entries_within m x.1)
    → then_more o (entries_within n) ≡ then_more o (entries_within m)
same_more n m bytes None is same = refl
same_more n m bytes (Some x) is same = ap (λ (t : List Entry). x.0 ∷ t) (same x is)

nothing_within : (n : ℕ) → entries_within n [] ≡ []
unfolding entry_at command_at
nothing_within zero = refl
nothing_within (suc n) = refl

same_within : (n m : ℕ) (bytes : List ℕ) → IsBytes bytes → length bytes ≤ n → length bytes ≤ m
    → entries_within n bytes ≡ entries_within m bytes
same_within zero m [] fits ln lm = sym (nothing_within m)
same_within zero m (b ∷ bytes) fits ln lm = absurd (omega (arith, ln))
same_within (suc n) zero [] fits ln lm = nothing_within (suc n)
same_within (suc n) zero (b ∷ bytes) fits ln lm = absurd (omega (arith, lm))
same_within (suc n) (suc m) bytes fits ln lm =
    same_more n m bytes (entry_at bytes) refl (λ x read.
    let t = entry_field.takes bytes x.0 x.1 fits read in
    let lt = shorter_after bytes x.0 x.1 fits read in
    same_within n m x.1 t.0.rest_fits (omega (arith, lt, ln)) (omega (arith, lt, lm)))

-- what is read next stands before what is read later
pub entries_next : (bytes : List ℕ) (e : Entry) (rest : List ℕ) → IsBytes bytes → entry_at bytes ≡ Some (e, rest)
    → entries_of bytes ≡ e ∷ entries_of rest
unfolding entries_of
entries_next [] e rest fits read = absurd (omega (arith, shorter_after [] e rest fits read))
entries_next (b ∷ bytes) e rest fits read =
    let t = entry_field.takes (b ∷ bytes) e rest fits read in
    let lt = shorter_after (b ∷ bytes) e rest fits read in
    let same = same_within (length bytes) (length rest) rest t.0.rest_fits (omega (arith, lt)) (omega arith) in
    rw read (ap (λ (t : List Entry). e ∷ t) same)

pub entries_none : (bytes : List ℕ) → entry_at bytes ≡ None → entries_of bytes ≡ []
unfolding entries_of
entries_none [] none = refl
entries_none (b ∷ bytes) none = rw none refl

-- there are no more entries than bytes
few_more : (n : ℕ) (o : Option (Entry × List ℕ)) (more : List ℕ → List Entry) → ((bytes : List ℕ) → length (more bytes) ≤ n)
    → length (then_more o more) ≤ suc n
few_more n None more few = omega arith
few_more n (Some x) more few = omega (arith, few x.1)

few_within : (n : ℕ) (bytes : List ℕ) → length (entries_within n bytes) ≤ n
few_within zero bytes = omega arith
few_within (suc n) bytes = few_more n (entry_at bytes) (entries_within n) (few_within n)

pub entries_few : (bytes : List ℕ) → length (entries_of bytes) ≤ length bytes
unfolding entries_of
entries_few bytes = few_within (length bytes) bytes
