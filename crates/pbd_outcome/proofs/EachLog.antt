-- Bytes spell a log, or they go wrong somewhere.
use Rattle.std.proofs.Common.{◌≡◌, ◌∙◌, sym, ap, refl, ℕ, zero, suc, ◌+◌, ◌-◌, ◌<◌, ◌^◌, ◌⊎◌, inl, inr, List, [], ◌∷◌, length, Option, Some}
use Rattle.std.proofs.Common.{None, Result, Ok, Err, arith}
use Rattle.pbd_log.specs.declared.entry.Entry.{Entry}
use Rattle.pbd_log.specs.Laws.{IsBytes}
use Rattle.pbd_log.specs.Logs.{BeginsNoEntry, IsFault, Log, Spells, end_bytes}
use Rattle.pbd_log.specs.Reading.{Head, after_end, entries_of, entry_at, head_at}
use Rattle.pbd_log.proofs.Bodies.{begins_none, shorter_after}
use Rattle.pbd_log.proofs.Entries.{entry_field}
use Rattle.pbd_log.proofs.Faults.{body_fails, head_fails}
use Rattle.pbd_log.proofs.Heads.{IsHead, head_takes}
use Rattle.pbd_log.proofs.Logs.{found, is_ended, no_end_fails, past_end_fails, rest_within}
use Rattle.pbd_log.proofs.Skipping.{SoFar, begins, goes_on}

abbrev pub LogOrFault : List ℕ → Type 0
LogOrFault bytes =
    ((log : Log) × Spells bytes log.version log.limit log.scene log.entries)
    ⊎ ((offset : ℕ) × IsFault bytes offset)

-- the entries at the front of a body, and a rest that none begins
record Skipped (body : List ℕ) : Type 0 where
  rest : List ℕ
  count : ℕ
  so_far : SoFar body rest count
  fits : IsBytes rest
  none : BeginsNoEntry rest

skip_one : (body rest : List ℕ) (count : ℕ) → IsBytes rest → SoFar body rest count → (read : Option (Entry × List ℕ)) → entry_at rest ≡ read
    → ((after : List ℕ) → IsBytes after → length after < length rest → SoFar body after (count + 1) → Skipped body) → Skipped body
skip_one body rest count fits so_far None is more = record {
  rest = rest;
  count = count;
  so_far = so_far;
  fits = fits;
  none = begins_none rest is;
}
skip_one body rest count fits so_far (Some x) is more =
    let taken = entry_field.takes rest x.0 x.1 fits is in
    more x.1 taken.0.rest_fits (shorter_after rest x.0 x.1 fits is) (goes_on body rest x.1 count x.0 fits is so_far)

skip : (n : ℕ) (body rest : List ℕ) (count : ℕ) → IsBytes rest → length rest < n → SoFar body rest count → Skipped body
skip zero body rest count fits few so_far = absurd (omega (arith, few))
skip (suc n) body rest count fits few so_far =
    skip_one body rest count fits so_far (entry_at rest) refl
    (λ after its_fits shorter next. skip n body after (count + 1) its_fits (omega (arith, shorter, few)) next)

-- the end behind the entries, or not
ended : (bytes : List ℕ) (head : Head) → length bytes < 2 ^ 64 → IsHead bytes head → (s : Skipped head.body) → (read : Option (List ℕ))
    → after_end s.count s.rest ≡ read → LogOrFault bytes
ended bytes head small is s None none =
    let le = rest_within bytes head s.so_far.entries s.rest is s.so_far.parts in
    let body = rest_within bytes head [] head.body is refl in
    let fails = no_end_fails (length bytes) s.count s.rest (omega (arith, s.so_far.room, body, small)) le none in
    inr (
      length bytes - length s.rest,
      body_fails bytes head s.so_far.entries s.rest s.count _ is s.so_far.each s.so_far.parts
          s.so_far.counted s.none fails,
    )
ended bytes head small is s (Some []) read =
    let body = rest_within bytes head [] head.body is refl in
    let at_end : s.rest ≡ end_bytes s.count = is_ended s.count s.rest [] s.fits read (omega arith) in
    let log : Log = record { version = head.version; limit = head.limit; scene = head.scene; entries = entries_of head.body } in
    inl (
      log,
      found bytes head s.so_far.entries s.rest is s.so_far.each s.so_far.parts (at_end ∙ ap end_bytes (sym s.so_far.counted))
          (omega (arith, s.so_far.counted, s.so_far.room, body, small)),
    )
ended bytes head small is s (Some (b ∷ more)) read =
    let le = rest_within bytes head s.so_far.entries s.rest is s.so_far.parts in
    let fails = past_end_fails (length bytes) s.count s.rest (b ∷ more) s.fits le read (omega arith) in
    inr (
      length bytes - length (b ∷ more),
      body_fails bytes head s.so_far.entries s.rest s.count _ is s.so_far.each s.so_far.parts
          s.so_far.counted s.none fails,
    )

headed : (bytes : List ℕ) → IsBytes bytes → length bytes < 2 ^ 64 → (read : Result Head ℕ) → head_at bytes ≡ read → LogOrFault bytes
headed bytes fits small (Err offset) is = inr (offset, head_fails bytes offset fits is)
headed bytes fits small (Ok head) read =
    let is = head_takes bytes head fits read in
    let s = skip (suc (length head.body)) head.body head.body 0 is.fits (omega arith) (begins head.body) in
    ended bytes head small is s (after_end s.count s.rest) refl

-- fewer than 2^64 bytes are a log, or they have a fault
pub each_log : (bytes : List ℕ) → IsBytes bytes → length bytes < 2 ^ 64 → LogOrFault bytes
each_log bytes fits small = headed bytes fits small (head_at bytes) refl
