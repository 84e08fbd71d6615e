use Rattle.std.proofs.Common.{◌∙◌, sym, ap, subst, arith}
use Rattle.std.proofs.lemmas.Result.{err_from_is_err_and}
use Rattle.std.proofs.Math.Facts.{to_z-of_z}
use Rattle.pbd_log.specs.Logs.{Spells, end_bytes, IsFault}
use Rattle.pbd_log.specs.Reading.{Head, entries_of}
use Rattle.pbd_log.proofs.Heads.{IsHead, head_takes}
use Rattle.pbd_log.proofs.Logs.{found, rest_within, version_fits}
use Rattle.pbd_log.proofs.Faults.{fault_spells_nothing, head_fails, body_fails}
use Rattle.pbd_log.proofs.view.read_log.Goals.{In_ok-head, In_err-head, In_err-check_end}
use Rattle.pbd_log.proofs.view.read_log.Goals as goal

-- the head that was read, and that the bytes have it
abbrev head_in : In_ok-head → Head
head_in c = let h = c.in_ok-head.head in record { version = h.version; limit = h.limit; scene = h.scene.now; body = h.body.now }

is_head : (c : In_ok-head) → IsHead c.args.bytes.now (head_in c)
is_head c = head_takes c.args.bytes.now (head_in c) (λ i. omega (arith, c.type_inv.bytes i)) c.in_ok-head.ensures

-- where the bytes are no log
no_head : (c : In_err-head) → IsFault c.args.bytes.now c.in_err-head.field-0.0.offset
no_head c = head_fails c.args.bytes.now c.in_err-head.field-0.0.offset (λ i. omega (arith, c.type_inv.bytes i)) c.in_err-head.ensures

no_end : (c : In_err-check_end) → IsHead c.args.bytes.now (record {
  version = c.in_ok-head.head.version;
  limit = c.in_ok-head.head.limit;
  scene = c.in_ok-head.head.scene.now;
  body = c.in_ok-head.head.body.now;
}) → IsFault c.args.bytes.now c.in_err-check_end.field-0.0.offset
no_end c is =
    let parts = c.skip_entries-count.ensures.parts in
    body_fails c.args.bytes.now _ parts.0 c.skip_entries-count.result.1.now c.skip_entries-count.result.0 _ is parts.1 parts.2 parts.3
    c.skip_entries-count.ensures.none c.in_err-check_end.ensures

pub returns-in_err-head-clause-nothing : goal.returns-in_err-head-clause-nothing
returns-in_err-head-clause-nothing c =
    let p = err_from_is_err_and c.from_residual.result c.from_residual.ensures.1 in
    rw p.1 (fault_spells_nothing c.args.bytes.now _ (no_head (goal.at.returns-in_err-head-clause-nothing c).In_err-head))

pub returns-in_err-head-clause-place : goal.returns-in_err-head-clause-place
returns-in_err-head-clause-place c =
    let p = err_from_is_err_and c.from_residual.result c.from_residual.ensures.1 in
    rw (p.1, p.2) (no_head (goal.at.returns-in_err-head-clause-place c).In_err-head)

pub check_end-requires : goal.check_end-requires
check_end-requires c =
    let at = (goal.at.check_end-requires c).In_ok-head in
    let parts = c.skip_entries-count.ensures.parts in
    rest_within c.args.bytes.now (head_in at) parts.0 c.skip_entries-count.result.1.now (is_head at) parts.2

pub returns-in_err-check_end-clause-nothing : goal.returns-in_err-check_end-clause-nothing
returns-in_err-check_end-clause-nothing c =
    let at = goal.at.returns-in_err-check_end-clause-nothing c in
    let p = err_from_is_err_and c.from_residual-in_err-check_end.result c.from_residual-in_err-check_end.ensures.1 in
    rw p.1 (fault_spells_nothing c.args.bytes.now _ (no_end at.In_err-check_end (is_head at.In_ok-head)))

pub returns-in_err-check_end-clause-place : goal.returns-in_err-check_end-clause-place
returns-in_err-check_end-clause-place c =
    let at = goal.at.returns-in_err-check_end-clause-place c in
    let p = err_from_is_err_and c.from_residual-in_err-check_end.result c.from_residual-in_err-check_end.ensures.1 in
    rw (p.1, p.2) (no_end at.In_err-check_end (is_head at.In_ok-head))

pub returns-clause-found : goal.returns-clause-found
returns-clause-found c =
    let at = (goal.at.returns-clause-found c).In_ok-head in
    let h = head_in at in
    let is = is_head at in
    let parts = c.skip_entries-count.ensures.parts in
    let ended = c.in_ok-check_end.ensures ∙ ap end_bytes (sym parts.3) in
    subst (λ l. Spells c.args.bytes.now h.version l h.scene (entries_of h.body))
    (sym (to_z-of_z (version_fits h.version h.limit is.known)))
    (found c.args.bytes.now h parts.0 c.skip_entries-count.result.1.now is parts.1 parts.2 ended
    (omega (arith, parts.3, c.skip_entries-count.ensures.fits)))
