use Rattle.std.proofs.Common.{sym, ap, ◌∙◌, ◌+◌, ◌-◌, ◌*◌, List, length, arith}
use Rattle.pbd_world.specs.declared.parts.Link.{Link}
use Rattle.pbd_world.specs.Bonds.{link_at}
use Rattle.pbd_world.specs.Ledger.{Ledger}
use Rattle.pbd_encoding.specs.Encoding.{flag_bytes, first_totals_bytes, last_totals_bytes}
use Rattle.pbd_state.proofs.Numbering.{is_head, is_live, is_first_totals, is_last_totals}
use Rattle.pbd_state.proofs.fields.field.Goals as goal

pub returns-then-k-lt1-clause-bytes : goal.returns-then-k-lt1-clause-bytes
returns-then-k-lt1-clause-bytes g c = c.head.ensures ∙ sym
    (is_head c.args.scene.now c.args.shown.now c.args.k (omega (arith, c.if-k-lt1.true)))

pub returns-then-k-n-2-clause-bytes : goal.returns-then-k-n-2-clause-bytes
returns-then-k-n-2-clause-bytes g c =
    let n = c.particles-n.ensures.value in
    let m = ap (λ (ls : List Link). length ls) c.links-links.ensures.value in
    c.live.ensures ∙ (λ i. flag_bytes (link_at (c.links-links.ensures.value i) (c.args.k - (3 * (n i) + 1))).live)
    ∙ sym (is_live c.args.scene.now c.args.shown.now c.args.k
    (omega (arith, c.if-k-n.false, n)) (omega (arith, c.if-k-n-2.true, n, m, c.links-links.ensures.size)))

pub returns-then-k-n-3-clause-bytes : goal.returns-then-k-n-3-clause-bytes
returns-then-k-n-3-clause-bytes g c =
    let n = c.particles-n.ensures.value in
    let m = ap (λ (ls : List Link). length ls) c.links-links.ensures.value in
    c.first_totals.ensures ∙ (λ i. first_totals_bytes (c.contacts.ensures.value i) (c.totals.ensures.value i))
    ∙ sym (is_first_totals c.args.scene.now c.args.shown.now c.args.k
    (omega (arith, c.if-k-n-2.false, n, m, c.links-links.ensures.size)) (omega (arith, c.if-k-n-3.true, n, m, c.links-links.ensures.size)))

pub returns-clause-bytes : goal.returns-clause-bytes
returns-clause-bytes g c =
    let n = c.particles-n.ensures.value in
    let m = ap (λ (ls : List Link). length ls) c.links-links.ensures.value in
    c.last_totals.ensures ∙ ap (λ (t : Ledger). last_totals_bytes t) c.totals-2.ensures.value
    ∙ sym (is_last_totals c.args.scene.now c.args.shown.now c.args.k (omega (arith, c.if-k-n-3.false, n, m, c.links-links.ensures.size)))
