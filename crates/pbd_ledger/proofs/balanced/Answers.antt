use Rattle.std.proofs.Common.{◌∙◌, sym, ap}
use Rattle.pbd_world.specs.Ledger.{Sum, sum_of, ledger_of, both_sums}
use Rattle.pbd_ledger.proofs.balanced.Goals as goal

pub returns : goal.returns
returns c =
    let t = ledger_of c.args.totals.now in
    let contact = c.both-from_contact.ensures ∙ ap (λ (s : Sum). both_sums t.contact s) c.both-from_pin.ensures in
    let link = c.both-from_link.ensures ∙ ap (λ (s : Sum). both_sums t.link s) contact in
    let damping = c.both-from_damping.ensures ∙ ap (λ (s : Sum). both_sums t.damping s) link in
    let totals = c.both-all.ensures ∙ ap (λ (s : Sum). both_sums t.gravity s) damping in
    let all = c.both.ensures ∙ ap (λ (s : Sum). both_sums (sum_of c.args.opening.now) s) totals in
    (λ h. c.same.ensures.0 h ∙ all, λ h. c.same.ensures.1 (h ∙ sym all))
