use Rattle.std.proofs.Common.{◌≡◌, ◌^◌, ◌∙◌, sym, arith}
use Rattle.pbd_world.specs.Ledger.{sum_of, ledger_of}
use Rattle.pbd_world.proofs.ValidLemmas.{same_test}
use Rattle.pbd_sound.proofs.Sounding.{weaker, unbalanced, room_for_sums, balance_pass, pass_balance}
use Rattle.pbd_sound.proofs.ledger.is_balanced.Goals as goal

pub returns-then-not-is_sum_within-clause-value : goal.returns-then-not-is_sum_within-clause-value
returns-then-not-is_sum_within-clause-value g c =
    unbalanced (sum_of c.args.opening.now) (ledger_of c.args.totals.now) c.args.store.now.particles c.requires.opening c.requires.totals
    c.requires.now (sym c.is_sum_within.ensures ∙ c.if-not-is_sum_within.true)

pub balanced-requires : goal.balanced-requires
balanced-requires g c = c.sums_with_room_fit.ensures _ _ (weaker (2 ^ 84) (2 ^ 120) _ (omega arith) c.requires.opening)
    (room_for_sums _ c.requires.totals (sym c.is_sum_within.ensures ∙ c.if-not-is_sum_within.false))

pub returns-clause-value : goal.returns-clause-value
returns-clause-value g c =
    let o = sum_of c.args.opening.now in
    let t = ledger_of c.args.totals.now in
    let ps = c.args.store.now.particles in
    same_test _ _
    (λ b. pass_balance o t ps (sym c.momentum-now.ensures.value ∙ c.balanced.ensures.0 b))
    (λ b. c.balanced.ensures.1 (c.momentum-now.ensures.value ∙ balance_pass o t ps b))
