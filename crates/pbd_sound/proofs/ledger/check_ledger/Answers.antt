use Rattle.std.proofs.Common.{◌^◌, sym, arith, false}
use Rattle.pbd_world.specs.Ledger.{sum_of, ledger_of}
use Rattle.pbd_sound.proofs.Sounding.{weaker, most_far, totals_small}
use Rattle.pbd_sound.proofs.ledger.check_ledger.Goals as goal

pub is_balanced-requires : goal.is_balanced-requires
is_balanced-requires g c =
    let numbers = c.args.numbers.now in
    let few = c.requires.few in
    let bounded = totals_small _ _ _ (ledger_of numbers.totals)
    (most_far false numbers.steps _ few c.most_unless.ensures) (most_far _ numbers.steps _ few c.most_unless-2.ensures)
    (most_far _ numbers.steps _ few c.most_unless-3.ensures)
    (sym c.in_ok-check_totals.ensures) in (
      omega arith,
      (
        c.requires.lanes,
        (
          weaker (2 ^ 46) (2 ^ 84) (sum_of numbers.opening) (omega arith) c.requires.opening,
          (bounded, c.requires.now),
        ),
      ),
    )
