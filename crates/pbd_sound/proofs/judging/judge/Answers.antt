use Rattle.std.proofs.Common.{◌≡◌, ◌^◌, ◌∙◌, ℤ, sym, ap, arith, Ok, subst, length, ◌≤◌}
use Rattle.std.specs.Prelude.{IsTrue}
use Rattle.pbd_world.specs.Valid.{is_limit}
use Rattle.pbd_world.proofs.KeptLemmas.{IsLimit}
use Rattle.pbd_world.proofs.WholeLemmas.{limit_low, limit_high}
use Rattle.pbd_sound.proofs.Sounding.{counts_few, passed_momentum}
use Rattle.pbd_sound.proofs.judging.judge.Goals as goal

pub check_ledger-requires : goal.check_ledger-requires
check_ledger-requires g c =
    let store = c.args.store.now in
    let either = subst (λ (l : ℤ). IsTrue (is_limit l)) c.limit.ensures.value c.limit.ensures.either in
    let lim : IsLimit store.limit = record { low = limit_low store.limit either; high = limit_high store.limit either } in
    let few : length store.particles ≤ 65536 = c.in_ok-check_particles.ensures.few in (
      omega arith,
      (
        c.requires.lanes,
        (
          counts_few _ _ _ (sym c.in_ok-check_counts.ensures),
          (
            c.requires.opening,
            passed_momentum store.limit c.args.tracks.now store.particles lim few
                (sym c.in_ok-check_particles.ensures.value),
          ),
        ),
      ),
    )
