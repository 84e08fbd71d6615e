-- Which sums of a balance fit.
use Rattle.pbd_world.specs.Ledger.{Sum, Ledger, both_sums, all_totals, SumFits}

-- the totals are added up from the last to the first, and the opening momentum to all of them: each of these sums fits 128 bits
pub record SumsFit (opening : Sum) (t : Ledger) : Type 0 where
  pub from_pin : SumFits (both_sums t.pin t.shape)
  pub from_contact : SumFits (both_sums t.contact (both_sums t.pin t.shape))
  pub from_link : SumFits (both_sums t.link (both_sums t.contact (both_sums t.pin t.shape)))
  pub from_damping : SumFits (both_sums t.damping (both_sums t.link (both_sums t.contact (both_sums t.pin t.shape))))
  pub totals : SumFits (all_totals t)
  pub all : SumFits (both_sums opening (all_totals t))
