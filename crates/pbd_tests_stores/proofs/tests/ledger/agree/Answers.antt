use Rattle.std.proofs.Common.{arith, rules, ◌^◌, ℤ, FitsSigned, w64, pos}
use Rattle.std.specs.Int.Signed.{nat_abs-le}
use Rattle.std.proofs.lemmas.Int.{to_z-of_z}
use Rattle.pbd_world.specs.Ledger.{SumWithin}
use Rattle.pbd_ledger.proofs.Adding.{room_fits, wide}
use Rattle.pbd_tests_stores.proofs.tests.ledger.agree.Goals as goal

along : (z : ℤ) → FitsSigned w64 z → SumWithin (2 ^ 120) (record { x = z; y = pos 0; z = pos 0 })
along z f = record { x = omega (arith, nat_abs-le z f.sfits); y = omega arith; z = omega arith }

pub balanced-requires : goal.balanced-requires
balanced-requires c =
    let o = c.ranges.opening in
    let l : FitsSigned w64 c.args.booked.link = search rules in
    let p : FitsSigned w64 c.args.booked.pin = search rules in
    let s : FitsSigned w64 c.args.booked.shape = search rules in
    let fo = wide c.args.opening (omega (arith, nat_abs-le c.args.opening o.sfits)) in
    let fl = wide c.args.booked.link (omega (arith, nat_abs-le c.args.booked.link l.sfits)) in
    let fp = wide c.args.booked.pin (omega (arith, nat_abs-le c.args.booked.pin p.sfits)) in
    let fs = wide c.args.booked.shape (omega (arith, nat_abs-le c.args.booked.shape s.sfits)) in
    let none = along (pos 0) (record { sfits = omega arith }) in
    simp (c.from.ensures, c.from-2.ensures, c.from-3.ensures, c.from-4.ensures, to_z-of_z)
    (room_fits _ _ (along c.args.opening o) (record {
      gravity = none;
      damping = none;
      link = along c.args.booked.link l;
      contact = none;
      pin = along c.args.booked.pin p;
      shape = along c.args.booked.shape s;
    }))
