use Rattle.std.proofs.Common.{arith, w64}
use Rattle.std.proofs.lemmas.Int.{to_z-of_z}
use Rattle.pbd_num.proofs.Sizes.{fits}
use Rattle.pbd_run.proofs.GeneratedLaws.{three_words}
use Rattle.pbd_run.proofs.generated.velocity_of.Goals as goal

pub returns-clause-value : goal.returns-clause-value
returns-clause-value c =
    let x = fits c.speed-x.result (omega (arith, c.speed-x.ensures.small)) in
    let y = fits c.speed-y.result (omega (arith, c.speed-y.ensures.small)) in
    let z = fits c.speed-z.result (omega (arith, c.speed-z.ensures.small)) in
    rw (to_z-of_z w64 c.speed-x.result x, to_z-of_z w64 c.speed-y.result y, to_z-of_z w64 c.speed-z.result z)
    (three_words c.args.words.now _ _ _ _ _ _ c.speed-x.result c.speed-y.result c.speed-z.result c.next_word.ensures c.next_word-2.ensures
    c.next_word-3.ensures c.speed-x.ensures.value c.speed-y.ensures.value c.speed-z.ensures.value)
