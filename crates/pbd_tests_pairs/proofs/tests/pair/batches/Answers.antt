use Rattle.std.proofs.lemmas.List.Sums.{AllPass-from_list_all}
use Rattle.pbd_tests_pairs.proofs.tests.pair.batches.Goals as goal

pub projected_in-told-requires-clause-drawn : goal.projected_in-told-requires-clause-drawn
projected_in-told-requires-clause-drawn g c =
    AllPass-from_list_all _ _ c.requires.drawn c.loop-case.case-index _ c.loop-case-test.true
