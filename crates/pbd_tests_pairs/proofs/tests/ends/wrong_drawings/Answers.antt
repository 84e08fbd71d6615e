use Rattle.std.proofs.lemmas.List.Sums.{AllPass-from_list_all}
use Rattle.pbd_tests_pairs.proofs.tests.ends.wrong_drawings.Goals as goal

pub wrong_cases-requires : goal.wrong_cases-requires
wrong_cases-requires g c =
    AllPass-from_list_all _ _ c.requires c.loop-drawing.drawing-index _ c.loop-drawing-test.true
