use Rattle.pbd_tests_numbers.proofs.tests.num.exact_moves.Goals as goal

pub pair_move-requires-clause-a : goal.pair_move-requires-clause-a
pair_move-requires-clause-a c = c.both_inside.ensures.first c.if-not-both_inside.false

pub pair_move-requires-clause-b : goal.pair_move-requires-clause-b
pair_move-requires-clause-b c = c.both_inside.ensures.second c.if-not-both_inside.false
