use Rattle.pbd_tests_numbers.proofs.tests.num.calculated.Goals as goal

pub plus-requires-clause-first : goal.plus-requires-clause-first
plus-requires-clause-first c = c.is_within.ensures c.if-not-is_within.false

pub plus-requires-clause-second : goal.plus-requires-clause-second
plus-requires-clause-second c = c.is_within-2.ensures c.if-not-is_within-2.false

pub minus-requires-clause-first : goal.minus-requires-clause-first
minus-requires-clause-first c = c.is_within.ensures c.if-not-is_within.false

pub minus-requires-clause-second : goal.minus-requires-clause-second
minus-requires-clause-second c = c.is_within-2.ensures c.if-not-is_within-2.false

pub minus-requires-2-clause-first : goal.minus-requires-2-clause-first
minus-requires-2-clause-first c = c.is_within-2.ensures c.if-not-is_within-2.false

pub minus-requires-2-clause-second : goal.minus-requires-2-clause-second
minus-requires-2-clause-second c = c.is_within.ensures c.if-not-is_within.false

pub opposite-requires : goal.opposite-requires
opposite-requires c = c.is_within-3.ensures c.if-not-is_within-3.false
