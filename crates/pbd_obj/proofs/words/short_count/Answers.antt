use Rattle.pbd_obj.proofs.Numbers.{count_below}
use Rattle.pbd_obj.proofs.words.short_count.Goals as goal

pub returns-then-word-most-clause-size : goal.returns-then-word-most-clause-size
returns-then-word-most-clause-size c = count_below c.args.word.now c.args.most c.count_of.result c.count_of.ensures.exact
    c.if-word-most.true
