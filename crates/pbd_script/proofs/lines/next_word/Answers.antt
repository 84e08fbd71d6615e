use Rattle.std.proofs.Common.{◌∙◌, sym, drop}
use Rattle.std.proofs.lemmas.List.{take_rest}
use Rattle.pbd_script.proofs.LineLemmas.{words_none, words_last, words_more, word_last, word_more}
use Rattle.pbd_script.proofs.lines.next_word.Goals as goal

pub returns-in-None-clause-words : goal.returns-in-None-clause-words
returns-in-None-clause-words c = words_none c.args.line.now (sym c.word_at.ensures ∙ c.in-None.is)

pub returns-in-None-blank_at-clause-words : goal.returns-in-None-blank_at-clause-words
returns-in-None-blank_at-clause-words c =
    rw take_rest (words_last c.args.line.now c.in-Some.start (sym c.word_at.ensures ∙ c.in-Some.is)
    (rw take_rest at (sym c.blank_at.ensures ∙ c.in-None-blank_at.is)))

pub returns-in-None-blank_at-clause-place : goal.returns-in-None-blank_at-clause-place
returns-in-None-blank_at-clause-place c =
    rw take_rest (word_last c.args.line.now c.in-Some.start (sym c.word_at.ensures ∙ c.in-Some.is)
    (rw take_rest at (sym c.blank_at.ensures ∙ c.in-None-blank_at.is)))

pub returns-in-Some-blank_at-clause-words : goal.returns-in-Some-blank_at-clause-words
returns-in-Some-blank_at-clause-words c =
    rw (take_rest c.args.line.now c.in-Some.start, take_rest (drop c.in-Some.start c.args.line.now) c.in-Some-blank_at.end)
    (words_more c.args.line.now c.in-Some.start c.in-Some-blank_at.end (sym c.word_at.ensures ∙ c.in-Some.is)
    (rw take_rest at (sym c.blank_at.ensures ∙ c.in-Some-blank_at.is)))

pub returns-in-Some-blank_at-clause-place : goal.returns-in-Some-blank_at-clause-place
returns-in-Some-blank_at-clause-place c =
    rw (take_rest c.args.line.now c.in-Some.start, take_rest (drop c.in-Some.start c.args.line.now) c.in-Some-blank_at.end)
    (word_more c.args.line.now c.in-Some.start c.in-Some-blank_at.end (sym c.word_at.ensures ∙ c.in-Some.is)
    (rw take_rest at (sym c.blank_at.ensures ∙ c.in-Some-blank_at.is)))
