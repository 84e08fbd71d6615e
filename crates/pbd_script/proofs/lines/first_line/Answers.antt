use Rattle.std.proofs.Common.{◌≡◌, ◌∙◌, sym, arith, get_or, Some}
use Rattle.std.specs.Prelude.{◌==◌, position}
use Rattle.std.proofs.lemmas.List.{take_rest}
use Rattle.std.proofs.lemmas.Bool.Decides.{nat_tests}
use Rattle.pbd_script.proofs.LineLemmas.{split_none, split_some, around, whole_text, whole_front}
use Rattle.pbd_script.proofs.lines.first_line.Goals as goal

pub returns-in-None-clause-lines : goal.returns-in-None-clause-lines
returns-in-None-clause-lines c = split_none (λ b. b == 10) c.args.bytes.now (sym c.newline_at.ensures ∙ c.in-None.is)

pub returns-in-None-clause-whole : goal.returns-in-None-clause-whole
returns-in-None-clause-whole c = whole_text c.args.bytes.now (sym c.newline_at.ensures ∙ c.in-None.is)

pub returns-in-Some-clause-lines : goal.returns-in-Some-clause-lines
returns-in-Some-clause-lines c =
    let some : position (λ b. b == 10) c.args.bytes.now ≡ Some c.in-Some.at = sym c.newline_at.ensures ∙ c.in-Some.is in
    rw take_rest (split_some (λ b. b == 10) c.args.bytes.now c.in-Some.at 0 some)

pub returns-in-Some-clause-bytes : goal.returns-in-Some-clause-bytes
returns-in-Some-clause-bytes c =
    let some : position (λ b. b == 10) c.args.bytes.now ≡ Some c.in-Some.at = sym c.newline_at.ensures ∙ c.in-Some.is in
    let parts = around (λ b. b == 10) c.args.bytes.now c.in-Some.at 0 some in
    let ten : get_or c.args.bytes.now c.in-Some.at 0 ≡ 10 = grind (arith, nat_tests, parts.1) in
    rw take_rest (rw ten at parts.0)

pub returns-in-Some-clause-whole : goal.returns-in-Some-clause-whole
returns-in-Some-clause-whole c = whole_front c.args.bytes.now c.in-Some.at (sym c.newline_at.ensures ∙ c.in-Some.is)
