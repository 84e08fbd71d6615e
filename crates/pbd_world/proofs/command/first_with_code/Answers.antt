use Rattle.std.proofs.Common.{◌∙◌, rules, tests}
use Rattle.std.specs.Prelude.{◌==◌}
use Rattle.std.proofs.lemmas.Iterator.{YieldsList-from_slice}
use Rattle.std.proofs.lemmas.Iterator.Search.{find_from_yields_List}
use Rattle.pbd_world.specs.Verbs.{row}
use Rattle.pbd_world.proofs.command.first_with_code.Goals as goal

pub returns : goal.returns
returns c = c.copied.ensures ∙ find_from_yields_List (λ v. (row v).code == c.args.code) _ _ c.find.result c.find.ensures.ran
    (YieldsList-from_slice c.args.verbs.now cc) (λ x b q k. search (rules, tests))
