use Rattle.pbd_world.proofs.VerbLaws.{verb_found}
use Rattle.pbd_world.proofs.laws.verbs_are_told_apart.Goals as goal

pub returns-clause-word : goal.returns-clause-word
returns-clause-word c = λ v. (verb_found v).named

pub returns-clause-code : goal.returns-clause-code
returns-clause-code c = λ v. (verb_found v).coded
