use Rattle.std.proofs.Common.{ap, ◌∙◌, w64, FitsSigned, rules, subst, ℤ}
use Rattle.std.proofs.lemmas.Int.{to_z-of_z}
use Rattle.pbd_world.specs.Bonds.{end_of}
use Rattle.pbd_pair.specs.Bonds.{IsSound}
use Rattle.pbd_pair.proofs.Single.{is_end, same_correction}
use Rattle.pbd_pair.proofs.parts.read_bond.Goals as goal

pub correct-requires-clause-p : goal.correct-requires-clause-p
correct-requires-clause-p g c =
    let f : FitsSigned w64 c.limit_of-limit.result = search rules in
    simp to_z-of_z (is_end c.args.store.now.particles c.args.bond.a c.as_end.result c.limit_of-limit.ensures.value (c.as_end.ensures.value
    ∙ ap end_of c.at-p.ensures.value) c.as_end.ensures.low c.as_end.ensures.high c.requires.bond.first c.requires.inside)

pub correct-requires-clause-q : goal.correct-requires-clause-q
correct-requires-clause-q g c =
    let f : FitsSigned w64 c.limit_of-limit.result = search rules in
    simp to_z-of_z (is_end c.args.store.now.particles c.args.bond.b c.as_end-2.result c.limit_of-limit.ensures.value
    (c.as_end-2.ensures.value
    ∙ ap end_of c.at-q.ensures.value) c.as_end-2.ensures.low c.as_end-2.ensures.high c.requires.bond.second c.requires.inside)

pub returns-clause-value : goal.returns-clause-value
returns-clause-value g c =
    let f : FitsSigned w64 c.limit_of-limit.result = search rules in
    let same = same_correction c.args.bond c.args.store.now.particles
    (simp to_z-of_z at c.correct.ensures.value) c.limit_of-limit.ensures.value
    (c.as_end.ensures.value ∙ ap end_of c.at-p.ensures.value) (c.as_end-2.ensures.value ∙ ap end_of c.at-q.ensures.value) in
    λ i. record { correction = same i; first_held = (c.at-p.ensures.value i).held; second_held = (c.at-q.ensures.value i).held }

pub returns-clause-sound : goal.returns-clause-sound
returns-clause-sound g c =
    let f : FitsSigned w64 c.limit_of-limit.result = search rules in
    let told = simp to_z-of_z at c.correct.ensures.sound in
    subst (λ (l : ℤ). IsSound l c.correct.result) c.limit_of-limit.ensures.value told
