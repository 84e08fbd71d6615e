use Rattle.std.proofs.Common.{◌∙◌, refl, sym}
use Rattle.pbd_step.proofs.Keeping.{fixed_pairs, known_again, taken_links}
use Rattle.pbd_step.proofs.again.restore_coloured.Goals as goal

pub take_colours-are_coloured-requires : goal.take_colours-are_coloured-requires
take_colours-are_coloured-requires g c = c.requires.mine.pairs
    ∙ fixed_pairs c.args.run.now.state.links.items c.args.other.now.links.items c.requires.fixed ∙ sym c.requires.others.pairs

pub returns-clause-links : goal.returns-clause-links
returns-clause-links g c = taken_links c.requires.mine c.requires.others c.requires.alike.particles c.requires.fixed
    c.take_colours-are_coloured.ensures.taken

pub returns-clause-knows : goal.returns-clause-knows
returns-clause-knows g c = known_again c.args.other.now c.requires.knows c.requires.fixed c.take_over.ensures.links
    c.take_over.ensures.weights c.requires.mine.live
    (λ h. c.take_colours-are_coloured.ensures.same h ∙ c.requires.others.live)
    (λ h. sym c.deref.ensures.value ∙ c.are_same-are_weighed.ensures h ∙ c.deref-2.ensures.value)
    refl
