use Rattle.std.proofs.Common.{◌∙◌, sym, ap, List}
use Rattle.pbd_world.specs.declared.parts.Link.{Link}
use Rattle.pbd_world.specs.Contacts.{live_flags}
use Rattle.pbd_step.proofs.Keeping.{known_again}
use Rattle.pbd_step.proofs.again.restore.Goals as goal

pub returns-clause-knows : goal.returns-clause-knows
returns-clause-knows g c = known_again c.args.other.now c.requires.knows c.requires.fixed c.take_over.ensures.links c.take_over.ensures.weights
    c.requires.live
    (λ h. sym c.live.ensures.value ∙ c.are_live_by-are_coloured.ensures h ∙ ap (λ (ls : List Link). live_flags ls) c.deref.ensures.value)
    (λ h. sym c.deref-2.ensures.value ∙ c.are_same-are_weighed.ensures h ∙ c.deref-3.ensures.value)
    c.recolour.ensures.same
