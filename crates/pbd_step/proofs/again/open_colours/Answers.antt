use Rattle.std.proofs.Common.{◌≡◌, rules, sym, ap, ◌∙◌, arith, subst, length, ◌≤◌, List}
use Rattle.pbd_world.specs.declared.parts.Link.{Link}
use Rattle.pbd_world.specs.Contacts.{link_pairs}
use Rattle.pbd_colour.specs.Pairs.{Coloured, InRange}
use Rattle.pbd_step.proofs.Keeping.{valid_fit}
use Rattle.pbd_step.proofs.again.open_colours.Goals as goal

pub overflow_cast-particles : goal.overflow_cast-particles
overflow_cast-particles c =
    let few : c.len-particles.result ≤ 65536 = omega (arith, c.len-particles.ensures, (valid_fit c.args.parts.now c.requires).particles) in
    search rules

pub overflow_cast-count : goal.overflow_cast-count
overflow_cast-count c =
    let few : length c.as_slice-links.result.now ≤ 524288 = subst (λ (ls : List Link). length ls ≤ 524288)
    (sym c.as_slice-links.ensures) (valid_fit c.args.parts.now c.requires).links in
    search rules

pub open-requires-3-clause-particles : goal.open-requires-3-clause-particles
open-requires-3-clause-particles c = omega (arith, c.len-particles.ensures, (valid_fit c.args.parts.now c.requires).particles)

pub open-requires-3-clause-room : goal.open-requires-3-clause-room
open-requires-3-clause-room c = subst (λ (ls : List Link). length ls ≤ 524288) (sym c.as_slice-links.ensures)
    (valid_fit c.args.parts.now c.requires).links

pub colour_again-requires-clause-in_range : goal.colour_again-requires-clause-in_range
colour_again-requires-clause-in_range c =
    let many : c.in_ok-colours.colours.particles ≡ length c.args.parts.now.particles =
    ap (λ (s : Coloured). s.particles) c.in_ok-colours.ensures ∙ c.len-particles.ensures in
    coe 0 1 (i. InRange (sym many i) (link_pairs (sym c.as_slice-links.ensures i))) (valid_fit c.args.parts.now c.requires).in_range
