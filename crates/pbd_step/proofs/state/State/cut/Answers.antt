use Rattle.std.proofs.Common.{sym, ap, ◌∙◌, arith, List, Bool, false, [], ◌∷◌}
use Rattle.std.proofs.lemmas.List.{length-set}
use Rattle.pbd_world.specs.declared.parts.Link.{Link}
use Rattle.pbd_colour.specs.Pairs.{Coloured, dropped}
use Rattle.pbd_step.proofs.Dropping.{cut_pairs, cut_flags}
use Rattle.pbd_step.proofs.state.State.cut.Goals as goal

pub returns-clause-links : goal.returns-clause-links
returns-clause-links g c =
    let links = c.args.self.now.links.items in
    let l = c.in-Ok.n in
    let is = c.dead.ensures ∙ ap (λ (x : Link). record x { live = false }) c.index-2.ensures in
    record {
      particles = ap (λ (s : Coloured). s.particles) c.drop_pairs.ensures ∙ c.requires.links.particles;
      pairs = ap (λ (s : Coloured). s.pairs) c.drop_pairs.ensures ∙ c.requires.links.pairs ∙ sym (cut_pairs links l c.dead.result _ is);
      live = ap (λ (s : Coloured). s.live) c.drop_pairs.ensures ∙ ap (λ (fs : List Bool). dropped (l ∷ []) fs) c.requires.links.live
          ∙ cut_flags links l c.dead.result _ is;
      room = omega (arith, length-set links l c.dead.result, ap (λ (s : Coloured). s.room) c.drop_pairs.ensures, c.requires.links.room);
    }
