use Rattle.std.proofs.Common.{◌≡◌, sym, ap, ◌∙◌, arith, subst, ℕ, ◌<◌, List, Bool, true, length, replicate, get_or}
use Rattle.std.specs.List.Sorted.{IsStrictlyIncreasing}
use Rattle.pbd_world.specs.declared.parts.Link.{Link}
use Rattle.pbd_world.specs.Colours.{live_at}
use Rattle.pbd_world.specs.Room.{Roomed}
use Rattle.pbd_world.proofs.KeepingOn.{length-mapped}
use Rattle.pbd_colour.specs.Pairs.{Coloured, dropped}
use Rattle.pbd_tear.specs.Tearing.{gone_numbers}
use Rattle.pbd_step.proofs.Dropping.{dead_dropped, all_live}
use Rattle.pbd_step.proofs.again.colour_again.Goals as goal

pub drop_pairs-requires-clause-increasing : goal.drop_pairs-requires-clause-increasing
drop_pairs-requires-clause-increasing c = subst (λ (xs : List ℕ). IsStrictlyIncreasing xs)
    (sym c.as_slice-2.ensures) c.gone.ensures.ascending.rising

pub drop_pairs-requires-clause-live : goal.drop_pairs-requires-clause-live
drop_pairs-requires-clause-live c = λ k lt.
    let flags = ap (λ (s : Coloured). s.live) c.refill.ensures in
    let numbers = c.as_slice-2.result.now in
    let many : length c.as_slice.result.now ≡ length c.args.links.now =
    ap length (c.as_slice.ensures ∙ ap (λ (o : Roomed (ℕ × ℕ)). o.entries) c.list_pairs.ensures)
    ∙ length-mapped {A = Link} {B = ℕ × ℕ} (λ l. (l.a, l.b)) c.args.links.now in
    let within = c.gone.ensures.ascending.within k (subst (λ (xs : List ℕ). k < length xs) c.as_slice-2.ensures lt) in
    let below : get_or numbers k 0 < length c.as_slice.result.now =
    omega (arith, many, ap (λ (xs : List ℕ). get_or xs k 0) c.as_slice-2.ensures, within) in
    ap (λ (fs : List Bool). live_at fs (get_or numbers k 0)) flags ∙ all_live (length c.as_slice.result.now) k numbers below

pub returns-clause-links : goal.returns-clause-links
returns-clause-links c =
    let pairs = c.as_slice.ensures ∙ ap (λ (o : Roomed (ℕ × ℕ)). o.entries) c.list_pairs.ensures in
    let many : length c.as_slice.result.now ≡ length c.args.links.now = ap length pairs
    ∙ length-mapped {A = Link} {B = ℕ × ℕ} (λ l. (l.a, l.b)) c.args.links.now in
    let numbers : c.as_slice-2.result.now ≡ gone_numbers c.args.links.now = c.as_slice-2.ensures
    ∙ ap (λ (o : Roomed ℕ). o.entries) c.gone.ensures.numbers in
    record {
      particles = ap (λ (s : Coloured). s.particles) c.drop_pairs.ensures ∙ ap (λ (s : Coloured). s.particles) c.refill.ensures;
      pairs = ap (λ (s : Coloured). s.pairs) c.drop_pairs.ensures ∙ ap (λ (s : Coloured). s.pairs) c.refill.ensures ∙ pairs;
      live = ap (λ (s : Coloured). s.live) c.drop_pairs.ensures
          ∙ ap (λ (fs : List Bool). dropped c.as_slice-2.result.now fs) (ap (λ (s : Coloured). s.live) c.refill.ensures)
          ∙ ap (λ (ns : List ℕ). dropped ns (replicate (length c.as_slice.result.now) true)) numbers
          ∙ dead_dropped (gone_numbers c.args.links.now) c.args.links.now (length c.as_slice.result.now) many
          (c.gone_links_are_dead.ensures c.args.links.now);
      room = omega (
        arith,
        ap (λ (s : Coloured). s.room) c.drop_pairs.ensures,
        ap (λ (s : Coloured). s.room) c.refill.ensures,
        c.requires.room,
      );
    }
