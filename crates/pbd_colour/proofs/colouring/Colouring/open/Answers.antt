use Rattle.std.proofs.Common.{◌∙◌, ◌/◌, sym, ap, Bool, ℕ, length, arith}
use Rattle.std.proofs.lemmas.List.{length-replicate}
use Rattle.pbd_chain.specs.Linked.{Linked, is_in, chain_at}
use Rattle.pbd_world.specs.Room.{Roomed}
use Rattle.pbd_world.specs.Colours.{live_at}
use Rattle.pbd_colour.proofs.KeptLemmas.{IsColoured-opened, no_items}
use Rattle.pbd_colour.proofs.colouring.Colouring.open.Goals as goal

pub invariant_of-result : goal.invariant_of-result
invariant_of-result c =
    let no_pairs = ap (λ (r : Roomed (ℕ × ℕ)). length r.entries) c.in_ok-pairs.ensures in
    let no_live = ap (λ (r : Roomed Bool). length r.entries) c.in_ok-live.ensures in
    let no_marks = ap (λ (r : Roomed Bool). length r.entries) c.in_ok-marks.ensures in
    let no_colours = ap (λ (r : Roomed ℕ). length r.entries) c.in_ok-colours.ensures in
    record {
      few = c.requires.room;
      within = omega (arith, no_pairs);
      pairs_room = ap (λ (r : Roomed (ℕ × ℕ)). r.room) c.in_ok-pairs.ensures;
      live_room = ap (λ (r : Roomed Bool). r.room) c.in_ok-live.ensures;
      marks_room = ap (λ (r : Roomed Bool). r.room) c.in_ok-marks.ensures;
      colours_room = ap (λ (r : Roomed ℕ). r.room) c.in_ok-colours.ensures;
      order_room = ap (λ (r : Roomed ℕ). r.room) c.in_ok-order.ensures.order;
      live_length = no_live ∙ sym no_pairs;
      marks_length = no_marks ∙ sym no_pairs;
      unmarked = λ k. ap (λ (r : Roomed Bool). live_at r.entries k) c.in_ok-marks.ensures;
      colours_length = no_colours ∙ sym no_pairs;
      used_length = ap length c.in_ok-used.ensures.used ∙ length-replicate {A = ℕ} c.args.particles 0;
      toward_length = ap length c.in_ok-used.ensures.toward ∙ length-replicate {A = ℕ} c.args.particles 0;
      starts_length = ap length c.in_ok-order.ensures.starts ∙ length-replicate {A = ℕ} 65 0;
      in_range = λ k l. absurd (omega (arith, l, no_pairs));
      coloured = IsColoured-opened (ap (λ (r : Roomed (ℕ × ℕ)). r.entries) c.in_ok-pairs.ensures)
          (ap (λ (r : Roomed Bool). r.entries) c.in_ok-live.ensures) (ap (λ (r : Roomed ℕ). r.entries) c.in_ok-colours.ensures)
          (ap (λ (r : Roomed ℕ). r.entries) c.in_ok-order.ensures.order) c.in_ok-order.ensures.starts;
      told = λ k l. absurd (omega (arith, l, no_pairs));
      held = record {
        items = ap (λ (l : Linked). l.items) c.in_ok-chains.ensures;
        count = ap (λ (l : Linked). length l.chains) c.in_ok-chains.ensures ∙ length-replicate c.args.particles _;
        holds = λ p x l. ap (λ (l : Linked). is_in x (chain_at l.chains p)) c.in_ok-chains.ensures
            ∙ no_items c.in_ok-live.live.entries c.args.particles c.in_ok-pairs.pairs.entries p x
            (ap (λ (r : Roomed Bool). live_at r.entries (x / 2)) c.in_ok-live.ensures) l;
      };
    }
