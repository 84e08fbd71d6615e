use Rattle.std.proofs.Common.{◌∙◌, ◌≡◌, ◌+◌, ◌^◌, ℕ, List, length, refl, sym, ap, arith, subst, w64, FitsSigned}
use Rattle.std.specs.List.Sorted.{IsStrictlyIncreasing}
use Rattle.std.proofs.lemmas.Int.{to_z-of_z}
use Rattle.pbd_num.proofs.Sizes.{fits}
use Rattle.std.proofs.lemmas.Bool.{and_parts}
use Rattle.pbd_world.specs.Bonds.{link_bond}
use Rattle.pbd_world.specs.Step.{tear, link_order}
use Rattle.pbd_store.specs.Gathering.{index_at}
use Rattle.pbd_pair.specs.Laid.{lists_in, AreLaid}
use Rattle.pbd_world.specs.declared.parts.Link.{Link}
use Rattle.pbd_world.specs.Work.{blocks_in, tearable_count}
use Rattle.pbd_world.specs.World.{parts_of}
use Rattle.pbd_world.proofs.WorkLemmas.{settling_is}
use Rattle.pbd_world.proofs.WorldParts.{formed, numbers_of}
use Rattle.pbd_colour.specs.Pairs.{Coloured, dropped}
use Rattle.pbd_world.proofs.Rooms.{room_at}
use Rattle.pbd_tear.specs.Tearing.{AscendTo, torn_numbers}
use Rattle.pbd_tear.proofs.Numbers.{torn_ascend}
use Rattle.pbd_world.specs.Room.{Roomed}
use Rattle.pbd_step.specs.States.{world_of, HasLinks}
use Rattle.pbd_step.specs.Settling.{LetGo}
use Rattle.pbd_step.proofs.Mild.{formed_within, formed_friction}
use Rattle.pbd_step.proofs.Settling.{let_go_tears, torn_live, torn_coloured, still_many, torn_fixed, fixed_numbers, none_go}
use Rattle.pbd_step.proofs.Costing.{rubs_less}
use Rattle.pbd_step.proofs.Weighing.{settled_weights}
use Rattle.pbd_step.proofs.state.Running.rub_and_tear.Goals.{Start, After-as_slice-torn, After-tear}
use Rattle.pbd_step.proofs.state.Running.rub_and_tear.Goals as goal

friction_fits : (g : _) (c : Start g) → FitsSigned w64 c.args.setting.now.friction
friction_fits g c =
    let w = world_of c.args.setting.now c.args.self.now.state in
    fits _ (omega (arith, (numbers_of w (formed (parts_of w) c.requires.going.under_way.well_formed)).friction_high))

-- the numbers that are let go are those of the torn links
numbers_torn : (g : _) (c : After-as_slice-torn g)
    → c.as_slice-torn.result.now ≡ torn_numbers c.rub.new.store.particles c.args.self.now.state.links.items
numbers_torn g c = c.as_slice-torn.ensures ∙ ap (λ (o : Roomed ℕ). o.entries) c.torn.ensures.numbers
    ∙ ap (torn_numbers c.rub.new.store.particles) c.deref.ensures.value

-- so they are torn
links_torn : (g : _) (c : After-tear g) → c.tear.new.links.items ≡ tear c.rub.new.store.particles c.args.self.now.state.links.items
links_torn g c =
    let links = c.args.self.now.state.links.items in
    let after = c.tear.new.links.items in
    let_go_tears c.rub.new.store.particles links after (subst (λ (ns : List ℕ). LetGo ns links after)
    (numbers_torn g (goal.at.After-tear g c).After-as_slice-torn) c.tear.ensures.links)

pub rub-requires : goal.rub-requires
rub-requires g c =
    let w = world_of c.args.setting.now c.args.self.now.state in
    let whole = c.requires.going.under_way.well_formed in
    let small = friction_fits g (goal.at.rub-requires g c).Start in (
      omega arith,
      (
        c.requires.lanes_low,
        (
          c.requires.lanes_high,
          (
            simp to_z-of_z (formed_friction w whole),
            (
              c.requires.going.space.touched,
              (formed_within w whole, room_at (2 ^ 120) (omega arith) c.requires.going.under_way.room),
            ),
          ),
        ),
      ),
    )

pub torn-requires : goal.torn-requires
torn-requires g c =
    let w = world_of c.args.setting.now c.args.self.now.state in
    let many = still_many c.rub.new.store.particles c.args.self.now.state.store.particles c.rub.ensures.settled in
    let links = (formed (parts_of w) c.requires.going.under_way.well_formed).links in (
      omega arith,
      (
        rw (c.deref.ensures.value, c.rub.ensures.limit, many) links,
        (
          rw c.deref.ensures.value (c.as_slice-with_tear_length.ensures ∙ c.requires.going.knows.numbers),
          (rw c.rub.ensures.limit (record { each = c.rub.ensures.within.at }), rw c.deref.ensures.value c.requires.going.space.numbers),
        ),
      ),
    )

pub tear-requires-clause-within : goal.tear-requires-clause-within
tear-requires-clause-within g c =
    let links = c.args.self.now.state.links.items in
    let all = subst (λ (ls : List Link). AscendTo (length ls) c.torn.new.out.entries) c.deref.ensures.value c.torn.ensures.ascending in
    (subst (λ (ns : List ℕ). AscendTo (length links) ns) (sym c.as_slice-torn.ensures) all).within

pub tear-requires-clause-increasing : goal.tear-requires-clause-increasing
tear-requires-clause-increasing g c = subst (λ (ns : List ℕ). IsStrictlyIncreasing ns)
    (sym c.as_slice-torn.ensures) c.torn.ensures.ascending.rising

pub tear-requires-clause-live : goal.tear-requires-clause-live
tear-requires-clause-live g c =
    let ps = c.rub.new.store.particles in
    let links = c.args.self.now.state.links.items in
    rw (numbers_torn g (goal.at.tear-requires-clause-live g c).After-as_slice-torn, c.requires.going.links.live)
    (λ k lt. torn_live ps links k (torn_ascend ps links) lt)

pub returns-clause-world : goal.returns-clause-world
returns-clause-world g c =
    let at = goal.at.returns-clause-world g c in
    let small = friction_fits g at.Start in
    let motion = simp to_z-of_z at c.rub.ensures.outcome in
    let torn = links_torn g at.After-tear ∙ (λ k. tear (motion k).particles c.args.self.now.state.links.items) in
    λ k. record (world_of c.args.setting.now c.args.self.now.state) {
      limit = c.rub.ensures.limit k;
      steps = c.args.self.now.state.steps + 1;
      particles = (motion k).particles;
      links = torn k;
      contacts = c.count-contacts.ensures.value k;
      totals = (motion k).totals;
    }

pub returns-clause-links : goal.returns-clause-links
returns-clause-links g c =
    let at = goal.at.returns-clause-links g c in
    let coloured = c.tear.ensures.colours ∙ ap (λ (ns : List ℕ).
    record c.args.self.now.colours { live = dropped ns c.args.self.now.colours.live }) (numbers_torn g at.After-as_slice-torn) in
    torn_coloured (length c.args.self.now.state.store.particles) c.rub.new.store.particles c.args.self.now.state.links.items
    c.tear.new.links.items c.args.self.now.colours c.tear.new.colours c.requires.going.links (links_torn g at.After-tear) coloured

pub returns-clause-stays : goal.returns-clause-stays
returns-clause-stays g c =
    let room : c.torn.new.out.room ≡ c.args.self.now.scratch.numbers.room = ap (λ (o : Roomed ℕ). o.room) c.torn.ensures.numbers in
    let live = ap (λ (k : Coloured). k.live) c.tear.ensures.colours in
    let run = c.args.self.now in
    let ps = c.rub.new.store.particles in
    let links = run.state.links.items in
    let after = c.tear.new.links.items in
    let many = still_many ps run.state.store.particles c.rub.ensures.settled in
    let fixed = torn_fixed ps links after (links_torn g (goal.at.returns-clause-stays g c).After-tear) in
    record {
      alike = record {
        particles = many;
        limit = c.rub.ensures.limit;
        weights = refl;
        links = c.tear.ensures.links.whole;
      };
      weights = λ h. h ∙ sym (settled_weights c.args.self.now.state.store.particles c.rub.new.store.particles c.rub.ensures.settled);
      fixed = fixed;
      links = λ h. subst (λ (n : ℕ). HasLinks n after c.tear.new.colours) (sym many) (returns-clause-links g c);
      knows = λ h. record {
        numbers = h.numbers ∙ sym (fixed_numbers after links fixed);
        laid = λ is.
            let both = and_parts _ _ is in
            let none = subst (λ (ns : List ℕ). LetGo ns links after) (c.are_none-none_tore.ensures both.1) c.tear.ensures.links in
            let same = sym (none_go links after none) in
            coe 0 1 (i. AreLaid (link_bond (same i)) (index_at run.state.weights.items) (link_order (same i))
            (lists_in run.scratch.laid_links)) (h.laid both.0);
      };
      copies = c.rub.ensures.copies;
      pairs = c.tear.ensures.colours ∙ (λ k. record c.args.self.now.colours { live = sym live k });
      space = λ n m h. record {
        found = h.found;
        touched = h.touched;
        pairs = h.pairs;
        numbers = omega (arith, room, h.numbers);
        laid_links = h.laid_links;
        laid_contacts = h.laid_contacts;
      };
      not_fallen = omega arith;
      width = refl;
    }

pub returns-clause-cost : goal.returns-clause-cost
returns-clause-cost g c =
    let w = world_of c.args.setting.now c.args.self.now.state in
    let small = friction_fits g (goal.at.returns-clause-cost g c).Start in
    let rubbed = simp to_z-of_z at c.rub.ensures.cost in
    let links : tearable_count c.deref.result.now ≡ tearable_count w.links =
    ap (λ (ls : List Link). tearable_count ls) c.deref.ensures.value in
    omega (
      arith,
      rubbed,
      c.torn.ensures.cost,
      links,
      rubs_less w.friction c.args.self.now.scratch.touched (blocks_in g.row.L w),
      settling_is g.row.L w,
    )
