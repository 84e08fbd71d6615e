use Rattle.std.proofs.Common.{◌∙◌, ◌≡◌, ◌+◌, ◌≤◌, ℕ, Bool, true, cond, sym, arith, length, w64, FitsSigned}
use Rattle.std.proofs.lemmas.Int.{to_z-of_z}
use Rattle.pbd_num.proofs.Sizes.{fits}
use Rattle.pbd_tear.specs.Tearing.{IsLink}
use Rattle.pbd_tear.proofs.Numbers.{ends_in, is_link, torn_by, never_torn}
use Rattle.pbd_store.proofs.Limits.{inside_both}
use Rattle.pbd_tear.proofs.is_torn.Goals.{After-at-a}
use Rattle.pbd_tear.proofs.is_torn.Goals as goal

-- what is known of the link once a particle was looked at
known : (g : _) (c : After-at-a g) → IsLink (length c.args.store.now.particles) c.args.link
known g c = is_link c.args.store.now.limit (length c.args.store.now.particles) c.args.link c.at-a.ensures.limit c.requires.link

tear_fits : (g : _) (c : After-at-a g) → FitsSigned w64 c.args.link.tear
tear_fits g c = fits c.args.link.tear (omega (arith, (known g c).tear))

pub returns-then-not-may_tear-clause-value : goal.returns-then-not-may_tear-clause-value
returns-then-not-may_tear-clause-value g c = never_torn c.args.store.now.particles c.args.link
    (sym c.may_tear.ensures ∙ c.if-not-may_tear.true)

pub returns-then-not-may_tear-clause-cost : goal.returns-then-not-may_tear-clause-cost
returns-then-not-may_tear-clause-cost g c = omega arith

pub at-a-requires : goal.at-a-requires
at-a-requires g c = (omega arith, (ends_in c.args.store.now.limit (length c.args.store.now.particles) c.args.link c.requires.link).first)

pub at-b-requires : goal.at-b-requires
at-b-requires g c = (omega arith, (ends_in c.args.store.now.limit (length c.args.store.now.particles) c.args.link c.requires.link).second)

pub are_farther-requires : goal.are_farther-requires
are_farther-requires g c =
    let seen = (goal.at.are_farther-requires g c).After-at-a in
    let inside = inside_both c.args.store.now.limit c.args.store.now.particles c.at-a.ensures.limit c.requires.inside in
    let tear = tear_fits g seen in
    record {
      a = rw c.at-a.ensures.value (inside.each c.args.link.a (known g seen).a);
      b = rw c.at-b.ensures.value (inside.each c.args.link.b (known g seen).b);
      length = simp to_z-of_z (known g seen).tear;
    }

pub returns-clause-value : goal.returns-clause-value
returns-clause-value g c =
    let tear = tear_fits g (goal.at.returns-clause-value g c).After-at-a in
    (simp to_z-of_z at c.are_farther.ensures) ∙ torn_by c.args.store.now.particles c.args.link c.at-a.result c.at-b.result
    (sym c.may_tear.ensures ∙ c.if-not-may_tear.false) c.at-a.ensures.value c.at-b.ensures.value

two_more : (may : Bool) (old new : ℕ) → may ≡ true → new ≤ old + 2 → new ≤ old + cond may 2 0
two_more may old new e h = rw e h

pub returns-clause-cost : goal.returns-clause-cost
returns-clause-cost g c = two_more _ c.args.steps.now c.at-b.new.steps (sym c.may_tear.ensures ∙ c.if-not-may_tear.false)
    (omega (arith, c.at-a.ensures.cost, c.at-b.ensures.cost))
