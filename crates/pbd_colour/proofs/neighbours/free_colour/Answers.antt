use Rattle.std.proofs.Common.{◌∙◌, ◌||◌, ℕ, Bool, eqb, ap}
use Rattle.std.specs.Int.{bit_at}
use Rattle.std.specs.List.{list_any}
use Rattle.pbd_chain.specs.Linked.{chain_at}
use Rattle.pbd_world.specs.Colours.{pair_at}
use Rattle.pbd_world.proofs.GreedyLemmas.{least_free-agree}
use Rattle.pbd_colour.specs.Mended.{holds_before}
use Rattle.pbd_colour.proofs.Meeting.{items_within}
use Rattle.pbd_colour.proofs.UsedLemmas.{lowest-unset}
use Rattle.pbd_colour.proofs.neighbours.free_colour.Goals as goal

pub used_by-first-requires : goal.used_by-first-requires
used_by-first-requires c = let l = (c.requires.held.in_range c.args.i c.requires.i).0 in
    record { chain = l; pairs = λ x. items_within c.requires.held _ c.requires.colours _ x l }

pub used_by-second-requires : goal.used_by-second-requires
used_by-second-requires c = let l = (c.requires.held.in_range c.args.i c.requires.i).1 in
    record { chain = l; pairs = λ x. items_within c.requires.held _ c.requires.colours _ x l }

pub returns : goal.returns
returns c =
    let x = c.used_by-first.result in
    let y = c.used_by-second.result in
    let later : ℕ → Bool = λ d. list_any (holds_before c.args.colours.now c.args.i d)
    (chain_at c.args.held.chains.now.chains (pair_at c.args.held.pairs.now c.args.i).1) in
    c.trailing_ones.ensures ∙ (lowest-unset x y c.used_by-first.ensures.small c.used_by-second.ensures.small).0
    ∙ least_free-agree _ _ (λ d l. ap (λ (b : Bool). eqb (bit_at x d) 1 || b) (c.used_by-second.ensures.has d l)
    ∙ ap (λ (b : Bool). b || later d) (c.used_by-first.ensures.has d l))
