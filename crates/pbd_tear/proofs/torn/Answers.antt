use Rattle.std.proofs.Common.{◌∙◌, ◌≡◌, sym, ap, refl, subst, arith, ◌+◌, ◌<◌, ◌≤◌, ◌++◌, ◌∷◌, [], cond, ℕ, ℤ, List, length, get_or, IsTrue}
use Rattle.std.proofs.lemmas.List.{take_all}
use Rattle.pbd_world.specs.declared.parts.Link.{Link}
use Rattle.pbd_world.specs.Room.{Roomed}
use Rattle.pbd_tear.specs.Tearing.{AscendTo, torn_numbers, numbers_with_tear_length}
use Rattle.pbd_tear.proofs.Numbers.{valid_at, torn_among, torn_among_none, torn_among_more, torn_among_all, tearable_among, cost_more}
use Rattle.pbd_tear.proofs.Numbers.{tearable_among_all, with_tear_length_ascend, with_tear_length_few, few_more, list_is, torn_ascend}
use Rattle.pbd_tear.proofs.torn.Goals.{After-loop-n}
use Rattle.pbd_tear.proofs.torn.Goals as goal

-- each of the numbers is that of a link
known : (numbers : List ℕ) (links : List Link) (i : ℕ) → numbers ≡ numbers_with_tear_length links → i < length numbers
    → get_or numbers i 0 < length links
known numbers links i e lt = subst (λ (ns : List ℕ). get_or ns i 0 < length links) (sym e)
    ((with_tear_length_ascend links).within i (subst (λ (ns : List ℕ). i < length ns) e lt))

pub is_torn-tears-requires : goal.is_torn-tears-requires
is_torn-tears-requires g c = (
  omega arith,
  (
    valid_at c.args.store.now.limit (length c.args.store.now.particles) c.args.links.now (get_or c.args.numbers.now c.loop-n.n-index 0) _
        c.requires.links (known c.args.numbers.now c.args.links.now c.loop-n.n-index c.requires.with_tear_length (omega arith)),
    c.requires.inside,
  ),
)

pub bounds-links-n : goal.bounds-links-n
bounds-links-n g c = known c.args.numbers.now c.args.links.now c.loop-n.n-index c.requires.with_tear_length (omega arith)

pub push_if-requires : goal.push_if-requires
push_if-requires g c = omega (
  arith,
  c.loop-n.invariant.few,
  c.loop-n.invariant.room,
  ap (λ (o : Roomed ℕ). o.room) c.clear.ensures,
  c.requires.room,
  ap (λ (ns : List ℕ). length ns) c.requires.with_tear_length,
  with_tear_length_few c.args.links.now,
)

pub loop-n-init : goal.loop-n-init
loop-n-init g c = rw c.clear.ensures (record {
  so_far = sym (torn_among_none c.args.store.now.particles c.args.links.now);
  few = omega arith;
  room = refl;
  cost = omega arith;
})

pub loop-n-preserved : goal.loop-n-preserved
loop-n-preserved g c =
    let entries = ap (λ (o : Roomed ℕ). o.entries) c.push_if.ensures in
    let there = known c.args.numbers.now c.args.links.now c.loop-n.n-index c.requires.with_tear_length (omega arith) in
    let more = torn_among_more c.args.store.now.particles c.args.links.now c.args.numbers.now c.loop-n.n-index c.is_torn-tears.result _
    (omega arith) there c.is_torn-tears.ensures.value in
    record {
      so_far = entries ∙ ap (λ (ns : List ℕ). cond c.is_torn-tears.result (ns ++ get_or c.args.numbers.now c.loop-n.n-index 0 ∷ []) ns)
          c.loop-n.invariant.so_far ∙ more;
      few = subst (λ (xs : List ℕ). length xs ≤ c.loop-n.n-index + 1) (sym entries)
          (few_more c.is_torn-tears.result _ c.loop-n.n-index c.loop-n.out.entries c.loop-n.invariant.few);
      room = ap (λ (o : Roomed ℕ). o.room) c.push_if.ensures ∙ c.loop-n.invariant.room;
      cost = cost_more _ _ _ c.args.links.now c.args.numbers.now c.loop-n.n-index _ (omega arith) there c.is_torn-tears.ensures.cost
          c.loop-n.invariant.cost;
    }

-- the list has all that tear, once all numbers are done
all_looked_at : (g : _) (c : After-loop-n g) → length c.args.numbers.now ≤ c.loop-n.n-index
    → c.loop-n.out.entries ≡ torn_numbers c.args.store.now.particles c.args.links.now
all_looked_at g c le = c.loop-n.invariant.so_far
    ∙ ap (λ (ns : List ℕ). torn_among c.args.store.now.particles c.args.links.now ns)
    (take_all c.loop-n.n-index c.args.numbers.now le ∙ c.requires.with_tear_length)
    ∙ torn_among_all c.args.store.now.particles c.args.links.now

pub returns-clause-numbers : goal.returns-clause-numbers
returns-clause-numbers g c = list_is c.loop-n.out c.args.out.now (torn_numbers c.args.store.now.particles c.args.links.now)
    (all_looked_at g c c.loop-n-test.false) (c.loop-n.invariant.room ∙ ap (λ (o : Roomed ℕ). o.room) c.clear.ensures)

pub returns-clause-ascending : goal.returns-clause-ascending
returns-clause-ascending g c = subst (λ (xs : List ℕ). AscendTo (length c.args.links.now) xs) (sym (all_looked_at g c c.loop-n-test.false))
    (torn_ascend c.args.store.now.particles c.args.links.now)

pub returns-clause-cost : goal.returns-clause-cost
returns-clause-cost g c = omega (
  arith,
  c.loop-n.invariant.cost,
  ap (λ (ns : List ℕ). tearable_among c.args.links.now ns)
      (take_all c.loop-n.n-index c.args.numbers.now c.loop-n-test.false ∙ c.requires.with_tear_length),
  tearable_among_all c.args.links.now,
)
