use Rattle.std.proofs.Common.{◌≡◌, ◌∙◌, sym, ap, arith, Bool, true, false, not, ℕ, subst}
use Rattle.std.specs.Prelude.{cond}
use Rattle.std.specs.BTreeMap.{is_at}
use Rattle.std.specs.BTreeSet.{contains}
use Rattle.std.proofs.lemmas.Bool.{OnFalse_at}
use Rattle.pbd_obj.specs.Nets.{ordered, pair_cmp}
use Rattle.pbd_obj.proofs.NetLemmas.{add_full, add_new, add_old}
use Rattle.pbd_obj.proofs.links.add.Goals as goal

-- an answer on a key is one on what the key is
at_key : (has : ℕ × ℕ → Bool) (answer : Bool) (key is : ℕ × ℕ) → key ≡ is → answer ≡ not (has key) → answer ≡ not (has is)
at_key has answer key is same said = said ∙ ap (λ k. not (has k)) same

pub returns-then-not-branch-clause-ok : goal.returns-then-not-branch-clause-ok
returns-then-not-branch-clause-ok c =
    let is = at_key (contains pair_cmp c.args.found.now.joined) false c.ordered.result (ordered c.args.link.a c.args.link.b) c.ordered.ensures
    (sym c.if-not-branch.true ∙ c.in_ok-insert.ensures.added) in
    add_old c.args.link c.args.found.now c.insert.new.self c.requires is (OnFalse_at c.if-not-branch.true c.in_ok-insert.ensures.unchanged)

pub returns-then-len-found-clause-err : goal.returns-then-len-found-clause-err
returns-then-len-found-clause-err c =
    let is = at_key (contains pair_cmp c.args.found.now.joined) true c.ordered.result (ordered c.args.link.a c.args.link.b) c.ordered.ensures
    (sym c.if-not-branch.false ∙ c.in_ok-insert.ensures.added) in
    add_full c.args.link c.args.found.now c.requires is (omega (arith, c.if-len-found.true, c.len.ensures))

pub returns-clause-ok : goal.returns-clause-ok
returns-clause-ok c =
    let old = c.args.found.now.joined in
    let is = at_key (contains pair_cmp old) true c.ordered.result (ordered c.args.link.a c.args.link.b) c.ordered.ensures
    (sym c.if-not-branch.false ∙ c.in_ok-insert.ensures.added) in
    let grown : (q : ℕ × ℕ) → contains pair_cmp c.insert.new.self q
    ≡ cond (is_at (pair_cmp (ordered c.args.link.a c.args.link.b)) q) true (contains pair_cmp old q) =
    subst (λ (k : ℕ × ℕ). (q : ℕ × ℕ) → contains pair_cmp c.insert.new.self q ≡ cond (is_at (pair_cmp k) q) true (contains pair_cmp old q))
    c.ordered.ensures c.in_ok-insert.ensures.updates.0 in
    add_new c.args.link c.args.found.now c.insert.new.self c.push.new.self c.requires is grown
    (omega (arith, c.if-len-found.false, c.len.ensures)) c.in_ok-push.ensures.ok
