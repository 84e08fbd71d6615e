use Rattle.std.proofs.Common.{◌≡◌, ◌∙◌, ◌++◌, sym, ap, ℕ, List, [], ◌∷◌, replicate, append_assoc, arith}
use Rattle.std.proofs.lemmas.Grind.{replicate_next}
use Rattle.pbd_store.proofs.rows.padded.Goals as goal

pub loop-preserved : goal.loop-preserved
loop-preserved g c =
    let start = c.args.column.items in
    let zero = c.args.zero in
    c.in_ok-push.ensures.items ∙ ap (λ (xs : List g.row.T.Denot). xs ++ zero ∷ []) c.loop.invariant
    ∙ append_assoc start (replicate c.loop.counter zero) (zero ∷ [])
    ∙ ap (λ (xs : List g.row.T.Denot). start ++ xs) (sym (replicate_next c.loop.counter zero))

pub returns : goal.returns
returns g c =
    let all : c.loop.counter ≡ c.args.n = omega arith in
    c.loop.invariant ∙ ap (λ (n : ℕ). c.args.column.items ++ replicate n c.args.zero) all
