use Rattle.std.proofs.Common.{◌≡◌, sym, ap, ◌∙◌, ℕ, ◌+◌, ◌<◌, List, ◌++◌, length, drop, arith}
use Rattle.std.proofs.lemmas.List.{length-append, length-drop}
use Rattle.pbd_state.specs.Fields.{fields_bytes, fields_of}
use Rattle.pbd_state.proofs.Numbering.{no_fields, piece_after, field_within, put_next, all_put}
use Rattle.pbd_state.proofs.writing.write_state.Goals as goal

pub loop-k-init : goal.loop-k-init
loop-k-init g c =
    let none = sym (no_fields c.args.scene.now c.args.shown.now) in
    record {
      at = ap (λ (t : List ℕ). length t) none;
      written = ap (λ (t : List ℕ). t ++ c.args.into.now) none;
      cost = omega arith;
    }

pub put-at-requires : goal.put-at-requires
put-at-requires g c =
    let w = c.args.shown.now in
    let scene = c.args.scene.now in
    let k = c.loop-k.k in
    let there : k < fields_of (length w.particles) (length w.links) = omega (arith, c.loop-k-test.true, c.field_count-k-end.ensures) in
    omega (
      arith,
      ap (λ (t : List ℕ). length t) (c.as_slice.ensures ∙ c.field-piece.ensures.bytes),
      field_within scene w k c.told-scene there,
      c.loop-k.invariant.at,
      ap (λ (t : List ℕ). length t) c.loop-k.invariant.written,
      length-append (fields_bytes scene w k) (drop c.loop-k.at c.args.into.now),
      length-drop c.loop-k.at c.args.into.now,
      c.if-into-size.false,
      c.state_size-size.ensures.value,
    )

pub loop-k-preserved : goal.loop-k-preserved
loop-k-preserved g c =
    let w = c.args.shown.now in
    let scene = c.args.scene.now in
    let k = c.loop-k.k in
    let at = c.loop-k.at in
    let done = fields_bytes scene w k in
    let text = c.as_slice.result.now in
    let all = piece_after scene w k (c.as_slice.ensures ∙ c.field-piece.ensures.bytes) in
    record {
      at = omega (arith, c.put-at.ensures.end, c.loop-k.invariant.at, length-append done text, ap (λ (t : List ℕ). length t) all);
      written = c.put-at.ensures.bytes ∙ put_next done text c.args.into.now c.loop-k.into at
          (sym c.loop-k.invariant.at) c.loop-k.invariant.written
          ∙ (λ i. all i ++ drop (sym c.put-at.ensures.end i) c.args.into.now);
      cost = omega (arith, c.field-piece.ensures.cost, c.loop-k.invariant.cost);
    }

pub returns-clause-written : goal.returns-clause-written
returns-clause-written g c =
    let w = c.args.shown.now in
    let last : c.loop-k.k ≡ fields_of (length w.particles) (length w.links) =
    omega (arith, c.loop-k-test.false, c.loop-k.auto.k-end, c.field_count-k-end.ensures) in
    all_put c.args.scene.now c.args.shown.now c.loop-k.k c.loop-k.at c.state_size-size.result c.loop-k.into c.args.into.now
    c.told-scene c.loop-k.invariant.at c.loop-k.invariant.written last c.state_size-size.ensures.value
