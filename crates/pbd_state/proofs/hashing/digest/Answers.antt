use Rattle.std.proofs.Common.{◌≡◌, sym, ap, ◌∙◌, subst, ℕ, List, length, arith}
use Rattle.sha2.specs.Hashers.{Holds256}
use Rattle.sha2.specs.Sha256.{sha256}
use Rattle.pbd_state.specs.Fields.{fields_bytes, fields_of}
use Rattle.pbd_state.proofs.Numbering.{piece_after, no_fields, all_fields}
use Rattle.pbd_state.proofs.hashing.digest.Goals as goal

pub loop-k-init : goal.loop-k-init
loop-k-init g c = record {
  fed = subst (λ (t : List ℕ). Holds256 c.new-hasher.result t) (sym (no_fields c.args.scene.now c.args.shown.now)) c.new-hasher.ensures;
  cost = omega arith;
}

pub loop-k-preserved : goal.loop-k-preserved
loop-k-preserved g c =
    let next = piece_after c.args.scene.now c.args.shown.now c.loop-k.k (c.as_slice.ensures ∙ c.field-piece.ensures.bytes) in
    record {
      fed = subst (λ (t : List ℕ). Holds256 c.update.new.self t) next (c.update.ensures _ c.loop-k.invariant.fed);
      cost = omega (arith, c.field-piece.ensures.cost, c.loop-k.invariant.cost);
    }

pub returns-clause-value : goal.returns-clause-value
returns-clause-value g c =
    let w = c.args.shown.now in
    let scene = c.args.scene.now in
    let last : c.loop-k.k ≡ fields_of (length w.particles) (length w.links) =
    omega (arith, c.loop-k-test.false, c.loop-k.auto.k-end, c.field_count-k-end.ensures) in
    let all = ap (λ (i : ℕ). fields_bytes scene w i) last ∙ sym (all_fields scene w) in
    c.finalize.ensures (fields_bytes scene w c.loop-k.k) c.loop-k.invariant.fed ∙ ap sha256 all
