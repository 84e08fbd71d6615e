use Rattle.std.proofs.Common.{◌≡◌, ◌∙◌, ◌+◌, refl, sym, length, ap, ℕ, true, false, arith, Result, Ok, Err, is_err}
use Rattle.std.specs.Result.{OnOk, OnErr}
use Rattle.std.proofs.lemmas.Bool.{false≢true}
use Rattle.pbd_grid.specs.Blocks.{corner_of, cube_at}
use Rattle.pbd_grid.specs.Looks.{looks_before}
use Rattle.pbd_world.specs.Room.{Roomed}
use Rattle.pbd_grid.proofs.Neighbours.{IsFoundRows-row, row_full}
use Rattle.pbd_grid.proofs.Counting.{before_none, before_more, before_all, before_small, round_small}
use Rattle.pbd_grid.proofs.lookup.Crowd.find_pairs.Goals as goal

at_err : {A E : Type 0} {P : Type 0} (r : Result A E) → is_err r ≡ true → OnErr r P → P
at_err (Ok x) e h = absurd (false≢true e)
at_err (Err x) e h = h

at_ok : {A E : Type 0} {P : Type 0} (r : Result A E) → is_err r ≡ false → OnOk r P → P
at_ok (Ok x) e h = h
at_ok (Err x) e h = absurd (false≢true (sym e))

pub returns-then-is_err-clause-full : goal.returns-then-is_err-clause-full
returns-then-is_err-clause-full g c =
    row_full c.args.self.now.places.now c.args.self.now.cells.side
    (g.F.PairFilter.test c.args.filter.now) c.loop-i.i c.args.out.now c.loop-i.out c.as_slice.result.now
    (omega arith) c.loop-i.invariant.rows
    (c.as_slice.ensures ∙ ap (λ (l : Roomed ℕ). l.entries) c.find_row.ensures.found)
    (at_err c.append_row.result (sym c.is_err.ensures.value ∙ c.if-is_err.true) c.append_row.ensures.full)

pub loop-i-preserved : goal.loop-i-preserved
loop-i-preserved g c = record {
  rows = IsFoundRows-row c.args.self.now.places.now c.args.self.now.cells.side
      (g.F.PairFilter.test c.args.filter.now) c.loop-i.i c.args.out.now c.loop-i.out c.append_row.new.out c.as_slice.result.now
      c.loop-i.invariant.rows
      (c.as_slice.ensures ∙ ap (λ (l : Roomed ℕ). l.entries) c.find_row.ensures.found)
      (at_ok c.append_row.result (sym c.is_err.ensures.value ∙ c.if-is_err.false) c.append_row.ensures.ok)
      (at_ok c.append_row.result (sym c.is_err.ensures.value ∙ c.if-is_err.false) c.append_row.ensures.fits);
  kept = ap (λ (l : Roomed ℕ). l.room) c.find_row.ensures.found ∙ c.loop-i.invariant.kept;
  looks = omega (
    arith,
    c.loop-i.invariant.looks,
    c.find_row.ensures.looks,
    before_more c.args.self.now.cells.count c.args.self.now.cells.side c.args.self.now.places.now c.loop-i.i,
  );
}

pub returns-then-is_err-clause-most : goal.returns-then-is_err-clause-most
returns-then-is_err-clause-most g c =
    omega (
      arith,
      c.loop-i.invariant.looks,
      c.find_row.ensures.looks,
      before_more c.args.self.now.cells.count c.args.self.now.cells.side c.args.self.now.places.now c.loop-i.i,
      before_all c.args.self.now.cells.count c.args.self.now.cells.side c.args.self.now.places.now (c.loop-i.i + 1) (omega arith),
    )

pub returns-clause-looks : goal.returns-clause-looks
returns-clause-looks g c = c.loop-i.invariant.looks ∙ ap
    (looks_before c.args.self.now.cells.count c.args.self.now.cells.side c.args.self.now.places.now) (omega arith)

pub returns-clause-most : goal.returns-clause-most
returns-clause-most g c = omega (
  arith,
  c.loop-i.invariant.looks,
  before_all c.args.self.now.cells.count c.args.self.now.cells.side c.args.self.now.places.now c.loop-i.i (omega arith),
)

pub overflow_add-looks : goal.overflow_add-looks
overflow_add-looks g c = omega (
  arith,
  c.loop-i.invariant.looks,
  c.requires.laid.few,
  before_small c.args.self.now.cells.count c.args.self.now.cells.side c.args.self.now.places.now c.loop-i.i (omega arith) c.requires.laid.few,
  c.find_row.ensures.looks,
  round_small c.args.self.now.cells.count c.args.self.now.cells.side c.args.self.now.places.now c.loop-i.i
      (corner_of (cube_at c.args.self.now.cells.side c.args.self.now.places.now c.loop-i.i)) (omega arith) 8 (omega arith),
)

pub loop-i-init : goal.loop-i-init
loop-i-init g c = record {
  rows = record {
    room = ap (λ (r : Roomed (ℕ × ℕ)). r.room) c.clear.ensures;
    entries = ap (λ (r : Roomed (ℕ × ℕ)). r.entries) c.clear.ensures;
    fits = omega (arith, ap (λ (r : Roomed (ℕ × ℕ)). length r.entries) c.clear.ensures);
  };
  kept = refl;
  looks = sym (before_none c.args.self.now.cells.count c.args.self.now.cells.side c.args.self.now.places.now);
}
