use Rattle.std.proofs.Common.{◌≡◌, arith, sym, ◌∙◌, ◌+◌, subst, slice_set, cond, ℕ, Bool, List}
use Rattle.pbd_num.specs.declared.Vec3.{Vec3}
use Rattle.pbd_lanes.specs.Lane.{is_set}
use Rattle.pbd_store.specs.Blocks.{place_of}
use Rattle.pbd_store.specs.Writing.{WrittenWhere}
use Rattle.pbd_store.proofs.Writing.{written_none, written_more}
use Rattle.pbd_store.proofs.rows.PlaceRows.set_where.Goals as goal

pub loop-j-init : goal.loop-j-init
loop-j-init g c = written_none _ _ _ _

pub set_if-requires : goal.set_if-requires
set_if-requires g c = λ s. omega (arith, c.loop-j.invariant.whole, c.requires.room)

pub loop-j-preserved : goal.loop-j-preserved
loop-j-preserved g c =
    let chosen = c.to_array-chosen.result in
    let next = written_more c.args.start chosen (place_of c.args.places.now.x c.args.places.now.y c.args.places.now.z) c.args.self.now
    c.loop-j.self c.loop-j.j c.loop-j.invariant (λ s. omega (arith, c.requires.room)) in
    let new = c.set_if.ensures ∙ (λ t. cond (is_set chosen c.loop-j.j)
    (slice_set c.loop-j.self (c.args.start + c.loop-j.j) (c.place.ensures t))
    c.loop-j.self) in
    subst (λ (vs : List Vec3). WrittenWhere (c.loop-j.j + 1) c.args.start chosen
    (place_of c.args.places.now.x c.args.places.now.y c.args.places.now.z) c.args.self.now vs) (sym new) next

pub returns : goal.returns
returns g c =
    let all : c.loop-j.j ≡ g.row.L = omega arith in
    subst (λ (n : ℕ). WrittenWhere n c.args.start c.args.set.now (place_of c.args.places.now.x c.args.places.now.y c.args.places.now.z)
    c.args.self.now c.loop-j.self) all
    (subst (λ (bs : List Bool). WrittenWhere c.loop-j.j c.args.start bs
    (place_of c.args.places.now.x c.args.places.now.y c.args.places.now.z)
    c.args.self.now c.loop-j.self) c.to_array-chosen.ensures c.loop-j.invariant)
