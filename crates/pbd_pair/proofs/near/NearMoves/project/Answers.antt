use Rattle.std.proofs.Common.{◌≡◌, ℕ, ◌*◌, ◌^◌, length, ap, sym, ◌∙◌, arith, subst, Err}
use Rattle.pbd_num.proofs.Ranges.{wider}
use Rattle.pbd_world.proofs.Rooms.{room_at}
use Rattle.pbd_pair.specs.declared.chunk.Found.{Found}
use Rattle.pbd_pair.specs.declared.near.NearMoves.{NearMoves}
use Rattle.pbd_pair.specs.declared.near.Told.{Told}
use Rattle.pbd_pair.specs.declared.near.Told.TheVariants.{Alike, Apart, InPart}
use Rattle.pbd_pair.specs.Told.{AreToldBy}
use Rattle.pbd_pair.proofs.Asked.{asked}
use Rattle.pbd_pair.proofs.Chunks.{known_bonds}
use Rattle.pbd_pair.proofs.Settled.{alike_done, apart_asked, apart_done, are_moves, back_short, columns_asked, exact_done, exact_leaves}
use Rattle.pbd_pair.proofs.Settled.{forth_short, moved_leaves, pairs_asked, sized_asked}
use Rattle.pbd_pair.proofs.near.NearMoves.project.Goals.{In-Alike, In-Apart}
use Rattle.pbd_pair.proofs.near.NearMoves.project.Goals as goal

-- what is told, once it is known how
told_so : (found : Found) (near : NearMoves) {told : Told} (way : Told) → told ≡ way → AreToldBy found near told → AreToldBy found near way
told_so found near way is = subst (λ (t : Told). AreToldBy found near t) is

alike : (g : _) (c : In-Alike g) → AreToldBy c.args.found.now c.tell.new.self Alike
alike g c = told_so c.args.found.now c.tell.new.self Alike c.in-Alike.is c.tell.ensures

apart : (g : _) (c : In-Apart g) → AreToldBy c.args.found.now c.tell.new.self (Apart c.in-Apart.sums)
apart g c = told_so c.args.found.now c.tell.new.self (Apart c.in-Apart.sums) c.in-Apart.is c.tell.ensures

pub tell-requires-clause-known : goal.tell-requires-clause-known
tell-requires-clause-known g c = known_bonds c.requires.can

pub tell-requires-clause-columns : goal.tell-requires-clause-columns
tell-requires-clause-columns g c = columns_asked c.requires.can c.requires.found

-- ---- one row a bond

pub pull-requires : goal.pull-requires
pull-requires g c =
    let can = c.requires.can in
    let found = c.requires.found in
    let told = alike g (goal.at.pull-requires g c).In-Alike in
    asked (omega arith) c.requires.some_lanes c.requires.lanes (pairs_asked can found)
    (apart_asked can found, (can.inside, (back_short can found told.moved, forth_short can found told.moved)))

pub returns-in-Err-clause-outcome : goal.returns-in-Err-clause-outcome
returns-in-Err-clause-outcome g c =
    let told = alike g (goal.at.returns-in-Err-clause-outcome g c).In-Alike in
    moved_leaves c.requires.can c.requires.found told.moved c.in-Err.ensures.outcome ∙ ap (λ (n : ℕ). Err n) (sym c.left_at.ensures)

pub returns-in_default-clause-outcome : goal.returns-in_default-clause-outcome
returns-in_default-clause-outcome g c =
    let told = alike g (goal.at.returns-in_default-clause-outcome g c).In-Alike in
    (alike_done c.requires.can c.requires.found told.moved told.pins told.own c.in_default.ensures.outcome).outcome

pub returns-in_default-clause-sound : goal.returns-in_default-clause-sound
returns-in_default-clause-sound g c =
    let told = alike g (goal.at.returns-in_default-clause-sound g c).In-Alike in
    record {
      inside = (alike_done c.requires.can c.requires.found told.moved told.pins told.own c.in_default.ensures.outcome).inside;
      room = λ n h. room_at _ (omega arith) h;
    }

-- ---- a row for each end

pub pull-requires-in-Apart : goal.pull-requires-in-Apart
pull-requires-in-Apart g c =
    let can = c.requires.can in
    let found = c.requires.found in
    let told = apart g (goal.at.pull-requires-in-Apart g c).In-Apart in
    asked (omega arith) c.requires.some_lanes c.requires.lanes (pairs_asked can found)
    (apart_asked can found, (can.inside, (back_short can found told.moved, forth_short can found told.moved)))

pub returns-in-Err-pull-clause-outcome : goal.returns-in-Err-pull-clause-outcome
returns-in-Err-pull-clause-outcome g c =
    let told = apart g (goal.at.returns-in-Err-pull-clause-outcome g c).In-Apart in
    moved_leaves c.requires.can c.requires.found told.moved c.in-Err-pull.ensures.outcome
    ∙ ap (λ (n : ℕ). Err n) (sym c.left_at-in-Err-pull.ensures)

pub book_sum-requires-clause-size : goal.book_sum-requires-clause-size
book_sum-requires-clause-size g c =
    let told = apart g (goal.at.book_sum-requires-clause-size g c).In-Apart in
    wider _ (length c.args.found.now.chunk.numbers.now * 2 ^ 23) (2 ^ 30) (omega (arith, c.requires.can.short)) told.pins_size

pub book_sum-requires-in-Apart-clause-size : goal.book_sum-requires-in-Apart-clause-size
book_sum-requires-in-Apart-clause-size g c =
    let told = apart g (goal.at.book_sum-requires-in-Apart-clause-size g c).In-Apart in
    wider _ (length c.args.found.now.chunk.numbers.now * 2 ^ 23) (2 ^ 30) (omega (arith, c.requires.can.short)) told.own_size

pub book_sum-requires-in-Apart-clause-room : goal.book_sum-requires-in-Apart-clause-room
book_sum-requires-in-Apart-clause-room g c =
    let told = apart g (goal.at.book_sum-requires-in-Apart-clause-room g c).In-Apart in
    room_at _ (omega (arith, c.requires.can.short)) (c.book_sum.ensures.room (2 ^ 124) _ told.pins_size c.requires.can.room)

pub returns-in_default-pull-clause-outcome : goal.returns-in_default-pull-clause-outcome
returns-in_default-pull-clause-outcome g c =
    let told = apart g (goal.at.returns-in_default-pull-clause-outcome g c).In-Apart in
    (apart_done c.requires.can c.requires.found told.moved c.class_in.result c.class_in.ensures told.pins told.own
    c.in_default-pull.ensures.outcome c.book_sum.ensures.value c.book_sum-in-Apart.ensures.value).outcome

pub returns-in_default-pull-clause-sound : goal.returns-in_default-pull-clause-sound
returns-in_default-pull-clause-sound g c =
    let told = apart g (goal.at.returns-in_default-pull-clause-sound g c).In-Apart in
    record {
      inside = (apart_done c.requires.can c.requires.found told.moved c.class_in.result c.class_in.ensures told.pins told.own
          c.in_default-pull.ensures.outcome c.book_sum.ensures.value c.book_sum-in-Apart.ensures.value).inside;
      room = λ n h. room_at _ (omega arith)
          (c.book_sum-in-Apart.ensures.room _ _ told.own_size (c.book_sum.ensures.room n _ told.pins_size h));
    }

-- ---- one by one

pub exact_each-requires-clause-known : goal.exact_each-requires-clause-known
exact_each-requires-clause-known g c = known_bonds c.requires.can

pub exact_each-requires-clause-sized : goal.exact_each-requires-clause-sized
exact_each-requires-clause-sized g c = sized_asked c.requires.can c.requires.found

pub exact_each-requires-clause-tried : goal.exact_each-requires-clause-tried
exact_each-requires-clause-tried g c = told_so c.args.found.now c.tell.new.self InPart c.in-InPart.is c.tell.ensures

pub book_each-requires-clause-sized : goal.book_each-requires-clause-sized
book_each-requires-clause-sized g c = sized_asked c.requires.can c.requires.found

pub move_each-requires : goal.move_each-requires
move_each-requires g c =
    let can = c.requires.can in
    let found = c.requires.found in
    asked (omega arith) c.requires.some_lanes c.requires.lanes (pairs_asked can found)
    (apart_asked can found, (can.inside, are_moves can found c.exact_each.ensures))

pub returns-in-Err-move_each-clause-outcome : goal.returns-in-Err-move_each-clause-outcome
returns-in-Err-move_each-clause-outcome g c =
    exact_leaves c.requires.can c.requires.found c.exact_each.ensures c.in-Err-move_each.ensures.outcome
    ∙ ap (λ (n : ℕ). Err n) (sym c.left_at-in-Err-move_each.ensures)

pub returns-in_default-move_each-clause-outcome : goal.returns-in_default-move_each-clause-outcome
returns-in_default-move_each-clause-outcome g c =
    (exact_done c.requires.can c.requires.found c.exact_each.ensures c.in_default-move_each.ensures.outcome
    c.book_each.ensures.value).outcome

pub returns-in_default-move_each-clause-sound : goal.returns-in_default-move_each-clause-sound
returns-in_default-move_each-clause-sound g c = record {
  inside = (exact_done c.requires.can c.requires.found c.exact_each.ensures c.in_default-move_each.ensures.outcome
      c.book_each.ensures.value).inside;
  room = c.book_each.ensures.room;
}
