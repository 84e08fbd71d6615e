use Rattle.std.proofs.Common.{◌≡◌, refl, rules, w64, FitsSigned, Ok, []}
use Rattle.std.specs.Prelude.{slice_index_or, unwrap_or}
use Rattle.std.proofs.lemmas.Int.{to_z-of_z}
use Rattle.pbd_scene.specs.declared.tables.TableName.TheVariants as tables
use Rattle.pbd_scene.specs.Checks.{◌>>=◌}
use Rattle.pbd_scene.specs.Naming.{entry_link, length_between, plain_link, room_for_link}
use Rattle.pbd_scene.specs.Values.{at}
use Rattle.pbd_scene.proofs.Reading.{stops}
use Rattle.pbd_scene.proofs.linking.entry_link.Goals.{In_ok-expect-2}
use Rattle.pbd_scene.proofs.linking.entry_link.Goals as goal

-- once both ends are known to differ, only room at both is looked for
has_ends : (c : In_ok-expect-2) → entry_link c.args.particles.now c.args.position c.args.so_far.now.links.now c.args.l
    ≡ (room_for_link (at tables.Link c.args.position) c.in_ok-b.b (slice_index_or c.args.so_far.now.lists.now c.in_ok-a.a [])
    (slice_index_or c.args.so_far.now.lists.now c.in_ok-b.b []) >>= λ _. Ok (plain_link c.in_ok-a.a c.in_ok-b.b
    (unwrap_or c.args.l.rest (length_between c.args.particles.now c.in_ok-a.a c.in_ok-b.b)) c.args.l))
unfolding entry_link
has_ends c =
    let is_a = rw (to_z-of_z w64 c.args.l.a (search rules)) at c.in_ok-a.ensures.number in
    let is_b = rw (to_z-of_z w64 c.args.l.b (search rules)) at c.in_ok-b.ensures.number in
    let at_a = c.requires.lists.ends_at c.in_ok-a.a c.in_ok-a.ensures.low in
    let at_b = c.requires.lists.ends_at c.in_ok-b.b c.in_ok-b.ensures.low in
    rw (c.in_ok-expect.ensures.value, is_a, is_b, c.in_ok-expect-2.ensures.value, ← at_a, ← at_b) refl

pub rest_of-requires : goal.rest_of-requires
rest_of-requires c = record { places = c.requires.places; a = c.in_ok-a.ensures.low; b = c.in_ok-b.ensures.low }

pub returns-in_err-room_for_link : goal.returns-in_err-room_for_link
returns-in_err-room_for_link c =
    rw (has_ends (goal.at.returns-in_err-room_for_link c).In_ok-expect-2)
    (stops _ _ _ _ _ c.from_residual-in_err-room_for_link.ensures.1 c.in_err-room_for_link.ensures)

pub returns : goal.returns
returns c =
    let wide : FitsSigned w64 c.rest_of.result = record { sfits = c.rest_of.type_inv } in
    let is_link = rw c.rest_of.ensures at (simp to_z-of_z at c.plain_link.ensures) in
    rw (has_ends (goal.at.returns c).In_ok-expect-2, c.in_ok-room_for_link.ensures, is_link) refl
