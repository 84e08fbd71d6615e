use Rattle.std.proofs.Common.{◌≡◌, ◌∙◌, true, sym, arith}
use Rattle.pbd_scene.proofs.Reading.{one_more}
use Rattle.pbd_scene.proofs.mesh_entries.MeshesEntryReader.read.Goals as goal

pub size-requires : goal.size-requires
size-requires g c = c.is_fitting.ensures.few c.in_ok-fitting.ensures.holds

pub overflow_add-self-2 : goal.overflow_add-self-2
overflow_add-self-2 g c =
    let few = c.is_fitting.ensures.few c.in_ok-fitting.ensures.holds in
    omega (arith, few, c.requires.so_far.0, c.all_sizes.ensures, c.size.ensures)

pub returns-clause-keeps : goal.returns-clause-keeps
returns-clause-keeps g c =
    let M = g.M.MeshEntry in
    let s = c.args.self.now in
    let room = rw (c.all_sizes.ensures, c.size.ensures) at c.in_ok-room_for.ensures.room in
    one_more (λ m. M.fits s.limit.units m ≡ true) M.size s.count c.args.before.now c.in_ok-mesh.mesh
    c.requires.so_far.1 (sym c.is_fitting.ensures.value ∙ c.in_ok-fitting.ensures.holds) room
