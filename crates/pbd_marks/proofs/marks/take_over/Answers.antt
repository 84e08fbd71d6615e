use Rattle.std.proofs.Common.{◌∙◌, ◌∷◌, ◌<◌, List, ap, sym, arith, subst}
use Rattle.pbd_world.specs.World.{IsSound, unchanging}
use Rattle.pbd_step.specs.Solving.{Solved}
use Rattle.pbd_marks.specs.Keeping.{worlds_in}
use Rattle.pbd_marks.proofs.KeepingLemmas.{at_later, set_later, length-worlds, world_of_scene, worlds_set}
use Rattle.pbd_marks.proofs.marks.take_over.Goals as goal

pub copy_from-requires : goal.copy_from-requires
copy_from-requires g c =
    let first = c.args.first.now in
    let of_scene = world_of_scene (unchanging c.args.solver.now.world) (first ∷ c.args.others.now.items) 0 first
    (omega arith) c.requires.one_scene in
    (omega arith, (c.requires.lanes_low, (c.requires.lanes_high, of_scene)))

pub copy_from-requires-else-k-eq0 : goal.copy_from-requires-else-k-eq0
copy_from-requires-else-k-eq0 g c =
    let first = c.args.first.now in
    let others = c.args.others.now.items in
    let old = c.index_mut.result.now in
    let later : 0 < c.args.k = omega arith in
    let of_scene = world_of_scene (unchanging c.args.solver.now.world) (first ∷ others) c.args.k old
    (omega (arith, c.requires.within, length-worlds others)) c.requires.one_scene in
    let at = c.index_mut.ensures.value ∙ sym (at_later first others c.args.k old later) in
    (omega arith, (c.requires.lanes_low, (c.requires.lanes_high, ap (λ (s : Solved g.row.P.Denot). unchanging s.world) at ∙ of_scene)))

pub returns-else-k-eq0-clause-worlds : goal.returns-else-k-eq0-clause-worlds
returns-else-k-eq0-clause-worlds g c =
    let first = c.args.first.now in
    let others = c.args.others.now.items in
    let new = c.copy_from-else-k-eq0.new.self in
    let later : 0 < c.args.k = omega arith in
    ap (λ (ss : List (Solved g.row.P.Denot)). worlds_in ss) (sym (set_later first others c.args.k new later))
    ∙ worlds_set (first ∷ others) c.args.k new c.args.solver.now.world c.copy_from-else-k-eq0.ensures.world

pub returns-then-k-eq0-clause-sound : goal.returns-then-k-eq0-clause-sound
returns-then-k-eq0-clause-sound g c = subst IsSound c.copy_from.ensures.world c.copy_from.ensures.sound

pub returns-else-k-eq0-clause-sound : goal.returns-else-k-eq0-clause-sound
returns-else-k-eq0-clause-sound g c = subst IsSound c.copy_from-else-k-eq0.ensures.world c.copy_from-else-k-eq0.ensures.sound
