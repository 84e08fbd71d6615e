use Rattle.std.proofs.Common.{◌∙◌, ◌∷◌, ap, sym, arith, Ok}
use Rattle.pbd_world.specs.World.{World, unchanging}
use Rattle.pbd_marks.specs.Keeping.{worlds_in}
use Rattle.pbd_marks.proofs.KeepingLemmas.{rewound_empty, rewound_set, rewound_scene}
use Rattle.pbd_marks.proofs.marks.Marks.rewind.Goals as goal

pub returns-then-not-self-k-clause-outcome : goal.returns-then-not-self-k-clause-outcome
returns-then-not-self-k-clause-outcome g c = rewound_empty c.args.self.now c.self.inside.are_set
    (worlds_in (c.self.inside.first ∷ c.self.inside.others.items)) c.args.k _ c.args.solver.now.world c.self.view_is c.self.invariant
    (sym c.lacks.ensures.value ∙ c.if-lacks.false) c.if-not-self-k.true

pub copy_from-requires : goal.copy_from-requires
copy_from-requires g c =
    let one_scene = rewound_scene c.args.self.now c.self.inside.are_set
    (c.self.inside.first ∷ c.self.inside.others.items) c.args.k c.args.solver.now.world c.solver_at.result.now c.self.view_is
    c.self.invariant (sym c.lacks.ensures.value ∙ c.if-lacks.false) c.requires.one_scene c.solver_at.ensures in
    (omega arith, (c.requires.lanes_low, (c.requires.lanes_high, one_scene)))

pub returns-clause-outcome : goal.returns-clause-outcome
returns-clause-outcome g c =
    rewound_set c.args.self.now c.self.inside.are_set (c.self.inside.first ∷ c.self.inside.others.items) c.args.k _ c.solver_at.result.now
    c.self.view_is c.self.invariant (sym c.lacks.ensures.value ∙ c.if-lacks.false) c.if-not-self-k.false c.solver_at.ensures
    ∙ ap (λ (w : World). Ok w) (sym c.copy_from.ensures.world)

pub returns-clause-one_scene : goal.returns-clause-one_scene
returns-clause-one_scene g c =
    rewound_scene c.args.self.now c.self.inside.are_set (c.self.inside.first ∷ c.self.inside.others.items) c.args.k c.args.solver.now.world
    c.solver_at.result.now c.self.view_is c.self.invariant
    (sym c.lacks.ensures.value ∙ c.if-lacks.false) c.requires.one_scene c.solver_at.ensures
    ∙ ap (λ (w : World). unchanging w) (sym c.copy_from.ensures.world)
