use Rattle.std.proofs.Common.{◌∙◌, ap, rules, w64}
use Rattle.std.proofs.lemmas.Int.{to_z-of_z}
use Rattle.pbd_world.specs.World.{IsSound, World, parts_of}
use Rattle.pbd_world.proofs.WorldParts.{formed}
use Rattle.pbd_session.proofs.session.Session.limit.Goals as goal

pub returns-clause-one_of_two : goal.returns-clause-one_of_two
returns-clause-one_of_two g c =
    let sound : IsSound c.args.self.now = search (rules, c.limit.ensures.sound, c.self.view_is) in
    (formed (parts_of c.args.self.now) sound.well_formed).limit

pub returns-clause-value : goal.returns-clause-value
returns-clause-value g c = to_z-of_z w64 c.limit.result (record { sfits = c.limit.type_inv })
    ∙ (c.limit.ensures.value ∙ ap (λ (w : World). w.limit) c.self.view_is)
