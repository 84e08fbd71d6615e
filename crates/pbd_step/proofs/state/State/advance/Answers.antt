use Rattle.std.proofs.Common.{◌≡◌, ◌∙◌, refl, sym, ap, ◌^◌, ◌<◌, ℕ, arith, List, length, map, subst, unsigned_abs, w64, FitsSigned}
use Rattle.std.proofs.lemmas.Int.{to_z-of_z}
use Rattle.pbd_num.specs.declared.Vec3.{Vec3}
use Rattle.pbd_num.specs.Vectors.{Within}
use Rattle.pbd_num.proofs.Sizes.{fits}
use Rattle.pbd_world.specs.declared.parts.Particle.{Particle}
use Rattle.pbd_world.specs.declared.totals.Totals.{Totals}
use Rattle.pbd_world.specs.Ledger.{Ledger, ledger_of, HaveRoom}
use Rattle.pbd_world.specs.Particles.{particle_at, effective_weight}
use Rattle.pbd_world.proofs.Rooms.{room_at}
use Rattle.pbd_store.specs.declared.flight.Forces.{Forces}
use Rattle.pbd_store.specs.Flying.{IsSmall, AllStay, LeavesFirst, after_flight}
use Rattle.pbd_store.specs.Moving.{AreInside}
use Rattle.pbd_store.proofs.Landed.{flown_long}
use Rattle.pbd_step.specs.States.{world_of}
use Rattle.pbd_step.specs.Staying.{IsMoved}
use Rattle.pbd_step.proofs.Mild.{formed_within, sound_mild}
use Rattle.pbd_step.proofs.SoundRoom.{sound_room}
use Rattle.pbd_step.proofs.Predicting.{air_of, sound_air, predicted_all, predicted_out, flown_weights, booked_room, with_both}
use Rattle.pbd_step.proofs.state.State.advance.Goals.{After-fly, After-forces_within-forces}
use Rattle.pbd_step.proofs.state.State.advance.Goals as goal

-- what acts on the particles is what acts in the world
is_air : (g : _) (c : After-forces_within-forces g) → c.forces_within-forces.result ≡ air_of (world_of c.args.setting.now c.args.self.now)
is_air g c =
    let w = world_of c.args.setting.now c.args.self.now in
    let f : FitsSigned w64 c.limit.result = record { sfits = c.limit.type_inv } in
    let made = simp to_z-of_z at c.forces_within-forces.ensures in
    made ∙ (λ t. record { damping = w.damping; gravity = w.gravity; limit = c.limit.ensures.value t })

-- a flight moves the state, whatever it books
flown_moved : (g : _) (totals : Totals) (c : After-fly g)
    → IsMoved c.args.self.now (record c.args.self.now { store = c.fly.new.self; totals = totals })
flown_moved g totals c =
    let ps = c.args.self.now.store.particles in
    let forces = c.forces_within-forces.result in
    record {
      same = refl;
      limit = c.fly.ensures.limit;
      copies = c.fly.ensures.copies;
      whole = flown_long forces ps c.fly.new.self.particles c.fly.ensures.particles;
      weights = ap (λ (qs : List Particle). map effective_weight qs) c.fly.ensures.particles ∙ flown_weights forces ps;
    }

pub fly-requires : goal.fly-requires
fly-requires g c =
    let w = world_of c.args.setting.now c.args.self.now in
    let air = is_air g (goal.at.fly-requires g c).After-forces_within-forces in
    let ps = c.args.self.now.store.particles in
    let inside = formed_within w c.requires.sound.well_formed in
    let at : AreInside w.limit ps = record { each = inside.at } in (
      omega arith,
      (
        c.requires.lanes_low,
        (
          c.requires.lanes_high,
          (
            subst (λ (a : Forces). IsSmall a) (sym air) (sound_air w c.requires.sound),
            (
              subst (λ (a : Forces). AreInside a.limit ps) (sym air) at,
              subst (λ (a : Forces). (i : ℕ) → i < length ps → Within (unsigned_abs a.limit) (particle_at ps i).before) (sym air)
                  inside.before,
            ),
          ),
        ),
      ),
    )

pub pulled_by-pulled-requires-clause-gravity : goal.pulled_by-pulled-requires-clause-gravity
pulled_by-pulled-requires-clause-gravity g c = (sound_mild (world_of c.args.setting.now c.args.self.now) c.requires.sound).gravity

pub book-requires-clause-room : goal.book-requires-clause-room
book-requires-clause-room g c = room_at (2 ^ 120) (omega arith)
    (sound_room (world_of c.args.setting.now c.args.self.now) c.requires.sound)

pub returns-in-Err-clause-outcome : goal.returns-in-Err-clause-outcome
returns-in-Err-clause-outcome g c =
    let w = world_of c.args.setting.now c.args.self.now in
    let air = is_air g (goal.at.returns-in-Err-clause-outcome g c).After-forces_within-forces in
    predicted_out w c.in-Err.element (sound_air w c.requires.sound).low (formed_within w c.requires.sound.well_formed).at
    (subst (λ (a : Forces). LeavesFirst a c.args.self.now.store.particles c.in-Err.element) air c.in-Err.ensures.outcome)

pub returns-in-Err-clause-moved : goal.returns-in-Err-clause-moved
returns-in-Err-clause-moved g c = flown_moved g c.args.self.now.totals (goal.at.returns-in-Err-clause-moved g c).After-fly

pub returns-in-Ok-clause-outcome : goal.returns-in-Ok-clause-outcome
returns-in-Ok-clause-outcome g c =
    let w = world_of c.args.setting.now c.args.self.now in
    let air = is_air g (goal.at.returns-in-Ok-clause-outcome g c).After-forces_within-forces in
    let ps = c.args.self.now.store.particles in
    let stay = subst (λ (a : Forces). AllStay a ps c.in-Ok.flown) air c.in-Ok.ensures.outcome in
    let free = fits c.in-Ok.flown.free (omega (arith, stay.few)) in
    let pulled = simp to_z-of_z at c.pulled_by-pulled.ensures.value in
    let particles = c.fly.ensures.particles ∙ (λ t. map (λ (p : Particle). after_flight (air t) p) ps) in
    let books = c.book.ensures ∙ ap (λ (v : Vec3). with_both (ledger_of c.args.self.now.totals) v c.in-Ok.flown.lost) pulled in
    predicted_all w c.in-Ok.flown c.fly.new.self.particles (ledger_of c.book.new.totals) stay particles books

pub returns-in-Ok-clause-moved : goal.returns-in-Ok-clause-moved
returns-in-Ok-clause-moved g c = flown_moved g c.book.new.totals (goal.at.returns-in-Ok-clause-moved g c).After-fly

pub returns-in-Ok-clause-room : goal.returns-in-Ok-clause-room
returns-in-Ok-clause-room g c =
    let room = booked_room (ledger_of c.args.self.now.totals) c.pulled_by-pulled.result c.in-Ok.flown.lost (2 ^ 99)
    c.pulled_by-pulled.ensures.size c.in-Ok.ensures.outcome.small
    (sound_room (world_of c.args.setting.now c.args.self.now) c.requires.sound) in
    subst (λ (t : Ledger). HaveRoom (2 ^ 100) t) (sym c.book.ensures) (room_at (2 ^ 100) (omega arith) room)
