use Rattle.std.proofs.Common.{ap, sym, ◌∙◌, subst, arith, length}
use Rattle.pbd_world.specs.declared.bond.Correction.{Correction}
use Rattle.pbd_world.specs.declared.bond.Correction.TheVariants.{Moves}
use Rattle.pbd_world.specs.Ledger.{ledger_of}
use Rattle.pbd_world.specs.Bonds.{corrected}
use Rattle.pbd_pair.specs.Bonds.{IsSound}
use Rattle.pbd_pair.specs.declared.parts.Note.{Note}
use Rattle.pbd_store.specs.Moving.{motion_of}
use Rattle.pbd_pair.proofs.Single.{moves_outcome}
use Rattle.pbd_pair.proofs.Correcting.{inside-placed_by, fixed-placed_by}
use Rattle.pbd_store.proofs.Scattering.{length-placed}
use Rattle.pbd_pair.proofs.one.NumberedBond.project.Goals as goal

pub returns-in-Slack-clause-outcome : goal.returns-in-Slack-clause-outcome
returns-in-Slack-clause-outcome g c =
    let is = sym (ap (λ (n : Note). n.correction) c.read_bond-note.ensures.value) ∙ c.in-Slack.is in
    ap (λ (x : Correction). corrected c.args.self.number c.args.self.bond x (motion_of c.args.store.now c.args.totals.now)) is

pub returns-in-Leaves-clause-outcome : goal.returns-in-Leaves-clause-outcome
returns-in-Leaves-clause-outcome g c =
    let is = sym (ap (λ (n : Note). n.correction) c.read_bond-note.ensures.value) ∙ c.in-Leaves.is in
    ap (λ (x : Correction). corrected c.args.self.number c.args.self.bond x (motion_of c.args.store.now c.args.totals.now)) is

pub returns-in-Moves-clause-outcome : goal.returns-in-Moves-clause-outcome
returns-in-Moves-clause-outcome g c =
    let noted = c.read_bond-note.ensures.value in
    moves_outcome c.args.self.number c.args.self.bond c.in-Moves.shift c.args.store.now.particles (ledger_of c.args.totals.now)
    (sym c.in-Moves.is ∙ ap (λ (n : Note). n.correction) noted) c.put.ensures.particles c.put-in-Moves.ensures.particles
    (ap (λ (n : Note). n.first_held) noted) (ap (λ (n : Note). n.second_held) noted) c.book_moves.ensures.value

pub returns-in-Moves-clause-inside : goal.returns-in-Moves-clause-inside
returns-in-Moves-clause-inside g c =
    let sound = subst (λ (x : Correction). IsSound c.args.store.now.limit x) c.in-Moves.is c.read_bond-note.ensures.sound in
    rw (c.put-in-Moves.ensures.particles, c.put.ensures.particles)
    (inside-placed_by c.args.store.now.limit c.args.store.now.particles c.args.self.bond
    (Moves c.in-Moves.shift) c.requires.bond.first c.requires.bond.second sound c.requires.inside)

pub returns-in-Moves-clause-fixed : goal.returns-in-Moves-clause-fixed
returns-in-Moves-clause-fixed g c = rw (c.put-in-Moves.ensures.particles, c.put.ensures.particles)
    (fixed-placed_by c.args.store.now.particles c.args.self.bond
    (Moves c.in-Moves.shift))

pub returns-in-Slack-clause-inside : goal.returns-in-Slack-clause-inside
returns-in-Slack-clause-inside g c = c.requires.inside

pub returns-in-Leaves-clause-inside : goal.returns-in-Leaves-clause-inside
returns-in-Leaves-clause-inside g c = c.requires.inside

pub returns-in-Moves-clause-room : goal.returns-in-Moves-clause-room
returns-in-Moves-clause-room g c = c.book_moves.ensures.room

pub returns-in-Moves-clause-limit : goal.returns-in-Moves-clause-limit
returns-in-Moves-clause-limit g c = c.put-in-Moves.ensures.limit ∙ c.put.ensures.limit

pub returns-in-Moves-clause-copies : goal.returns-in-Moves-clause-copies
returns-in-Moves-clause-copies g c = c.put-in-Moves.ensures.copies ∙ c.put.ensures.copies

pub put-requires-in-Moves : goal.put-requires-in-Moves
put-requires-in-Moves g c = (
  omega arith,
  omega (
    arith,
    c.requires.bond.second,
    ap length c.put.ensures.particles,
    length-placed c.args.store.now.particles c.args.self.bond.a c.in-Moves.shift.first,
  ),
)
