use Rattle.std.proofs.Common.{◌≡◌, ◌++◌, subst}
use Rattle.std.specs.Prelude.{IfOk}
use Rattle.pbd_io.specs.Pieces.{WritesPiece}
use Rattle.pbd_world.specs.Meaning.{reply}
use Rattle.pbd_world.specs.World.{World}
use Rattle.pbd_host.specs.declared.served.Served.{Served}
use Rattle.pbd_host.specs.Hosted.{command_text, request_text, served_as, session_line, world_at}
use Rattle.pbd_host.proofs.OpeningLaws.{all_sound}
use Rattle.pbd_host.proofs.ServingLaws.{set_seen, other_set, world_seen}
use Rattle.pbd_host.proofs.host.Host.serve.Goals as goal

pub returns-clause-worlds : goal.returns-clause-worlds
returns-clause-worlds g c = set_seen c.self.inside.first c.self.inside.others.items c.args.self.now c.args.number c.index_mut.result.now
    c.serve_in-2.new.session c.args.command.now c.self.view_is c.if-place-eq0.false c.requires.among c.index_mut.ensures.value
    c.serve_in-2.ensures.world

pub invariant_of-self-2 : goal.invariant_of-self-2
invariant_of-self-2 g c = other_set c.self.inside.first c.self.inside.others.items _ c.serve_in-2.new.session c.self.invariant
    c.serve_in-2.ensures.sound

pub returns-then-place-eq0-clause-sound : goal.returns-then-place-eq0-clause-sound
returns-then-place-eq0-clause-sound g c = all_sound c.serve_in.new.session c.self.inside.others.items c.serve_in.ensures.sound
    c.self.invariant.others

pub returns-clause-sound : goal.returns-clause-sound
returns-clause-sound g c =
    let is = invariant_of-self-2 g c in
    all_sound _ _ is.first is.others

-- the world that the command finds
found : (g : _) (c : goal.After-self-1 g) → c.index_mut.result.now ≡ world_at c.args.self.now c.args.number
found g c = world_seen c.self.inside.first c.self.inside.others.items c.args.self.now c.args.number c.index_mut.result.now c.self.view_is
    c.if-place-eq0.false c.requires.among c.index_mut.ensures.value

pub returns-clause-bytes : goal.returns-clause-bytes
unfolding request_text
returns-clause-bytes g c =
    subst (λ (w : World). WritesPiece (g.K.Sink.written c.args.sink.now) (g.K.Sink.written c.serve_in-2.new.sink) c.serve_in-2.result
    (session_line c.args.number ++ command_text w c.args.command.now)) (found g c) c.serve_in-2.ensures.bytes

pub returns-clause-served : goal.returns-clause-served
returns-clause-served g c =
    subst (λ (w : World). IfOk c.serve_in-2.result (λ (it : Served). it ≡ served_as c.args.number (reply w c.args.command.now)))
    (found g c) c.serve_in-2.ensures.served
