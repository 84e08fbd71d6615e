use Rattle.std.proofs.Common.{◌≡◌, ◌+◌, length, ap, ◌∙◌, subst, All, arith}
use Rattle.std.specs.Prelude.{IfOk}
use Rattle.std.specs.Io.KnownBytes.{Appends}
use Rattle.pbd_io.specs.Appending.{appends_nothing}
use Rattle.pbd_io.specs.Pieces.{WritesPiece}
use Rattle.pbd_world.specs.World.{IsSound}
use Rattle.pbd_host.specs.declared.request.Request.{Request}
use Rattle.pbd_host.specs.declared.request.Request.TheVariants.{BadTag, Blank, To}
use Rattle.pbd_host.specs.declared.served.Served.{Served}
use Rattle.pbd_host.specs.Tagged.{request_of}
use Rattle.pbd_host.specs.Hosted.{request_text, served, worlds_after}
use Rattle.pbd_host.proofs.OpeningLaws.{hosted_sound}
use Rattle.pbd_host.proofs.ServingLaws.{asked_of}
use Rattle.pbd_host.proofs.host.Host.serve_line.Goals.{After-len}
use Rattle.pbd_host.proofs.host.Host.serve_line.Goals as goal

-- the request of the line, among all sessions
asked : (g : _) (c : After-len g) (r : Request) → r ≡ request_of (1 + c.len.result) c.args.line.now
    → r ≡ request_of (length c.args.self.now) c.args.line.now
asked g c r is = asked_of c.self.inside.first c.self.inside.others.items c.args.self.now c.len.result c.args.line.now r c.self.view_is
    (omega (arith, c.len.ensures)) is

-- the sessions as they were
still_sound : (g : _) (c : After-len g) → All IsSound c.args.self.now
still_sound g c = hosted_sound c.self.inside.first c.self.inside.others.items c.args.self.now c.self.view_is c.self.invariant

-- a command of a session
to_one : (g : _) (c : goal.After-serve g) → To c.in-To.session c.in-To.command ≡ request_of (length c.args.self.now) c.args.line.now
to_one g c = asked_of c.self.inside.first c.self.inside.others.items c.args.self.now c.len.result c.args.line.now
    (To c.in-To.session c.in-To.command) c.self.view_is (omega (arith, c.len.ensures)) c.in-To.ensures.request

pub returns-in-To-clause-bytes : goal.returns-in-To-clause-bytes
returns-in-To-clause-bytes g c =
    subst (λ (r : Request). WritesPiece (g.K.Sink.written c.args.sink.now) (g.K.Sink.written c.serve.new.sink) c.serve.result
    (request_text c.args.self.now r)) (to_one g c) c.serve.ensures.bytes

pub returns-in-To-clause-worlds : goal.returns-in-To-clause-worlds
returns-in-To-clause-worlds g c = c.serve.ensures.worlds ∙ ap (worlds_after c.args.self.now) (to_one g c)

pub returns-in-To-clause-served : goal.returns-in-To-clause-served
returns-in-To-clause-served g c =
    subst (λ (r : Request). IfOk c.serve.result (λ (it : Served). it ≡ served c.args.self.now r)) (to_one g c) c.serve.ensures.served

-- a bad tag
pub returns-in-BadTag-clause-bytes : goal.returns-in-BadTag-clause-bytes
unfolding request_text
returns-in-BadTag-clause-bytes g c =
    subst (λ (r : Request). WritesPiece (g.K.Sink.written c.args.sink.now)
    (g.K.Sink.written c.write_bad_tag.new.sink) c.write_bad_tag.result (request_text c.args.self.now r))
    (asked g (goal.at.returns-in-BadTag-clause-bytes g c).After-len BadTag c.in-BadTag.ensures.request) c.write_bad_tag.ensures.bytes

pub returns-in-BadTag-clause-served : goal.returns-in-BadTag-clause-served
returns-in-BadTag-clause-served g c =
    subst (λ (r : Request). IfOk c.write_bad_tag.result (λ (it : Served). it ≡ served c.args.self.now r))
    (asked g (goal.at.returns-in-BadTag-clause-served g c).After-len BadTag c.in-BadTag.ensures.request) c.write_bad_tag.ensures.served

pub returns-in-BadTag-clause-worlds : goal.returns-in-BadTag-clause-worlds
returns-in-BadTag-clause-worlds g c = ap (worlds_after c.args.self.now)
    (asked g (goal.at.returns-in-BadTag-clause-worlds g c).After-len BadTag c.in-BadTag.ensures.request)

pub returns-in-BadTag-clause-sound : goal.returns-in-BadTag-clause-sound
returns-in-BadTag-clause-sound g c = still_sound g (goal.at.returns-in-BadTag-clause-sound g c).After-len

-- a blank line
pub returns-in-Blank-clause-bytes : goal.returns-in-Blank-clause-bytes
unfolding request_text
returns-in-Blank-clause-bytes g c =
    subst (λ (r : Request). Appends (g.K.Sink.written c.args.sink.now) (g.K.Sink.written c.args.sink.now) (request_text c.args.self.now r))
    (asked g (goal.at.returns-in-Blank-clause-bytes g c).After-len Blank c.in-Blank.ensures.request)
    (appends_nothing (g.K.Sink.written c.args.sink.now))

pub returns-in-Blank-clause-served : goal.returns-in-Blank-clause-served
returns-in-Blank-clause-served g c = ap (served c.args.self.now)
    (asked g (goal.at.returns-in-Blank-clause-served g c).After-len Blank c.in-Blank.ensures.request)

pub returns-in-Blank-clause-worlds : goal.returns-in-Blank-clause-worlds
returns-in-Blank-clause-worlds g c = ap (worlds_after c.args.self.now)
    (asked g (goal.at.returns-in-Blank-clause-worlds g c).After-len Blank c.in-Blank.ensures.request)

pub returns-in-Blank-clause-sound : goal.returns-in-Blank-clause-sound
returns-in-Blank-clause-sound g c = still_sound g (goal.at.returns-in-Blank-clause-sound g c).After-len
