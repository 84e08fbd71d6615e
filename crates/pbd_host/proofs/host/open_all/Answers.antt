use Rattle.std.proofs.Common.{◌∙◌, ap, sym, subst, map, All, List}
use Rattle.std.proofs.lemmas.List.{take_all}
use Rattle.std.proofs.lemmas.List.Elements.{All-push}
use Rattle.pbd_world.specs.declared.parts.Parts.{Parts}
use Rattle.pbd_world.specs.World.{World, opened, IsSound}
use Rattle.pbd_host.proofs.OpeningLaws.{one_more}
use Rattle.pbd_host.proofs.host.open_all.Goals as goal

pub loop-scene-preserved : goal.loop-scene-preserved
loop-scene-preserved g c = record {
  worlds = one_more c.args.scenes.now c.loop-scene.scene-index c.scene-item.result c.loop-scene.sessions.items c.push.new.self.items
      c.in_ok-session.session c.loop-scene.invariant.worlds c.loop-scene-test.true
      (c.in_ok-session.ensures.world ∙ ap opened c.scene-item.is) c.in_ok-push.ensures.items;
  sound = subst (λ (ws : List World). All IsSound ws) (sym c.in_ok-push.ensures.items)
      (All-push IsSound c.loop-scene.sessions.items c.in_ok-session.session c.loop-scene.invariant.sound c.in_ok-session.ensures.sound);
}

pub returns-clause-worlds : goal.returns-clause-worlds
returns-clause-worlds g c = c.loop-scene.invariant.worlds
    ∙ ap (λ (scenes : List Parts). map opened scenes) (take_all c.loop-scene.scene-index c.args.scenes.now c.loop-scene-test.false)
