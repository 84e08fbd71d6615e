use Rattle.std.proofs.Common.{◌≡◌, ◌∙◌, sym, ap, ℕ, List, ◌<◌, ◌^◌, length, arith}
use Rattle.pbd_log.specs.declared.entry.Entry.{Entry}
use Rattle.pbd_log.specs.Logs.{Log}
use Rattle.pbd_log.specs.Reading.{entries_of}
use Rattle.pbd_log.proofs.Bodies.{entries_few, entries_next, entries_none}
use Rattle.pbd_log.proofs.view.LogView.next.Goals as goal

countable : (bytes : List ℕ) (log : Log) → length bytes < 2 ^ 63 → log.entries ≡ entries_of bytes → length log.entries < 2 ^ 63
countable bytes log short is = omega (arith, short, entries_few bytes, ap (λ (es : List Entry). length es) is)

pub returns-in-Some-clause-few : goal.returns-in-Some-clause-few
returns-in-Some-clause-few c = countable c.self.inside.rest.now c.args.self.now c.next_entry.ensures.short (ap (λ (l : Log). l.entries) (sym c.self.view_is))

pub returns-in-None-clause-few : goal.returns-in-None-clause-few
returns-in-None-clause-few c = countable c.self.inside.rest.now c.args.self.now c.next_entry.ensures.short (ap (λ (l : Log). l.entries) (sym c.self.view_is))

pub returns-in-Some-clause-next : goal.returns-in-Some-clause-next
returns-in-Some-clause-next c =
    sym c.self.view_is ∙ ap (λ es. record {
      version = c.self.inside.version;
      limit = c.self.inside.limit;
      scene = c.self.inside.scene.now;
      entries = es;
    })
    (entries_next c.self.inside.rest.now c.in-Some.entry c.in-Some.rest.now c.in-Some.ensures.fits c.in-Some.ensures.gives)

pub returns-in-None-clause-ended : goal.returns-in-None-clause-ended
returns-in-None-clause-ended c = ap (λ (l : Log). l.entries) (sym c.self.view_is)
    ∙ entries_none c.self.inside.rest.now c.in-None.ensures.gives
