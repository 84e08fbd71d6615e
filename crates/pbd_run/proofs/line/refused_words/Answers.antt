use Rattle.std.proofs.Common.{ap, ◌++◌, codes, decimal}
use Rattle.pbd_scene.specs.Keys.{rule_number, rule_text, table_text, key_text}
use Rattle.pbd_outcome.specs.Statuses.{refused_line}
use Rattle.pbd_outcome.proofs.LineLaws.{regrouped}
use Rattle.pbd_run.proofs.line.refused_words.Goals as goal

pub returns-clause-bytes : goal.returns-clause-bytes
unfolding refused_line
returns-clause-bytes c =
    rw (
      c.push_word-3.ensures.bytes,
      c.push_number-2.ensures.bytes,
      c.push-2.ensures,
      c.push_word-2.ensures.bytes,
      c.push_word.ensures.bytes,
      c.push_number.ensures.bytes,
      c.push.ensures,
      c.new-line.ensures,
      c.rule_number.ensures,
      c.rule_name.ensures.name,
      c.table_name.ensures.name,
      c.key_name.ensures.name,
      c.from.ensures,
    )
    (ap (λ t. codes "error 8 SceneRefused " ++ t) (regrouped (decimal (rule_number c.args.rule)) (rule_text c.args.rule)
    (table_text c.args.table) (decimal c.args.position) (key_text c.args.key)))
