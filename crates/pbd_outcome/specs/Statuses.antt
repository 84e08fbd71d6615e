-- The statuses of a run, and the lines of those that stop it.
use Rattle.std.specs.Prelude.{ℕ, ◌-◌, ◌++◌, codes, decimal, List, [], ◌∷◌, length, take}
use Rattle.pbd_world.specs.Text.{line}
use Rattle.pbd_scene.specs.declared.fault.SceneRule.{SceneRule}
use Rattle.pbd_scene.specs.declared.tables.TableName.{TableName}
use Rattle.pbd_scene.specs.declared.tables.KeyName.{KeyName}
use Rattle.pbd_scene.specs.Checks.{Broken}
use Rattle.pbd_scene.specs.Keys.{key_text, table_text, rule_number, rule_text}
use Rattle.pbd_outcome.specs.declared.status.Status.{Status}
use Rattle.pbd_outcome.specs.declared.status.Status.TheVariants.{Done, Usage, ReadFault, WriteFault, InputTooLong, NoScript, SceneNotText}
use Rattle.pbd_outcome.specs.declared.status.Status.TheVariants.{SceneNotToml, SceneRefused, LogRefused, Mismatch, SomeRefused, OutOfMemory}
use Rattle.pbd_outcome.specs.declared.status.Status.TheVariants.{ObjRefused, TooManyScenes}

abbrev pub status_number : Status → ℕ
status_number Done = 0
status_number Usage = 1
status_number ReadFault = 2
status_number WriteFault = 3
status_number InputTooLong = 4
status_number NoScript = 5
status_number SceneNotText = 6
status_number SceneNotToml = 7
status_number SceneRefused = 8
status_number LogRefused = 9
status_number Mismatch = 10
status_number SomeRefused = 11
status_number OutOfMemory = 12
status_number ObjRefused = 14
status_number TooManyScenes = 15

abbrev pub error_line : List (List ℕ) → List ℕ
error_line words = line (codes "error" ∷ words)

-- the line of a status that has always the same, and nothing for any other
abbrev pub status_line : Status → List ℕ
status_line Usage = error_line (codes "1" ∷ codes "Usage" ∷ [])
status_line ReadFault = error_line (codes "2" ∷ codes "ReadFault" ∷ [])
status_line InputTooLong = error_line (codes "4" ∷ codes "InputTooLong" ∷ [])
status_line NoScript = error_line (codes "5" ∷ codes "NoScript" ∷ [])
status_line SceneNotText = error_line (codes "6" ∷ codes "SceneNotText" ∷ [])
status_line SceneNotToml = error_line (codes "7" ∷ codes "SceneNotToml" ∷ [])
status_line TooManyScenes = error_line (codes "15" ∷ codes "TooManyScenes" ∷ [])
status_line _ = []

-- a broken rule from its parts
abbrev pub broken_at : SceneRule → TableName → ℕ → KeyName → Broken
broken_at rule table position key = record { rule = rule; place = record { table = table; position = position }; key = key }

-- the rule that a scene breaks, and where
unfoldable pub refused_line : Broken → List ℕ
refused_line b = error_line (codes "8" ∷ codes "SceneRefused" ∷ decimal (rule_number b.rule) ∷ rule_text b.rule
    ∷ table_text b.place.table ∷ decimal b.place.position ∷ key_text b.key ∷ [])

-- where a log goes wrong
unfoldable pub log_line : ℕ → List ℕ
log_line offset = error_line (codes "9" ∷ codes "LogRefused" ∷ codes "offset" ∷ decimal offset ∷ [])

-- a line that tells before its newline of which scene it is
unfoldable pub line_in : ℕ → List ℕ → List ℕ
line_in n text = take (length text - 1) text ++ codes " in " ++ decimal n ++ 10 ∷ []
