-- Names in a line.
use Rattle.std.proofs.Common.{ℕ, List, [], ◌∷◌, ◌++◌, length, append_assoc, ◌≤◌, lit≤, refl, ◌≡◌}
use Rattle.pbd_scene.specs.declared.fault.SceneRule.{SceneRule}
use Rattle.pbd_scene.specs.declared.fault.SceneRule.TheVariants as rules
use Rattle.pbd_scene.specs.declared.tables.TableName.{TableName}
use Rattle.pbd_scene.specs.declared.tables.TableName.TheVariants as tables
use Rattle.pbd_scene.specs.declared.tables.KeyName.{KeyName}
use Rattle.pbd_scene.specs.declared.tables.KeyName.TheVariants as keys
use Rattle.pbd_scene.specs.Keys.{rule_text, table_text, key_text}

-- ---- the words of a line

pub regrouped : (n r t p k : List ℕ) → ((((((((n ++ 32 ∷ []) ++ r) ++ 32 ∷ []) ++ t) ++ 32 ∷ []) ++ p) ++ 32 ∷ []) ++ k) ++ 10 ∷ [] ≡ n
    ++ 32 ∷ (r ++ 32 ∷ (t ++ 32 ∷ (p ++ 32 ∷ (k ++ 10 ∷ []))))
regrouped n r t p k = simp append_assoc refl

-- ---- names fit a line

-- The first of each is told by itself, and all others are computed: a new one wants no line here.
pub rule_short : (x : SceneRule) → length (rule_text x) ≤ 20
rule_short rules.UnknownKey = lit≤ tt
rule_short x = lit≤ tt

pub table_short : (x : TableName) → length (table_text x) ≤ 20
table_short tables.Scene = lit≤ tt
table_short x = lit≤ tt

pub key_short : (x : KeyName) → length (key_text x) ≤ 20
key_short keys.NoKey = lit≤ tt
key_short x = lit≤ tt
