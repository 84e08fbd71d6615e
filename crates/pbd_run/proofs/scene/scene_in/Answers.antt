use Rattle.std.proofs.Common.{◌≡◌, ◌∙◌, sym, true, false, Bool, refl, ap, w64}
use Rattle.std.proofs.lemmas.Int.{to_z-of_z}
use Rattle.std.specs.Str.{is_utf8}
use Rattle.std.proofs.lemmas.Str.{is_utf8-from_IsUtf8, IsUtf8-from_is_utf8}
use Rattle.toml.specs.Parse.{parse_document}
use Rattle.pbd_outcome.specs.Outcome.{tree_in}
use Rattle.pbd_outcome.proofs.OutcomeLaws.{text_read}
use Rattle.pbd_run.proofs.SceneLaws.{no_text, parts_read, fault_read}
use Rattle.pbd_run.proofs.scene.scene_in.Goals as goal

not_text : (b : Bool) → (b ≡ true → ⊥) → b ≡ false
not_text true never = absurd (never refl)
not_text false never = refl

pub returns-in-Ok-read_scene : goal.returns-in-Ok-read_scene
returns-in-Ok-read_scene c =
    let text : is_utf8 c.args.bytes.now ≡ true = is_utf8-from_IsUtf8 _ c.in-Ok.ensures.cases.1 in
    text_read c.args.limit c.args.bytes.now text ∙ ap (λ t. tree_in c.args.limit (parse_document t)) (sym c.in-Ok.ensures.cases.0)
    ∙ parts_read c.args.limit (parse_document c.in-Ok.text.now) c.in-Ok-read_scene.scene
    (rw (to_z-of_z w64 c.args.limit c.ranges.limit) at c.in-Ok-read_scene.ensures)

pub returns-in-Err-read_scene : goal.returns-in-Err-read_scene
returns-in-Err-read_scene c =
    let text : is_utf8 c.args.bytes.now ≡ true = is_utf8-from_IsUtf8 _ c.in-Ok.ensures.cases.1 in
    rw (text_read c.args.limit c.args.bytes.now text, ← c.in-Ok.ensures.cases.0)
    (fault_read c.args.limit (parse_document c.in-Ok.text.now) c.in-Err-read_scene.fault
    (rw (to_z-of_z w64 c.args.limit c.ranges.limit) at c.in-Err-read_scene.ensures))

pub returns-in-Err : goal.returns-in-Err
returns-in-Err c = no_text c.args.limit c.args.bytes.now (not_text _ (λ yes. c.in-Err.ensures.cases.0 (IsUtf8-from_is_utf8 _ yes)))
