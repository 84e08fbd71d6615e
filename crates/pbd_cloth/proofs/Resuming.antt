-- A cloth that goes over to the world that bytes tell.
use Rattle.std.proofs.Common.{◌≡◌, sym, ap, ◌∙◌, ℕ, List, Ok, Err}
use Rattle.std.specs.Prelude.{OnOk, OnErr}
use Rattle.pbd_world.specs.World.{World}
use Rattle.pbd_encoding.specs.Form.{Formed}
use Rattle.pbd_encoding.specs.Laws.{told_on}
use Rattle.pbd_state.specs.Reading.{reading}
use Rattle.pbd_cloth.specs.Slots.{Slotted}
use Rattle.pbd_cloth.specs.States.{going_over, resumed}

goes_over : (r : Formed) (c : Slotted) (w told : World) → OnOk r (w ≡ told) → OnErr r (w ≡ c.world)
    → record c { world = w } ≡ going_over r c told
goes_over (Ok x) c w told ok err = λ i. record c { world = ok i }
goes_over (Err fault) c w told ok err = λ i. record c { world = err i }

pub resumed_so : (scene bytes : List ℕ) (c : Slotted) (w : World) (r : Formed) → r ≡ reading scene c.world bytes
    → OnOk r (w ≡ told_on c.world bytes)
    → OnErr r (w ≡ c.world) → record c { world = w } ≡ resumed scene c bytes
resumed_so scene bytes c w r is ok err =
    goes_over r c w (told_on c.world bytes) ok err ∙ ap (λ (s : Formed). going_over s c (told_on c.world bytes)) is
