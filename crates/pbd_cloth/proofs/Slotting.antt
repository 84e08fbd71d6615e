-- What becomes of worlds in slots.
use Rattle.std.proofs.Common.{◌≡◌, ◌≢◌, ◌∙◌, refl, sym, ap, subst, ℕ, ◌+◌, ◌<◌, ◌≤◌, List, [], ◌∷◌, ◌++◌, length, get_or, replicate}
use Rattle.std.proofs.Common.{slice_set, IsTrue, arith}
use Rattle.std.proofs.lemmas.Bool.{false≢true}
use Rattle.std.proofs.lemmas.List.{get_or-set_same, get_or-set_other, length-set, length-replicate, replicate-append-replicate}
use Rattle.std.proofs.lemmas.List.Elements.{All-set, All-replicate}
use Rattle.pbd_world.specs.declared.command.Command.{Command}
use Rattle.pbd_world.specs.declared.command.Reply.{Reply}
use Rattle.pbd_world.specs.declared.command.Reply.TheVariants.{Done, Frame, Ledger, Refused}
use Rattle.pbd_world.specs.World.{World, IsSound, AreOfOneScene, unchanging}
use Rattle.pbd_world.specs.Meaning.{after, reply}
use Rattle.pbd_world.specs.Session.{is_refused}
use Rattle.pbd_store.proofs.Listing.{any_default}
use Rattle.pbd_cloth.specs.Slots.{Slotted, slot_at, played, saved, restored, last_played, begun, IsSlotOf, AreSlots}

-- ---- opening

pub one_more : (w : World) (n : ℕ) (ws : List World) (v : World) → ws ≡ replicate n w → v ≡ w → ws ++ v ∷ [] ≡ replicate (n + 1) w
one_more w n ws v so_far is = ap (λ (xs : List World). xs ++ v ∷ []) so_far ∙ ap (λ (u : World). replicate n w ++ u ∷ []) is
    ∙ replicate-append-replicate n 1 w

-- an opened world, and slots that have it
pub record AreBegun (w v : World) (n : ℕ) (ws : List World) : Type 0 where
  pub fit : AreSlots v ws
  pub seen : record { world = v; slots = ws } ≡ begun w n

begun_slots : (w : World) (n : ℕ) → IsSound w → n ≤ 16 → AreSlots w (replicate n w)
begun_slots w n sound few = record {
  few = omega (arith, few, length-replicate n w);
  sound = sound;
  slots = All-replicate (IsSlotOf w) n w (record { sound = sound; one_scene = refl });
}

pub are_begun : (w v : World) (n : ℕ) (ws : List World) → IsSound v → n ≤ 16 → v ≡ w → ws ≡ replicate n w → AreBegun w v n ws
are_begun w v n ws sound few is are = record {
  fit = subst (λ (us : List World). AreSlots v us) (ap (λ (u : World). replicate n u) is ∙ sym are) (begun_slots v n sound few);
  seen = λ i. record { world = is i; slots = are i };
}

-- ---- a world that goes on

slot_moves : (w v u : World) → AreOfOneScene w v → IsSlotOf w u → IsSlotOf v u
slot_moves w v u same slot = record { sound = slot.sound; one_scene = sym same ∙ slot.one_scene }

pub slots_stay : (w v : World) (ws : List World) → AreSlots w ws → IsSound v → AreOfOneScene w v → AreSlots v ws
slots_stay w v ws are sound same = record {
  few = are.few;
  sound = sound;
  slots = λ k d lt. slot_moves w v (get_or ws k d) same (are.slots k d lt);
}

pub slot_scene : (w : World) (ws : List World) (k : ℕ) (d : World) → AreSlots w ws → k < length ws → AreOfOneScene w (get_or ws k d)
slot_scene w ws k d are lt = (are.slots k d lt).one_scene

pub slot_saved : (w : World) (ws : List World) (k : ℕ) → AreSlots w ws → AreSlots w (slice_set ws k w)
slot_saved w ws k are = record {
  few = omega (arith, are.few, length-set ws k w);
  sound = are.sound;
  slots = All-set (IsSlotOf w) ws k w (record { sound = are.sound; one_scene = refl }) are.slots;
}

-- ---- a world that is kept, and one that is gone back to

pub slots_saved : (w : World) (ws : List World) (k : ℕ) (new : List World) → AreSlots w ws → new ≡ slice_set ws k w → AreSlots w new
slots_saved w ws k new are is = subst (λ (us : List World). AreSlots w us) (sym is) (slot_saved w ws k are)

pub record IsRestored (c : Slotted) (k : ℕ) (w : World) : Type 0 where
  pub fit : AreSlots w c.slots
  pub seen : record c { world = w } ≡ restored c k

pub is_restored : (c : Slotted) (k : ℕ) (w v : World) → AreSlots c.world c.slots → k < length c.slots → v ≡ get_or c.slots k v → w ≡ v
    → IsSound w → IsRestored c k w
is_restored c k w v are within at is sound =
    let there : w ≡ slot_at c k = is ∙ at ∙ any_default c.slots k v c.world within in
    record {
      fit = slots_stay c.world w c.slots are sound (slot_scene c.world c.slots k c.world are within
          ∙ ap (λ (u : World). unchanging u) (sym there));
      seen = λ i. record { world = there i; slots = c.slots };
    }

pub slot_is : (c : Slotted) (k : ℕ) (v : World) → AreSlots c.world c.slots → k < length c.slots → v ≡ get_or c.slots k v
    → AreOfOneScene c.world v
slot_is c k v are within at = subst (λ (u : World). AreOfOneScene c.world u) (sym at) (slot_scene c.world c.slots k v are within)

-- ---- refused commands

-- a refused command keeps the world
pub refused_keeps : (kept : (w : World) (command : Command) (refusal : _) → reply w command ≡ Refused refusal → after w command ≡ w)
    → (w : World) (command : Command) (r : Reply) → r ≡ reply w command → IsTrue (is_refused r) → after w command ≡ w
refused_keeps kept w command Done is refused = absurd (false≢true refused)
refused_keeps kept w command Frame is refused = absurd (false≢true refused)
refused_keeps kept w command Ledger is refused = absurd (false≢true refused)
refused_keeps kept w command (Refused refusal) is refused = kept w command refusal (sym is)

-- ---- laws

pub save_others : (c : Slotted) (k other : ℕ) → other ≢ k → slot_at (saved c k) other ≡ slot_at c other
save_others c k other apart = get_or-set_other c.slots k other c.world c.world apart

pub played_slots : (c : Slotted) (commands : List Command) → (last_played c commands).slots ≡ c.slots
played_slots c [] = refl
played_slots c (command ∷ commands) = played_slots (played c command) commands

pub taken_back : (c : Slotted) (k : ℕ) (between : List Command) → k < length c.slots
    → restored (last_played (saved c k) between) k ≡ saved c k
taken_back c k between within =
    let played = last_played (saved c k) between in
    let slots = played_slots (saved c k) between in
    let world : slot_at played k ≡ c.world = ap (λ (ws : List World). get_or ws k played.world) slots
    ∙ get_or-set_same c.slots k c.world played.world within in
    λ i. record { world = world i; slots = slots i }
