-- What acts leave in the slots of a machine.
use Rattle.std.proofs.Common.{◌≡◌, ◌≢◌, refl, sym, ap, ◌∙◌, ℕ, ◌<◌, List, [], ◌∷◌, ◌++◌, length, map, All}
use Rattle.std.specs.Prelude.{Some, None}
use Rattle.std.proofs.lemmas.List.{get_or-set_same, get_or-set_other}
use Rattle.std.proofs.lemmas.List.Elements.{All-head, All-tail}
use Rattle.pbd_world.specs.declared.command.Command.{Command}
use Rattle.pbd_world.specs.Session.{last_world}
use Rattle.pbd_laws.specs.Machine.{Machine, Act, slot_at, kept_or, acted, all_acted}
use Rattle.pbd_laws.specs.Machine.Act.{Play, Save, Restore}

pub acted-append : (m : Machine) (xs ys : List Act) → all_acted m (xs ++ ys) ≡ all_acted (all_acted m xs) ys
acted-append m [] ys = refl
acted-append m (a ∷ xs) ys = acted-append (acted m a) xs ys

-- playing changes no slot, and the world as the commands say
pub played-slots : (m : Machine) (commands : List Command) → (all_acted m (map (λ command. Play command) commands)).slots ≡ m.slots
played-slots m [] = refl
played-slots m (c ∷ cs) = played-slots (acted m (Play c)) cs

pub played-world : (m : Machine) (commands : List Command)
    → (all_acted m (map (λ command. Play command) commands)).world ≡ last_world m.world commands
played-world m [] = refl
played-world m (c ∷ cs) = played-world (acted m (Play c)) cs

-- a slot stays where nothing is saved in it
act_keeps : (m : Machine) (k : ℕ) (a : Act) → a ≢ Save k → slot_at (acted m a) k ≡ slot_at m k
act_keeps m k (Play c) h = refl
act_keeps m k (Save j) h = get_or-set_other m.slots j k (Some m.world) None (λ e. h (ap (λ i. Save i) (sym e)))
act_keeps m k (Restore j) h = refl

pub acts-keep : (m : Machine) (k : ℕ) (xs : List Act) → All (λ a. a ≢ Save k) xs → slot_at (all_acted m xs) k ≡ slot_at m k
acts-keep m k [] h = refl
acts-keep m k (a ∷ xs) h =
    acts-keep (acted m a) k xs (All-tail (λ b. b ≢ Save k) a xs h) ∙ act_keeps m k a (All-head (λ b. b ≢ Save k) a xs h)

pub back-again : (m : Machine) (k : ℕ) (between : List Act) → k < length m.slots → All (λ a. a ≢ Save k) between
    → (all_acted m (Save k ∷ (between ++ (Restore k ∷ [])))).world ≡ m.world
back-again m k between l h =
    let saved = acted m (Save k) in
    let last = all_acted saved between in
    ap (λ (x : Machine). x.world) (acted-append saved between (Restore k ∷ []))
    ∙ ap (kept_or last.world) (acts-keep saved k between h ∙ get_or-set_same m.slots k (Some m.world) None l)
