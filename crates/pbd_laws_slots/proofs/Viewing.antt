-- Cloths and scripts with marks do what the machine of slots does.
use Rattle.std.proofs.Common.{◌≡◌, refl, sym, ap, ◌∙◌, ℕ, zero, suc, ◌≤◌, Bool, true, false, List, [], ◌∷◌, length, length-set, map, arith}
use Rattle.std.specs.Prelude.{Option, Some, None, Ok, Err, if◌then◌else◌, nat_lt, slice_index_or, slice_set as set, replicate}
use Rattle.std.proofs.lemmas.Bool.{ltb-true}
use Rattle.pbd_world.specs.declared.command.Command.{Command}
use Rattle.pbd_world.specs.World.{World}
use Rattle.pbd_world.specs.Session.{last_world}
use Rattle.pbd_cloth.specs.Slots.{Slotted, begun, played, saved, restored}
use Rattle.pbd_marks.specs.declared.command.MarkCommand.TheVariants.{Plain, Mark, Rewind}
use Rattle.pbd_marks.specs.declared.command.MarkRefusal.TheVariants.{BadMark}
use Rattle.pbd_marks.specs.Marked.{Marked, mark_at, kept, with_marks, with_world, marked_meaning, marked_after, last_marked, unmarked}
use Rattle.pbd_laws.specs.Machine.{Machine, Act, kept_or, acted, all_acted}
use Rattle.pbd_laws.specs.Machine.Act.{Play, Save, Restore}
use Rattle.pbd_laws.specs.Ring.{Event, commands_of, all_taken, all_acts, AreInTime}
use Rattle.pbd_laws.proofs.GoingBack.{game-world}
use Rattle.pbd_laws_slots.specs.Views.{of_cloth, of_marks, done, all_done, mark_command}

-- ---- a cloth

some_set : (ws : List World) (k : ℕ) (w : World) → map {A = World} (λ v. Some v) (set ws k w)
    ≡ set (map {A = World} (λ v. Some v) ws) k (Some w)
some_set [] zero w = refl
some_set [] (suc k) w = refl
some_set (v ∷ ws) zero w = refl
some_set (v ∷ ws) (suc k) w = ap (λ (xs : List (Option World)). Some v ∷ xs) (some_set ws k w)

some_at : (ws : List World) (k : ℕ) (w : World) → slice_index_or ws k w
    ≡ kept_or w (slice_index_or (map {A = World} (λ v. Some v) ws) k None)
some_at [] zero w = refl
some_at [] (suc k) w = refl
some_at (v ∷ ws) zero w = refl
some_at (v ∷ ws) (suc k) w = some_at ws k w

pub cloth-plays : (c : Slotted) (command : Command) → of_cloth (played c command) ≡ acted (of_cloth c) (Play command)
cloth-plays c command = refl

pub cloth-saves : (c : Slotted) (k : ℕ) → of_cloth (saved c k) ≡ acted (of_cloth c) (Save k)
cloth-saves c k = λ i. record { world = c.world; slots = some_set c.slots k c.world i }

pub cloth-restores : (c : Slotted) (k : ℕ) → of_cloth (restored c k) ≡ acted (of_cloth c) (Restore k)
cloth-restores c k = λ i. record { world = some_at c.slots k c.world i; slots = map {A = World} (λ v. Some v) c.slots }

cloth_acts : (c : Slotted) (act : Act) → of_cloth (done c act) ≡ acted (of_cloth c) act
cloth_acts c (Play command) = cloth-plays c command
cloth_acts c (Save k) = cloth-saves c k
cloth_acts c (Restore k) = cloth-restores c k

all_cloth : (c : Slotted) (acts : List Act) → of_cloth (all_done c acts) ≡ all_acted (of_cloth c) acts
all_cloth c [] = refl
all_cloth c (act ∷ acts) = all_cloth (done c act) acts ∙ ap (λ (m : Machine). all_acted m acts) (cloth_acts c act)

some_many : (n : ℕ) (w : World) → length (map {A = World} (λ v. Some v) (replicate n w)) ≡ n
some_many zero w = refl
some_many (suc n) w = ap suc (some_many n w)

pub cloth-rollback : (w : World) (slots n : ℕ) (events : List Event) → 1 ≤ n → n ≤ slots → AreInTime n [] events
    → (all_done (begun w slots) (all_acts n [] events)).world ≡ last_world w (commands_of (all_taken [] events))
cloth-rollback w slots n events some room h =
    ap (λ (m : Machine). m.world) (all_cloth (begun w slots) (all_acts n [] events))
    ∙ game-world (of_cloth (begun w slots)) n events some (omega (arith, room, some_many slots w)) h

-- ---- marks

pub marks-play : (m : Marked) (command : Command) → of_marks (marked_after m (Plain command)) ≡ acted (of_marks m) (Play command)
unfolding marked_meaning
marks-play m command = refl

set_beyond : {A : Type 0} (xs : List A) (k : ℕ) (y : A) → length xs ≤ k → set xs k y ≡ xs
set_beyond [] zero y h = refl
set_beyond [] (suc k) y h = refl
set_beyond (x ∷ xs) zero y h = absurd (omega (arith, h))
set_beyond (x ∷ xs) (suc k) y h = ap (λ zs. x ∷ zs) (set_beyond xs k y (omega (arith, h)))

at_beyond : {A : Type 0} (xs : List A) (k : ℕ) (d : A) → length xs ≤ k → slice_index_or xs k d ≡ d
at_beyond [] zero d h = refl
at_beyond [] (suc k) d h = refl
at_beyond (x ∷ xs) zero d h = absurd (omega (arith, h))
at_beyond (x ∷ xs) (suc k) d h = at_beyond xs k d (omega (arith, h))

pub marks-save : (m : Marked) (k : ℕ) → length m.marks ≡ 8 → of_marks (marked_after m (Mark k)) ≡ acted (of_marks m) (Save k)
unfolding marked_meaning
marks-save m k eight = saved_by_test (nat_lt 7 k) refl
  where
    saved_by_test : (b : Bool) → nat_lt 7 k ≡ b → of_marks (with_marks m (if b then Err BadMark else Ok (set m.marks k (Some m.world)))).0
        ≡ acted (of_marks m) (Save k)
    saved_by_test true e = λ i. record { world = m.world; slots = sym (set_beyond m.marks k (Some m.world) (omega (arith, eight, ltb-true 7 k e))) i }
    saved_by_test false e = refl

rewound_by : (m : Marked) (o : Option World)
    → of_marks (with_world m (kept o)).0 ≡ (let x : Machine = record { world = kept_or m.world o; slots = m.marks } in x)
rewound_by m None = refl
rewound_by m (Some w) = refl

pub marks-restore : (m : Marked) (k : ℕ) → length m.marks ≡ 8 → of_marks (marked_after m (Rewind k)) ≡ acted (of_marks m) (Restore k)
unfolding marked_meaning
marks-restore m k eight = restored_by_test (nat_lt 7 k) refl
  where
    restored_by_test : (b : Bool) → nat_lt 7 k ≡ b → of_marks (with_world m (if b then Err BadMark else kept (mark_at m.marks k))).0
        ≡ acted (of_marks m) (Restore k)
    restored_by_test true e = λ i. record {
      world = kept_or m.world (sym (at_beyond m.marks k None (omega (arith, eight, ltb-true 7 k e))) i);
      slots = m.marks;
    }
    restored_by_test false e = rewound_by m (mark_at m.marks k)

marks_act : (m : Marked) (act : Act) → length m.marks ≡ 8 → of_marks (marked_after m (mark_command act)) ≡ acted (of_marks m) act
marks_act m (Play command) eight = marks-play m command
marks_act m (Save k) eight = marks-save m k eight
marks_act m (Restore k) eight = marks-restore m k eight

still_eight : (m : Machine) (act : Act) → length m.slots ≡ 8 → length (acted m act).slots ≡ 8
still_eight m (Play command) eight = eight
still_eight m (Save k) eight = length-set m.slots k (Some m.world) ∙ eight
still_eight m (Restore k) eight = eight

all_marks : (m : Marked) (acts : List Act) → length m.marks ≡ 8
    → of_marks (last_marked m (map mark_command acts)) ≡ all_acted (of_marks m) acts
all_marks m [] eight = refl
all_marks m (act ∷ acts) eight =
    let one = marks_act m act eight in
    let many : length (marked_after m (mark_command act)).marks ≡ 8 = ap (λ (x : Machine). length x.slots) one
    ∙ still_eight (of_marks m) act eight in
    all_marks (marked_after m (mark_command act)) acts many ∙ ap (λ (x : Machine). all_acted x acts) one

pub marks-rollback : (w : World) (n : ℕ) (events : List Event) → 1 ≤ n → n ≤ 8 → AreInTime n [] events
    → (last_marked (unmarked w) (map mark_command (all_acts n [] events))).world ≡ last_world w (commands_of (all_taken [] events))
marks-rollback w n events some room h =
    ap (λ (x : Machine). x.world) (all_marks (unmarked w) (all_acts n [] events) refl)
    ∙ game-world (of_marks (unmarked w)) n events some room h
