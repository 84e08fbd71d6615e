-- What commands and marks do, and what a script of them is answered.
use Rattle.std.proofs.Common.{◌≡◌, ◌∙◌, ap, refl, ℕ, ◌+◌, List, [], ◌∷◌, ◌++◌, Option, Result, Ok, Err}
use Rattle.std.specs.Prelude.{if◌then◌else◌, MatchResult, OnErr}
use Rattle.pbd_world.specs.declared.command.Reply.{Reply}
use Rattle.pbd_world.specs.declared.command.Reply.TheVariants as replies
use Rattle.pbd_marks.specs.declared.command.MarkCommand.{MarkCommand}
use Rattle.pbd_marks.specs.declared.command.MarkRefusal.{MarkRefusal}
use Rattle.pbd_marks.specs.declared.command.MarkCommand.TheVariants.{Mark, Rewind}
use Rattle.pbd_marks.specs.Keeping.{Kept}
use Rattle.pbd_marks.specs.Marked.{Marked, answer, answer_text, is_refused_answer, marked_after, marked_meaning, marked_refused_count}
use Rattle.pbd_marks.specs.Marked.{marked_text, rewound, set, with_marks, with_world}
use Rattle.pbd_world.specs.World.{World}
use Rattle.pbd_run.specs.Serving.{served_refusals, served_text}

-- a command was done and answered
pub record Did (m n : Marked) (c : MarkCommand) (a : Result Reply MarkRefusal) : Type 0 where
  pub state : n ≡ marked_after m c
  pub answer : a ≡ answer m c

-- the new marks, or why the mark is not set
marks_set : (world : World) (old new : Kept) (s : Result (List (Option World)) MarkRefusal) (r : Result (Unit {0}) MarkRefusal)
    (a : Result Reply MarkRefusal) → MatchResult r (λ _. s ≡ Ok new.marks) (λ refusal. s ≡ Err refusal) → OnErr r (new ≡ old)
    → MatchResult r (λ _. a ≡ Ok replies.Done) (λ refusal. a ≡ Err refusal)
    → (record { world = world; marks = new.marks }, a) ≡ with_marks (record { world = world; marks = old.marks }) s
marks_set world old new s (Ok t) a outcome kept said = rw (outcome, said) refl
marks_set world old new s (Err refusal) a outcome kept said = rw (outcome, said, kept) refl

pub mark_does : (world : World) (old new : Kept) (w : World) (c : MarkCommand) (k : ℕ) (r : Result (Unit {0}) MarkRefusal)
    (a : Result Reply MarkRefusal) → c ≡ Mark k → w ≡ world
    → MatchResult r (λ _. set old.marks k w ≡ Ok new.marks) (λ refusal. set old.marks k w ≡ Err refusal) → OnErr r (new ≡ old)
    → MatchResult r (λ _. a ≡ Ok replies.Done) (λ refusal. a ≡ Err refusal)
    → Did (record { world = world; marks = old.marks }) (record { world = world; marks = new.marks }) c a
unfolding marked_meaning
mark_does world old new w c k r a is same outcome kept said =
    let e = marks_set world old new (set old.marks k w) r a outcome kept said in
    rw is (record {
      state = ap (λ (p : Marked × Result Reply MarkRefusal). p.0) (rw same at e);
      answer = ap (λ (p : Marked × Result Reply MarkRefusal). p.1) (rw same at e);
    })

-- the world of the mark, or why the world stays
world_set : (old new : World) (marks : List (Option World)) (s : Result World MarkRefusal) (r : Result (Unit {0}) MarkRefusal)
    (a : Result Reply MarkRefusal) → MatchResult r (λ _. s ≡ Ok new) (λ refusal. s ≡ Err refusal) → OnErr r (new ≡ old)
    → MatchResult r (λ _. a ≡ Ok replies.Done) (λ refusal. a ≡ Err refusal)
    → (record { world = new; marks = marks }, a) ≡ with_world (record { world = old; marks = marks }) s
world_set old new marks s (Ok t) a outcome kept said = rw (outcome, said) refl
world_set old new marks s (Err refusal) a outcome kept said = rw (outcome, said, kept) refl

same_world : {S : Type 0} (before now : S) (world_of : S → World) (world : World) (r : Result (Unit {0}) MarkRefusal)
    → world_of before ≡ world → OnErr r (now ≡ before) → OnErr r (world_of now ≡ world)
same_world before now world_of world (Ok t) same kept = tt
same_world before now world_of world (Err refusal) same kept = ap world_of kept ∙ same

pub rewind_does : {S : Type 0} (before now : S) (world_of : S → World) (world : World) (marks : List (Option World)) (c : MarkCommand)
    (k : ℕ) (r : Result (Unit {0}) MarkRefusal) (a : Result Reply MarkRefusal) → c ≡ Rewind k → world_of before ≡ world
    → MatchResult r (λ _. rewound marks k ≡ Ok (world_of now)) (λ refusal. rewound marks k ≡ Err refusal) → OnErr r (now ≡ before)
    → MatchResult r (λ _. a ≡ Ok replies.Done) (λ refusal. a ≡ Err refusal)
    → Did (record { world = world; marks = marks }) (record { world = world_of now; marks = marks }) c a
unfolding marked_meaning
rewind_does before now world_of world marks c k r a is same outcome kept said =
    let e = world_set world (world_of now) marks (rewound marks k) r a outcome (same_world before now world_of world r same kept) said in
    rw is (record {
      state = ap (λ (p : Marked × Result Reply MarkRefusal). p.0) e;
      answer = ap (λ (p : Marked × Result Reply MarkRefusal). p.1) e;
    })

-- ---- the commands of a script

pub served_marks : (m : Marked) (cs : List MarkCommand)
    → served_text marked_after (λ m c. answer_text (marked_after m c).world (answer m c)) m cs ≡ marked_text m cs
unfolding served_text marked_text
served_marks m [] = refl
served_marks m (c ∷ cs) = ap (λ t. answer_text (marked_after m c).world (answer m c) ++ t) (served_marks (marked_after m c) cs)

pub refused_marks : (m : Marked) (cs : List MarkCommand)
    → served_refusals marked_after (λ m c. is_refused_answer (answer m c)) m cs ≡ marked_refused_count m cs
unfolding served_refusals marked_refused_count
refused_marks m [] = refl
refused_marks m (c ∷ cs) = ap (λ n. (if is_refused_answer (answer m c) then 1 else 0) + n) (refused_marks (marked_after m c) cs)
