-- What marks keep, and what going back to one takes back.
use Rattle.std.proofs.Common.{◌≡◌, ◌≢◌, ◌∙◌, refl, sym, ap, ℕ, zero, suc, ◌<◌, ◌≤◌, List, [], ◌∷◌, length, slice_set, Option, Some, None}
use Rattle.std.proofs.Common.{Result, Ok, Err, Bool, true, false, cond, arith}
use Rattle.std.specs.Prelude.{nat_lt}
use Rattle.std.specs.List.{AllByRecursion, slice_index_or}
use Rattle.std.proofs.lemmas.Bool.Decides.{nat_tests}
use Rattle.std.proofs.lemmas.List.{length-set}
use Rattle.std.proofs.lemmas.List.Elements.{recursion_from_All}
use Rattle.pbd_world.specs.declared.command.Command.{Command}
use Rattle.pbd_world.specs.declared.command.Reply.{Reply}
use Rattle.pbd_world.specs.World.{World}
use Rattle.pbd_world.specs.Meaning.{after, reply}
use Rattle.pbd_marks.specs.declared.command.MarkCommand.{MarkCommand}
use Rattle.pbd_marks.specs.declared.command.MarkCommand.TheVariants.{Plain, Mark, Rewind}
use Rattle.pbd_marks.specs.declared.command.MarkRefusal.{MarkRefusal}
use Rattle.pbd_marks.specs.declared.command.MarkRefusal.TheVariants.{BadMark}
use Rattle.pbd_marks.specs.Marked.{mark_at, kept, rewound, Marked, with_marks, with_world, marked_meaning, marked_after, last_marked}
use Rattle.pbd_marks.specs.Marked.{marked_text, marked_refused_count, LeavesMark, LeavesMarksOf, gone_back, TakesBack}

-- ---- lists

at_set_other : {X : Type 0} (xs : List X) (k j : ℕ) (x d : X) → j ≢ k → slice_index_or (slice_set xs k x) j d ≡ slice_index_or xs j d
at_set_other [] k j x d apart = refl
at_set_other (y ∷ ys) zero zero x d apart = absurd (apart refl)
at_set_other (y ∷ ys) zero (suc j) x d apart = refl
at_set_other (y ∷ ys) (suc k) zero x d apart = refl
at_set_other (y ∷ ys) (suc k) (suc j) x d apart = at_set_other ys k j x d (λ e. apart (ap (λ n. suc n) e))

at_set : {X : Type 0} (xs : List X) (k : ℕ) (x d : X) → k < length xs → slice_index_or (slice_set xs k x) k d ≡ x
at_set [] k x d within = absurd (omega (arith, within))
at_set (y ∷ ys) zero x d within = refl
at_set (y ∷ ys) (suc k) x d within = at_set ys k x d (omega (arith, within))

-- two lists that agree at j still do so where one place of both is changed
at_set_alike : {X : Type 0} (xs ys : List X) (k j : ℕ) (x d : X) → length xs ≡ length ys → slice_index_or xs j d ≡ slice_index_or ys j d
    → slice_index_or (slice_set xs k x) j d ≡ slice_index_or (slice_set ys k x) j d
at_set_alike [] [] k j x d many same = refl
at_set_alike [] (z ∷ zs) k j x d many same = absurd (omega (arith, many))
at_set_alike (y ∷ ys) [] k j x d many same = absurd (omega (arith, many))
at_set_alike (y ∷ ys) (z ∷ zs) zero zero x d many same = refl
at_set_alike (y ∷ ys) (z ∷ zs) zero (suc j) x d many same = same
at_set_alike (y ∷ ys) (z ∷ zs) (suc k) zero x d many same = same
at_set_alike (y ∷ ys) (z ∷ zs) (suc k) (suc j) x d many same = at_set_alike ys zs k j x d (omega (arith, many)) same

-- ---- one command

set_others_in : (b : Bool) (m : Marked) (k other : ℕ) → other ≢ k
    → mark_at (with_marks m (cond b (Err BadMark) (Ok (slice_set m.marks k (Some m.world))))).0.marks other ≡ mark_at m.marks other
set_others_in true m k other apart = refl
set_others_in false m k other apart = at_set_other m.marks k other (Some m.world) None apart

pub set_others : (m : Marked) (k other : ℕ) → other ≢ k → mark_at (marked_after m (Mark k)).marks other ≡ mark_at m.marks other
unfolding marked_meaning
set_others m k other apart = set_others_in (nat_lt 7 k) m k other apart

rewind_marks_in : (m : Marked) (r : Result World MarkRefusal) → (with_world m r).0.marks ≡ m.marks
rewind_marks_in m (Ok w) = refl
rewind_marks_in m (Err r) = refl

pub rewind_marks : (m : Marked) (k : ℕ) → (marked_after m (Rewind k)).marks ≡ m.marks
unfolding marked_meaning
rewind_marks m k = rewind_marks_in m (rewound m.marks k)

many_set : (b : Bool) (m : Marked) (k : ℕ) → length (with_marks m (cond b (Err BadMark) (Ok (slice_set m.marks k (Some m.world))))).0.marks
    ≡ length m.marks
many_set true m k = refl
many_set false m k = length-set m.marks k (Some m.world)

many_after : (m : Marked) (c : MarkCommand) → length (marked_after m c).marks ≡ length m.marks
unfolding marked_meaning
many_after m (Plain c) = refl
many_after m (Mark k) = many_set (nat_lt 7 k) m k
many_after m (Rewind k) = ap (λ marks. length marks) (rewind_marks_in m (rewound m.marks k))

mark_after : (m : Marked) (c : MarkCommand) (k : ℕ) → c ≢ Mark k → mark_at (marked_after m c).marks k ≡ mark_at m.marks k
unfolding marked_meaning
mark_after m (Plain c) k other = refl
mark_after m (Mark j) k other = set_others_in (nat_lt 7 j) m j k (λ e. other (ap (λ n. Mark n) (sym e)))
mark_after m (Rewind j) k other = ap (λ marks. mark_at marks k) (rewind_marks_in m (rewound m.marks j))

-- ---- many commands

many_last : (m : Marked) (cs : List MarkCommand) → length (last_marked m cs).marks ≡ length m.marks
many_last m [] = refl
many_last m (c ∷ cs) = many_last (marked_after m c) cs ∙ many_after m c

mark_last_in : (m : Marked) (cs : List MarkCommand) (k : ℕ) → AllByRecursion (λ c. c ≢ Mark k) cs
    → mark_at (last_marked m cs).marks k ≡ mark_at m.marks k
mark_last_in m [] k all = refl
mark_last_in m (c ∷ cs) k all = mark_last_in (marked_after m c) cs k all.1 ∙ mark_after m c k all.0

mark_last : (m : Marked) (cs : List MarkCommand) (k : ℕ) → LeavesMark k cs → mark_at (last_marked m cs).marks k ≡ mark_at m.marks k
mark_last m cs k leaves = mark_last_in m cs k (recursion_from_All (λ c. c ≢ Mark k) cs leaves)

-- ---- states that are alike but for some marks

record AreAlike (Same : ℕ → Type 0) (m n : Marked) : Type 0 where
  world : m.world ≡ n.world
  many : length m.marks ≡ length n.marks
  marks : (k : ℕ) → Same k → mark_at m.marks k ≡ mark_at n.marks k

-- and stay so after a command with one answer
record GoAlike (Same : ℕ → Type 0) (m n : Marked × Result Reply MarkRefusal) : Type 0 where
  states : AreAlike Same m.0 n.0
  answers : m.1 ≡ n.1

plain_alike : (Same : ℕ → Type 0) (m n : Marked) (c : Command) → AreAlike Same m n
    → GoAlike Same (marked_meaning m (Plain c)) (marked_meaning n (Plain c))
unfolding marked_meaning
plain_alike Same m n c alike = record {
  states = record { world = ap (λ w. after w c) alike.world; many = alike.many; marks = alike.marks };
  answers = ap (λ (w : World). (let r : Result Reply MarkRefusal = Ok (reply w c) in r)) alike.world;
}

mark_alike_in : (b : Bool) (Same : ℕ → Type 0) (m n : Marked) (k : ℕ) → AreAlike Same m n
    → GoAlike Same (with_marks m (cond b (Err BadMark) (Ok (slice_set m.marks k (Some m.world)))))
    (with_marks n (cond b (Err BadMark) (Ok (slice_set n.marks k (Some n.world)))))
mark_alike_in true Same m n k alike = record { states = alike; answers = refl }
mark_alike_in false Same m n k alike = record {
  states = record {
    world = alike.world;
    many = length-set m.marks k (Some m.world) ∙ alike.many ∙ sym (length-set n.marks k (Some n.world));
    marks = λ j same. at_set_alike m.marks n.marks k j (Some m.world) None alike.many (alike.marks j same)
        ∙ ap (λ (w : World). mark_at (slice_set n.marks k (Some w)) j) alike.world;
  };
  answers = refl;
}

rewind_alike_in : (r : Result World MarkRefusal) (Same : ℕ → Type 0) (m n : Marked) → AreAlike Same m n
    → GoAlike Same (with_world m r) (with_world n r)
rewind_alike_in (Ok w) Same m n alike = record { states = record { world = refl; many = alike.many; marks = alike.marks }; answers = refl }
rewind_alike_in (Err r) Same m n alike = record { states = alike; answers = refl }

rewound_alike : (b : Bool) (x y : Option World) → x ≡ y → cond b (Err BadMark) (kept x) ≡ cond b (Err BadMark) (kept y)
rewound_alike b x y same = ap (λ o. cond b (Err BadMark) (kept o)) same

go_alike : (Same : ℕ → Type 0) (m n : Marked) (c : MarkCommand) → AreAlike Same m n → ((k : ℕ) → c ≡ Rewind k → Same k)
    → GoAlike Same (marked_meaning m c) (marked_meaning n c)
unfolding marked_meaning
go_alike Same m n (Plain c) alike goes = plain_alike Same m n c alike
go_alike Same m n (Mark k) alike goes = mark_alike_in (nat_lt 7 k) Same m n k alike
go_alike Same m n (Rewind k) alike goes =
    rw (rewound_alike (nat_lt 7 k) (mark_at m.marks k) (mark_at n.marks k) (alike.marks k (goes k refl)))
    (rewind_alike_in (rewound n.marks k) Same m n alike)

-- what later commands do on two states
record DoAlike (m n : Marked) (later : List MarkCommand) : Type 0 where
  text : marked_text m later ≡ marked_text n later
  refused : marked_refused_count m later ≡ marked_refused_count n later
  last : (last_marked m later).world ≡ (last_marked n later).world

do_alike : (Same : ℕ → Type 0) (m n : Marked) (later : List MarkCommand) → AreAlike Same m n
    → AllByRecursion (λ c. (k : ℕ) → c ≡ Rewind k → Same k) later → DoAlike m n later
unfolding marked_text marked_refused_count
do_alike Same m n [] alike goes = record { text = refl; refused = refl; last = alike.world }
do_alike Same m n (c ∷ cs) alike goes =
    let go = go_alike Same m n c alike goes.0 in
    let rest = do_alike Same (marked_after m c) (marked_after n c) cs go.states goes.1 in
    record {
      text = rw (go.answers, go.states.world, rest.text) refl;
      refused = rw (go.answers, rest.refused) refl;
      last = rest.last;
    }

-- ---- going back

set_there : (b : Bool) (m : Marked) (k : ℕ) → b ≡ false → k < length m.marks
    → mark_at (with_marks m (cond b (Err BadMark) (Ok (slice_set m.marks k (Some m.world))))).0.marks k ≡ Some m.world
set_there true m k below within = absurd cc
set_there false m k below within = at_set m.marks k (Some m.world) None within

marked_there : (m : Marked) (k : ℕ) → k ≤ 7 → length m.marks ≡ 8 → mark_at (marked_after m (Mark k)).marks k ≡ Some m.world
unfolding marked_meaning
marked_there m k low eight = set_there (nat_lt 7 k) m k (grind (arith, nat_tests)) (omega (arith, low, eight))

back_in : (b : Bool) (m : Marked) (o : Option World) (w : World) → b ≡ false → o ≡ Some w
    → (with_world m (cond b (Err BadMark) (kept o))).0.world ≡ w
back_in true m o w below is = absurd cc
back_in false m o w below is = rw is refl

back : (m : Marked) (k : ℕ) (w : World) → k ≤ 7 → mark_at m.marks k ≡ Some w → (marked_after m (Rewind k)).world ≡ w
unfolding marked_meaning
back m k w low is = back_in (nat_lt 7 k) m (mark_at m.marks k) w (grind (arith, nat_tests)) is

set_world_in : (b : Bool) (m : Marked) (k : ℕ) → (with_marks m (cond b (Err BadMark) (Ok (slice_set m.marks k (Some m.world))))).0.world
    ≡ m.world
set_world_in true m k = refl
set_world_in false m k = refl

set_world : (m : Marked) (k : ℕ) → (marked_after m (Mark k)).world ≡ m.world
unfolding marked_meaning
set_world m k = set_world_in (nat_lt 7 k) m k

gone_alike : (m : Marked) (k : ℕ) (between : List MarkCommand) → k ≤ 7 → length m.marks ≡ 8 → LeavesMark k between
    → AreAlike (λ j. LeavesMark j between) (gone_back m k between) (marked_after m (Mark k))
gone_alike m k between low eight leaves =
    let there = marked_after m (Mark k) in
    let mid = last_marked there between in
    record {
      world = back mid k m.world low (mark_last there between k leaves ∙ marked_there m k low eight) ∙ sym (set_world m k);
      many = many_after mid (Rewind k) ∙ many_last there between;
      marks = λ j same. ap (λ marks. mark_at marks j) (rewind_marks mid k) ∙ mark_last there between j same;
    }

pub takes_back : (m : Marked) (k : ℕ) (between later : List MarkCommand) → k ≤ 7 → length m.marks ≡ 8 → LeavesMark k between
    → LeavesMarksOf later between → TakesBack m k between later
takes_back m k between later low eight leaves apart =
    let alike = gone_alike m k between low eight leaves in
    let does = do_alike (λ j. LeavesMark j between) (gone_back m k between) (marked_after m (Mark k)) later alike
    (recursion_from_All (λ c. (j : ℕ) → c ≡ Rewind j → LeavesMark j between) later apart) in
    record { world = alike.world ∙ set_world m k; text = does.text; refused = does.refused; last = does.last }
