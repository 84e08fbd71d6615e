-- An entry compared with itself, and a session with its own log.
use Rattle.std.proofs.Common.{◌≡◌, ◌∙◌, sym, ap, refl, ℕ, ◌+◌, ℤ, pos, List, [], ◌∷◌, Option, Some, None, true, false, ◌<◌, ◌≤◌, length}
use Rattle.std.proofs.Common.{drop, get_or, ◌++◌, inl, inr}
use Rattle.std.specs.Ordering.{int_eq}
use Rattle.std.proofs.lemmas.List.{drop_all, drop_more}
use Rattle.std.proofs.lemmas.Bool.{cases_Bool}
use Rattle.std.proofs.lemmas.Option.{none-some}
use Rattle.std.proofs.lemmas.Bool.Decides.{Decides-int_eq}
use Rattle.pbd_world.specs.declared.command.Command.{Command}
use Rattle.pbd_world.specs.declared.command.FrameSums.{FrameSums}
use Rattle.pbd_world.specs.World.{World}
use Rattle.pbd_world.specs.Meaning.{after}
use Rattle.pbd_world.specs.Replay.{entry}
use Rattle.pbd_world.specs.Session.{last_world, refused_count, session_text}
use Rattle.pbd_log.specs.declared.entry.Entry.{Entry}
use Rattle.pbd_log.specs.Entries.{entry_of}
use Rattle.pbd_session.specs.declared.ending.Compared.{Compared}
use Rattle.pbd_session.specs.declared.ending.ReplayEnd.TheVariants as ends
use Rattle.pbd_session.specs.Recording.{entries_of}
use Rattle.pbd_session.specs.Replaying.{axis, compared_answers, compared_sums, compared_where_both, difference, differs, first_difference}
use Rattle.pbd_session.specs.Replaying.{replayed_from}

int_same : (z : ℤ) → int_eq z z ≡ true
int_same z = (Decides-int_eq z z).1 refl

same_sums : (s : Option FrameSums) → first_difference (compared_where_both s s) ≡ None
same_sums None = refl
same_sums (Some s) =
    rw (
      int_same (pos s.steps),
      int_same (pos s.live),
      int_same (pos s.contacts),
      int_same (axis s.at 0),
      int_same (axis s.at 1),
      int_same (axis s.at 2),
      int_same (axis s.before 0),
      int_same (axis s.before 1),
      int_same (axis s.before 2),
    ) refl

pub none_differs : (e : Entry) → difference e e ≡ None
unfolding difference
none_differs e =
    rw (int_same (pos e.answer.number), int_same (pos e.answer.step), int_same (pos e.answer.phase), int_same (pos e.answer.element))
    (same_sums e.sums)

pub alike : (n : ℕ) (w : World) (cs : List Command) → replayed_from n w (entries_of w cs)
    ≡ record { text = session_text w cs; ended = ends.Done (refused_count w cs); world = last_world w cs }
unfolding replayed_from session_text refused_count
alike n w [] = refl
alike n w (c ∷ cs) = rw (none_differs (entry_of (entry w c)), alike (n + 1) (after w c) cs) refl

-- ---- from the front to the first field that differs

pub found_here : (cs : List Compared) (i : ℕ) (d : Compared) → i < length cs → first_difference (drop i cs) ≡ first_difference cs
    → differs (get_or cs i d) ≡ true → Some (get_or cs i d) ≡ first_difference cs
found_here cs i d lt before test = sym (sym before ∙ (ap first_difference (drop_more cs i d lt) ∙ rw test refl))

pub passed_by : (cs : List Compared) (i : ℕ) (d : Compared) → i < length cs → first_difference (drop i cs) ≡ first_difference cs
    → differs (get_or cs i d) ≡ false → first_difference (drop (i + 1) cs) ≡ first_difference cs
passed_by cs i d lt before test =
    let step : first_difference (get_or cs i d ∷ drop (i + 1) cs) ≡ first_difference (drop (i + 1) cs) = rw test refl in
    sym step ∙ (sym (ap first_difference (drop_more cs i d lt)) ∙ before)

pub none_left : (cs : List Compared) (i : ℕ) → length cs ≤ i → first_difference (drop i cs) ≡ first_difference cs
    → None ≡ first_difference cs
none_left cs i all before = rw (drop_all i cs all) at before

-- ---- the answers first, and then the sums

found_before : (cs ds : List Compared) (c : Compared) → first_difference cs ≡ Some c → first_difference (cs ++ ds) ≡ Some c
found_before [] ds c found = absurd (none-some c found)
found_before (b ∷ cs) ds c found = elim (cases_Bool (differs b)) [
  | inl test ↦ let here : Some b ≡ Some c = rw test at found in rw test here
  | inr test ↦ let later : first_difference cs ≡ Some c = rw test at found in rw test (found_before cs ds c later)
]

found_after : (cs ds : List Compared) → first_difference cs ≡ None → first_difference (cs ++ ds) ≡ first_difference ds
found_after [] ds none = refl
found_after (b ∷ cs) ds none = elim (cases_Bool (differs b)) [
  | inl test ↦ let here : Some b ≡ None = rw test at none in absurd (none-some b (sym here))
  | inr test ↦ let later : first_difference cs ≡ None = rw test at none in rw test (found_after cs ds later)
]

pub answers_differ : (e f : Entry) (cs : List Compared) (o : Option Compared) (c : Compared) → cs ≡ compared_answers e.answer f.answer
    → o ≡ first_difference cs → o ≡ Some c → Some c ≡ difference e f
unfolding difference
answers_differ e f cs o c is first some =
    sym (found_before (compared_answers e.answer f.answer) (compared_where_both e.sums f.sums) c
    (sym (ap first_difference is) ∙ (sym first ∙ some)))

-- where the answers agree
pub sums_decide : (e f : Entry) (cs : List Compared) (o : Option Compared) → cs ≡ compared_answers e.answer f.answer
    → o ≡ first_difference cs → o ≡ None → difference e f ≡ first_difference (compared_where_both e.sums f.sums)
unfolding difference
sums_decide e f cs o is first none =
    found_after (compared_answers e.answer f.answer) (compared_where_both e.sums f.sums) (sym (ap first_difference is) ∙ (sym first ∙ none))

pub both_sums : (s t : Option FrameSums) (a b : FrameSums) → s ≡ Some a → t ≡ Some b
    → first_difference (compared_where_both s t) ≡ first_difference (compared_sums a b)
both_sums s t a b first second = rw (first, second) refl

pub no_found : (s t : Option FrameSums) (a : FrameSums) → s ≡ Some a → t ≡ None → first_difference (compared_where_both s t) ≡ None
no_found s t a first second = rw (first, second) refl

pub no_recorded : (s t : Option FrameSums) → s ≡ None → first_difference (compared_where_both s t) ≡ None
no_recorded s t first = rw first refl
