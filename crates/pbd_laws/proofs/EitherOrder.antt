-- Commands that name different things, in either order.
use Rattle.std.proofs.Common.{◌≡◌, ◌≢◌, refl, sym, ap, ◌∙◌, List, [], ◌∷◌, ◌++◌, All}
use Rattle.std.specs.Prelude.{Some, Ok, Err}
use Rattle.std.proofs.lemmas.List.Elements.{All-head, All-tail}
use Rattle.pbd_world.specs.declared.command.Command.{Command}
use Rattle.pbd_world.specs.declared.command.Command.TheVariants as commands
use Rattle.pbd_world.specs.World.{World}
use Rattle.pbd_world.specs.Meaning.{Edit, edited, meaning, after, reply}
use Rattle.pbd_world.specs.Session.{last_world}
use Rattle.pbd_laws.specs.Targets.{Target, place_of, target, AreApart, AreAllApart}
use Rattle.pbd_laws.proofs.Edits.{Verdict, verdict, either, told, EditOf, edit-of, after-is, reply-is, Agree, edited-agrees, edits-commute}

-- ---- the other command's tests

-- the tests of each command read only what agrees, so that each case closes by itself
same_tests : (w v : World) (c : Command) → Agree (target c) w v → verdict v c ≡ verdict w c
same_tests w v commands.Frame a = refl
same_tests w v c a = cc

-- ---- two commands

abbrev turned : (c d : Command) → AreApart c d → AreApart d c
turned c d a = record { first = a.second; second = a.first; first_is = a.second_is; second_is = a.first_is; differ = λ e. a.differ (sym e) }

-- what the one command edits is not what the other names
not_at : (c d : Command) (a : AreApart c d) (e : EditOf c a.first) → Some (place_of e.edit) ≢ target d
not_at c d a e h = a.differ (same_some a.first a.second (ap (λ (t : Target). Some t) (sym e.at) ∙ h ∙ a.second_is))
  where
    same_some : (s t : Target) → Some s ≡ Some t → s ≡ t
    same_some s t e = cc

-- a command's verdict is the same after the other
after_other : (w : World) (c d : Command) (r : Verdict) (a : AreApart c d) (e : EditOf c a.first)
    → verdict (either r w (edited w e.edit)) d ≡ verdict w d
after_other w c d (Ok u) a e = same_tests w (edited w e.edit) d (edited-agrees w e.edit (target d) (not_at c d a e))
after_other w c d (Err f) a e = refl

same_verdict : (w : World) (c d : Command) (a : AreApart c d) → verdict (after w c) d ≡ verdict w d
same_verdict w c d a =
    let e = edit-of c a.first a.first_is in
    ap (λ (v : World). verdict v d) (after-is w c a.first e) ∙ after_other w c d (verdict w c) a e

pub answers-same : (w : World) (c d : Command) → AreApart c d → reply (after w c) d ≡ reply w d
answers-same w c d a =
    let e = edit-of d a.second a.second_is in
    reply-is (after w c) d a.second e ∙ ap told (same_verdict w c d a) ∙ sym (reply-is w d a.second e)

-- where the one command is, the other follows
follows : (w : World) (c d : Command) (a : AreApart c d) (e : EditOf c a.first) (f : EditOf d a.second)
    → after (after w c) d ≡ either (verdict w d) (either (verdict w c) w (edited w e.edit))
    (edited (either (verdict w c) w (edited w e.edit)) f.edit)
follows w c d a e f =
    after-is (after w c) d a.second f
    ∙ ap (λ (r : Verdict). either r (after w c) (edited (after w c) f.edit)) (same_verdict w c d a)
    ∙ ap (λ (v : World). either (verdict w d) v (edited v f.edit)) (after-is w c a.first e)

square : (w : World) (e f : Edit) (x y : Verdict) → place_of e ≢ place_of f
    → either y (either x w (edited w e)) (edited (either x w (edited w e)) f)
    ≡ either x (either y w (edited w f)) (edited (either y w (edited w f)) e)
square w e f (Ok u) (Ok v) h = edits-commute w e f h
square w e f (Ok u) (Err y) h = refl
square w e f (Err x) (Ok v) h = refl
square w e f (Err x) (Err y) h = refl

pub two-commute : (w : World) (c d : Command) → AreApart c d → after (after w c) d ≡ after (after w d) c
two-commute w c d a =
    let e = edit-of c a.first a.first_is in
    let f = edit-of d a.second a.second_is in
    follows w c d a e f
    ∙ square w e.edit f.edit (verdict w c) (verdict w d) (λ s. a.differ (sym e.at ∙ s ∙ f.at))
    ∙ sym (follows w d c (turned c d a) f e)

-- ---- many commands

one-past : (w : World) (c : Command) (ds : List Command) → All (AreApart c) ds → last_world (after w c) ds ≡ after (last_world w ds) c
one-past w c [] h = refl
one-past w c (d ∷ ds) h =
    ap (λ (v : World). last_world v ds) (two-commute w c d (All-head (AreApart c) d ds h))
    ∙ one-past (after w d) c ds (All-tail (AreApart c) d ds h)

pub last-append : (w : World) (cs ds : List Command) → last_world w (cs ++ ds) ≡ last_world (last_world w cs) ds
last-append w [] ds = refl
last-append w (c ∷ cs) ds = last-append (after w c) cs ds

many_past : (w : World) (cs ds : List Command) → AreAllApart cs ds → last_world (last_world w cs) ds ≡ last_world (last_world w ds) cs
many_past w [] ds h = refl
many_past w (c ∷ cs) ds h =
    many_past (after w c) cs ds (All-tail (λ x. All (AreApart x) ds) c cs h)
    ∙ ap (λ (v : World). last_world v cs) (one-past w c ds (All-head (λ x. All (AreApart x) ds) c cs h))

pub lists-commute : (w : World) (cs ds : List Command) → AreAllApart cs ds → last_world w (cs ++ ds) ≡ last_world w (ds ++ cs)
lists-commute w cs ds h = last-append w cs ds ∙ many_past w cs ds h ∙ sym (last-append w ds cs)

-- ---- reading

pub frame-reads : (w : World) → after w commands.Frame ≡ w
unfolding meaning
frame-reads w = refl

pub ledger-reads : (w : World) → after w commands.Ledger ≡ w
unfolding meaning
ledger-reads w = refl
