-- What a session does among others is what it does alone.
use Rattle.std.proofs.Common.{◌≡◌, ◌∙◌, sym, ap, subst, refl, ℕ, suc, zero-add, ◌%◌, ◌^◌, codes, decimal, drop, append_assoc, ◌+◌, ◌<◌, ◌≤◌}
use Rattle.std.proofs.Common.{Bool, true, false, cond, List, [], ◌∷◌, ◌++◌, length, Some, None, slice_set, arith}
use Rattle.std.proofs.lemmas.Bool.{eqb-true, eqb-false}
use Rattle.std.proofs.lemmas.Bool.Decides.{nat_tests}
use Rattle.std.proofs.lemmas.Fmt.{decimal_by_steps}
use Rattle.std.proofs.lemmas.List.{get_or-set_same, get_or-set_other, length-set}
use Rattle.std.specs.List.{cons_option, position_or_len}
use Rattle.std.specs.Prelude.{◌==◌, not}
use Rattle.pbd_world.specs.declared.command.Command.{Command}
use Rattle.pbd_world.specs.declared.command.Reply.{Reply}
use Rattle.pbd_world.specs.Meaning.{after, reply}
use Rattle.pbd_world.specs.Session.{is_refused, last_world, refused_count, session_text}
use Rattle.pbd_world.specs.World.{World}
use Rattle.pbd_host.specs.declared.served.Served.TheVariants as answers
use Rattle.pbd_host.specs.declared.request.Request.{Request}
use Rattle.pbd_host.specs.declared.request.Request.TheVariants.{Blank, BadTag, To}
use Rattle.pbd_host.specs.Hosted.{command_text, command_to, commands_to, is_refusal, last_worlds, own_refused, own_text, request_text}
use Rattle.pbd_host.specs.Hosted.{served_as, session_line, without_first_line, world_at, worlds_after}

-- ---- the worlds

-- the worlds after a command of session s
abbrev then : List World → ℕ → Command → List World
then ws s c = slice_set ws s (after (world_at ws s) c)

length-then : (ws : List World) (s : ℕ) (c : Command) → length (then ws s c) ≡ length ws
length-then ws s c = length-set ws s (after (world_at ws s) c)

pub length-after : (ws : List World) (r : Request) → length (worlds_after ws r) ≡ length ws
length-after ws Blank = refl
length-after ws BadTag = refl
length-after ws (To s c) = length-then ws s c

its_own : (ws : List World) (t : ℕ) (c : Command) → t < length ws → world_at (then ws t c) t ≡ after (world_at ws t) c
its_own ws t c within = get_or-set_same ws t _ _ within

anothers : (ws : List World) (t s : ℕ) (c : Command) → (s == t) ≡ false → world_at (then ws s c) t ≡ world_at ws t
anothers ws t s c other = get_or-set_other ws s t _ _ (λ e. eqb-false s t other (sym e))

other_if : (b : Bool) (ws : List World) (t s : ℕ) (c : Command) → (s == t) ≡ b → cond b (Some c) None ≡ None
    → world_at (then ws s c) t ≡ world_at ws t
other_if true ws t s c test is = cc
other_if false ws t s c test is = anothers ws t s c test

pub unchanged : (ws : List World) (t : ℕ) (r : Request) → command_to t r ≡ None → world_at (worlds_after ws r) t ≡ world_at ws t
unchanged ws t Blank is = refl
unchanged ws t BadTag is = refl
unchanged ws t (To s c) is = other_if (s == t) ws t s c refl is

-- ---- the text

-- no byte is a newline
abbrev NoNewline : List ℕ → Type 0
NoNewline [] = Unit {0}
NoNewline (b ∷ bs) = ((b == 10) ≡ false) × NoNewline bs

no_newline_push : (bs : List ℕ) (b : ℕ) → NoNewline bs → (b == 10) ≡ false → NoNewline (bs ++ b ∷ [])
no_newline_push [] b all none = (none, tt)
no_newline_push (x ∷ bs) b all none = (all.0, no_newline_push bs b all.1 none)

digit_no : (n : ℕ) → n < 10 → ((48 + n) == 10) ≡ false
digit_no n lt = grind (arith, nat_tests)

decimal_no : (t : ℕ) → t < 2 ^ 64 → NoNewline (decimal t)
decimal_no t small = decimal_by_steps (λ n ds. NoNewline ds) (λ n lt. (digit_no n lt, tt))
    (λ n ds le front. no_newline_push ds (48 + n % 10) front (digit_no (n % 10) (omega arith))) t small

pub one_dropped : (b : ℕ) (bs : List ℕ) → (b == 10) ≡ false → without_first_line (b ∷ bs) ≡ without_first_line bs
one_dropped b bs none =
    let n : ℕ = position_or_len (λ x. x == 10) bs in
    let e : 1 + n + 1 ≡ suc (n + 1) = omega arith in
    ap (λ z. drop (cond (not z) (1 + n) 0 + 1) (b ∷ bs)) none ∙ ap (λ k. drop k (b ∷ bs)) e

line_dropped : (bs later : List ℕ) → NoNewline bs → without_first_line (bs ++ 10 ∷ later) ≡ later
line_dropped [] later none = refl
line_dropped (b ∷ bs) later none = one_dropped b (bs ++ 10 ∷ later) none.0 ∙ line_dropped bs later none.1

first_dropped : (t : ℕ) (x : List ℕ) → t < 16 → without_first_line (session_line t ++ x) ≡ x
unfolding session_line
first_dropped t x few =
    let none : NoNewline (codes "session " ++ decimal t) =
    (refl, (refl, (refl, (refl, (refl, (refl, (refl, (refl, decimal_no t (omega (arith, few)))))))))) in
    ap (λ y. without_first_line (codes "session " ++ y)) (append_assoc (decimal t) (10 ∷ []) x)
    ∙ line_dropped (codes "session " ++ decimal t) x none

-- what is so of all worlds of as many sessions
abbrev Apart : ℕ → List Request → ℕ → Type 0
Apart t rs n = (vs : List World) → length vs ≡ n → own_text t vs rs ≡ session_text (world_at vs t) (commands_to t rs)

own_same : (ws : List World) (t : ℕ) (c : Command) (rs : List Request) → t < 16 → t < length ws → Apart t rs (length ws)
    → without_first_line (session_line t ++ command_text (world_at ws t) c) ++ own_text t (then ws t c) rs
    ≡ session_text (world_at ws t) (c ∷ commands_to t rs)
unfolding session_text
own_same ws t c rs few within later =
    ap (λ x. x ++ own_text t (then ws t c) rs) (first_dropped t (command_text (world_at ws t) c) few)
    ∙ ap (λ x. command_text (world_at ws t) c ++ x) (later (then ws t c) (length-then ws t c)
    ∙ ap (λ (w : World). session_text w (commands_to t rs)) (its_own ws t c within))

own_if : (b : Bool) (ws : List World) (t s : ℕ) (c : Command) (rs : List Request) → (s == t) ≡ b → t < 16 → t < length ws
    → Apart t rs (length ws) → cond b (without_first_line (session_line s ++ command_text (world_at ws s) c)) []
    ++ own_text t (then ws s c) rs ≡ session_text (world_at ws t) (cons_option (cond b (Some c) None) (commands_to t rs))
own_if true ws t s c rs test few within later =
    subst (λ (x : ℕ). without_first_line (session_line x ++ command_text (world_at ws x) c) ++ own_text t (then ws x c) rs
    ≡ session_text (world_at ws t) (c ∷ commands_to t rs)) (sym (eqb-true s t test)) (own_same ws t c rs few within later)
own_if false ws t s c rs test few within later = later (then ws s c) (length-then ws s c)
    ∙ ap (λ (w : World). session_text w (commands_to t rs)) (anothers ws t s c test)

apart : (t : ℕ) (rs : List Request) (n : ℕ) → t < 16 → t < n → Apart t rs n
unfolding own_text session_text request_text
apart t [] n few within ws many = refl
apart t (Blank ∷ rs) n few within ws many = apart t rs n few within ws many
apart t (BadTag ∷ rs) n few within ws many = apart t rs n few within ws many
apart t (To s c ∷ rs) n few within ws many = own_if (s == t) ws t s c rs refl few (omega (arith, within, many))
    (subst (λ (m : ℕ). Apart t rs m) (sym many) (apart t rs n few within))

pub text_apart : (ws : List World) (t : ℕ) (rs : List Request) → length ws ≤ 16 → t < length ws
    → own_text t ws rs ≡ session_text (world_at ws t) (commands_to t rs)
text_apart ws t rs few within = apart t rs (length ws) (omega (arith, few, within)) within ws refl

-- ---- how many are refused

refusal_if : (b : Bool) (t : ℕ) → is_refusal (cond b (answers.Refused t) (answers.Accepted t)) ≡ b
refusal_if true t = refl
refusal_if false t = refl

refusal_is : (t : ℕ) (r : Reply) → is_refusal (served_as t r) ≡ is_refused r
refusal_is t r = refusal_if (is_refused r) t

abbrev Refused : ℕ → List Request → ℕ → Type 0
Refused t rs n = (vs : List World) → length vs ≡ n → own_refused t vs rs ≡ refused_count (world_at vs t) (commands_to t rs)

refused_same : (ws : List World) (t : ℕ) (c : Command) (rs : List Request) → t < length ws → Refused t rs (length ws)
    → cond (is_refusal (served_as t (reply (world_at ws t) c))) 1 0 + own_refused t (then ws t c) rs
    ≡ refused_count (world_at ws t) (c ∷ commands_to t rs)
unfolding refused_count
refused_same ws t c rs within later =
    ap (λ b. cond b 1 0 + own_refused t (then ws t c) rs) (refusal_is t (reply (world_at ws t) c))
    ∙ ap (λ n. cond (is_refused (reply (world_at ws t) c)) 1 0 + n)
    (later (then ws t c) (length-then ws t c) ∙ ap (λ (w : World). refused_count w (commands_to t rs)) (its_own ws t c within))

refused_if : (b : Bool) (ws : List World) (t s : ℕ) (c : Command) (rs : List Request) → (s == t) ≡ b → t < length ws
    → Refused t rs (length ws) → cond b (cond (is_refusal (served_as s (reply (world_at ws s) c))) 1 0) 0 + own_refused t (then ws s c) rs
    ≡ refused_count (world_at ws t) (cons_option (cond b (Some c) None) (commands_to t rs))
refused_if true ws t s c rs test within later =
    subst (λ (x : ℕ). cond (is_refusal (served_as x (reply (world_at ws x) c))) 1 0 + own_refused t (then ws x c) rs
    ≡ refused_count (world_at ws t) (c ∷ commands_to t rs)) (sym (eqb-true s t test)) (refused_same ws t c rs within later)
refused_if false ws t s c rs test within later = zero-add _ ∙ later (then ws s c) (length-then ws s c)
    ∙ ap (λ (w : World). refused_count w (commands_to t rs)) (anothers ws t s c test)

counted_apart : (t : ℕ) (rs : List Request) (n : ℕ) → t < n → Refused t rs n
unfolding own_refused refused_count
counted_apart t [] n within ws many = refl
counted_apart t (Blank ∷ rs) n within ws many = zero-add _ ∙ counted_apart t rs n within ws many
counted_apart t (BadTag ∷ rs) n within ws many = zero-add _ ∙ counted_apart t rs n within ws many
counted_apart t (To s c ∷ rs) n within ws many = refused_if (s == t) ws t s c rs refl (omega (arith, within, many))
    (subst (λ (m : ℕ). Refused t rs m) (sym many) (counted_apart t rs n within))

pub refused_apart : (ws : List World) (t : ℕ) (rs : List Request) → t < length ws
    → own_refused t ws rs ≡ refused_count (world_at ws t) (commands_to t rs)
refused_apart ws t rs within = counted_apart t rs (length ws) within ws refl

-- ---- the last world

abbrev Lasts : ℕ → List Request → ℕ → Type 0
Lasts t rs n = (vs : List World) → length vs ≡ n → world_at (last_worlds vs rs) t ≡ last_world (world_at vs t) (commands_to t rs)

last_if : (b : Bool) (ws : List World) (t s : ℕ) (c : Command) (rs : List Request) → (s == t) ≡ b → t < length ws → Lasts t rs (length ws)
    → world_at (last_worlds (then ws s c) rs) t ≡ last_world (world_at ws t) (cons_option (cond b (Some c) None) (commands_to t rs))
last_if true ws t s c rs test within later =
    subst (λ (x : ℕ). world_at (last_worlds (then ws x c) rs) t ≡ last_world (after (world_at ws t) c) (commands_to t rs))
    (sym (eqb-true s t test))
    (later (then ws t c) (length-then ws t c) ∙ ap (λ (w : World). last_world w (commands_to t rs)) (its_own ws t c within))
last_if false ws t s c rs test within later = later (then ws s c) (length-then ws s c)
    ∙ ap (λ (w : World). last_world w (commands_to t rs)) (anothers ws t s c test)

ends_apart : (t : ℕ) (rs : List Request) (n : ℕ) → t < n → Lasts t rs n
ends_apart t [] n within ws many = refl
ends_apart t (Blank ∷ rs) n within ws many = ends_apart t rs n within ws many
ends_apart t (BadTag ∷ rs) n within ws many = ends_apart t rs n within ws many
ends_apart t (To s c ∷ rs) n within ws many = last_if (s == t) ws t s c rs refl (omega (arith, within, many))
    (subst (λ (m : ℕ). Lasts t rs m) (sym many) (ends_apart t rs n within))

pub world_apart : (ws : List World) (t : ℕ) (rs : List Request) → t < length ws
    → world_at (last_worlds ws rs) t ≡ last_world (world_at ws t) (commands_to t rs)
world_apart ws t rs within = ends_apart t rs (length ws) within ws refl
