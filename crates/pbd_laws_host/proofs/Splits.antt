-- The text of a host, split: what a session printed, from the bytes alone.
use Rattle.std.proofs.Common.{◌≡◌, ◌≢◌, refl, sym, ap, ◌∙◌, ℕ, zero, suc, ◌+◌, ◌*◌, ◌/◌, ◌%◌, ◌<◌, ◌≤◌, ◌^◌, Bool, true, false, not, ◌&&◌}
use Rattle.std.proofs.Common.{cond, List, [], ◌∷◌, ◌++◌, length, drop, append_assoc, All, arith, codes, decimal, subst, inl, inr}
use Rattle.std.specs.Prelude.{◌==◌, nat_lt, bytes_eq, if◌then◌else◌}
use Rattle.std.specs.List.{AllByRecursion, list_all, flat_map, position_or_len}
use Rattle.std.specs.Fmt.{digits, digits_onto, digit_glyph}
use Rattle.std.specs.Str.Parse.{digits_value}
use Rattle.std.proofs.lemmas.Bool.{and_parts, and_from, false≢true, eq-eqb, eqb-true, not-true}
use Rattle.std.proofs.lemmas.Bool.Decides.{nat_tests}
use Rattle.std.proofs.lemmas.Fmt.{decimal_is_IsNumeral_wide}
use Rattle.std.proofs.lemmas.List.Elements.{recursion_from_All}
use Rattle.std.proofs.lemmas.Slice.Eq.{bytes_eq-Decides}
use Rattle.pbd_world.specs.declared.command.Command.{Command}
use Rattle.pbd_world.specs.World.{World}
use Rattle.pbd_world.specs.Text.{line, text}
use Rattle.pbd_host.specs.declared.request.Request.{Request}
use Rattle.pbd_host.specs.declared.request.Request.TheVariants.{Blank, BadTag, To}
use Rattle.pbd_host.specs.Hosted.{world_at, worlds_after, session_line, bad_tag_text, command_text, request_text, hosted_text, is_to}
use Rattle.pbd_host.specs.Hosted.{without_first_line, own_text}
use Rattle.pbd_host.specs.Tagged.{IsAmong}
use Rattle.pbd_laws_host.proofs.Lines.{is_plain, is_own, IsLine, decimal-line, both_plain, IsText, text-is, refused-text}
use Rattle.pbd_host.proofs.ApartLaws.{one_dropped}
use Rattle.std.proofs.lemmas.List.{append-nil}

-- ---- splitting

-- where a byte stands: at the beginning of a line or within one, of this session or not, or in a line `session T`, after these bytes
data Place : Type 0 where
  Begin : Bool → Place
  Inside : Bool → Place
  Head : List ℕ → Place

abbrev tag_of : ℕ → List ℕ
tag_of t = codes "session " ++ decimal t

abbrev next : ℕ → Place → ℕ → Place
next t (Begin mine) b = if b == 115 then Head (b ∷ []) else (if b == 10 then Begin mine else Inside mine)
next t (Inside mine) b = if b == 10 then Begin mine else Inside mine
next t (Head h) b = if b == 10 then Begin (bytes_eq h (tag_of t)) else Head (h ++ b ∷ [])

abbrev shows : Place → ℕ → Bool
shows (Begin mine) b = if b == 115 then false else mine
shows (Inside mine) b = mine
shows (Head h) b = false

abbrev kept : Bool → ℕ → List ℕ → List ℕ
kept true b bs = b ∷ bs
kept false b bs = bs

abbrev split : ℕ → Place → List ℕ → List ℕ
split t p [] = []
split t p (b ∷ bs) = kept (shows p b) b (split t (next t p b) bs)

-- ---- the lines of a reply

-- what stands of some bytes where a session shows them, or where another one's are left out
abbrev shown : Bool → List ℕ → List ℕ → List ℕ
shown true xs rest = xs ++ rest
shown false xs rest = rest

nothing_shown : (mine : Bool) (rest : List ℕ) → rest ≡ shown mine [] rest
nothing_shown true rest = refl
nothing_shown false rest = refl

one_shown : (mine : Bool) (x : ℕ) (xs rest : List ℕ) → kept mine x (shown mine xs rest) ≡ shown mine (x ∷ xs) rest
one_shown true x xs rest = refl
one_shown false x xs rest = refl

both_shown : (mine : Bool) (xs ys rest : List ℕ) → shown mine xs (shown mine ys rest) ≡ shown mine (xs ++ ys) rest
both_shown true xs ys rest = sym (append_assoc xs ys rest)
both_shown false xs ys rest = refl

inside : (t : ℕ) (mine : Bool) (xs rest : List ℕ) → is_plain xs ≡ true
    → split t (Inside mine) (xs ++ 10 ∷ rest) ≡ shown mine (xs ++ 10 ∷ []) (split t (Begin mine) rest)
inside t mine [] rest h =
    ap (kept mine 10) (nothing_shown mine (split t (Begin mine) rest)) ∙ one_shown mine 10 [] (split t (Begin mine) rest)
inside t mine (x ∷ xs) rest h =
    let parts = and_parts (not (x == 10)) (is_plain xs) h in
    ap (λ b. kept mine x (split t (if b then Begin mine else Inside mine) (xs ++ 10 ∷ rest))) (not-true (x == 10) parts.0)
    ∙ ap (kept mine x) (inside t mine xs rest parts.1)
    ∙ one_shown mine x (xs ++ 10 ∷ []) (split t (Begin mine) rest)

line_goes : (t : ℕ) (mine : Bool) (xs rest : List ℕ) → IsLine xs
    → split t (Begin mine) (xs ++ 10 ∷ rest) ≡ shown mine (xs ++ 10 ∷ []) (split t (Begin mine) rest)
line_goes t mine [] rest h = inside t mine [] rest h.plain
line_goes t mine (x ∷ xs) rest h =
    let later = xs ++ 10 ∷ rest in
    ap (λ b. kept (if b then false else mine) x (split t (if b then Head (x ∷ []) else (if x == 10 then Begin mine else Inside mine))
    later))
    (not-true (x == 115) h.own)
    ∙ inside t mine (x ∷ xs) rest h.plain

abbrev ended : List (List ℕ) → List ℕ
ended ls = flat_map (λ l. l ++ 10 ∷ []) ls

apart : (l : List ℕ) (ls : List (List ℕ)) (rest : List ℕ) → ended (l ∷ ls) ++ rest ≡ l ++ 10 ∷ (ended ls ++ rest)
apart l ls rest = append_assoc (l ++ 10 ∷ []) (ended ls) rest ∙ append_assoc l (10 ∷ []) (ended ls ++ rest)

lines_go : (t : ℕ) (mine : Bool) (ls : List (List ℕ)) (rest : List ℕ) → AllByRecursion IsLine ls
    → split t (Begin mine) (ended ls ++ rest) ≡ shown mine (ended ls) (split t (Begin mine) rest)
lines_go t mine [] rest h = nothing_shown mine (split t (Begin mine) rest)
lines_go t mine (l ∷ ls) rest h =
    ap (split t (Begin mine)) (apart l ls rest) ∙ line_goes t mine l (ended ls ++ rest) h.0
    ∙ ap (shown mine (l ++ 10 ∷ [])) (lines_go t mine ls rest h.1)
    ∙ both_shown mine (l ++ 10 ∷ []) (ended ls) (split t (Begin mine) rest)

text_goes : (t : ℕ) (mine : Bool) (bs rest : List ℕ) → IsText bs
    → split t (Begin mine) (bs ++ rest) ≡ shown mine bs (split t (Begin mine) rest)
text_goes t mine bs rest h =
    ap (λ (xs : List ℕ). split t (Begin mine) (xs ++ rest)) h.is ∙ lines_go t mine h.lines rest h.are
    ∙ ap (λ (xs : List ℕ). shown mine xs (split t (Begin mine) rest)) (sym h.is)

-- ---- the line `session T`

head_goes : (t : ℕ) (h xs rest : List ℕ) → is_plain xs ≡ true
    → split t (Head h) (xs ++ 10 ∷ rest) ≡ split t (Begin (bytes_eq (h ++ xs) (tag_of t))) rest
head_goes t h [] rest e = ap (λ (g : List ℕ). split t (Begin (bytes_eq g (tag_of t))) rest) (sym (append-nil h))
head_goes t h (x ∷ xs) rest e =
    let parts = and_parts (not (x == 10)) (is_plain xs) e in
    ap (λ b. split t (if b then Begin (bytes_eq h (tag_of t)) else Head (h ++ x ∷ [])) (xs ++ 10 ∷ rest)) (not-true (x == 10) parts.0)
    ∙ head_goes t (h ++ x ∷ []) xs rest parts.1
    ∙ ap (λ (g : List ℕ). split t (Begin (bytes_eq g (tag_of t))) rest) (append_assoc h (x ∷ []) xs)

tag_goes : (t s : ℕ) (mine : Bool) (rest : List ℕ) → split t (Begin mine) (session_line s ++ rest)
    ≡ split t (Begin (bytes_eq (tag_of s) (tag_of t))) rest
unfolding session_line
tag_goes t s mine rest =
    ap (λ (bs : List ℕ). split t (Begin mine) (codes "session " ++ bs)) (append_assoc (decimal s) (10 ∷ []) rest)
    ∙ head_goes t (115 ∷ []) (codes "ession " ++ decimal s) rest (both_plain (codes "ession ") (decimal s) refl (decimal-line s).plain)

same_bytes : (xs ys : List ℕ) → xs ≡ ys → bytes_eq xs ys ≡ true
same_bytes xs ys = (bytes_eq-Decides xs ys).1

equal_bytes : (xs ys : List ℕ) → bytes_eq xs ys ≡ true → xs ≡ ys
equal_bytes xs ys = (bytes_eq-Decides xs ys).0

read_back : (s t : ℕ) → s ≤ 16 → t ≤ 16 → decimal s ≡ decimal t → s ≡ t
read_back s t hs ht e =
    sym (decimal_is_IsNumeral_wide s (omega (arith, hs))).1 ∙ ap (digits_value 10) e ∙ (decimal_is_IsNumeral_wide t (omega (arith, ht))).1

tag_same : (s t : ℕ) → s ≤ 16 → t ≤ 16 → bytes_eq (tag_of s) (tag_of t) ≡ (s == t)
tag_same s t hs ht = tests_agree (bytes_eq (tag_of s) (tag_of t)) (s == t) refl refl
  where
    tests_agree : (a b : Bool) → bytes_eq (tag_of s) (tag_of t) ≡ a → (s == t) ≡ b → a ≡ b
    tests_agree true true e f = refl
    tests_agree false false e f = refl
    tests_agree true false e f = absurd (false≢true (sym f ∙ eq-eqb s t (read_back s t hs ht (ap (drop 8) (equal_bytes (tag_of s) (tag_of t) e)))))
    tests_agree false true e f = absurd (false≢true (sym e ∙ same_bytes (tag_of s) (tag_of t) (ap tag_of (eqb-true s t f))))

-- ---- a bad tag

dash_free : (k n : ℕ) (acc : List ℕ) → list_all (λ b. not (b == 45)) acc ≡ true
    → list_all (λ b. not (b == 45)) (digits_onto k 10 false n acc) ≡ true
dash_free zero n acc h = h
dash_free (suc k) n acc h = free_more (n / 10 == 0) (dash_free k (n / 10) (digit_glyph false (n % 10) ∷ acc) next_free)
  where
    glyph : (d : ℕ) (b : Bool) → not ((if b then 48 + d else 87 + d) == 45) ≡ true
    glyph d true = grind (arith, nat_tests)
    glyph d false = grind (arith, nat_tests)

    next_free : list_all (λ b. not (b == 45)) (digit_glyph false (n % 10) ∷ acc) ≡ true
    next_free = and_from _ _ (glyph (n % 10) (nat_lt (n % 10) 10)) h

    free_more : (b : Bool) → list_all (λ b. not (b == 45)) (digits_onto k 10 false (n / 10) (digit_glyph false (n % 10) ∷ acc)) ≡ true
        → list_all (λ b. not (b == 45))
        (if b then digit_glyph false (n % 10) ∷ acc else digits_onto k 10 false (n / 10) (digit_glyph false (n % 10) ∷ acc)) ≡ true
    free_more true rest = next_free
    free_more false rest = rest

no_dash : (t : ℕ) → codes "-" ≡ decimal t → ⊥
unfolding digits
no_dash t e = false≢true (ap (list_all (λ b. not (b == 45))) e ∙ dash_free 64 t [] refl)

dash_tag : (t : ℕ) → bytes_eq (codes "session -") (tag_of t) ≡ false
dash_tag t = never_session (bytes_eq (codes "session -") (tag_of t)) refl
  where
    never_session : (b : Bool) → bytes_eq (codes "session -") (tag_of t) ≡ b → b ≡ false
    never_session false e = refl
    never_session true e = absurd (no_dash t (ap (drop 8) (equal_bytes (codes "session -") (tag_of t) e)))

bad_goes : (t : ℕ) (mine : Bool) (rest : List ℕ) → split t (Begin mine) (bad_tag_text ++ rest) ≡ split t (Begin false) rest
unfolding bad_tag_text
bad_goes t mine rest =
    let told = line (codes "refused" ∷ codes "15" ∷ codes "BadTag" ∷ []) in
    head_goes t (115 ∷ []) (codes "ession -") (told ++ rest) refl
    ∙ ap (λ b. split t (Begin b) (told ++ rest)) (dash_tag t)
    ∙ text_goes t false told rest refused-text

-- ---- without its first line

line_dropped : (bs later : List ℕ) → is_plain bs ≡ true → without_first_line (bs ++ 10 ∷ later) ≡ later
line_dropped [] later h = refl
line_dropped (b ∷ bs) later h =
    let parts = and_parts (not (b == 10)) (is_plain bs) h in
    one_dropped b (bs ++ 10 ∷ later) (not-true (b == 10) parts.0) ∙ line_dropped bs later parts.1

tag_dropped : (s : ℕ) (body : List ℕ) → without_first_line (session_line s ++ body) ≡ body
unfolding session_line
tag_dropped s body =
    ap (λ (bs : List ℕ). without_first_line (codes "session " ++ bs)) (append_assoc (decimal s) (10 ∷ []) body)
    ∙ line_dropped (codes "session " ++ decimal s) body (both_plain (codes "session ") (decimal s) refl (decimal-line s).plain)

-- ---- all requests

hosted_split : (t n : ℕ) (ws : List World) (rs : List Request) (mine : Bool) → n ≤ 16 → t < n → AllByRecursion (IsAmong n) rs
    → split t (Begin mine) (hosted_text ws rs) ≡ own_text t ws rs
unfolding hosted_text own_text request_text
hosted_split t n ws [] mine few among all = refl
hosted_split t n ws (Blank ∷ rs) mine few among all = hosted_split t n ws rs mine few among all.1
hosted_split t n ws (BadTag ∷ rs) mine few among all = bad_goes t mine (hosted_text ws rs) ∙ hosted_split t n ws rs false few among all.1
hosted_split t n ws (To s c ∷ rs) mine few among all =
    let vs = worlds_after ws (To s c) in
    let body = command_text (world_at ws s) c in
    let rest = hosted_text vs rs in
    ap (split t (Begin mine)) (append_assoc (session_line s) body rest)
    ∙ tag_goes t s mine (body ++ rest)
    ∙ ap (λ b. split t (Begin b) (body ++ rest)) (tag_same s t (omega (arith, all.0, few)) (omega (arith, among, few)))
    ∙ split_after (s == t) (hosted_split t n vs rs true few among all.1) (hosted_split t n vs rs false few among all.1)
  where
    split_after : (b : Bool) → split t (Begin true) (hosted_text (worlds_after ws (To s c)) rs) ≡ own_text t (worlds_after ws (To s c)) rs
        → split t (Begin false) (hosted_text (worlds_after ws (To s c)) rs) ≡ own_text t (worlds_after ws (To s c)) rs
        → split t (Begin b) (command_text (world_at ws s) c ++ hosted_text (worlds_after ws (To s c)) rs)
        ≡ (if b then without_first_line (session_line s ++ command_text (world_at ws s) c) else [])
        ++ own_text t (worlds_after ws (To s c)) rs
    split_after true mine_is other_is =
        let body = command_text (world_at ws s) c in
        text_goes t true body (hosted_text (worlds_after ws (To s c)) rs) (text-is _ _) ∙ ap (λ (bs : List ℕ). body ++ bs) mine_is
        ∙ ap (λ (bs : List ℕ). bs ++ own_text t (worlds_after ws (To s c)) rs) (sym (tag_dropped s body))
    split_after false mine_is other_is = text_goes t false (command_text (world_at ws s) c) (hosted_text (worlds_after ws (To s c)) rs) (text-is _ _)
        ∙ other_is

pub splits-alike : (t n : ℕ) (ws vs : List World) (rs qs : List Request) → n ≤ 16 → t < n → All (IsAmong n) rs → All (IsAmong n) qs
    → hosted_text ws rs ≡ hosted_text vs qs → own_text t ws rs ≡ own_text t vs qs
splits-alike t n ws vs rs qs few among h k e =
    sym (hosted_split t n ws rs false few among (recursion_from_All (IsAmong n) rs h))
    ∙ ap (split t (Begin false)) e
    ∙ hosted_split t n vs qs false few among (recursion_from_All (IsAmong n) qs k)
