-- The lines of replies: none has a newline within, and none begins as `session T` does.
use Rattle.std.proofs.Common.{◌≡◌, refl, sym, ap, ◌∙◌, ℕ, zero, suc, ◌+◌, ◌/◌, ◌%◌, ◌<◌, Bool, true, false, not, ◌&&◌, List, [], ◌∷◌, ◌++◌}
use Rattle.std.proofs.Common.{length, append_assoc, arith, ℤ, pos, negsuc, codes, decimal, subst}
use Rattle.std.specs.Prelude.{◌==◌, nat_lt, if◌then◌else◌}
use Rattle.std.specs.List.{list_all, flat_map, AllByRecursion}
use Rattle.std.specs.Fmt.{digits, digits_onto, digit_glyph, signed_decimal}
use Rattle.std.proofs.lemmas.Bool.{and_parts, and_from, ltb-true, ltb-false, false≢true}
use Rattle.std.proofs.lemmas.Bool.Decides.{nat_tests}
use Rattle.std.proofs.lemmas.List.Folds.{list_all-append}
use Rattle.pbd_world.specs.declared.parts.Particle.{Particle}
use Rattle.pbd_world.specs.declared.command.Phase.{Phase}
use Rattle.pbd_world.specs.declared.command.Phase.TheVariants.{Predict, Link, Contact, Shape}
use Rattle.pbd_world.specs.declared.command.Refusal.{Refusal}
use Rattle.pbd_world.specs.declared.command.Refusal.TheVariants.{BadCommand, NoParticle, NoLink, LinkGone, OutOfRange, NotHeld, Held}
use Rattle.pbd_world.specs.declared.command.Refusal.TheVariants.{Tracked, BadCount, StepLimit, LeavesRange, TooManyContacts}
use Rattle.pbd_world.specs.declared.command.Reply.{Reply}
use Rattle.pbd_world.specs.declared.command.Reply.TheVariants as replies
use Rattle.pbd_world.specs.Ledger.{Sum}
use Rattle.pbd_world.specs.Momentum.{momentum}
use Rattle.pbd_world.specs.World.{World, live_count}
use Rattle.pbd_world.specs.Text.{line, place_line, header_line, frame_text, sum_line, ledger_text, phase_name, refusal_words, refusal_line}
use Rattle.pbd_world.specs.Text.{text}
use Rattle.std.proofs.lemmas.List.{append-nil}

-- no byte is a newline
abbrev pub is_plain : List ℕ → Bool
is_plain bs = list_all (λ b. not (b == 10)) bs

-- the first byte isn't an `s`
abbrev pub is_own : List ℕ → Bool
is_own [] = true
is_own (b ∷ bs) = not (b == 115)

-- a line without its newline
pub record IsLine (bs : List ℕ) : Type 0 where
  pub plain : is_plain bs ≡ true
  pub own : is_own bs ≡ true

-- ---- numbers

glyph_plain : (d : ℕ) → not (digit_glyph false d == 10) ≡ true
glyph_plain d = never_newline (nat_lt d 10)
  where
    never_newline : (b : Bool) → not ((if b then 48 + d else 87 + d) == 10) ≡ true
    never_newline true = grind (arith, nat_tests)
    never_newline false = grind (arith, nat_tests)

glyph_own : (d : ℕ) → d < 10 → not (digit_glyph false d == 115) ≡ true
glyph_own d small = never_s (nat_lt d 10) refl
  where
    never_s : (b : Bool) → nat_lt d 10 ≡ b → not ((if b then 48 + d else 87 + d) == 115) ≡ true
    never_s true e = grind (arith, nat_tests)
    never_s false e = absurd (grind (arith, nat_tests))

digits_lines : (k n : ℕ) (acc : List ℕ) → IsLine acc → IsLine (digits_onto k 10 false n acc)
digits_lines zero n acc h = h
digits_lines (suc k) n acc h = line_more (n / 10 == 0) (digits_lines k (n / 10) (digit_glyph false (n % 10) ∷ acc) next)
  where
    next : IsLine (digit_glyph false (n % 10) ∷ acc)
    next = record { plain = and_from _ _ (glyph_plain (n % 10)) h.plain; own = glyph_own (n % 10) (omega arith) }

    line_more : (b : Bool) → IsLine (digits_onto k 10 false (n / 10) (digit_glyph false (n % 10) ∷ acc))
        → IsLine (if b then digit_glyph false (n % 10) ∷ acc else digits_onto k 10 false (n / 10) (digit_glyph false (n % 10) ∷ acc))
    line_more true rest = next
    line_more false rest = rest

pub decimal-line : (n : ℕ) → IsLine (decimal n)
unfolding digits
decimal-line n = digits_lines 64 n [] (record { plain = refl; own = refl })

signed_line : (z : ℤ) → IsLine (signed_decimal z)
signed_line (pos n) = decimal-line n
signed_line (negsuc n) = record { plain = (decimal-line (suc n)).plain; own = refl }

-- ---- lines of words

joined : List (List ℕ) → List ℕ
joined [] = []
joined (word ∷ []) = word
joined (word ∷ next ∷ words) = word ++ 32 ∷ joined (next ∷ words)

line_is : (words : List (List ℕ)) → line words ≡ joined words ++ 10 ∷ []
unfolding joined
line_is [] = refl
line_is (word ∷ []) = refl
line_is (word ∷ next ∷ words) = ap (λ (bs : List ℕ). word ++ 32 ∷ bs) (line_is (next ∷ words))
    ∙ sym (append_assoc word (32 ∷ joined (next ∷ words)) (10 ∷ []))

pub both_plain : (xs ys : List ℕ) → is_plain xs ≡ true → is_plain ys ≡ true → is_plain (xs ++ ys) ≡ true
both_plain xs ys h k = list_all-append (λ b. not (b == 10)) xs ys ∙ and_from _ _ h k

front_own : (xs ys : List ℕ) → is_own xs ≡ true → is_own ys ≡ true → is_own (xs ++ ys) ≡ true
front_own [] ys h k = k
front_own (x ∷ xs) ys h k = h

joined_plain : (words : List (List ℕ)) → AllByRecursion (λ w. is_plain w ≡ true) words → is_plain (joined words) ≡ true
unfolding joined
joined_plain [] h = refl
joined_plain (word ∷ []) h = h.0
joined_plain (word ∷ next ∷ words) h = both_plain word (32 ∷ joined (next ∷ words)) h.0 (joined_plain (next ∷ words) h.1)

joined_own : (word : List ℕ) (words : List (List ℕ)) → is_own word ≡ true → is_own (joined (word ∷ words)) ≡ true
unfolding joined
joined_own word [] h = h
joined_own word (next ∷ words) h = front_own word (32 ∷ joined (next ∷ words)) h refl

words_line : (word : List ℕ) (words : List (List ℕ)) → is_own word ≡ true → AllByRecursion (λ w. is_plain w ≡ true) (word ∷ words)
    → IsLine (joined (word ∷ words))
words_line word words h all = record { plain = joined_plain (word ∷ words) all; own = joined_own word words h }

-- ---- texts

-- lines, each with its newline
pub record IsText (bs : List ℕ) : Type 0 where
  pub lines : List (List ℕ)
  pub are : AllByRecursion IsLine lines
  pub is : bs ≡ flat_map (λ l. l ++ 10 ∷ []) lines

one_line : (word : List ℕ) (words : List (List ℕ)) → is_own word ≡ true → AllByRecursion (λ w. is_plain w ≡ true) (word ∷ words)
    → IsText (line (word ∷ words))
one_line word words h all = record {
  lines = joined (word ∷ words) ∷ [];
  are = (words_line word words h all, tt);
  is = line_is (word ∷ words) ∙ sym (append-nil (joined (word ∷ words) ++ 10 ∷ []));
}

all_both : (xs ys : List (List ℕ)) → AllByRecursion IsLine xs → AllByRecursion IsLine ys → AllByRecursion IsLine (xs ++ ys)
all_both [] ys h k = k
all_both (x ∷ xs) ys h k = (h.0, all_both xs ys h.1 k)

flat_both : (xs ys : List (List ℕ)) → flat_map (λ l. l ++ 10 ∷ []) (xs ++ ys) ≡ flat_map (λ l. l ++ 10 ∷ []) xs
    ++ flat_map (λ l. l ++ 10 ∷ []) ys
flat_both [] ys = refl
flat_both (x ∷ xs) ys =
    ap (λ (bs : List ℕ). (x ++ 10 ∷ []) ++ bs) (flat_both xs ys)
    ∙ sym (append_assoc (x ++ 10 ∷ []) (flat_map (λ l. l ++ 10 ∷ []) xs) (flat_map (λ l. l ++ 10 ∷ []) ys))

both_texts : (xs ys : List ℕ) → IsText xs → IsText ys → IsText (xs ++ ys)
both_texts xs ys h k = record {
  lines = h.lines ++ k.lines;
  are = all_both h.lines k.lines h.are k.are;
  is = ap (λ (bs : List ℕ). bs ++ ys) h.is ∙ ap (λ (bs : List ℕ). flat_map (λ l. l ++ 10 ∷ []) h.lines ++ bs) k.is
      ∙ sym (flat_both h.lines k.lines);
}

places_text : (ps : List Particle) → IsText (flat_map place_line ps)
unfolding place_line
places_text [] = record { lines = []; are = tt; is = refl }
places_text (p ∷ ps) =
    let x = signed_line p.at.x in
    let y = signed_line p.at.y in
    let z = signed_line p.at.z in
    both_texts (place_line p) (flat_map place_line ps)
    (one_line (signed_decimal p.at.x) (signed_decimal p.at.y ∷ signed_decimal p.at.z ∷ []) x.own (x.plain, (y.plain, (z.plain, tt))))
    (places_text ps)

frame_is : (w : World) → IsText (frame_text w)
unfolding header_line
frame_is w =
    let count : ℕ → ℕ → ℕ → ℕ → List (List ℕ) = λ a b c d. decimal a ∷ decimal b ∷ decimal c ∷ decimal d ∷ [] in
    both_texts (header_line w) (flat_map place_line w.particles)
    (one_line (codes "frame") (count w.steps (length w.particles) (live_count w.links) w.contacts) refl (
      refl,
      (
        (decimal-line w.steps).plain,
        (
          (decimal-line (length w.particles)).plain,
          ((decimal-line (live_count w.links)).plain, ((decimal-line w.contacts).plain, tt)),
        ),
      ),
    ))
    (places_text w.particles)

sum_is : (name : List ℕ) (s : Sum) → is_plain name ≡ true → IsText (sum_line name s)
unfolding sum_line
sum_is name s h =
    one_line (codes "ledger") (name ∷ signed_decimal s.x ∷ signed_decimal s.y ∷ signed_decimal s.z ∷ []) refl
    (refl, (h, ((signed_line s.x).plain, ((signed_line s.y).plain, ((signed_line s.z).plain, tt)))))

ledger_is : (w : World) → IsText (ledger_text w)
ledger_is w =
    let momentum_is = sum_is (codes "momentum") (momentum w.particles) refl in
    let opening_is = sum_is (codes "opening") w.opening refl in
    let gravity_is = sum_is (codes "gravity") w.totals.gravity refl in
    let damping_is = sum_is (codes "damping") w.totals.damping refl in
    let link_is = sum_is (codes "link") w.totals.link refl in
    let contact_is = sum_is (codes "contact") w.totals.contact refl in
    let pin_is = sum_is (codes "pin") w.totals.pin refl in
    let shape_is = sum_is (codes "shape") w.totals.shape refl in
    let two = both_texts _ _ momentum_is opening_is in
    let three = both_texts _ _ two gravity_is in
    let four = both_texts _ _ three damping_is in
    let five = both_texts _ _ four link_is in
    let six = both_texts _ _ five contact_is in
    let seven = both_texts _ _ six pin_is in
    both_texts _ _ seven shape_is

phase_plain : (phase : Phase) → is_plain (phase_name phase) ≡ true
phase_plain Predict = refl
phase_plain Link = refl
phase_plain Contact = refl
phase_plain Shape = refl

words_plain : (r : Refusal) → AllByRecursion (λ w. is_plain w ≡ true) (refusal_words r)
words_plain BadCommand = (refl, (refl, tt))
words_plain NoParticle = (refl, (refl, tt))
words_plain NoLink = (refl, (refl, tt))
words_plain LinkGone = (refl, (refl, tt))
words_plain OutOfRange = (refl, (refl, tt))
words_plain NotHeld = (refl, (refl, tt))
words_plain Held = (refl, (refl, tt))
words_plain Tracked = (refl, (refl, tt))
words_plain BadCount = (refl, (refl, tt))
words_plain StepLimit = (refl, (refl, tt))
words_plain (LeavesRange step phase element) =
    (refl, (refl, (refl, ((decimal-line step).plain, (refl, (phase_plain phase, (refl, ((decimal-line element).plain, tt))))))))
words_plain (TooManyContacts step) = (refl, (refl, (refl, ((decimal-line step).plain, tt))))

refusal_is : (r : Refusal) → IsText (refusal_line r)
unfolding refusal_line
refusal_is r = one_line (codes "refused") (refusal_words r) refl (refl, words_plain r)

pub text-is : (w : World) (r : Reply) → IsText (text w r)
unfolding text
text-is w replies.Done = one_line (codes "ok") [] refl (refl, tt)
text-is w replies.Frame = frame_is w
text-is w replies.Ledger = ledger_is w
text-is w (replies.Refused r) = refusal_is r

-- the line that refuses a bad tag
pub refused-text : IsText (line (codes "refused" ∷ codes "15" ∷ codes "BadTag" ∷ []))
refused-text = one_line (codes "refused") (codes "15" ∷ codes "BadTag" ∷ []) refl (refl, (refl, (refl, tt)))
