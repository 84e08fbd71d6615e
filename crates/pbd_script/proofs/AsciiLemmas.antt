-- No byte past ASCII stands in a line that has a form.
use Rattle.std.proofs.Common.{◌≡◌, ◌∙◌, sym, ap, subst, refl, ℕ, suc, ◌-◌, ◌<◌, ◌≤◌, ℤ, Bool, true, false, not, cond, List, [], ◌∷◌, ◌++◌, length}
use Rattle.std.proofs.Common.{get_or, take, Option, Some, None, arith, inl, inr, neg_ℤ, pos, nat_lt, Any, IfSome, slice_index, codes}
use Rattle.std.specs.Prelude.{◌==◌, ◌&&◌, ◌⊎◌, filter, unwrap_or, if◌then◌else◌, nat_eq}
use Rattle.std.specs.List.{list_all, slice_split, onto_first, starts_with}
use Rattle.std.specs.Option.{option_map, option_and_then}
use Rattle.std.specs.Str.Lines.{strip_carriage_return}
use Rattle.std.proofs.Math.Seq.{take-suc}
use Rattle.std.proofs.lemmas.Bool.Decides.{nat_tests}
use Rattle.std.proofs.lemmas.List.{take_all}
use Rattle.std.proofs.lemmas.List.Folds.{list_all_at, list_all-append}
use Rattle.pbd_num.specs.declared.Vec3.{Vec3}
use Rattle.pbd_world.specs.declared.command.Command.{Command}
use Rattle.pbd_world.specs.declared.command.Command.TheVariants.{Bad}
use Rattle.pbd_world.specs.declared.command.Verb.{Verb}
use Rattle.pbd_world.specs.declared.command.OperandKind.{OperandKind}
use Rattle.pbd_world.specs.declared.command.OperandKind.TheVariants as kinds
use Rattle.pbd_world.specs.declared.command.Operands.{Operands}
use Rattle.pbd_world.specs.declared.command.Operands.TheVariants.{Number, Vector, NumberAndVector}
use Rattle.pbd_world.specs.Verbs.{row, verb_named, command_with}
use Rattle.pbd_world.proofs.VerbLaws.{rows_pass, word_is}
use Rattle.pbd_script.specs.Lines.{words, is_blank, is_digit, is_count, count, number, value, only_count}
use Rattle.pbd_script.specs.Commands.{nothing, vector_of, only_vector, number_and_vector, operands_in, form, words_command, line_command}
use Rattle.std.proofs.lemmas.Bool.{and_from}

abbrev is_plain : ℕ → Bool
is_plain b = nat_lt b 128

-- all bytes of a word, and of all words
abbrev plain : List ℕ → Bool
plain bytes = list_all is_plain bytes

abbrev all_plain : List (List ℕ) → Bool
all_plain ws = list_all plain ws

pub left : (a b : Bool) → (a && b) ≡ true → a ≡ true
left true b all = refl
left false b all = cc

right : (a b : Bool) → (a && b) ≡ true → b ≡ true
right true b all = all
right false b all = cc

-- what a mapped option came from
came_from : {X Y : Type 0} (f : X → Y) (o : Option X) (y : Y) → option_map f o ≡ Some y → (x : X) × (o ≡ Some x)
came_from f None y e = cc
came_from f (Some x) y e = (x, refl)

-- ---- counts and numbers

chosen : (b : Bool) (v n : ℕ) → (if b then Some v else None) ≡ Some n → b ≡ true
chosen true v n e = refl
chosen false v n e = cc

digit_plain : (b : ℕ) → is_digit b ≡ true → is_plain b ≡ true
digit_plain b is = grind (arith, nat_tests)

digits_plain : (word : List ℕ) → list_all is_digit word ≡ true → plain word ≡ true
digits_plain [] all = refl
digits_plain (b ∷ word) all = and_from (is_plain b) (plain word) (digit_plain b (left (is_digit b) (list_all is_digit word) all))
    (digits_plain word (right (is_digit b) (list_all is_digit word) all))

count_plain : (word : List ℕ) (n : ℕ) → count word ≡ Some n → plain word ≡ true
count_plain word n is = digits_plain word (right _ (list_all is_digit word) (chosen (is_count word) (value word) n is))

minus_plain : (b : ℕ) → (b == 45) ≡ true → is_plain b ≡ true
minus_plain b is = grind (arith, nat_tests)

number_case : (minus : Bool) (b : ℕ) (word : List ℕ) (z : ℤ) → (b == 45) ≡ minus
    → (if minus then option_map (λ n. neg_ℤ (pos n)) (count word) else option_map (λ n. pos n) (count (b ∷ word))) ≡ Some z
    → plain (b ∷ word) ≡ true
number_case true b word z first is = let n = came_from (λ n. neg_ℤ (pos n)) (count word) z is in
    and_from (is_plain b) (plain word) (minus_plain b first) (count_plain word n.0 n.1)
number_case false b word z first is = let n = came_from (λ n. pos n) (count (b ∷ word)) z is in count_plain (b ∷ word) n.0 n.1

number_plain : (word : List ℕ) (z : ℤ) → number word ≡ Some z → plain word ≡ true
number_plain [] z is = refl
number_plain (b ∷ word) z is = number_case (b == 45) b word z refl is

-- ---- what follows a first word

nothing_plain : (o : Operands) (ws : List (List ℕ)) → nothing ws ≡ Some o → all_plain ws ≡ true
nothing_plain o [] is = refl
nothing_plain o (w ∷ ws) is = cc

only_count_plain : (ws : List (List ℕ)) (n : ℕ) → only_count ws ≡ Some n → all_plain ws ≡ true
only_count_plain [] n is = refl
only_count_plain (w ∷ []) n is = and_from (plain w) true (count_plain w n is) refl
only_count_plain (w ∷ next ∷ more) n is = cc

pub all_three : (x y z : Option ℤ) (v : Vec3) → vector_of x y z ≡ Some v
    → ((p : ℤ) × (x ≡ Some p)) × ((q : ℤ) × (y ≡ Some q)) × ((r : ℤ) × (z ≡ Some r))
all_three None y z v is = cc
all_three (Some p) None z v is = cc
all_three (Some p) (Some q) None v is = cc
all_three (Some p) (Some q) (Some r) v is = ((p, refl), (q, refl), (r, refl))

only_vector_plain : (ws : List (List ℕ)) (v : Vec3) → only_vector ws ≡ Some v → all_plain ws ≡ true
only_vector_plain [] v is = refl
only_vector_plain (x ∷ []) v is = cc
only_vector_plain (x ∷ y ∷ []) v is = cc
only_vector_plain (x ∷ y ∷ z ∷ []) v is =
    let each = all_three (number x) (number y) (number z) v is in
    and_from (plain x) _ (number_plain x each.0.0 each.0.1) (and_from (plain y) _ (number_plain y each.1.0 each.1.1)
    (and_from (plain z) true (number_plain z each.2.0 each.2.1) refl))
only_vector_plain (x ∷ y ∷ z ∷ more ∷ ws) v is = cc

pub chained : {X Y : Type 0} (f : X → Option Y) (o : Option X) (y : Y) → option_and_then f o ≡ Some y → (x : X) × (o ≡ Some x) × (f x ≡ Some y)
chained f None y e = cc
chained f (Some x) y e = (x, refl, e)

number_and_vector_plain : (ws : List (List ℕ)) (o : Operands) → number_and_vector ws ≡ Some o → all_plain ws ≡ true
number_and_vector_plain [] o is = refl
number_and_vector_plain (w ∷ axes) o is =
    let n = chained (λ n. option_map (λ v. NumberAndVector n v) (only_vector axes)) (count w) o is in
    let v = came_from (λ v. NumberAndVector n.0 v) (only_vector axes) o n.2 in
    and_from (plain w) (all_plain axes) (count_plain w n.0 n.1) (only_vector_plain axes v.0 v.1)

operands_plain : (kind : OperandKind) (ws : List (List ℕ)) (o : Operands) → operands_in kind ws ≡ Some o → all_plain ws ≡ true
operands_plain kinds.Nothing ws o is = nothing_plain o ws is
operands_plain kinds.Number ws o is = let n = came_from (λ k. Number k) (only_count ws) o is in only_count_plain ws n.0 n.1
operands_plain kinds.Vector ws o is = let v = came_from (λ k. Vector k) (only_vector ws) o is in only_vector_plain ws v.0 v.1
operands_plain kinds.NumberAndVector ws o is = number_and_vector_plain ws o is

-- ---- the forms

abbrev ArePlain : List ℕ → List (List ℕ) → Type 0
ArePlain word ws = (plain word ≡ true) × (all_plain ws ≡ true)

verb_plain : (word : List ℕ) (v : Verb) → verb_named word ≡ Some v → plain word ≡ true
unfolding row
verb_plain word v is = subst (λ w. plain w ≡ true) (word_is word v is) (rows_pass (λ r. plain r.word) refl v)

form_plain : (word : List ℕ) (ws : List (List ℕ)) (c : Command) → form word ws ≡ Some c → ArePlain word ws
unfolding form
form_plain word ws c is =
    let v = chained (λ v. option_and_then (command_with v) (operands_in (row v).kind ws)) (verb_named word) c is in
    let o = chained (command_with v.0) (operands_in (row v.0).kind ws) c v.2 in
    (verb_plain word v.0 v.1, operands_plain (row v.0).kind ws o.0 o.1)

-- ---- from words to the line

blank_plain : (b : ℕ) → is_blank b ≡ true → is_plain b ≡ true
blank_plain b is = grind (arith, nat_tests)

grown : (b : ℕ) (xs : List ℕ) (parts : List (List ℕ)) → all_plain (onto_first b parts) ≡ true → (all_plain parts ≡ true → plain xs ≡ true)
    → plain (b ∷ xs) ≡ true
grown b xs [] all next = and_from (is_plain b) (plain xs) (left (is_plain b) true (left (plain (b ∷ [])) true all)) (next refl)
grown b xs (part ∷ parts) all next =
    let front = left (plain (b ∷ part)) (all_plain parts) all in
    and_from (is_plain b) (plain xs) (left (is_plain b) (plain part) front)
    (next (and_from (plain part) (all_plain parts) (right (is_plain b) (plain part) front) (right (plain (b ∷ part)) (all_plain parts) all)))

part_case : (blank : Bool) (b : ℕ) (xs : List ℕ) (parts : List (List ℕ)) → is_blank b ≡ blank
    → all_plain (cond blank ([] ∷ parts) (onto_first b parts)) ≡ true → (all_plain parts ≡ true → plain xs ≡ true) → plain (b ∷ xs) ≡ true
part_case true b xs parts is all next = and_from (is_plain b) (plain xs) (blank_plain b is) (next all)
part_case false b xs parts is all next = grown b xs parts all next

parts_plain : (line : List ℕ) → all_plain (slice_split is_blank line) ≡ true → plain line ≡ true
parts_plain [] all = refl
parts_plain (b ∷ line) all = part_case (is_blank b) b line (slice_split is_blank line) refl all (parts_plain line)

shown : (b : ℕ) (w : List ℕ) → not (length (b ∷ w) == 0) ≡ true
shown b w = let e : (length (b ∷ w) == 0) ≡ false = grind (arith, nat_tests) in rw e refl

filtered_plain : (parts : List (List ℕ)) → all_plain (filter (λ word. not (length word == 0)) parts) ≡ true → all_plain parts ≡ true
filtered_plain [] all = refl
filtered_plain ([] ∷ parts) all = filtered_plain parts all
filtered_plain ((b ∷ w) ∷ parts) all =
    let here : all_plain ((b ∷ w) ∷ filter (λ word. not (length word == 0)) parts) ≡ true = rw (shown b w) at all in
    and_from (plain (b ∷ w)) (all_plain parts) (left (plain (b ∷ w)) _ here) (filtered_plain parts (right (plain (b ∷ w)) _ here))

words_plain : (line : List ℕ) → all_plain (words line) ≡ true → plain line ≡ true
words_plain line all = parts_plain line (filtered_plain (slice_split is_blank line) all)

-- ---- the carriage return

return_plain : (b : ℕ) → (b == 13) ≡ true → is_plain b ≡ true
return_plain b is = grind (arith, nat_tests)

strip_case : (ends : Bool) (line : List ℕ) → (slice_index line (length line - 1) == 13) ≡ ends
    → plain (if ends then take (length line - 1) line else line) ≡ true → plain line ≡ true
strip_case false line is all = all
strip_case true [] is all = refl
strip_case true (b ∷ rest) is all =
    let last : length (b ∷ rest) - 1 < length (b ∷ rest) = omega arith in
    let size : suc (length (b ∷ rest) - 1) ≡ length (b ∷ rest) = omega arith in
    let whole : b ∷ rest ≡ take (length (b ∷ rest) - 1) (b ∷ rest) ++ get_or (b ∷ rest) (length (b ∷ rest) - 1) 0
    ∷ [] = sym (ap (λ n. take n (b ∷ rest)) size ∙ take_all (length (b ∷ rest)) (b ∷ rest) (omega arith))
    ∙ take-suc (b ∷ rest) (length (b ∷ rest) - 1) 0 last in
    ap plain whole ∙ list_all-append is_plain (take (length (b ∷ rest) - 1) (b ∷ rest)) _
    ∙ and_from (plain (take (length (b ∷ rest) - 1) (b ∷ rest))) _ all
    (and_from (is_plain (get_or (b ∷ rest) (length (b ∷ rest) - 1) 0)) true (return_plain _ is) refl)

strip_plain : (line : List ℕ) → plain (strip_carriage_return line) ≡ true → plain line ≡ true
strip_plain line all = strip_case (slice_index line (length line - 1) == 13) line refl all

-- ---- the line

or_bad : (o : Option Command) (c : Command) (Q : Type 0) → ((d : Command) → o ≡ Some d → Q) → Some (unwrap_or o Bad) ≡ Some c
    → (c ≡ Bad) ⊎ Q
or_bad None c Q formed is = inl cc
or_bad (Some d) c Q formed is = inr (formed d refl)

command_case : (comment : Bool) (o : Option Command) (c : Command) (Q : Type 0) → ((d : Command) → o ≡ Some d → Q)
    → (if comment then None else Some (unwrap_or o Bad)) ≡ Some c → (c ≡ Bad) ⊎ Q
command_case true o c Q formed is = cc
command_case false o c Q formed is = or_bad o c Q formed is

words_case : (ws : List (List ℕ)) (c : Command) → words_command ws ≡ Some c → (c ≡ Bad) ⊎ (all_plain ws ≡ true)
words_case [] c is = cc
words_case (word ∷ ws) c is = command_case (starts_with nat_eq word (codes "#")) (form word ws) c (all_plain (word ∷ ws) ≡ true)
    (λ d e. let fine = form_plain word ws d e in and_from (plain word) (all_plain ws) fine.0 fine.1) is

bad_from : (c : Command) (line : List ℕ) → plain line ≡ false → (c ≡ Bad) ⊎ (all_plain (words (strip_carriage_return line)) ≡ true)
    → c ≡ Bad
bad_from c line strange (inl bad) = bad
bad_from c line strange (inr fine) = let e : plain line ≡ true = strip_plain line (words_plain (strip_carriage_return line) fine) in cc

strange_command : (o : Option Command) (line : List ℕ) → line_command line ≡ o → plain line ≡ false → IfSome o (λ c. c ≡ Bad)
strange_command None line is strange = tt
strange_command (Some c) line is strange = bad_from c line strange (words_case (words (strip_carriage_return line)) c is)

not_plain : (b : ℕ) → 128 ≤ b → is_plain b ≡ false
not_plain b le = grind (arith, nat_tests)

pub strange_line : (line : List ℕ) → Any (λ b. 128 ≤ b) line → IfSome (line_command line) (λ c. c ≡ Bad)
strange_line line (k, b, within, is, strange) = strange_command (line_command line) line refl
    (list_all_at is_plain line k b within (rw is (not_plain b strange)))
