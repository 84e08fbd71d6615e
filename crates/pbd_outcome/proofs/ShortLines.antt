-- The entries of a script's commands are at most four times as long as its lines, but for their sums.
use Rattle.std.proofs.Common.{◌≡◌, sym, ap, refl, ℕ, ◌+◌, ◌*◌, ◌<◌, ◌≤◌, ◌⊎◌, inl, inr, Bool, true, false, cond, List, [], ◌∷◌, length}
use Rattle.std.proofs.Common.{Option, Some, None, ℤ, take, subst, arith}
use Rattle.std.specs.Prelude.{◌==◌, ◌||◌, not, nat_eq, nat_le, filter, filter_map, codes, unwrap_or}
use Rattle.std.specs.List.{cons_option, onto_first, slice_split, starts_with}
use Rattle.std.specs.Option.{option_map, option_and_then}
use Rattle.std.specs.Str.Lines.{strip_carriage_return}
use Rattle.std.proofs.lemmas.List.{length-take}
use Rattle.std.proofs.lemmas.List.Splits.{length-slice_split}
use Rattle.std.proofs.lemmas.Bool.{leb-true}
use Rattle.pbd_num.specs.declared.Vec3.{Vec3}
use Rattle.pbd_world.specs.declared.command.Command.{Command}
use Rattle.pbd_world.specs.declared.command.Command.TheVariants.{Bad}
use Rattle.pbd_world.specs.declared.command.Verb.{Verb}
use Rattle.pbd_world.specs.declared.command.OperandKind.{OperandKind}
use Rattle.pbd_world.specs.declared.command.OperandKind.TheVariants as kinds
use Rattle.pbd_world.specs.declared.command.Operands.{Operands}
use Rattle.pbd_world.specs.declared.command.Operands.TheVariants.{Nothing, Number, Vector, NumberAndVector}
use Rattle.pbd_world.specs.Verbs.{TableRow, row, verb_named, verb_and_operands, command_with}
use Rattle.pbd_world.proofs.VerbLaws.{rows_pass, word_is, parted}
use Rattle.pbd_script.specs.Lines.{pieces, words, is_blank, count, number, only_count}
use Rattle.pbd_script.specs.Commands.{nothing, only_vector, number_and_vector, operands_in, form, words_command, line_command, commands}
use Rattle.pbd_script.proofs.AsciiLemmas.{chained, all_three}

-- ---- the elements of lists, and one more for each list

abbrev pub room : {X : Type 0} → List (List X) → ℕ
room [] = 0
room (part ∷ parts) = length part + 1 + room parts

onto_room : {X : Type 0} (x : X) (parts : List (List X)) → 0 < length parts → room (onto_first x parts) ≡ room parts + 1
onto_room x [] some = absurd (omega arith)
onto_room x (part ∷ parts) some = omega arith

either_room : {X : Type 0} (cut : Bool) (x : X) (parts : List (List X)) → 0 < length parts
    → room (cond cut ([] ∷ parts) (onto_first x parts)) ≡ room parts + 1
either_room true x parts some = omega arith
either_room false x parts some = onto_room x parts some

pub split_room : {X : Type 0} (p : X → Bool) (xs : List X) → room (slice_split p xs) ≡ length xs + 1
split_room p [] = refl
split_room p (x ∷ xs) = omega (arith, either_room (p x) x (slice_split p xs) (omega (arith, length-slice_split p xs)), split_room p xs)

kept : {X : Type 0} (keep : Bool) (part : List X) (some all : List (List X)) → room some ≤ room all
    → room (cond keep (part ∷ some) some) ≤ length part + 1 + room all
kept true part some all le = omega arith
kept false part some all le = omega arith

filter_room : {X : Type 0} (p : List X → Bool) (parts : List (List X)) → room (filter p parts) ≤ room parts
filter_room p [] = omega arith
filter_room p (part ∷ parts) = kept (p part) part (filter p parts) parts (filter_room p parts)

taken : (cut : Bool) (n : ℕ) (line : List ℕ) → length (cond cut (take n line) line) ≤ length line
taken true n line = omega (arith, length-take n line)
taken false n line = omega arith

pub words_room : (line : List ℕ) → room (words (strip_carriage_return line)) ≤ length line + 1
words_room line =
    let front : List ℕ = strip_carriage_return line in
    let short : length front ≤ length line = taken _ _ line in
    omega (arith, filter_room (λ word. not (length word == 0)) (slice_split is_blank front), split_room is_blank front)

-- ---- what an entry takes

-- the most bytes that an entry with these operands has, but for its sums
abbrev pub bytes_with : Operands → ℕ
bytes_with Nothing = 2
bytes_with (Number n) = 23
bytes_with (Vector v) = 39
bytes_with (NumberAndVector n v) = 47

abbrev pub most_bytes : Command → ℕ
most_bytes c = bytes_with (verb_and_operands c).1

-- ---- numbers have digits

count_long : (word : List ℕ) (n : ℕ) → count word ≡ Some n → 0 < length word
count_long [] n is = cc
count_long (digit ∷ digits) n is = omega arith

number_long : (word : List ℕ) (z : ℤ) → number word ≡ Some z → 0 < length word
number_long [] z is = cc
number_long (first ∷ rest) z is = omega arith

counted : (operands : List (List ℕ)) (n : ℕ) → only_count operands ≡ Some n → 2 ≤ room operands
counted [] n is = cc
counted (word ∷ []) n is = omega (arith, count_long word n is)
counted (word ∷ next ∷ more) n is = cc

pub mapped : {A B : Type 0} (f : A → B) (o : Option A) (y : B) → option_map f o ≡ Some y → (x : A) × (o ≡ Some x) × (f x ≡ y)
mapped f (Some x) y is = (x, refl, cc)
mapped f None y is = cc

three_axes : (operands : List (List ℕ)) (v : Vec3) → only_vector operands ≡ Some v → 6 ≤ room operands
three_axes [] v is = cc
three_axes (x ∷ []) v is = cc
three_axes (x ∷ y ∷ []) v is = cc
three_axes (x ∷ y ∷ z ∷ []) v is =
    let three = all_three (number x) (number y) (number z) v is in
    omega (arith, number_long x three.0.0 three.0.1, number_long y three.1.0 three.1.1, number_long z three.2.0 three.2.1)
three_axes (x ∷ y ∷ z ∷ w ∷ more) v is = cc

-- ---- each form has room for its entry

abbrev is_nothing : OperandKind → Bool
is_nothing kinds.Nothing = true
is_nothing kind = false

-- a verb with operands has a word of three letters at least
abbrev is_long : TableRow → Bool
is_long row = is_nothing row.kind || nat_le 3 (length row.word)

all_long : (v : Verb) → is_long (row v) ≡ true
unfolding row
all_long v = rows_pass is_long refl v

abbrev IsShort : List ℕ → List (List ℕ) → Operands → Type 0
IsShort word operands o = bytes_with o ≤ 4 * room (word ∷ operands)

none_short : (word : List ℕ) (operands : List (List ℕ)) (o : Operands) → nothing operands ≡ Some o → IsShort word operands o
none_short word [] o is = let e : Nothing ≡ o = cc in omega (arith, ap bytes_with e)
none_short word (operand ∷ more) o is = cc

either_short : (n : Option ℕ) (word : List ℕ) (axes : List (List ℕ)) (o : Operands)
    → option_and_then (λ n. option_map (λ v. NumberAndVector n v) (only_vector axes)) n ≡ Some o
    → (k : ℕ) × (n ≡ Some k) × (6 ≤ room axes) × (bytes_with o ≡ 47)
either_short None word axes o is = cc
either_short (Some k) word axes o is =
    let v = mapped (λ v. NumberAndVector k v) (only_vector axes) o is in
    (k, refl, three_axes axes v.0 v.1, sym (ap bytes_with v.2))

both_short : (word : List ℕ) (operands : List (List ℕ)) (o : Operands) → 3 ≤ length word → number_and_vector operands ≡ Some o
    → IsShort word operands o
both_short word [] o long is = cc
both_short word (number ∷ axes) o long is =
    let at = either_short (count number) word axes o is in
    omega (arith, long, count_long number at.0 at.1, at.2, at.3)

operands_short : (kind : OperandKind) (word : List ℕ) (operands : List (List ℕ)) (o : Operands)
    → (is_nothing kind || nat_le 3 (length word)) ≡ true → operands_in kind operands ≡ Some o → IsShort word operands o
operands_short kinds.Nothing word operands o long is = none_short word operands o is
operands_short kinds.Number word operands o long is =
    let n = mapped (λ n. Number n) (only_count operands) o is in
    omega (arith, leb-true 3 (length word) long, counted operands n.0 n.1, ap bytes_with n.2)
operands_short kinds.Vector word operands o long is =
    let v = mapped (λ v. Vector v) (only_vector operands) o is in
    omega (arith, leb-true 3 (length word) long, three_axes operands v.0 v.1, ap bytes_with v.2)
operands_short kinds.NumberAndVector word operands o long is = both_short word operands o (leb-true 3 (length word) long) is

-- the verb and the operands of a form
pub record IsForm (word : List ℕ) (operands : List (List ℕ)) (c : Command) : Type 0 where
  pub verb : Verb
  pub given : Operands
  pub named : (row verb).word ≡ word
  pub read : operands_in (row verb).kind operands ≡ Some given
  pub parts : verb_and_operands c ≡ (verb, given)

pub form_is : (word : List ℕ) (operands : List (List ℕ)) (c : Command) → form word operands ≡ Some c → IsForm word operands c
unfolding form
form_is word operands c is =
    let v = chained (λ v. option_and_then (command_with v) (operands_in (row v).kind operands)) (verb_named word) c is in
    let o = chained (command_with v.0) (operands_in (row v.0).kind operands) c v.2 in
    record { verb = v.0; given = o.0; named = word_is word v.0 v.1; read = o.1; parts = parted v.0 o.0 c o.2 }

form_short : (word : List ℕ) (operands : List (List ℕ)) (c : Command) → form word operands ≡ Some c
    → most_bytes c ≤ 4 * room (word ∷ operands)
form_short word operands c is =
    let f = form_is word operands c is in
    let kind = (row f.verb).kind in
    let long : (is_nothing kind || nat_le 3 (length word)) ≡ true =
    subst (λ w. (is_nothing kind || nat_le 3 (length w)) ≡ true) f.named (all_long f.verb) in
    rw f.parts (operands_short kind word operands f.given long f.read)

-- ---- the commands of a script

-- the bytes of the entries of these commands, but for their sums
abbrev pub all_bytes : List Command → ℕ
all_bytes [] = 0
all_bytes (c ∷ cs) = most_bytes c + all_bytes cs

pub inspect : {A : Type 0} (o : Option A) → (o ≡ None) ⊎ ((x : A) × (o ≡ Some x))
inspect None = inl refl
inspect (Some x) = inr (x, refl)

read_short : (word : List ℕ) (operands : List (List ℕ)) → most_bytes (unwrap_or (form word operands) Bad) ≤ 4 * room (word ∷ operands)
read_short word operands = elim (inspect (form word operands)) [
  | inl none ↦ rw none (omega arith)
  | inr some ↦ rw some.1 (form_short word operands some.0 some.1)
]

added : (comment : Bool) (c : Command) (cs : List Command) (line all : ℕ) → most_bytes c ≤ 4 * line → all_bytes cs ≤ 4 * all
    → all_bytes (cons_option (cond comment None (Some c)) cs) ≤ 4 * (line + all)
added true c cs line all fits le = omega arith
added false c cs line all fits le = omega arith

words_added : (ws : List (List ℕ)) (cs : List Command) (all : ℕ) → all_bytes cs ≤ 4 * all
    → all_bytes (cons_option (words_command ws) cs) ≤ 4 * (room ws + all)
words_added [] cs all le = omega arith
words_added (word ∷ operands) cs all le = added (starts_with nat_eq word (codes "#")) (unwrap_or (form word operands) Bad) cs
    (room (word ∷ operands)) all (read_short word operands) le

lines_short : (lines : List (List ℕ)) → all_bytes (filter_map line_command lines) ≤ 4 * room lines
lines_short [] = omega arith
lines_short (line ∷ lines) =
    omega (
      arith,
      words_added (words (strip_carriage_return line)) (filter_map line_command lines) (room lines) (lines_short lines),
      words_room line,
    )

pub script_short : (script : List ℕ) → all_bytes (commands script) ≤ 4 * (length script + 1)
unfolding commands
script_short script = omega (arith, lines_short (pieces script), split_room (λ b. b == 10) script)
