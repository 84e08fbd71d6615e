-- The numbers of a script's commands fit their types.
use Rattle.std.proofs.Common.{◌≡◌, refl, ℕ, suc, ◌-◌, ◌*◌, ◌<◌, ◌≤◌, ◌^◌, inl, inr, Bool, true, false, cond, List, [], ◌∷◌, length, Option}
use Rattle.std.proofs.Common.{Some, None, ℤ, pos, w64, FitsSigned, arith, unsigned_abs, subst}
use Rattle.std.specs.Prelude.{◌==◌, ◌&&◌, nat_le, nat_eq, codes, filter_map, unwrap_or, neg_ℤ}
use Rattle.std.specs.List.{AllByRecursion, cons_option, list_all, starts_with}
use Rattle.std.specs.Option.{option_map, option_and_then}
use Rattle.std.specs.Str.Lines.{strip_carriage_return}
use Rattle.std.proofs.Math.Nat.{mul-le-mul_right}
use Rattle.std.proofs.lemmas.Bool.{and_parts, leb-true}
use Rattle.pbd_num.specs.declared.Vec3.{Vec3}
use Rattle.pbd_num.proofs.Sizes.{fits, size-neg}
use Rattle.pbd_world.specs.declared.command.Command.{Command}
use Rattle.pbd_world.specs.declared.command.Command.TheVariants.{Bad}
use Rattle.pbd_world.specs.declared.command.OperandKind.{OperandKind}
use Rattle.pbd_world.specs.declared.command.OperandKind.TheVariants as kinds
use Rattle.pbd_world.specs.declared.command.Operands.{Operands}
use Rattle.pbd_world.specs.declared.command.Operands.TheVariants.{Nothing, Number, Vector, NumberAndVector}
use Rattle.pbd_world.specs.Verbs.{row}
use Rattle.pbd_script.specs.Lines.{pieces, words, is_digit, value, count, is_count, number, only_count}
use Rattle.pbd_script.specs.Commands.{nothing, vector_of, only_vector, number_and_vector, operands_in, form, words_command, line_command, commands}
use Rattle.pbd_script.proofs.NumberLemmas.{of_digits, digit_small}
use Rattle.pbd_log.specs.Entries.{CommandFits, OperandsFit, VectorFits}
use Rattle.pbd_outcome.proofs.ShortLines.{inspect, mapped, form_is}

-- ---- numbers

value_below : (digits : List ℕ) → list_all is_digit digits ≡ true → value digits < 10 ^ length digits
value_below [] all = omega arith
value_below (digit ∷ digits) all =
    let both = and_parts (is_digit digit) (list_all is_digit digits) all in
    let most : (digit - 48) * 10 ^ length digits ≤ 9 * 10 ^ length digits =
    mul-le-mul_right (10 ^ length digits) (digit_small digit both.0) in
    let rest : value digits < 10 ^ length digits = value_below digits both.1 in
    let ten : 10 ^ suc (length digits) ≡ 10 ^ length digits * 10 = omega arith in
    rw ten (omega (arith, most, rest))

counted_below : (word : List ℕ) → is_count word ≡ true → value word < 1000000000000000000
counted_below word is =
    let all = and_parts (nat_le 1 (length word) && nat_le (length word) 18) (list_all is_digit word) is in
    let size = and_parts (nat_le 1 (length word)) (nat_le (length word) 18) all.0 in
    of_digits (value word) (length word) (value_below word all.1) (leb-true (length word) 18 size.1)

some_below : (is : Bool) (v n : ℕ) → (is ≡ true → v < 1000000000000000000) → cond is (Some v) None ≡ Some n → n < 1000000000000000000
some_below true v n below e = let same : v ≡ n = cc in omega (arith, below refl, same)
some_below false v n below e = cc

count_below : (word : List ℕ) (n : ℕ) → count word ≡ Some n → n < 1000000000000000000
count_below word n is = some_below (is_count word) (value word) n (counted_below word) is

signed_fits : (z : ℤ) (n : ℕ) → n < 1000000000000000000 → unsigned_abs z ≡ n → FitsSigned w64 z
signed_fits z n below is = fits z (omega (arith, below, is))

either_fits : (minus : Bool) (first : ℕ) (rest : List ℕ) (z : ℤ)
    → cond minus (option_map (λ n. neg_ℤ (pos n)) (count rest)) (option_map (λ n. pos n) (count (first ∷ rest))) ≡ Some z → FitsSigned w64 z
either_fits true first rest z is =
    let n = mapped (λ n. neg_ℤ (pos n)) (count rest) z is in
    subst (FitsSigned w64) n.2 (signed_fits (neg_ℤ (pos n.0)) n.0 (count_below rest n.0 n.1) (size-neg (pos n.0)))
either_fits false first rest z is =
    let n = mapped (λ n. pos n) (count (first ∷ rest)) z is in
    subst (FitsSigned w64) n.2 (signed_fits (pos n.0) n.0 (count_below (first ∷ rest) n.0 n.1) refl)

number_fits : (word : List ℕ) (z : ℤ) → number word ≡ Some z → FitsSigned w64 z
number_fits [] z is = absurd cc
number_fits (first ∷ rest) z is = either_fits (first == 45) first rest z is

-- ---- commands

nothing_fits : (operands : List (List ℕ)) (o : Operands) → nothing operands ≡ Some o → OperandsFit o
nothing_fits [] o is = let e : Nothing ≡ o = cc in subst OperandsFit e tt
nothing_fits (operand ∷ more) o is = absurd cc

only_below : (operands : List (List ℕ)) (n : ℕ) → only_count operands ≡ Some n → n < 1000000000000000000
only_below [] n is = cc
only_below (word ∷ []) n is = count_below word n is
only_below (word ∷ next ∷ more) n is = cc

number_operand_fits : (operands : List (List ℕ)) (o : Operands) → option_map (λ n. Number n) (only_count operands) ≡ Some o → OperandsFit o
number_operand_fits operands o is =
    let n = mapped (λ n. Number n) (only_count operands) o is in
    subst OperandsFit n.2 (omega (arith, only_below operands n.0 n.1))

vector_fits : (x y z : Option ℤ) (v : Vec3) → ((a : ℤ) → x ≡ Some a → FitsSigned w64 a) → ((a : ℤ) → y ≡ Some a → FitsSigned w64 a)
    → ((a : ℤ) → z ≡ Some a → FitsSigned w64 a) → vector_of x y z ≡ Some v → VectorFits v
vector_fits (Some a) (Some b) (Some c) v f g h is =
    let e : (let u : Vec3 = record { x = a; y = b; z = c } in u ≡ v) = cc in
    subst VectorFits e (f a refl, g b refl, h c refl)
vector_fits None y z v f g h is = absurd cc
vector_fits (Some a) None z v f g h is = absurd cc
vector_fits (Some a) (Some b) None v f g h is = absurd cc

only_fits : (operands : List (List ℕ)) (v : Vec3) → only_vector operands ≡ Some v → VectorFits v
only_fits [] v is = absurd cc
only_fits (x ∷ []) v is = absurd cc
only_fits (x ∷ y ∷ []) v is = absurd cc
only_fits (x ∷ y ∷ z ∷ []) v is = vector_fits (number x) (number y) (number z) v (number_fits x) (number_fits y) (number_fits z) is
only_fits (x ∷ y ∷ z ∷ w ∷ more) v is = absurd cc

vector_operand_fits : (operands : List (List ℕ)) (o : Operands) → option_map (λ v. Vector v) (only_vector operands) ≡ Some o → OperandsFit o
vector_operand_fits operands o is =
    let v = mapped (λ v. Vector v) (only_vector operands) o is in
    subst OperandsFit v.2 (only_fits operands v.0 v.1)

counted_fits : (n : Option ℕ) (axes : List (List ℕ)) (o : Operands) → ((k : ℕ) → n ≡ Some k → k < 1000000000000000000)
    → option_and_then (λ n. option_map (λ v. NumberAndVector n v) (only_vector axes)) n ≡ Some o → OperandsFit o
counted_fits None axes o below is = absurd cc
counted_fits (Some k) axes o below is =
    let v = mapped (λ v. NumberAndVector k v) (only_vector axes) o is in
    subst OperandsFit v.2 (omega (arith, below k refl), only_fits axes v.0 v.1)

both_fit : (operands : List (List ℕ)) (o : Operands) → number_and_vector operands ≡ Some o → OperandsFit o
both_fit [] o is = absurd cc
both_fit (number ∷ axes) o is = counted_fits (count number) axes o (count_below number) is

operands_fit : (kind : OperandKind) (operands : List (List ℕ)) (o : Operands) → operands_in kind operands ≡ Some o → OperandsFit o
operands_fit kinds.Nothing operands o is = nothing_fits operands o is
operands_fit kinds.Number operands o is = number_operand_fits operands o is
operands_fit kinds.Vector operands o is = vector_operand_fits operands o is
operands_fit kinds.NumberAndVector operands o is = both_fit operands o is

form_fits : (word : List ℕ) (operands : List (List ℕ)) (c : Command) → form word operands ≡ Some c → CommandFits c
form_fits word operands c is =
    let f = form_is word operands c is in
    rw f.parts (operands_fit (row f.verb).kind operands f.given f.read)

read_fits : (word : List ℕ) (operands : List (List ℕ)) → CommandFits (unwrap_or (form word operands) Bad)
read_fits word operands = elim (inspect (form word operands)) [
  | inl none ↦ rw none tt
  | inr some ↦ rw some.1 (form_fits word operands some.0 some.1)
]

either_added : (comment : Bool) (c : Command) (cs : List Command) → CommandFits c → AllByRecursion CommandFits cs
    → AllByRecursion CommandFits (cons_option (cond comment None (Some c)) cs)
either_added true c cs fit all = all
either_added false c cs fit all = (fit, all)

words_added : (ws : List (List ℕ)) (cs : List Command) → AllByRecursion CommandFits cs
    → AllByRecursion CommandFits (cons_option (words_command ws) cs)
words_added [] cs all = all
words_added (word ∷ operands) cs all = either_added (starts_with nat_eq word (codes "#")) (unwrap_or (form word operands) Bad) cs
    (read_fits word operands) all

lines_fit : (lines : List (List ℕ)) → AllByRecursion CommandFits (filter_map line_command lines)
lines_fit [] = tt
lines_fit (line ∷ lines) = words_added (words (strip_carriage_return line)) (filter_map line_command lines) (lines_fit lines)

pub script_fits : (script : List ℕ) → AllByRecursion CommandFits (commands script)
unfolding commands
script_fits script = lines_fit (pieces script)
