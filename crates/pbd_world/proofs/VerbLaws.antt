-- Taking a command apart and putting it together are each other's inverse, and no two rows have one word or one code.
use Rattle.std.proofs.Common.{◌≡◌, sym, refl, subst, ℕ, Option, Some, List, [], ◌∷◌, Bool, true, false, cond}
use Rattle.std.specs.Prelude.{◌==◌, ◌&&◌, bytes_eq, IfSome}
use Rattle.std.specs.List.{find, list_all}
use Rattle.std.proofs.lemmas.Bool.{and_parts, eqb-true}
use Rattle.std.proofs.lemmas.Slice.Eq.{bytes_eq-Decides}
use Rattle.pbd_num.specs.declared.Vec3.{Vec3}
use Rattle.pbd_world.specs.declared.command.Command.{Command}
use Rattle.pbd_world.specs.declared.command.Command.TheVariants.{Step}
use Rattle.pbd_world.specs.declared.command.Verb.{Verb}
use Rattle.pbd_world.specs.declared.command.Verb.TheVariants as verbs
use Rattle.pbd_world.specs.declared.command.Operands.{Operands}
use Rattle.pbd_world.specs.declared.command.Operands.TheVariants.{Nothing, Number, Vector, NumberAndVector}
use Rattle.pbd_world.specs.Verbs.{TableRow, row, all_verbs, verb_named, verb_coded, verb_and_operands}
use Rattle.pbd_world.specs.Verbs.{command_with, kind_of}

-- ---- what is found passes

found_case : {X : Type 0} (passes : X → Bool) (b : Bool) (y x : X) (others : Option X) → passes y ≡ b
    → (others ≡ Some x → passes x ≡ true) → cond b (Some y) others ≡ Some x → passes x ≡ true
found_case passes true y x others is rest e = let same : y ≡ x = cc in subst (λ z. passes z ≡ true) same is
found_case passes false y x others is rest e = rest e

pub found_passes : {X : Type 0} (passes : X → Bool) (xs : List X) (x : X) → find passes xs ≡ Some x → passes x ≡ true
found_passes passes [] x e = cc
found_passes passes (y ∷ ys) x e = found_case passes (passes y) y x (find passes ys) refl (found_passes passes ys x) e

also_case : {X : Type 0} (also : X → Bool) (b all : Bool) (y x : X) (others : Option X) → (also y && all) ≡ true
    → (all ≡ true → others ≡ Some x → also x ≡ true) → cond b (Some y) others ≡ Some x → also x ≡ true
also_case also true all y x others is rest e =
    let same : y ≡ x = cc in subst (λ z. also z ≡ true) same (and_parts (also y) all is).0
also_case also false all y x others is rest e = rest (and_parts (also y) all is).1 e

-- and so does each test that all pass
found_also : {X : Type 0} (passes also : X → Bool) (xs : List X) (x : X) → list_all also xs ≡ true → find passes xs ≡ Some x
    → also x ≡ true
found_also passes also [] x all e = cc
found_also passes also (y ∷ ys) x all e =
    also_case also (passes y) (list_all also ys) y x (find passes ys) all (found_also passes also ys x) e

-- ---- a verb's row

-- a verb is found by its word, and by its code
pub record IsFound (v : Verb) : Type 0 where
  pub named : verb_named (row v).word ≡ Some v
  pub coded : verb_coded (row v).code ≡ Some v

pub verb_found : (v : Verb) → IsFound v
unfolding verb_named verb_coded row
verb_found verbs.Step = record { named = refl; coded = refl }
verb_found v = record { named = refl; coded = refl }

-- so a test that all rows pass is passed by each verb's
pub rows_pass : (test : TableRow → Bool) → list_all (λ v. test (row v)) all_verbs ≡ true → (v : Verb) → test (row v) ≡ true
unfolding verb_named
rows_pass test all v = found_also (λ u. bytes_eq (row v).word (row u).word) (λ u. test (row u)) all_verbs v all (verb_found v).named

pub word_is : (word : List ℕ) (v : Verb) → verb_named word ≡ Some v → (row v).word ≡ word
unfolding verb_named
word_is word v is = sym ((bytes_eq-Decides word (row v).word).0 (found_passes (λ u. bytes_eq word (row u).word) all_verbs v is))

pub code_is : (code : ℕ) (v : Verb) → verb_coded code ≡ Some v → (row v).code ≡ code
unfolding verb_coded
code_is code v is = eqb-true (row v).code code (found_passes (λ u. (row u).code == code) all_verbs v is)

-- ---- there and back

-- a command is put together from its parts, whose kind is that of its row
pub record IsTogether (c : Command) : Type 0 where
  pub again : command_with (verb_and_operands c).0 (verb_and_operands c).1 ≡ Some c
  pub kind : (row (verb_and_operands c).0).kind ≡ kind_of (verb_and_operands c).1

pub together : (c : Command) → IsTogether c
unfolding row
together (Step n) = record { again = refl; kind = refl }
together c = record { again = refl; kind = refl }

-- what command_with gives of operands is taken apart into these again
abbrev Parted : Verb → Operands → Type 0
Parted v o = IfSome (command_with v o) (λ c. verb_and_operands c ≡ (v, o))

parted_nothing : (v : Verb) → Parted v Nothing
parted_nothing verbs.Frame = refl
parted_nothing v = search

parted_number : (v : Verb) (n : ℕ) → Parted v (Number n)
parted_number verbs.Step n = refl
parted_number v n = search

parted_vector : (v : Verb) (w : Vec3) → Parted v (Vector w)
parted_vector verbs.Gravity w = refl
parted_vector v w = search

parted_both : (v : Verb) (n : ℕ) (w : Vec3) → Parted v (NumberAndVector n w)
parted_both verbs.Move n w = refl
parted_both v n w = search

parted_as : (v : Verb) (o : Operands) → Parted v o
parted_as v Nothing = parted_nothing v
parted_as v (Number n) = parted_number v n
parted_as v (Vector w) = parted_vector v w
parted_as v (NumberAndVector n w) = parted_both v n w

pub parted : (v : Verb) (o : Operands) (c : Command) → command_with v o ≡ Some c → verb_and_operands c ≡ (v, o)
parted v o c e = subst {A = Option Command} (λ x. IfSome x (λ d. verb_and_operands d ≡ (v, o))) e (parted_as v o)
