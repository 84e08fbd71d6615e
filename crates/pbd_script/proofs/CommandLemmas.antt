-- A script's commands, line by line.
use Rattle.std.proofs.Common.{◌≡◌, refl, ℕ, ◌+◌, ◌≤◌, List, [], ◌∷◌, ◌++◌, length, Option, Some, None, Bool, true, false, arith, cond, ap}
use Rattle.std.proofs.Common.{◌∙◌, ◌<◌}
use Rattle.std.specs.Prelude.{filter_map, ◌==◌}
use Rattle.std.specs.List.{cons_option, slice_split, onto_first}
use Rattle.std.proofs.lemmas.List.Elements.{filter_map-append}
use Rattle.std.proofs.lemmas.List.Splits.{length-slice_split}
use Rattle.std.proofs.lemmas.List.Sums.{count_by-le-length}
use Rattle.pbd_script.specs.Lines.{pieces}
use Rattle.pbd_script.specs.Commands.{line_command, commands}

pub cons_le : {Y : Type 0} (o : Option Y) (ys : List Y) → length (cons_option o ys) ≤ length ys + 1
cons_le None ys = omega arith
cons_le (Some y) ys = omega arith

pub filter_map_le : {X Y : Type 0} (f : X → Option Y) (xs : List X) → length (filter_map f xs) ≤ length xs
filter_map_le f [] = omega arith
filter_map_le f (x ∷ xs) = omega (arith, cons_le (f x) (filter_map f xs), filter_map_le f xs)

-- a text has no more lines than bytes, but for one
pub pieces_few : (s : List ℕ) → length (pieces s) ≤ length s + 1
pieces_few s = omega (arith, length-slice_split (λ b. b == 10) s, count_by-le-length (λ b. b == 10) s)

-- and no more commands than lines
pub few_by_line : {C : Type 0} (f : List ℕ → Option C) (s : List ℕ) → length (filter_map f (pieces s)) ≤ length s + 1
few_by_line f s = omega (arith, filter_map_le f (pieces s), pieces_few s)

pub commands_few : (s : List ℕ) → length (commands s) ≤ length s + 1
unfolding commands
commands_few s = few_by_line line_command s

-- ---- texts side by side

onto_apart : {X : Type 0} (z : X) (front back : List (List X)) → 0 < length front
    → onto_first z (front ++ back) ≡ onto_first z front ++ back
onto_apart z [] back some = absurd (omega arith)
onto_apart z (part ∷ parts) back some = refl

either_apart : {X : Type 0} (b : Bool) (z : X) (whole front back : List (List X)) → whole ≡ front ++ back → 0 < length front
    → cond b ([] ∷ whole) (onto_first z whole) ≡ cond b ([] ∷ front) (onto_first z front) ++ back
either_apart true z whole front back is some = ap (λ t. [] ∷ t) is
either_apart false z whole front back is some = ap (onto_first z) is ∙ onto_apart z front back some

-- the parts of two texts with a separator between them
pub split_apart : {X : Type 0} (p : X → Bool) (xs : List X) (x : X) (ys : List X) → p x ≡ true
    → slice_split p (xs ++ x ∷ ys) ≡ slice_split p xs ++ slice_split p ys
split_apart p [] x ys is = rw is refl
split_apart p (z ∷ xs) x ys is = either_apart (p z) z _ (slice_split p xs) (slice_split p ys) (split_apart p xs x ys is)
    (omega (arith, length-slice_split p xs))

pub commands_apart : (front back : List ℕ) → commands (front ++ 10 ∷ back) ≡ commands front ++ commands back
unfolding commands
commands_apart front back = rw (split_apart (λ b. b == 10) front 10 back refl) (filter_map-append line_command (pieces front) (pieces back))
