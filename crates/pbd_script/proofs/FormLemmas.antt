-- What the table says of each word, written out.
use Rattle.std.proofs.Common.{◌≡◌, refl, ℕ, List, [], ◌∷◌, Option, Some, None, codes}
use Rattle.std.specs.Option.{option_map, option_and_then}
use Rattle.pbd_num.specs.declared.Vec3.{Vec3}
use Rattle.pbd_world.specs.declared.command.Command.{Command}
use Rattle.pbd_world.specs.declared.command.Command.TheVariants.{Step, Frame, Pin, Unpin, Move, Cut, Gravity, Ledger}
use Rattle.pbd_world.specs.declared.command.Operands.TheVariants.{Number, Vector, NumberAndVector}
use Rattle.pbd_world.specs.Verbs.{row, verb_named, the_number, the_vector, number_and_vector}
use Rattle.pbd_script.specs.Lines.{count, only_count}
use Rattle.pbd_script.specs.Commands.{only_vector, form}

numbered : (command : ℕ → Command) (n : Option ℕ)
    → option_and_then (λ o. option_map (λ k. command k) (the_number o)) (option_map (λ k. Number k) n) ≡ option_map (λ k. command k) n
numbered command None = refl
numbered command (Some n) = refl

-- lines of this word give the command of the number that alone stands behind it
abbrev GivesNumber : List ℕ → (ℕ → Command) → Type 0
GivesNumber word command = (ws : List (List ℕ)) → form word ws ≡ option_map command (only_count ws)

record NumberLines : Type 0 where
  step : GivesNumber (codes "step") (λ n. Step n)
  pin : GivesNumber (codes "pin") (λ i. Pin i)
  unpin : GivesNumber (codes "unpin") (λ i. Unpin i)
  cut : GivesNumber (codes "cut") (λ n. Cut n)

number_lines : NumberLines
unfolding form verb_named row
number_lines = record {
  step = λ ws. numbered (λ n. Step n) (only_count ws);
  pin = λ ws. numbered (λ i. Pin i) (only_count ws);
  unpin = λ ws. numbered (λ i. Unpin i) (only_count ws);
  cut = λ ws. numbered (λ n. Cut n) (only_count ws);
}

with_axes : (g : Option Vec3)
    → option_and_then (λ o. option_map (λ v. Gravity v) (the_vector o)) (option_map (λ v. Vector v) g) ≡ option_map (λ v. Gravity v) g
with_axes None = refl
with_axes (Some g) = refl

gravity_lines : (ws : List (List ℕ)) → form (codes "gravity") ws ≡ option_map (λ g. Gravity g) (only_vector ws)
unfolding form verb_named row
gravity_lines ws = with_axes (only_vector ws)

placed : (i : Option ℕ) (to : Option Vec3)
    → option_and_then (λ o. option_map (λ x. Move x.0 x.1) (number_and_vector o))
    (option_and_then (λ n. option_map (λ v. NumberAndVector n v) to) i)
    ≡ option_and_then (λ n. option_map (λ v. Move n v) to) i
placed None to = refl
placed (Some i) None = refl
placed (Some i) (Some to) = refl

move_lines : (i : List ℕ) (axes : List (List ℕ))
    → form (codes "move") (i ∷ axes) ≡ option_and_then (λ n. option_map (λ v. Move n v) (only_vector axes)) (count i)
unfolding form verb_named row
move_lines i axes = placed (count i) (only_vector axes)

move_needs_more : form (codes "move") [] ≡ None
unfolding form verb_named row
move_needs_more = refl

-- lines of this word give the command where nothing stands behind it, and none where something does
abbrev GivesAlone : List ℕ → Command → Type 0
GivesAlone word command = (form word [] ≡ Some command) × ((w : List ℕ) (ws : List (List ℕ)) → form word (w ∷ ws) ≡ None)

frame_lines : GivesAlone (codes "frame") Frame
unfolding form verb_named row
frame_lines = (refl, λ w ws. refl)

ledger_lines : GivesAlone (codes "ledger") Ledger
unfolding form verb_named row
ledger_lines = (refl, λ w ws. refl)
