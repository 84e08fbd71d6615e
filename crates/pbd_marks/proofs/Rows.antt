-- Worked rows: what the definitions compute.
use Rattle.std.specs.Prelude.{◌≡◌, refl, [], ◌∷◌, ◌++◌, codes, Some, None}
use Rattle.pbd_world.specs.declared.command.Command.TheVariants.{Bad, Frame}
use Rattle.pbd_world.specs.Verbs.{row, verb_named}
use Rattle.pbd_script.specs.Commands.{form}
use Rattle.pbd_marks.specs.declared.command.MarkCommand.TheVariants.{Plain, Mark, Rewind}
use Rattle.pbd_marks.specs.Script.{mark_form, mark_line_command, mark_commands}

-- ---- lines

sets : mark_line_command (codes " mark  007") ≡ Some (Mark 7)
unfolding mark_form
sets = refl

goes_back : mark_line_command (codes "rewind 12") ≡ Some (Rewind 12)
unfolding mark_form
goes_back = refl

no_count : mark_line_command (codes "mark x") ≡ Some (Plain Bad)
unfolding mark_form form verb_named row
no_count = refl

two_counts : mark_line_command (codes "rewind 1 2") ≡ Some (Plain Bad)
unfolding mark_form form verb_named row
two_counts = refl

comment : mark_line_command (codes "# mark 1") ≡ None
unfolding mark_form
comment = refl

script : mark_commands (codes "mark 0" ++ 13 ∷ 10 ∷ 10 ∷ codes "frame" ++ 10 ∷ codes "rewind 0") ≡ Mark 0 ∷ Plain Frame ∷ Rewind 0 ∷ []
unfolding mark_commands mark_form form verb_named row
script = refl
