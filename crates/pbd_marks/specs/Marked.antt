-- A world and eight marks, and what each command of a marks script does to them.
use Rattle.std.specs.Prelude.{◌≡◌, ◌≢◌, ℕ, ◌+◌, nat_lt, Bool, true, if◌then◌else◌, codes, List, [], ◌∷◌, ◌++◌, slice_set, Option, Some}
use Rattle.std.specs.Prelude.{None, Result, Ok, Err, All}
use Rattle.std.specs.List.{slice_index_or}
use Rattle.pbd_world.specs.declared.command.Reply.{Reply}
use Rattle.pbd_world.specs.declared.command.Reply.TheVariants.{Done}
use Rattle.pbd_world.specs.World.{World}
use Rattle.pbd_world.specs.Meaning.{after, reply}
use Rattle.pbd_world.specs.Session.{is_refused}
use Rattle.pbd_world.specs.Text.{line, text}
use Rattle.pbd_marks.specs.declared.command.MarkCommand.{MarkCommand}
use Rattle.pbd_marks.specs.declared.command.MarkCommand.TheVariants.{Plain, Mark, Rewind}
use Rattle.pbd_marks.specs.declared.command.MarkRefusal.{MarkRefusal}
use Rattle.pbd_marks.specs.declared.command.MarkRefusal.TheVariants.{BadMark, MarkEmpty}

-- ---- marks

abbrev pub no_marks : List (Option World)
no_marks = None ∷ None ∷ None ∷ None ∷ None ∷ None ∷ None ∷ None ∷ []

abbrev pub mark_at : List (Option World) → ℕ → Option World
mark_at marks k = slice_index_or marks k None

-- the marks with mark k at a world, or why not
abbrev pub set : List (Option World) → ℕ → World → Result (List (Option World)) MarkRefusal
set marks k w = if nat_lt 7 k then Err BadMark else Ok (slice_set marks k (Some w))

abbrev pub kept : Option World → Result World MarkRefusal
kept None = Err MarkEmpty
kept (Some w) = Ok w

-- the world of mark k, or why there is none
abbrev pub rewound : List (Option World) → ℕ → Result World MarkRefusal
rewound marks k = if nat_lt 7 k then Err BadMark else kept (mark_at marks k)

-- ---- commands

pub record Marked : Type 0 where
  pub world : World
  pub marks : List (Option World)

-- before the first command
abbrev pub unmarked : World → Marked
unmarked w = record { world = w; marks = no_marks }

-- a mark is set, or all stays
abbrev pub with_marks : Marked → Result (List (Option World)) MarkRefusal → Marked × Result Reply MarkRefusal
with_marks m (Ok marks) = (record m { marks = marks }, Ok Done)
with_marks m (Err r) = (m, Err r)

-- the world goes back, or all stays
abbrev pub with_world : Marked → Result World MarkRefusal → Marked × Result Reply MarkRefusal
with_world m (Ok w) = (record m { world = w }, Ok Done)
with_world m (Err r) = (m, Err r)

-- the world and the marks after a command, and the answer
unfoldable pub marked_meaning : Marked → MarkCommand → Marked × Result Reply MarkRefusal
marked_meaning m (Plain c) = (record m { world = after m.world c }, Ok (reply m.world c))
marked_meaning m (Mark k) = with_marks m (set m.marks k m.world)
marked_meaning m (Rewind k) = with_world m (rewound m.marks k)

abbrev pub marked_after : Marked → MarkCommand → Marked
marked_after m c = (marked_meaning m c).0

abbrev pub answer : Marked → MarkCommand → Result Reply MarkRefusal
answer m c = (marked_meaning m c).1

-- ---- what is printed and counted

abbrev pub mark_refusal_words : MarkRefusal → List (List ℕ)
mark_refusal_words BadMark = codes "13" ∷ codes "BadMark" ∷ []
mark_refusal_words MarkEmpty = codes "14" ∷ codes "MarkEmpty" ∷ []

unfoldable pub mark_refusal_line : MarkRefusal → List ℕ
mark_refusal_line r = line (codes "refused" ∷ mark_refusal_words r)

-- the lines of an answer, with frames and ledgers read from the world after the command
abbrev pub answer_text : World → Result Reply MarkRefusal → List ℕ
answer_text w (Ok reply) = text w reply
answer_text w (Err r) = mark_refusal_line r

abbrev pub is_refused_answer : Result Reply MarkRefusal → Bool
is_refused_answer (Ok reply) = is_refused reply
is_refused_answer (Err r) = true

-- the world and the marks after all the commands
abbrev pub last_marked : Marked → List MarkCommand → Marked
last_marked m [] = m
last_marked m (c ∷ cs) = last_marked (marked_after m c) cs

-- what is printed for commands
unfoldable pub marked_text : Marked → List MarkCommand → List ℕ
marked_text m [] = []
marked_text m (c ∷ cs) = answer_text (marked_after m c).world (answer m c) ++ marked_text (marked_after m c) cs

-- how many commands are refused
unfoldable pub marked_refused_count : Marked → List MarkCommand → ℕ
marked_refused_count m [] = 0
marked_refused_count m (c ∷ cs) = (if is_refused_answer (answer m c) then 1 else 0) + marked_refused_count (marked_after m c) cs

-- ---- going back

-- none of the commands sets mark k
abbrev pub LeavesMark : ℕ → List MarkCommand → Type 0
LeavesMark k commands = All (λ c. c ≢ Mark k) commands

-- the later commands go back to no mark that the earlier ones set
abbrev pub LeavesMarksOf : List MarkCommand → List MarkCommand → Type 0
LeavesMarksOf later earlier = All (λ c. (k : ℕ) → c ≡ Rewind k → LeavesMark k earlier) later

-- where mark k was set, other commands came between, and the world went back to it
abbrev pub gone_back : Marked → ℕ → List MarkCommand → Marked
gone_back m k between = marked_after (last_marked (marked_after m (Mark k)) between) (Rewind k)

-- Going back takes back the commands between: later commands do what they do right after the mark was set.
pub record TakesBack (m : Marked) (k : ℕ) (between later : List MarkCommand) : Type 0 where
  pub world : (gone_back m k between).world ≡ m.world
  pub text : marked_text (gone_back m k between) later ≡ marked_text (marked_after m (Mark k)) later
  pub refused : marked_refused_count (gone_back m k between) later ≡ marked_refused_count (marked_after m (Mark k)) later
  pub last : (last_marked (gone_back m k between) later).world ≡ (last_marked (marked_after m (Mark k)) later).world
