-- An entry that is read is the entry that was written, and what was written is read again.
use Rattle.std.proofs.Common.{◌≡◌, ◌∙◌, sym, ap, subst, refl, ℕ, ◌^◌, ◌<◌, ◌≤◌, ◌⊎◌, inl, inr, Bool, true, false, cond, eqb, ltb, leb, List}
use Rattle.std.proofs.Common.{[], ◌∷◌, ◌++◌, Option, Some, None, append_assoc, append-nil, arith}
use Rattle.std.specs.Prelude.{IfSome}
use Rattle.std.proofs.lemmas.Bool.{eqb-true, leb-true, ltb-false, le-ltb}
use Rattle.std.proofs.lemmas.Bool.Decides.{nat_tests}
use Rattle.pbd_world.specs.declared.command.Command.{Command}
use Rattle.pbd_world.specs.declared.command.Verb.{Verb}
use Rattle.pbd_world.specs.declared.command.OperandKind.{OperandKind}
use Rattle.pbd_world.specs.declared.command.OperandKind.TheVariants as kinds
use Rattle.pbd_world.specs.declared.command.Operands.{Operands}
use Rattle.pbd_world.specs.declared.command.Operands.TheVariants.{Nothing, Number, Vector, NumberAndVector}
use Rattle.pbd_world.specs.Verbs.{row, verb_coded, verb_and_operands, command_with, kind_of}
use Rattle.pbd_world.proofs.VerbLaws.{verb_found, code_is, together, parted}
use Rattle.pbd_world.specs.declared.command.FrameSums.{FrameSums}
use Rattle.pbd_log.specs.declared.entry.Answer.{Answer}
use Rattle.pbd_log.specs.declared.entry.Entry.{Entry}
use Rattle.pbd_log.specs.Laws.{IsBytes}
use Rattle.pbd_log.specs.Entries.{number_bytes, vector_bytes, VectorFits, operand_bytes, OperandsFit, command_bytes, CommandFits}
use Rattle.pbd_log.specs.Entries.{plain, leaves, too_many, IsAnswer}
use Rattle.pbd_log.specs.Entries.{answer_bytes, SumsFit, sums_bytes, axes_bytes, AreAxes, optional_bytes, StandExactly, has_sums, IsEntry}
use Rattle.pbd_log.specs.Entries.{entry_bytes}
use Rattle.pbd_log.specs.Reading.{byte_at, number_at, vector_at, operands_at, command_at, leaves_at}
use Rattle.pbd_log.specs.Reading.{too_many_at, carried_at, answer_at, axes_at, sums_at, optional_at, entry_at}
use Rattle.pbd_log.proofs.Fields.{Takes, takes_then, IsField, step_takes, bind_some, some_is, guard_none, number_field, vector_field, axes_field}
use Rattle.pbd_log.proofs.Fields.{regroup3}
use Rattle.pbd_log.proofs.Fields.{byte_field}

chosen : {A : Type 0} (b : Bool) (x y z : A) → cond b x y ≡ z → ((b ≡ true) × (x ≡ z)) ⊎ ((b ≡ false) × (y ≡ z))
chosen true x y z e = inl (refl, e)
chosen false x y z e = inr (refl, e)

pub none_some : {A : Type 0} (x : A) → (let some : A → Option A = λ a. Some a in let none : Option A = None in none ≡ some x) → ⊥
none_some x e = cc

-- ---- commands

-- operands of a kind that were taken from the front
record AreOperands (kind : OperandKind) (bytes : List ℕ) (x : Operands) (rest : List ℕ) : Type 0 where
  pub takes : Takes bytes (operand_bytes x) rest
  pub fits : OperandsFit x

operands_take : (kind : OperandKind) (bytes : List ℕ) (x : Operands) (rest : List ℕ) → IsBytes bytes
    → operands_at kind bytes ≡ Some (x, rest) → AreOperands kind bytes x rest
unfolding operands_at
operands_take kinds.Nothing bytes x rest fits e =
    subst (λ (q : Operands × List ℕ). AreOperands kinds.Nothing bytes q.0 q.1) (some_is _ _ e)
    (record { takes = record { parts = refl; rest_fits = fits }; fits = tt })
operands_take kinds.Number bytes x rest fits e =
    let a = step_takes (number_at 8) (number_bytes 8) (λ n. n < 256 ^ 8) (number_field 8) bytes _ (x, rest) fits e in
    subst (λ (q : Operands × List ℕ). AreOperands kinds.Number bytes q.0 q.1) (some_is _ _ a.3) (record { takes = a.1; fits = a.2 })
operands_take kinds.Vector bytes x rest fits e =
    let a = step_takes vector_at vector_bytes VectorFits vector_field bytes _ (x, rest) fits e in
    subst (λ (q : Operands × List ℕ). AreOperands kinds.Vector bytes q.0 q.1) (some_is _ _ a.3) (record { takes = a.1; fits = a.2 })
operands_take kinds.NumberAndVector bytes x rest fits e =
    let a = step_takes (number_at 8) (number_bytes 8) (λ n. n < 256 ^ 8) (number_field 8) bytes _ (x, rest) fits e in
    let b = step_takes vector_at vector_bytes VectorFits vector_field a.0.1 _ (x, rest) a.1.rest_fits a.3 in
    subst (λ (q : Operands × List ℕ). AreOperands kinds.NumberAndVector bytes q.0 q.1) (some_is _ _ b.3)
    (record { takes = takes_then bytes (number_bytes 8 a.0.0) a.0.1 (vector_bytes b.0.0) b.0.1 a.1 b.1; fits = (a.2, b.2) })

operands_again : (x : Operands) (rest : List ℕ) → OperandsFit x → operands_at (kind_of x) (operand_bytes x ++ rest) ≡ Some (x, rest)
unfolding operands_at
operands_again Nothing rest fits = refl
operands_again (Number n) rest fits = rw ((number_field 8).again n rest fits) refl
operands_again (Vector v) rest fits = rw (vector_field.again v rest fits) refl
operands_again (NumberAndVector n v) rest fits = rw (
  append_assoc (number_bytes 8 n) (vector_bytes v) rest,
  (number_field 8).again n (vector_bytes v ++ rest) fits.0,
  vector_field.again v rest fits.1,
) refl

-- a verb and its operands are those of their command
spelled : (bytes : List ℕ) (v : Verb) (o : Operands) (x : Command) (rest : List ℕ) → verb_and_operands x ≡ (v, o)
    → Takes bytes ((row v).code ∷ operand_bytes o) rest → OperandsFit o → Takes bytes (command_bytes x) rest × CommandFits x
unfolding command_bytes
spelled bytes v o x rest is takes fits =
    subst (λ (p : Verb × Operands). Takes bytes ((row p.0).code ∷ operand_bytes p.1) rest × OperandsFit p.1) (sym is) (takes, fits)

command_takes : (bytes : List ℕ) (x : Command) (rest : List ℕ) → IsBytes bytes → command_at bytes ≡ Some (x, rest)
    → Takes bytes (command_bytes x) rest × CommandFits x
unfolding command_at
command_takes bytes x rest fits e =
    let a = step_takes byte_at (λ b. b ∷ []) (λ b. b < 256) byte_field bytes _ (x, rest) fits e in
    let v = bind_some (verb_coded a.0.0) _ (x, rest) a.3 in
    let o = bind_some (operands_at (row v.0).kind a.0.1) _ (x, rest) v.2 in
    let c = bind_some (command_with v.0 o.0.0) _ (x, rest) o.2 in
    let are = operands_take (row v.0).kind a.0.1 o.0.0 o.0.1 a.1.rest_fits o.1 in
    let took = takes_then bytes (a.0.0 ∷ []) a.0.1 (operand_bytes o.0.0) o.0.1 a.1 are.takes in
    let here : Takes bytes ((row v.0).code ∷ operand_bytes o.0.0) o.0.1 = rw (code_is a.0.0 v.0 v.1) took in
    subst (λ (q : Command × List ℕ). Takes bytes (command_bytes q.0) q.1 × CommandFits q.0) (some_is _ _ c.2)
    (spelled bytes v.0 o.0.0 c.0 o.0.1 (parted v.0 o.0.0 c.0 c.1) here are.fits)

command_again : (x : Command) (rest : List ℕ) → CommandFits x → command_at (command_bytes x ++ rest) ≡ Some (x, rest)
unfolding command_at command_bytes
command_again x rest fits =
    let v = (verb_and_operands x).0 in
    let o = (verb_and_operands x).1 in
    rw ((verb_found v).coded, (together x).kind, operands_again o rest fits, (together x).again) refl

command_field : IsField command_at command_bytes CommandFits
command_field = record { takes = command_takes; again = command_again }

-- ---- answers

abbrev AnswerFits : Answer → Type 0
AnswerFits a = IsAnswer a × (a.step < 2 ^ 64) × (a.element < 2 ^ 32)

-- what an answer carries behind its number
record HasCarried (code : ℕ) (bytes : List ℕ) (x : Answer) (rest : List ℕ) : Type 0 where
  pub carried : List ℕ
  pub takes : Takes bytes carried rest
  pub spelled : answer_bytes x ≡ code ∷ carried
  pub fits : AnswerFits x

plain_bytes : (n : ℕ) → n ≤ 10 → answer_bytes (plain n) ≡ n ∷ []
unfolding answer_bytes
plain_bytes n le =
    let a : eqb n 11 ≡ false = grind (arith, nat_tests) in
    let b : eqb n 12 ≡ false = grind (arith, nat_tests) in
    rw (a, b) refl

leaves_takes : (bytes : List ℕ) (x : Answer) (rest : List ℕ) → IsBytes bytes → leaves_at bytes ≡ Some (x, rest) → HasCarried 11 bytes x rest
unfolding leaves_at answer_bytes
leaves_takes bytes x rest fits e =
    let a = step_takes (number_at 8) (number_bytes 8) (λ n. n < 256 ^ 8) (number_field 8) bytes _ (x, rest) fits e in
    let b = step_takes byte_at (λ b. b ∷ []) (λ b. b < 256) byte_field a.0.1 _ (x, rest) a.1.rest_fits a.3 in
    let c = step_takes (number_at 4) (number_bytes 4) (λ n. n < 256 ^ 4) (number_field 4) b.0.1 _ (x, rest) b.1.rest_fits b.3 in
    let g = guard_none _ _ _ c.3 in
    let h = guard_none _ _ _ g.1 in
    let t = takes_then bytes (number_bytes 8 a.0.0) a.0.1 (b.0.0 ∷ number_bytes 4 c.0.0) c.0.1 a.1
    (takes_then a.0.1 (b.0.0 ∷ []) b.0.1 (number_bytes 4 c.0.0) c.0.1 b.1 c.1) in
    subst (λ (q : Answer × List ℕ). HasCarried 11 bytes q.0 q.1) (some_is _ _ h.1)
    (record {
      carried = number_bytes 8 a.0.0 ++ b.0.0 ∷ number_bytes 4 c.0.0;
      takes = t;
      spelled = refl;
      fits = (inr (inl (ltb-false _ _ g.0, ltb-false _ _ h.0, refl)), a.2, c.2);
    })

too_many_takes : (bytes : List ℕ) (x : Answer) (rest : List ℕ) → IsBytes bytes → too_many_at bytes ≡ Some (x, rest)
    → HasCarried 12 bytes x rest
unfolding too_many_at answer_bytes
too_many_takes bytes x rest fits e =
    let a = step_takes (number_at 8) (number_bytes 8) (λ n. n < 256 ^ 8) (number_field 8) bytes _ (x, rest) fits e in
    subst (λ (q : Answer × List ℕ). HasCarried 12 bytes q.0 q.1) (some_is _ _ a.3)
    (record { carried = number_bytes 8 a.0.0; takes = a.1; spelled = refl; fits = (inr (inr refl), a.2, omega arith) })

plain_takes : (code : ℕ) (bytes : List ℕ) (x : Answer) (rest : List ℕ) → IsBytes bytes → code ≤ 10
    → (let some : Answer × List ℕ → Option (Answer × List ℕ) = λ q. Some q in some (plain code, bytes) ≡ some (x, rest))
    → HasCarried code bytes x rest
plain_takes code bytes x rest fits le e =
    subst (λ (q : Answer × List ℕ). HasCarried code bytes q.0 q.1) (some_is _ _ e)
    (record {
      carried = [];
      takes = record { parts = refl; rest_fits = fits };
      spelled = plain_bytes code le;
      fits = (inl (le, refl), omega arith, omega arith);
    })

-- the answer with this number, or one that is looked for further on
try_number : (code k : ℕ) (bytes : List ℕ) (x : Answer) (rest : List ℕ) (here others : Option (Answer × List ℕ))
    → cond (eqb code k) here others ≡ Some (x, rest)
    → (here ≡ Some (x, rest) → HasCarried k bytes x rest) → (others ≡ Some (x, rest) → HasCarried code bytes x rest)
    → HasCarried code bytes x rest
try_number code k bytes x rest here others e f g =
    elim (chosen (eqb code k) here others (Some (x, rest)) e)
    [ inl p ↦ subst (λ c. HasCarried c bytes x rest) (sym (eqb-true code k p.0)) (f p.1) | inr p ↦ g p.1 ]

try_plain : (code : ℕ) (bytes : List ℕ) (x : Answer) (rest : List ℕ) (others : Option (Answer × List ℕ)) → IsBytes bytes
    → cond (leb code 10) (Some (plain code, bytes)) others ≡ Some (x, rest)
    → (others ≡ Some (x, rest) → HasCarried code bytes x rest) → HasCarried code bytes x rest
try_plain code bytes x rest others fits e g =
    elim (chosen (leb code 10) (Some (plain code, bytes)) others (Some (x, rest)) e)
    [ inl p ↦ plain_takes code bytes x rest fits (leb-true _ _ p.0) p.1 | inr p ↦ g p.1 ]

carried_takes : (code : ℕ) (bytes : List ℕ) (x : Answer) (rest : List ℕ) → IsBytes bytes → carried_at code bytes ≡ Some (x, rest)
    → HasCarried code bytes x rest
unfolding carried_at
carried_takes code bytes x rest fits e =
    try_plain code bytes x rest _ fits e (λ e2.
    try_number code 11 bytes x rest _ _ e2 (leaves_takes bytes x rest fits) (λ e3.
    try_number code 12 bytes x rest _ _ e3 (too_many_takes bytes x rest fits) (λ none. absurd (none_some (x, rest) none))))

answer_takes : (bytes : List ℕ) (x : Answer) (rest : List ℕ) → IsBytes bytes → answer_at bytes ≡ Some (x, rest)
    → Takes bytes (answer_bytes x) rest × AnswerFits x
unfolding answer_at
answer_takes bytes x rest fits e =
    let a = step_takes byte_at (λ b. b ∷ []) (λ b. b < 256) byte_field bytes _ (x, rest) fits e in
    let o = carried_takes a.0.0 a.0.1 x rest a.1.rest_fits a.3 in
    (rw o.spelled (takes_then bytes (a.0.0 ∷ []) a.0.1 o.carried rest a.1 o.takes), o.fits)

plain_again : (n : ℕ) (rest : List ℕ) → n ≤ 10 → answer_at (answer_bytes (plain n) ++ rest) ≡ Some (plain n, rest)
unfolding answer_at carried_at
plain_again n rest le =
    let t : leb n 10 ≡ true = grind (arith, nat_tests) in
    rw (plain_bytes n le, t) refl

leaves_again : (step phase element : ℕ) (rest : List ℕ) → 1 ≤ phase → phase ≤ 4 → step < 2 ^ 64 → element < 2 ^ 32
    → answer_at (answer_bytes (leaves step phase element) ++ rest) ≡ Some (leaves step phase element, rest)
unfolding answer_at answer_bytes carried_at leaves_at
leaves_again step phase element rest low high s e =
    let a : ltb phase 1 ≡ false = le-ltb _ _ low in
    let b : ltb 4 phase ≡ false = le-ltb _ _ high in
    rw (
      append_assoc (number_bytes 8 step) (phase ∷ number_bytes 4 element) rest,
      (number_field 8).again step (phase ∷ (number_bytes 4 element ++ rest)) s,
      (number_field 4).again element rest e,
      a,
      b,
    ) refl

too_many_again : (step : ℕ) (rest : List ℕ) → step < 2 ^ 64 → answer_at (answer_bytes (too_many step) ++ rest) ≡ Some (too_many step, rest)
unfolding answer_at answer_bytes carried_at too_many_at
too_many_again step rest s = rw ((number_field 8).again step rest s) refl

answer_again : (x : Answer) (rest : List ℕ) → AnswerFits x → answer_at (answer_bytes x ++ rest) ≡ Some (x, rest)
answer_again x rest fits =
    let P : Answer → Type 0 = λ a. answer_at (answer_bytes a ++ rest) ≡ Some (a, rest) in
    elim fits.0 [
      | inl p ↦ subst P (sym p.1) (plain_again x.number rest p.0)
      | inr q ↦ elim q [
        | inl p ↦ subst P (sym p.2) (leaves_again x.step x.phase x.element rest p.0 p.1 fits.1 fits.2)
        | inr p ↦ subst P (sym p) (too_many_again x.step rest fits.1)
      ]
    ]

answer_field : IsField answer_at answer_bytes AnswerFits
answer_field = record { takes = answer_takes; again = answer_again }

-- ---- sums

regroup5 : (a b c d e f : List ℕ) → (a ++ b ++ c ++ d ++ e) ++ f ≡ a ++ (b ++ (c ++ (d ++ (e ++ f))))
regroup5 a b c d e f = simp append_assoc

sums_takes : (bytes : List ℕ) (s : FrameSums) (rest : List ℕ) → IsBytes bytes → sums_at bytes ≡ Some (s, rest)
    → Takes bytes (sums_bytes s) rest × SumsFit s
unfolding sums_at sums_bytes
sums_takes bytes s rest fits e =
    let a = step_takes (number_at 8) (number_bytes 8) (λ n. n < 256 ^ 8) (number_field 8) bytes _ (s, rest) fits e in
    let b = step_takes (number_at 4) (number_bytes 4) (λ n. n < 256 ^ 4) (number_field 4) a.0.1 _ (s, rest) a.1.rest_fits a.3 in
    let c = step_takes (number_at 4) (number_bytes 4) (λ n. n < 256 ^ 4) (number_field 4) b.0.1 _ (s, rest) b.1.rest_fits b.3 in
    let d = step_takes axes_at axes_bytes AreAxes axes_field c.0.1 _ (s, rest) c.1.rest_fits c.3 in
    let f = step_takes axes_at axes_bytes AreAxes axes_field d.0.1 _ (s, rest) d.1.rest_fits d.3 in
    let ab = takes_then bytes (number_bytes 8 a.0.0) a.0.1 (number_bytes 4 b.0.0) b.0.1 a.1 b.1 in
    let abc = takes_then bytes (number_bytes 8 a.0.0 ++ number_bytes 4 b.0.0) b.0.1 (number_bytes 4 c.0.0) c.0.1 ab c.1 in
    let abcd = takes_then bytes (number_bytes 8 a.0.0 ++ number_bytes 4 b.0.0 ++ number_bytes 4 c.0.0) c.0.1
    (axes_bytes d.0.0) d.0.1 abc d.1 in
    let all = takes_then bytes (number_bytes 8 a.0.0 ++ number_bytes 4 b.0.0 ++ number_bytes 4 c.0.0 ++ axes_bytes d.0.0) d.0.1
    (axes_bytes f.0.0) f.0.1 abcd f.1 in
    subst (λ (q : FrameSums × List ℕ). Takes bytes (sums_bytes q.0) q.1 × SumsFit q.0) (some_is _ _ f.3)
    (all, record { steps = a.2; live = b.2; contacts = c.2; at = d.2; before = f.2 })

sums_again : (s : FrameSums) (rest : List ℕ) → SumsFit s → sums_at (sums_bytes s ++ rest) ≡ Some (s, rest)
unfolding sums_at sums_bytes
sums_again s rest fits =
    rw (
      regroup5 (number_bytes 8 s.steps) (number_bytes 4 s.live) (number_bytes 4 s.contacts) (axes_bytes s.at) (axes_bytes s.before) rest,
      (number_field 8).again s.steps (number_bytes 4 s.live
          ++ (number_bytes 4 s.contacts ++ (axes_bytes s.at ++ (axes_bytes s.before ++ rest)))) fits.steps,
      (number_field 4).again s.live (number_bytes 4 s.contacts ++ (axes_bytes s.at ++ (axes_bytes s.before ++ rest))) fits.live,
      (number_field 4).again s.contacts (axes_bytes s.at ++ (axes_bytes s.before ++ rest)) fits.contacts,
      axes_field.again s.at (axes_bytes s.before ++ rest) fits.at,
      axes_field.again s.before rest fits.before,
    ) refl

abbrev OptionalFits : Bool → Option FrameSums → Type 0
OptionalFits b o = StandExactly b o × IfSome o SumsFit

optional_takes : (b : Bool) (bytes : List ℕ) (o : Option FrameSums) (rest : List ℕ) → IsBytes bytes → optional_at b bytes ≡ Some (o, rest)
    → Takes bytes (optional_bytes o) rest × OptionalFits b o
unfolding optional_at
optional_takes false bytes o rest fits e =
    subst (λ (q : Option FrameSums × List ℕ). Takes bytes (optional_bytes q.0) q.1 × OptionalFits false q.0) (some_is _ _ e)
    (record { parts = refl; rest_fits = fits }, (refl, tt))
optional_takes true bytes o rest fits e =
    let a = step_takes sums_at sums_bytes SumsFit (record { takes = sums_takes; again = sums_again }) bytes _ (o, rest) fits e in
    subst (λ (q : Option FrameSums × List ℕ). Takes bytes (optional_bytes q.0) q.1 × OptionalFits true q.0) (some_is _ _ a.3)
    (a.1, (refl, a.2))

optional_again : (b : Bool) (o : Option FrameSums) (rest : List ℕ) → OptionalFits b o
    → optional_at b (optional_bytes o ++ rest) ≡ Some (o, rest)
unfolding optional_at
optional_again b None rest fits = rw fits.0 refl
optional_again b (Some s) rest fits = rw (fits.0, sums_again s rest fits.1) refl

optional_field : (b : Bool) → IsField (optional_at b) optional_bytes (OptionalFits b)
optional_field b = record { takes = optional_takes b; again = optional_again b }

-- ---- entries

entry_takes : (bytes : List ℕ) (x : Entry) (rest : List ℕ) → IsBytes bytes → entry_at bytes ≡ Some (x, rest)
    → Takes bytes (entry_bytes x) rest × IsEntry x
unfolding entry_at entry_bytes
entry_takes bytes x rest fits e =
    let a = step_takes command_at command_bytes CommandFits command_field bytes _ (x, rest) fits e in
    let b = step_takes answer_at answer_bytes AnswerFits answer_field a.0.1 _ (x, rest) a.1.rest_fits a.3 in
    let stand = has_sums a.0.0 b.0.0.number in
    let c = step_takes (optional_at stand) optional_bytes (OptionalFits stand) (optional_field stand) b.0.1 _ (x, rest) b.1.rest_fits b.3 in
    let ab = takes_then bytes (command_bytes a.0.0) a.0.1 (answer_bytes b.0.0) b.0.1 a.1 b.1 in
    let all = takes_then bytes (command_bytes a.0.0 ++ answer_bytes b.0.0) b.0.1 (optional_bytes c.0.0) c.0.1 ab c.1 in
    subst (λ (q : Entry × List ℕ). Takes bytes (entry_bytes q.0) q.1 × IsEntry q.0) (some_is _ _ c.3)
    (all, (record { answer = b.2.0; sums = c.2.0 }, record { command = a.2; step = b.2.1; element = b.2.2; sums = c.2.1 }))

entry_again : (x : Entry) (rest : List ℕ) → IsEntry x → entry_at (entry_bytes x ++ rest) ≡ Some (x, rest)
unfolding entry_at entry_bytes
entry_again x rest fits =
    let stand = has_sums x.command x.answer.number in
    rw (
      regroup3 (command_bytes x.command) (answer_bytes x.answer) (optional_bytes x.sums) rest,
      command_again x.command (answer_bytes x.answer ++ (optional_bytes x.sums ++ rest)) fits.1.command,
      answer_again x.answer (optional_bytes x.sums ++ rest) (fits.0.answer, fits.1.step, fits.1.element),
      optional_again stand x.sums rest (fits.0.sums, fits.1.sums),
    ) refl

pub entry_field : IsField entry_at entry_bytes IsEntry
entry_field = record { takes = entry_takes; again = entry_again }

-- where the bytes of two entries begin alike they are the same entry
pub same_entry : (e f : Entry) (more rest : List ℕ) → IsEntry e → IsEntry f → entry_bytes e ++ more ≡ entry_bytes f ++ rest
    → (e ≡ f) × (more ≡ rest)
same_entry e f more rest fits fits' same =
    let p : entry_at (entry_bytes e ++ more) ≡ Some (f, rest) = ap entry_at same ∙ entry_again f rest fits' in
    let q = some_is (e, more) (f, rest) (sym (entry_again e more fits) ∙ p) in
    (ap (λ (x : Entry × List ℕ). x.0) q, ap (λ (x : Entry × List ℕ). x.1) q)

pub no_prefix : (e f : Entry) (more : List ℕ) → IsEntry e → IsEntry f → entry_bytes f ≡ entry_bytes e ++ more → more ≡ []
no_prefix e f more fits fits' same = (same_entry e f more [] fits fits' (sym same ∙ sym (append-nil (entry_bytes f)))).1
