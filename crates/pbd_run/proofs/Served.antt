-- The loop over the commands of a script.
use Rattle.std.proofs.Common.{◌≡◌, ◌∙◌, sym, refl, ℕ, ◌+◌, ◌<◌, ◌≤◌, ◌^◌, Bool, true, false, List, [], ◌∷◌, ◌++◌, length, Option, arith, append_assoc}
use Rattle.std.proofs.Common.{append-nil, zero-add}
use Rattle.std.specs.Prelude.{if◌then◌else◌}
use Rattle.std.specs.Io.KnownBytes.{Appends}
use Rattle.pbd_io.specs.Pieces.{AppendsPrefix}
use Rattle.pbd_io.specs.Appending.{appends_nothing, appends_then, prefix_longer, prefix_then}
use Rattle.pbd_run.specs.Serving.{served_refusals, served_text}
use Rattle.pbd_world.proofs.WorkLemmas.{if_most_else}

-- From the state and the commands at the start, it has come to this state and these commands, having appended the
-- texts of the answers.
pub record Served {S C : Type 0} (after : S → C → S) (answer : S → C → List ℕ) (refuses : S → C → Bool) (start : S) (all : List C)
    (s : S) (left : List C) (old new : Option (List ℕ)) (refused : ℕ) : Type 0 where
  pub done : List ℕ
  pub bytes : Appends old new done
  pub text : done ++ served_text after answer s left ≡ served_text after answer start all
  pub count : refused + served_refusals after refuses s left ≡ served_refusals after refuses start all
  pub few : refused + length left ≤ length all

module _ {S C : Type 0} {after : S → C → S} {answer : S → C → List ℕ} {refuses : S → C → Bool} where
  pub served_at_first : (s : S) (all : List C) (old : Option (List ℕ)) → Served after answer refuses s all s all old old 0
  served_at_first s all old = record {
    done = [];
    bytes = appends_nothing old;
    text = refl;
    count = zero-add (served_refusals after refuses s all);
    few = omega arith;
  }

  pub served_next : {start s t : S} {all left cs : List C} {c : C} {old mid new : Option (List ℕ)} {refused more : ℕ}
      → Served after answer refuses start all s left old mid refused → left ≡ c ∷ cs → t ≡ after s c → Appends mid new (answer s c)
      → more ≡ (if refuses s c then 1 else 0) → Served after answer refuses start all t cs old new (refused + more)
  unfolding served_text served_refusals
  served_next {start} {s} {t} {all} {left} {cs} {c} {old} {mid} {new} {refused} {more} so_far is state wrote counted =
      let here : Served after answer refuses start all s (c ∷ cs) old mid refused = rw is at so_far in
      rw (state, counted) (record {
        done = here.done ++ answer s c;
        bytes = appends_then _ _ _ _ _ here.bytes wrote;
        text = append_assoc here.done (answer s c) (served_text after answer (after s c) cs) ∙ here.text;
        count = omega (arith, here.count);
        few = omega (arith, here.few, if_most_else (refuses s c) 1);
      })

  pub served_in_part : {start s : S} {all left cs : List C} {c : C} {old mid : Option (List ℕ)} {refused : ℕ} (new : Option (List ℕ))
      → Served after answer refuses start all s left old mid refused → left ≡ c ∷ cs → AppendsPrefix mid new (answer s c)
      → AppendsPrefix old new (served_text after answer start all)
  unfolding served_text
  served_in_part {start} {s} {all} {left} {cs} {c} {old} {mid} {refused} new so_far is wrote =
      let here : Served after answer refuses start all s (c ∷ cs) old mid refused = rw is at so_far in
      rw (← here.text) (prefix_then _ _ _ here.done _ here.bytes
      (prefix_longer _ _ (answer s c) (served_text after answer (after s c) cs) wrote))

  pub served_to_end : {start s : S} {all left : List C} {old new : Option (List ℕ)} {refused : ℕ}
      → Served after answer refuses start all s left old new refused → left ≡ []
      → Appends old new (served_text after answer start all) × (refused ≡ served_refusals after refuses start all)
  unfolding served_text served_refusals
  served_to_end {start} {s} {all} {left} {old} {new} {refused} so_far is =
      let here : Served after answer refuses start all s [] old new refused = rw is at so_far in
      (rw (sym (append-nil here.done) ∙ here.text) at here.bytes, omega (arith, here.count))

  -- each command is refused at most once, and a script has few of them
  pub served_refusals_fit : {start s : S} {all left : List C} {old new : Option (List ℕ)} {refused more : ℕ} (c : C) (bytes : ℕ)
      → Served after answer refuses start all s left old new refused → length all ≤ bytes + 1 → bytes ≤ 2 ^ 31
      → more ≡ (if refuses s c then 1 else 0) → refused + more < 2 ^ 64
  served_refusals_fit {s = s} c bytes so_far many short is =
      omega (arith, so_far.few, many, short, is, if_most_else (refuses s c) 1)
