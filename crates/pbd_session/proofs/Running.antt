-- A script's text, one command after another.
use Rattle.std.proofs.Common.{◌≡◌, ◌∙◌, sym, refl, ℕ, ◌+◌, ◌<◌, ◌≤◌, ◌^◌, List, [], ◌∷◌, ◌++◌, length, Option, arith, append_assoc, append-nil}
use Rattle.std.proofs.Common.{zero-add}
use Rattle.std.specs.Prelude.{if◌then◌else◌}
use Rattle.std.specs.Io.KnownBytes.{Appends}
use Rattle.std.specs.List.{Contains}
use Rattle.pbd_io.specs.Pieces.{AppendsPrefix}
use Rattle.pbd_io.specs.Appending.{appends_nothing, appends_then, prefix_then, prefix_longer}
use Rattle.pbd_world.specs.declared.command.Command.{Command}
use Rattle.pbd_world.specs.declared.command.Reply.{Reply}
use Rattle.pbd_world.specs.declared.command.Reply.TheVariants as replies
use Rattle.pbd_world.specs.World.{World}
use Rattle.pbd_world.specs.Meaning.{after, reply}
use Rattle.pbd_world.specs.Text.{text}
use Rattle.pbd_world.specs.Session.{is_refused, session_text, refused_count, worlds, last_world}
use Rattle.pbd_session.proofs.Leading.{Leads, leads_begin, leads_on, leads_among, leads_last}

-- how many refusals there are in all
pub record Counted (start : World) (all : List Command) (w : World) (left : List Command) (refused : ℕ) : Type 0 where
  pub count : refused + refused_count w left ≡ refused_count start all
  pub few : refused + length left ≤ length all

pub counted_begin : (w : World) (all : List Command) → Counted w all w all 0
counted_begin w all = record { count = zero-add (refused_count w all); few = omega arith }

pub one_more : (r : Reply) → (if is_refused r then 1 else 0) ≤ 1
one_more replies.Done = omega arith
one_more replies.Frame = omega arith
one_more replies.Ledger = omega arith
one_more (replies.Refused refusal) = omega arith

-- what is left is shorter by one
pub one_fewer : {X : Type 0} (left : List X) (x : X) (xs : List X) → left ≡ x ∷ xs → length xs < length left
one_fewer left x xs is = rw is (omega arith)

pub counted_on : (start : World) (all : List Command) (w : World) (c : Command) (cs : List Command) (refused : ℕ)
    → Counted start all w (c ∷ cs) refused → Counted start all (after w c) cs (refused + (if is_refused (reply w c) then 1 else 0))
unfolding refused_count
counted_on start all w c cs refused counted = record {
  count = omega (arith, counted.count);
  few = omega (arith, counted.few, one_more (reply w c));
}

-- the refusals of a script fit 64 bits
pub can_count : {start w : World} {all left : List Command} {refused : ℕ} (r : Reply) (more : ℕ) → Counted start all w left refused
    → length all ≤ 2 ^ 31 + 1 → more ≡ (if is_refused r then 1 else 0) → refused + more < 2 ^ 64
can_count r more counted short is = omega (arith, counted.few, short, is, one_more r)

pub counted_all : (start : World) (all : List Command) (w : World) (refused : ℕ) → Counted start all w [] refused
    → refused ≡ refused_count start all
unfolding refused_count
counted_all start all w refused counted = omega (arith, counted.count)

-- From the world and the commands at the start, it has come to this world and these commands, having appended the
-- texts of the replies.
pub record Ran (start : World) (all : List Command) (w : World) (left : List Command) (old new : Option (List ℕ))
    (refused : ℕ) : Type 0 where
  pub done : List ℕ
  pub bytes : Appends old new done
  pub text : done ++ session_text w left ≡ session_text start all
  pub counted : Counted start all w left refused
  pub leads : Leads start all w left

pub ran_begins : (w : World) (all : List Command) (old : Option (List ℕ)) → Ran w all w all old old 0
ran_begins w all old = record {
  done = [];
  bytes = appends_nothing old;
  text = refl;
  counted = counted_begin w all;
  leads = leads_begin w all;
}

-- a command was done and answered
pub record Does (w v : World) (c : Command) (r : Reply) : Type 0 where
  pub world : v ≡ after w c
  pub reply : r ≡ reply w c

pub ran_next : {start : World} {all : List Command} {w v : World} {left : List Command} {c : Command} {cs : List Command}
    {old mid new : Option (List ℕ)} {refused : ℕ} {r : Reply} → Ran start all w left old mid refused → left ≡ c ∷ cs → Does w v c r
    → Appends mid new (text v r) → Ran start all v cs old new (refused + (if is_refused r then 1 else 0))
unfolding session_text
ran_next {start} {all} {w} {c} {cs} {old} {mid} {new} {refused} ran is does wrote =
    let here : Ran start all w (c ∷ cs) old mid refused = rw is at ran in
    let wrote_that : Appends mid new (text (after w c) (reply w c)) = rw (does.world, does.reply) at wrote in
    rw (does.world, does.reply) (record {
      done = here.done ++ text (after w c) (reply w c);
      bytes = appends_then _ _ _ _ _ here.bytes wrote_that;
      text = append_assoc here.done (text (after w c) (reply w c)) (session_text (after w c) cs) ∙ here.text;
      counted = counted_on start all w c cs refused here.counted;
      leads = leads_on start all w c cs here.leads;
    })

-- what stands where a reply could not be written
pub record Failed (start : World) (all : List Command) (v : World) (old new : Option (List ℕ)) : Type 0 where
  pub bytes : AppendsPrefix old new (session_text start all)
  pub one_of : Contains (worlds start all) v

pub ran_failed : {start : World} {all : List Command} {w v : World} {left : List Command} {c : Command} {cs : List Command}
    {old mid new : Option (List ℕ)} {refused : ℕ} {r : Reply} → Ran start all w left old mid refused → left ≡ c ∷ cs → Does w v c r
    → AppendsPrefix mid new (text v r) → Failed start all v old new
unfolding session_text
ran_failed {start} {all} {w} {c} {cs} {old} {mid} {new} {refused} ran is does wrote =
    let here : Ran start all w (c ∷ cs) old mid refused = rw is at ran in
    let wrote_that : AppendsPrefix mid new (text (after w c) (reply w c)) = rw (does.world, does.reply) at wrote in
    rw does.world (record {
      bytes = rw (← here.text) (prefix_then _ _ _ here.done _ here.bytes
          (prefix_longer _ _ (text (after w c) (reply w c)) (session_text (after w c) cs) wrote_that));
      one_of = leads_among start all (after w c) cs (leads_on start all w c cs here.leads);
    })

pub record Ended (start : World) (all : List Command) (w : World) (old new : Option (List ℕ)) (refused : ℕ) : Type 0 where
  pub bytes : Appends old new (session_text start all)
  pub count : refused ≡ refused_count start all
  pub world : w ≡ last_world start all

pub ran_ends : {start : World} {all : List Command} {w : World} {left : List Command} {old new : Option (List ℕ)} {refused : ℕ}
    → Ran start all w left old new refused → left ≡ [] → Ended start all w old new refused
unfolding session_text
ran_ends {start} {all} {w} {old} {new} {refused} ran is =
    let here : Ran start all w [] old new refused = rw is at ran in
    record {
      bytes = rw (sym (append-nil here.done) ∙ here.text) at here.bytes;
      count = counted_all start all w refused here.counted;
      world = leads_last start all w here.leads;
    }
