-- A replay's text, one entry after another.
use Rattle.std.proofs.Common.{◌≡◌, ◌∙◌, sym, refl, ℕ, zero, suc, ◌+◌, ◌<◌, ◌^◌, List, [], ◌∷◌, ◌++◌, length, Option, Some, None, Result, Ok, Err, arith}
use Rattle.std.proofs.Common.{append_assoc, append-nil, zero-add}
use Rattle.std.specs.Prelude.{if◌then◌else◌, OnOk}
use Rattle.std.specs.Io.KnownBytes.{Appends}
use Rattle.std.specs.List.{Contains}
use Rattle.pbd_io.specs.Pieces.{AppendsPrefix, WritesPiece}
use Rattle.pbd_io.specs.Appending.{appends_nothing, appends_then, piece_then, prefix_then, prefix_longer}
use Rattle.pbd_world.specs.declared.command.Reply.{Reply}
use Rattle.pbd_world.specs.World.{World}
use Rattle.pbd_world.specs.Meaning.{after, reply}
use Rattle.pbd_world.specs.Text.{text}
use Rattle.pbd_world.specs.Session.{is_refused, worlds}
use Rattle.pbd_log.specs.declared.entry.Entry.{Entry}
use Rattle.pbd_session.specs.declared.ending.Compared.{Compared}
use Rattle.pbd_session.specs.declared.ending.ReplayEnd.{ReplayEnd}
use Rattle.pbd_session.specs.declared.ending.ReplayEnd.TheVariants as ends
use Rattle.pbd_session.specs.Replaying.{commands_of, difference, found_now, mismatch_line, replayed, replayed_from, with_refused}
use Rattle.pbd_session.proofs.Leading.{Leads, leads_begin, leads_on, leads_among}
use Rattle.pbd_session.proofs.Running.{Does, one_more}

-- From the world and the entries at the start, it has come to this world and these entries, of which the first has number n,
-- having appended the texts of the replies.
pub record Agreed (start : World) (all : List Entry) (n : ℕ) (w : World) (left : List Entry) (old new : Option (List ℕ))
    (refused : ℕ) : Type 0 where
  pub done : List ℕ
  pub bytes : Appends old new done
  pub text : done ++ (replayed_from n w left).text ≡ (replayed start all).text
  pub ended : with_refused refused (replayed_from n w left).ended ≡ (replayed start all).ended
  pub world : (replayed_from n w left).world ≡ (replayed start all).world
  pub leads : Leads start (commands_of all) w (commands_of left)
  pub numbers : n + length left ≡ 1 + length all
  pub few : refused < n

all_before : (n left all : ℕ) → n + left ≡ 1 + all → (1 < n → all < 2 ^ 63) → left < 2 ^ 63 → all < 2 ^ 63
all_before zero left all is known few = omega (arith, is, few)
all_before (suc zero) left all is known few = omega (arith, is, few)
all_before (suc (suc n)) left all is known few = known (omega arith)

-- all entries can be counted, where those that are left can, and all could since the first one was read
pub all_countable : {start : World} {all : List Entry} {n : ℕ} {w : World} {left : List Entry} {old new : Option (List ℕ)} {refused : ℕ}
    → Agreed start all n w left old new refused → (1 < n → length all < 2 ^ 63) → length left < 2 ^ 63 → length all < 2 ^ 63
all_countable {start} {all} {n} {w} {left} agreed known few = all_before n (length left) (length all) agreed.numbers known few

nothing_more : (end : ReplayEnd) → with_refused 0 end ≡ end
nothing_more (ends.Done refused) = rw (zero-add refused) refl
nothing_more (ends.Mismatch entry field recorded found) = refl

pub agreed_begins : (w : World) (all : List Entry) (old : Option (List ℕ)) → Agreed w all 1 w all old old 0
agreed_begins w all old = record {
  done = [];
  bytes = appends_nothing old;
  text = refl;
  ended = nothing_more (replayed w all).ended;
  world = refl;
  leads = leads_begin w (commands_of all);
  numbers = omega arith;
  few = omega arith;
}

plus_nothing : (n : ℕ) → with_refused n (ends.Done 0) ≡ ends.Done n
plus_nothing n = let e : n + 0 ≡ n = omega arith in rw e refl

more_then : (n m : ℕ) (end : ReplayEnd) → with_refused (n + m) end ≡ with_refused n (with_refused m end)
more_then n m (ends.Done refused) = let e : (n + m) + refused ≡ n + (m + refused) = omega arith in rw e refl
more_then n m (ends.Mismatch entry field recorded found) = refl

-- an entry agrees, and its reply is written
pub agreed_next : {start : World} {all : List Entry} {n : ℕ} {w v : World} {left : List Entry} {e : Entry} {es : List Entry}
    {old mid new : Option (List ℕ)} {refused : ℕ} {r : Reply} → Agreed start all n w left old mid refused → left ≡ e ∷ es
    → Does w v e.command r → difference e (found_now w e) ≡ None → Appends mid new (text v r)
    → Agreed start all (n + 1) v es old new (refused + (if is_refused r then 1 else 0))
unfolding replayed_from
agreed_next {start} {all} {n} {w} {e} {es} {old} {mid} {new} {refused} agreed is does same wrote =
    let here : Agreed start all n w (e ∷ es) old mid refused = rw is at agreed in
    let w' = after w e.command in
    let r' = reply w e.command in
    let wrote_that : Appends mid new (text w' r') = rw (does.world, does.reply) at wrote in
    rw (does.world, does.reply) (record {
      done = here.done ++ text w' r';
      bytes = appends_then _ _ _ _ _ here.bytes wrote_that;
      text = append_assoc here.done (text w' r') (replayed_from (n + 1) w' es).text ∙ (rw same at here.text);
      ended = more_then refused (if is_refused r' then 1 else 0) (replayed_from (n + 1) w' es).ended ∙ (rw same at here.ended);
      world = rw same at here.world;
      leads = leads_on start (commands_of all) w e.command (commands_of es) here.leads;
      numbers = omega (arith, here.numbers);
      few = omega (arith, here.few, one_more r');
    })

-- or a prefix of it
pub agreed_failed : {start : World} {all : List Entry} {n : ℕ} {w v : World} {left : List Entry} {e : Entry} {es : List Entry}
    {old mid : Option (List ℕ)} {refused : ℕ} {r : Reply} (new : Option (List ℕ)) → Agreed start all n w left old mid refused → left ≡ e ∷ es
    → Does w v e.command r → difference e (found_now w e) ≡ None → AppendsPrefix mid new (text v r)
    → AppendsPrefix old new (replayed start all).text
unfolding replayed_from
agreed_failed {start} {all} {n} {w} {e} {es} {old} {mid} {refused} new agreed is does same wrote =
    let here : Agreed start all n w (e ∷ es) old mid refused = rw is at agreed in
    let wrote_that : AppendsPrefix mid new (text (after w e.command) (reply w e.command)) = rw (does.world, does.reply) at wrote in
    rw (← (rw same at here.text)) (prefix_then _ _ _ here.done _ here.bytes
    (prefix_longer _ _ (text (after w e.command) (reply w e.command)) _ wrote_that))

pub record Ended (start : World) (all : List Entry) (w : World) (old new : Option (List ℕ)) (end : ReplayEnd) : Type 0 where
  pub bytes : Appends old new (replayed start all).text
  pub ended : end ≡ (replayed start all).ended
  pub world : w ≡ (replayed start all).world
  pub one_of : Contains (worlds start (commands_of all)) w

pub agreed_ends : {start : World} {all : List Entry} {n : ℕ} {w : World} {left : List Entry} {old new : Option (List ℕ)} {refused : ℕ}
    → Agreed start all n w left old new refused → left ≡ [] → Ended start all w old new (ends.Done refused)
unfolding replayed_from
agreed_ends {start} {all} {n} {w} {old} {new} {refused} agreed is =
    let here : Agreed start all n w [] old new refused = rw is at agreed in
    record {
      bytes = rw (sym (append-nil here.done) ∙ here.text) at here.bytes;
      ended = sym (plus_nothing refused) ∙ here.ended;
      world = here.world;
      one_of = leads_among start (commands_of all) w [] here.leads;
    }

-- ---- an entry differs, and its line is written

pub differs_piece : {T E : Type 0} {start : World} {all : List Entry} {n : ℕ} {w : World} {left : List Entry} {e : Entry}
    {es : List Entry} {old mid : Option (List ℕ)} {refused : ℕ} {c : Compared} (new : Option (List ℕ)) (out : Result T E)
    → Agreed start all n w left old mid refused → left ≡ e ∷ es → difference e (found_now w e) ≡ Some c
    → WritesPiece mid new out (mismatch_line n c) → WritesPiece old new out (replayed start all).text
unfolding replayed_from
differs_piece {start} {all} {n} {w} {e} {es} {old} {mid} {refused} new out agreed is other wrote =
    let here : Agreed start all n w (e ∷ es) old mid refused = rw is at agreed in
    rw (← (rw other at here.text)) (piece_then _ _ _ out _ _ here.bytes wrote)

pub differs_ended : {start : World} {all : List Entry} {n : ℕ} {w : World} {left : List Entry} {e : Entry} {es : List Entry}
    {old mid : Option (List ℕ)} {refused : ℕ} {c : Compared} → Agreed start all n w left old mid refused → left ≡ e ∷ es
    → difference e (found_now w e) ≡ Some c → ends.Mismatch n c.field c.recorded c.found ≡ (replayed start all).ended
unfolding replayed_from
differs_ended {start} {all} {n} {w} {e} {es} {old} {mid} {refused} agreed is other =
    let here : Agreed start all n w (e ∷ es) old mid refused = rw is at agreed in
    rw other at here.ended

pub differs_world : {T E : Type 0} {start : World} {all : List Entry} {n : ℕ} {w v : World} {left : List Entry} {e : Entry}
    {es : List Entry} {old mid : Option (List ℕ)} {refused : ℕ} {r : Reply} {c : Compared} (out : Result T E)
    → Agreed start all n w left old mid refused → left ≡ e ∷ es → Does w v e.command r → difference e (found_now w e) ≡ Some c
    → OnOk out (v ≡ (replayed start all).world)
unfolding replayed_from
differs_world (Err x) agreed is does other = tt
differs_world {start} {all} {n} {w} {e} {es} {old} {mid} {refused} (Ok x) agreed is does other =
    let here : Agreed start all n w (e ∷ es) old mid refused = rw is at agreed in
    does.world ∙ (rw other at here.world)

pub does_one_of : {start : World} {all : List Entry} {n : ℕ} {w v : World} {left : List Entry} {e : Entry} {es : List Entry}
    {old mid : Option (List ℕ)} {refused : ℕ} {r : Reply} → Agreed start all n w left old mid refused → left ≡ e ∷ es → Does w v e.command r
    → Contains (worlds start (commands_of all)) v
does_one_of {start} {all} {n} {w} {e} {es} {old} {mid} {refused} agreed is does =
    let here : Agreed start all n w (e ∷ es) old mid refused = rw is at agreed in
    rw does.world (leads_among start (commands_of all) (after w e.command) (commands_of es)
    (leads_on start (commands_of all) w e.command (commands_of es) here.leads))
