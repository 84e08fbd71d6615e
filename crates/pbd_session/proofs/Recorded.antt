-- A log that is written, one entry after another.
use Rattle.std.proofs.Common.{◌≡◌, ◌∙◌, sym, ap, refl, ℕ, ◌+◌, ◌≤◌, ◌<◌, ◌^◌, ℤ, List, [], ◌∷◌, ◌++◌, length, Option, arith, append_assoc}
use Rattle.std.proofs.Common.{append-nil, IsTrue}
use Rattle.std.specs.Prelude.{if◌then◌else◌}
use Rattle.std.specs.Io.KnownBytes.{Appends}
use Rattle.std.specs.List.{Contains, flat_map, AllByRecursion}
use Rattle.pbd_io.specs.Pieces.{AppendsPrefix}
use Rattle.pbd_io.specs.Appending.{appends_then, prefix_then, prefix_longer}
use Rattle.pbd_world.specs.declared.command.Command.{Command}
use Rattle.pbd_world.specs.declared.command.Reply.{Reply}
use Rattle.pbd_world.specs.Valid.{is_limit}
use Rattle.pbd_world.specs.World.{World}
use Rattle.pbd_world.specs.Meaning.{after}
use Rattle.pbd_world.specs.Replay.{entry, kept_sums}
use Rattle.pbd_world.specs.Session.{is_refused, refused_count, worlds, last_world}
use Rattle.pbd_log.specs.declared.entry.Entry.{Entry}
use Rattle.pbd_log.specs.Entries.{answer_of, entry_bytes, entry_of, IsEntry, IsGrammatical}
use Rattle.pbd_log.specs.Logs.{header_bytes, end_bytes, Spells}
use Rattle.pbd_log.proofs.Kept.{kept_is}
use Rattle.pbd_log.proofs.Logs.{parts_spell}
use Rattle.pbd_session.specs.Recording.{entries_of, log_bytes}
use Rattle.pbd_session.proofs.Leading.{Leads, leads_begin, leads_on, leads_among, leads_last}
use Rattle.pbd_session.proofs.Running.{Does, Counted, counted_begin, counted_on, counted_all}

-- what stands before the entries
abbrev pub head : ℤ → List ℕ → List ℕ
head limit scene = header_bytes 2 limit (length scene) ++ scene

abbrev pub bytes_of : List Entry → List ℕ
bytes_of entries = flat_map entry_bytes entries

-- From the world and the commands at the start, it has come to this world and these commands, having appended what
-- stands before the entries and so many entries.
pub record Logged (start : World) (all : List Command) (limit : ℤ) (scene : List ℕ) (w : World) (left : List Command)
    (old new : Option (List ℕ)) (refused written : ℕ) : Type 0 where
  pub done : List ℕ
  pub bytes : Appends old new (head limit scene ++ done)
  pub entries : done ++ bytes_of (entries_of w left) ≡ bytes_of (entries_of start all)
  pub each : AllByRecursion IsEntry (entries_of w left) → AllByRecursion IsEntry (entries_of start all)
  pub number : written + length left ≡ length (entries_of start all)
  pub counted : Counted start all w left refused
  pub leads : Leads start all w left

pub as_many : (w : World) (cs : List Command) → length (entries_of w cs) ≡ length cs
as_many w [] = refl
as_many w (c ∷ cs) = let e = as_many (after w c) cs in omega (arith, e)

pub logged_begins : (w : World) (all : List Command) (limit : ℤ) (scene : List ℕ) (old new : Option (List ℕ))
    → Appends old new (head limit scene) → Logged w all limit scene w all old new 0 0
logged_begins w all limit scene old new wrote = record {
  done = [];
  bytes = rw append-nil wrote;
  entries = refl;
  each = λ each. each;
  number = omega (arith, as_many w all);
  counted = counted_begin w all;
  leads = leads_begin w all;
}

pub logged_next : {start : World} {all : List Command} {limit : ℤ} {scene : List ℕ} {w v : World} {left : List Command} {c : Command}
    {cs : List Command} {old mid new : Option (List ℕ)} {refused written : ℕ} {r : Reply} {e : Entry}
    → Logged start all limit scene w left old mid refused written → left ≡ c ∷ cs → Does w v c r → e ≡ entry_of (entry w c) → IsEntry e
    → Appends mid new (entry_bytes e) → Logged start all limit scene v cs old new (refused + (if is_refused r then 1 else 0)) (written + 1)
logged_next {start} {all} {limit} {scene} {w} {c} {cs} {old} {mid} {new} {refused} {written} logged is does kept grammar wrote =
    let here : Logged start all limit scene w (c ∷ cs) old mid refused written = rw is at logged in
    let e' = entry_of (entry w c) in
    let wrote_that : Appends mid new (entry_bytes e') = rw kept at wrote in
    let grammar_that : IsEntry e' = rw kept at grammar in
    rw (does.world, does.reply) (record {
      done = here.done ++ entry_bytes e';
      bytes = rw (← append_assoc (head limit scene) here.done (entry_bytes e')) (appends_then _ _ _ _ _ here.bytes wrote_that);
      entries = append_assoc here.done (entry_bytes e') (bytes_of (entries_of (after w c) cs)) ∙ here.entries;
      each = λ each. here.each (grammar_that, each);
      number = omega (arith, here.number);
      counted = counted_on start all w c cs refused here.counted;
      leads = leads_on start all w c cs here.leads;
    })

-- the entry that is made of a command
pub is_entry : (w v : World) (c : Command) (r : Reply) (e : Entry) → Does w v c r
    → e ≡ record { command = c; answer = answer_of r; sums = kept_sums v c r } → e ≡ entry_of (entry w c)
is_entry w v c r e does is = rw (is, does.world, does.reply) refl

pub is_grammatical : (w : World) (c : Command) (e : Entry) → e ≡ entry_of (entry w c) → IsGrammatical e
is_grammatical w c e is = rw is (kept_is w c)

-- so many entries can be counted
pub has_room : {start : World} {all : List Command} {limit : ℤ} {scene : List ℕ} {w : World} {left : List Command}
    {old new : Option (List ℕ)} {refused written : ℕ} → Logged start all limit scene w left old new refused written
    → length all ≤ 2 ^ 31 + 1 → written < 2 ^ 32
has_room {start} {all} logged few = omega (arith, logged.number, as_many start all, few)

-- what stands where a sink failed
pub record Failed (start : World) (all : List Command) (limit : ℤ) (scene : List ℕ) (v : World) (old new : Option (List ℕ)) : Type 0 where
  pub bytes : AppendsPrefix old new (log_bytes limit scene (entries_of start all))
  pub one_of : Contains (worlds start all) v

pub begin_failed : (w : World) (all : List Command) (limit : ℤ) (scene : List ℕ) (old new : Option (List ℕ))
    → AppendsPrefix old new (head limit scene) → Failed w all limit scene w old new
unfolding log_bytes
begin_failed w all limit scene old new wrote = record {
  bytes = prefix_longer _ _ (head limit scene ++ bytes_of (entries_of w all)) _ (prefix_longer _ _ (head limit scene) _ wrote);
  one_of = leads_among w all w all (leads_begin w all);
}

regroup : (h d e m t : List ℕ) → ((h ++ d) ++ e) ++ (m ++ t) ≡ (h ++ (d ++ (e ++ m))) ++ t
regroup h d e m t = simp append_assoc refl

pub logged_failed : {start : World} {all : List Command} {limit : ℤ} {scene : List ℕ} {w v : World} {left : List Command} {c : Command}
    {cs : List Command} {old mid new : Option (List ℕ)} {refused written : ℕ} {r : Reply} {e : Entry}
    → Logged start all limit scene w left old mid refused written → left ≡ c ∷ cs → Does w v c r → e ≡ entry_of (entry w c)
    → AppendsPrefix mid new (entry_bytes e) → Failed start all limit scene v old new
unfolding log_bytes
logged_failed {start} {all} {limit} {scene} {w} {c} {cs} {old} {mid} {new} {refused} {written} logged is does kept wrote =
    let here : Logged start all limit scene w (c ∷ cs) old mid refused written = rw is at logged in
    let e' = entry_of (entry w c) in
    let wrote_that : AppendsPrefix mid new (entry_bytes e') = rw kept at wrote in
    let tail = end_bytes (length (entries_of start all)) in
    let more = bytes_of (entries_of (after w c) cs) in
    let all_of : AppendsPrefix old new (((head limit scene ++ here.done) ++ entry_bytes e') ++ (more ++ tail)) =
    prefix_longer _ _ ((head limit scene ++ here.done) ++ entry_bytes e') (more ++ tail) (prefix_then _ _ _ _ _ here.bytes wrote_that) in
    let parts : ((head limit scene ++ here.done) ++ entry_bytes e') ++ (more ++ tail)
    ≡ (head limit scene ++ bytes_of (entries_of start all)) ++ tail =
    regroup (head limit scene) here.done (entry_bytes e') more tail ∙ ap (λ t. (head limit scene ++ t) ++ tail) here.entries in
    rw does.world (record {
      bytes = rw parts at all_of;
      one_of = leads_among start all (after w c) cs (leads_on start all w c cs here.leads);
    })

written_so_far : {start : World} {all : List Command} {limit : ℤ} {scene : List ℕ} {w : World} {old mid : Option (List ℕ)} {refused written : ℕ}
    → (here : Logged start all limit scene w [] old mid refused written)
    → ((head limit scene ++ here.done) ++ end_bytes written ≡ log_bytes limit scene (entries_of start all))
unfolding log_bytes
written_so_far {start} {all} {written} here =
    let n : written ≡ length (entries_of start all) = omega (arith, here.number) in
    let d : here.done ≡ bytes_of (entries_of start all) = sym (append-nil here.done) ∙ here.entries in
    rw (d, n) refl

pub finish_failed : {start : World} {all : List Command} {limit : ℤ} {scene : List ℕ} {w : World} {left : List Command}
    {old mid new : Option (List ℕ)} {refused written : ℕ} → Logged start all limit scene w left old mid refused written → left ≡ []
    → AppendsPrefix mid new (end_bytes written) → Failed start all limit scene w old new
finish_failed {start} {all} {limit} {scene} {w} {old} {mid} {refused} {written} logged is wrote =
    let here : Logged start all limit scene w [] old mid refused written = rw is at logged in
    record {
      bytes = rw (← written_so_far here) (prefix_then _ _ _ _ _ here.bytes wrote);
      one_of = leads_among start all w [] here.leads;
    }

pub record Ended (start : World) (all : List Command) (limit : ℤ) (scene : List ℕ) (w : World) (old new : Option (List ℕ))
    (refused : ℕ) : Type 0 where
  pub bytes : Appends old new (log_bytes limit scene (entries_of start all))
  pub spells : Spells (log_bytes limit scene (entries_of start all)) 2 limit scene (entries_of start all)
  pub count : refused ≡ refused_count start all
  pub world : w ≡ last_world start all

pub logged_ends : {start : World} {all : List Command} {limit : ℤ} {scene : List ℕ} {w : World} {left : List Command}
    {old mid new : Option (List ℕ)} {refused written : ℕ} → Logged start all limit scene w left old mid refused written → left ≡ []
    → Appends mid new (end_bytes written) → IsTrue (is_limit limit) → length scene < 2 ^ 32 → length all < 2 ^ 64
    → Ended start all limit scene w old new refused
unfolding log_bytes
logged_ends {start} {all} {limit} {scene} {w} {old} {mid} {refused} {written} logged is wrote known short few =
    let here : Logged start all limit scene w [] old mid refused written = rw is at logged in
    record {
      bytes = rw (← written_so_far here) (appends_then _ _ _ _ _ here.bytes wrote);
      spells = parts_spell limit scene (entries_of start all) known short (here.each tt) (omega (arith, as_many start all, few));
      count = counted_all start all w refused here.counted;
      world = leads_last start all w here.leads;
    }
