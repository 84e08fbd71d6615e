-- The scenes of a host, one by one, and its lines.
use Rattle.std.proofs.Common.{◌≡◌, ◌∙◌, sym, ap, subst, refl, ◌^◌, Bool, cond, zero, suc, ℕ, ◌+◌, ◌-◌, ◌<◌, ◌≤◌, true, false, List, [], ◌∷◌}
use Rattle.std.proofs.Common.{◌++◌, length, take, drop, map, Option, Some, None, Result, Ok, Err, arith, inl, inr, ◌⊎◌, append_assoc}
use Rattle.std.proofs.Common.{append-nil, codes, decimal, zero-add}
use Rattle.std.specs.Prelude.{position, nat_le, ◌==◌}
use Rattle.std.specs.List.{join_with_byte, slice_split}
use Rattle.std.proofs.lemmas.Bool.{cases_lt}
use Rattle.std.proofs.lemmas.Bool.Decides.{nat_tests}
use Rattle.std.proofs.lemmas.List.{drop_all, length-append, take_at}
use Rattle.std.proofs.lemmas.List.Splits.{join_with_byte-slice_split, length-slice_split}
use Rattle.pbd_script.specs.Lines.{pieces}
use Rattle.pbd_script.proofs.LineLemmas.{split_none, split_some}
use Rattle.std.specs.Io.KnownBytes.{Appends}
use Rattle.pbd_io.specs.Appending.{appends_nothing, appends_then, prefix_longer, prefix_then}
use Rattle.pbd_io.specs.Pieces.{AppendsPrefix}
use Rattle.pbd_world.specs.declared.parts.Parts.{Parts}
use Rattle.pbd_world.specs.Outcomes.{◌>>=◌, with_fault}
use Rattle.pbd_world.specs.World.{World, opened}
use Rattle.pbd_script.proofs.CommandLemmas.{pieces_few}
use Rattle.pbd_host.specs.declared.request.Request.{Request}
use Rattle.pbd_host.specs.declared.served.Served.{Served}
use Rattle.pbd_host.specs.Hosted.{hosted_refused, hosted_text, is_refusal, request_text, served, worlds_after}
use Rattle.pbd_host.specs.Tagged.{request_of, requests_of}
use Rattle.pbd_host.proofs.ApartLaws.{length-after}
use Rattle.pbd_outcome.specs.declared.status.Status.{Status}
use Rattle.pbd_outcome.specs.declared.status.Status.TheVariants.{NoScript, TooManyScenes}
use Rattle.pbd_outcome.specs.Outcome.{Outcome, host_outcome, hosted, range, scene_in, scenes_in, settled, stops, stops_in}
use Rattle.pbd_outcome.specs.Split.{divider, ended_lines, host_split, is_line, scenes, split_at, texts}
use Rattle.pbd_outcome.specs.Statuses.{line_in}
use Rattle.pbd_outcome.proofs.HostLaws.{as_many, hosted_halves, hosted_on, hosted_scenes}
use Rattle.pbd_run.specs.Calls.{AddsScene, Does, IsHostable, StopsAtScenes, StopsInScene}
use Rattle.pbd_run.specs.Forms.{host_on}
use Rattle.pbd_run.proofs.SplitLaws.{inspect}
use Rattle.pbd_world.proofs.WorkLemmas.{if_most_else}

-- ---- the end of a line

pub ended_in : (n : ℕ) (x : List ℕ) → ((x ++ codes " in ") ++ decimal n) ++ 10 ∷ [] ≡ line_in n (x ++ 10 ∷ [])
unfolding line_in
ended_in n x =
    let e : length (x ++ 10 ∷ []) - 1 ≡ length x = omega (arith, length-append x (10 ∷ [])) in
    sym (ap (λ k. take k (x ++ 10 ∷ []) ++ codes " in " ++ decimal n ++ 10 ∷ []) e
    ∙ ap (λ y. y ++ codes " in " ++ decimal n ++ 10 ∷ []) (take_at x (10 ∷ []) (length x) refl) ∙ simp append_assoc refl)

-- ---- the pieces behind a place

behind : (n : ℕ) (r : List ℕ) → n < length (pieces r) → pieces (join_with_byte 10 (drop n (pieces r))) ≡ drop n (pieces r)
behind zero r within = ap pieces (join_with_byte-slice_split 10 r)
behind (suc n) r within = elim (inspect (position (λ b. b == 10) r)) [
  | inl none ↦ (let one : pieces r ≡ r ∷ [] = split_none (λ b. b == 10) r none in absurd (omega (arith, within, ap length one)))
  | inr at ↦ (
      let next : List ℕ = drop (at.0 + 1) r in
      let more : pieces r ≡ take at.0 r ∷ pieces next = split_some (λ b. b == 10) r at.0 0 at.1 in
      rw more (behind n next (omega (arith, within, ap length more)))
      )
]

-- ---- the first scene, and the others

abbrev groups : List (List ℕ) → List (List (List ℕ))
groups lines = slice_split (is_line divider) lines

text_more : (lines : List (List ℕ)) (gs : List (List (List ℕ))) → 0 < length gs → texts (lines ∷ gs) ≡ ended_lines lines ∷ texts gs
text_more lines [] some = absurd (omega (arith, some))
text_more lines (g ∷ gs) some = refl

some_group : (lines : List (List ℕ)) → 0 < length (groups lines)
some_group lines = omega (arith, length-slice_split (is_line divider) lines)

texts_of : List (List ℕ) → List (List ℕ)
texts_of lines = texts (groups lines)

left_over : (n : ℕ) (r : List ℕ) → (n < length (pieces r)) ⊎ (length (pieces r) ≤ n)
    → texts_of (drop n (pieces r)) ≡ scenes (join_with_byte 10 (drop n (pieces r)))
unfolding scenes texts_of
left_over n r (inr past) = let none : drop n (pieces r) ≡ [] = drop_all n (pieces r) past in rw none refl
left_over n r (inl within) = ap (λ ls. texts (groups ls)) (sym (behind n r within))

scenes_at : (r : List ℕ) (i : ℕ) → position (is_line divider) (pieces r) ≡ Some i
    → scenes r ≡ ended_lines (take i (pieces r)) ∷ scenes (join_with_byte 10 (drop (i + 1) (pieces r)))
unfolding scenes texts_of
scenes_at r i at =
    ap texts (split_some (is_line divider) (pieces r) i [] at)
    ∙ text_more (take i (pieces r)) (groups (drop (i + 1) (pieces r))) (some_group (drop (i + 1) (pieces r)))
    ∙ ap (λ ts. ended_lines (take i (pieces r)) ∷ ts) (left_over (i + 1) r (cases_lt (i + 1) (length (pieces r))))

pub one_scene : (r : List ℕ) → split_at divider r ≡ None → scenes r ≡ r ∷ []
unfolding split_at scenes
one_scene r none = elim (inspect (position (is_line divider) (pieces r))) [
  | inl nowhere ↦ ap texts (split_none (is_line divider) (pieces r) nowhere) ∙ ap (λ t. t ∷ []) (join_with_byte-slice_split 10 r)
  | inr at ↦ absurd (let e = rw at.1 at none in cc)
]

pub more_scenes : (r scene later : List ℕ) → split_at divider r ≡ Some (scene, later) → scenes r ≡ scene ∷ scenes later
unfolding split_at
more_scenes r scene later some = elim (inspect (position (is_line divider) (pieces r))) [
  | inl nowhere ↦ absurd (let e = rw nowhere at some in cc)
  | inr at ↦ (
      let e : Some (ended_lines (take at.0 (pieces r)), join_with_byte 10 (drop (at.0 + 1) (pieces r)))
      ≡ Some (scene, later) = rw at.1 at some in
      let p : (ended_lines (take at.0 (pieces r)), join_with_byte 10 (drop (at.0 + 1) (pieces r))) ≡ (scene, later) = cc in
      scenes_at r at.0 at.1 ∙ ap (λ (h : List ℕ × List ℕ). h.0 ∷ scenes h.1) p
      )
]

pub some_scene : (r : List ℕ) → 0 < length (scenes r)
unfolding scenes
some_scene r = as_texts (groups (pieces r)) (some_group (pieces r))
  where
    as_texts : (gs : List (List (List ℕ))) → 0 < length gs → 0 < length (texts gs)
    as_texts [] some = absurd (omega (arith, some))
    as_texts (g ∷ []) some = omega arith
    as_texts (g ∷ h ∷ gs) some = omega arith

pub too_many : (n : ℕ) → 16 < n → false ≡ nat_le n 16
too_many n many = grind (arith, nat_tests)

-- ---- scenes, one after another

assoc : {A B C E : Type 0} (r : Result A E) (f : A → Result B E) (g : B → Result C E) → (r >>= f) >>= g ≡ (r >>= λ x. f x >>= g)
assoc (Ok x) f g = refl
assoc (Err e) f g = refl

-- the scenes so far stand before what the others give
pub behind_read : List Parts → Result (List Parts) Outcome → Result (List Parts) Outcome
behind_read read r = r >>= λ more. Ok (read ++ more)

pub record HasRead (all left : List (List ℕ)) (read : List Parts) : Type 0 where
  pub so_far : scenes_in 0 all ≡ behind_read read (scenes_in (length read) left)
  pub many : length read + length left ≡ length all

no_more : (r : Result (List Parts) Outcome) → behind_read [] r ≡ r
unfolding behind_read
no_more (Ok more) = refl
no_more (Err o) = refl

pub read_begins : (all : List (List ℕ)) → HasRead all all []
read_begins all = record { so_far = sym (no_more (scenes_in 0 all)); many = zero-add (length all) }

one_read : (read : List Parts) (p : Parts) (r : Result (List Parts) Outcome)
    → behind_read read (r >>= λ more. Ok (p ∷ more)) ≡ behind_read (read ++ p ∷ []) r
unfolding behind_read
one_read read p (Ok more) = ap (λ (ps : List Parts). Ok ps) (sym (append_assoc read (p ∷ []) more))
one_read read p (Err o) = refl

next_scene : (n : ℕ) (text : List ℕ) (ts : List (List ℕ)) (p : Parts) → scene_in range text ≡ Ok p
    → scenes_in n (text ∷ ts) ≡ (scenes_in (n + 1) ts >>= λ more. Ok (p ∷ more))
unfolding scenes_in
next_scene n text ts p is = rw is refl

pub read_next : (all left : List (List ℕ)) (text : List ℕ) (ts : List (List ℕ)) (read new : List Parts) → left ≡ text ∷ ts
    → HasRead all left read → AddsScene text read new → HasRead all ts new
read_next all left text ts read new here had adds =
    let has : HasRead all (text ∷ ts) read = rw here at had in
    let longer : length (read ++ adds.parts ∷ []) ≡ length read + 1 = length-append read (adds.parts ∷ []) in
    rw adds.added (record {
      so_far = has.so_far ∙ ap (behind_read read) (next_scene (length read) text ts adds.parts adds.accepted)
          ∙ one_read read adds.parts (scenes_in (length read + 1) ts)
          ∙ ap (λ n. behind_read (read ++ adds.parts ∷ []) (scenes_in n ts)) (sym longer);
      many = omega (arith, longer, has.many);
    })

pub read_ends : (all left : List (List ℕ)) (read : List Parts) → left ≡ [] → HasRead all left read → scenes_in 0 all ≡ Ok read
unfolding behind_read scenes_in
read_ends all left read none had =
    let has : HasRead all [] read = rw none at had in
    has.so_far ∙ ap (λ (ps : List Parts). Ok ps) (append-nil read)

stopped_next : (n : ℕ) (text : List ℕ) (ts : List (List ℕ)) (read : List Parts) (then : List Parts → Result Outcome Outcome)
    → behind_read read (scenes_in n (text ∷ ts)) >>= then ≡
    (with_fault (stops_in n) (scene_in range text) >>= λ parts.
    ((scenes_in (n + 1) ts >>= λ more. Ok (parts ∷ more)) >>= λ more. Ok (read ++ more)) >>= then)
unfolding behind_read scenes_in
stopped_next n text ts read then =
    ap (λ r. r >>= then) (assoc (with_fault (stops_in n) (scene_in range text))
    (λ parts. scenes_in (n + 1) ts >>= λ more. Ok (parts ∷ more)) (λ more. Ok (read ++ more)))
    ∙ assoc (with_fault (stops_in n) (scene_in range text))
    (λ parts. (scenes_in (n + 1) ts >>= λ more. Ok (parts ∷ more)) >>= λ more. Ok (read ++ more)) then

pub read_stops : (all left : List (List ℕ)) (text : List ℕ) (ts : List (List ℕ)) (read : List Parts) (a b : Option (List ℕ)) (m n : ℕ)
    (s : Status) → left ≡ text ∷ ts → HasRead all left read → StopsInScene (length read) text a b m n s → StopsAtScenes all a b m n s
read_stops all left text ts read a b m n s here had stops = λ then.
    let has : HasRead all (text ∷ ts) read = rw here at had in
    rw (ap (λ r. settled (r >>= then)) has.so_far ∙ ap settled (stopped_next (length read) text ts read then)) (stops _)

-- ---- the lines, one after another

-- From the worlds and the lines at the start, it has come to these worlds and these lines, having appended the texts.
pub record Serves (start : List World) (all : List (List ℕ)) (ws : List World) (left : List (List ℕ)) (old new : Option (List ℕ))
    (refused : ℕ) : Type 0 where
  pub done : List ℕ
  pub bytes : Appends old new done
  pub text : done ++ hosted_text ws (requests_of (length start) left) ≡ hosted_text start (requests_of (length start) all)
  pub count : refused + hosted_refused ws (requests_of (length start) left) ≡ hosted_refused start (requests_of (length start) all)
  pub few : refused + length left ≤ length all
  pub many : length ws ≡ length start

pub serves_begin : (ws : List World) (all : List (List ℕ)) (old : Option (List ℕ)) → Serves ws all ws all old old 0
serves_begin ws all old = record { done = []; bytes = appends_nothing old; text = refl; count = zero-add _; few = omega arith; many = refl }

pub serves_next : {start ws vs : List World} {all ls : List (List ℕ)} {line : List ℕ} {left : List (List ℕ)} {a b c : Option (List ℕ)}
    {refused more : ℕ} {it : Served} → ls ≡ line ∷ left → Serves start all ws ls a b refused
    → vs ≡ worlds_after ws (request_of (length ws) line) → Appends b c (request_text ws (request_of (length ws) line))
    → it ≡ served ws (request_of (length ws) line) → more ≡ cond (is_refusal it) 1 0 → Serves start all vs left a c (refused + more)
unfolding hosted_text hosted_refused
serves_next {start} {ws} {vs} {all} {line} {left} {a} {b} {c} {refused} {more} here had worlds wrote answer counts =
    let has : Serves start all ws (line ∷ left) a b refused = rw here at had in
    let r : Request = request_of (length start) line in
    let same : request_of (length ws) line ≡ r = ap (λ n. request_of n line) has.many in
    let new : vs ≡ worlds_after ws r = worlds ∙ ap (worlds_after ws) same in
    let text : Appends b c (request_text ws r) = subst (λ (q : Request). Appends b c (request_text ws q)) same wrote in
    let one : more ≡ cond (is_refusal (served ws r)) 1 0 = counts
    ∙ ap (λ (q : Served). cond (is_refusal q) 1 0) (answer ∙ ap (served ws) same) in
    let rest : List Request = requests_of (length start) left in
    rw new (record {
      done = has.done ++ request_text ws r;
      bytes = appends_then a b c _ _ has.bytes text;
      text = append_assoc has.done (request_text ws r) (hosted_text (worlds_after ws r) rest) ∙ has.text;
      count = omega (arith, has.count, one);
      few = omega (arith, has.few, one, if_most_else (is_refusal (served ws r)) 1);
      many = length-after ws r ∙ has.many;
    })

pub serves_failed : {start ws : List World} {all ls : List (List ℕ)} {line : List ℕ} {left : List (List ℕ)} {a b : Option (List ℕ)}
    {refused : ℕ} (c : Option (List ℕ)) → ls ≡ line ∷ left → Serves start all ws ls a b refused
    → AppendsPrefix b c (request_text ws (request_of (length ws) line)) → AppendsPrefix a c (hosted_text start (requests_of (length start) all))
unfolding hosted_text
serves_failed {start} {ws} {all} {line} {left} {a} {b} {refused} c here had wrote =
    let has : Serves start all ws (line ∷ left) a b refused = rw here at had in
    let r : Request = request_of (length start) line in
    let same : request_of (length ws) line ≡ r = ap (λ n. request_of n line) has.many in
    let text : AppendsPrefix b c (request_text ws r) = subst (λ (q : Request). AppendsPrefix b c (request_text ws q)) same wrote in
    subst (λ (t : List ℕ). AppendsPrefix a c t) has.text (prefix_then a b c has.done _ has.bytes
    (prefix_longer b c (request_text ws r) (hosted_text (worlds_after ws r) (requests_of (length start) left)) text))

-- what it has come to once no line is left
pub record HasServed (start : List World) (all : List (List ℕ)) (old new : Option (List ℕ)) (refused : ℕ) : Type 0 where
  pub bytes : Appends old new (hosted_text start (requests_of (length start) all))
  pub count : refused ≡ hosted_refused start (requests_of (length start) all)

pub serves_end : {start ws : List World} {all ls : List (List ℕ)} {a b : Option (List ℕ)} {refused : ℕ} → ls ≡ []
    → Serves start all ws ls a b refused → HasServed start all a b refused
unfolding hosted_text hosted_refused
serves_end {start} {ws} {all} {a} {b} {refused} none had =
    let has : Serves start all ws [] a b refused = rw none at had in
    record {
      bytes = subst (λ (t : List ℕ). Appends a b t) (sym (append-nil has.done) ∙ has.text) has.bytes;
      count = omega (arith, has.count);
    }

-- ---- the whole input

split_host : (input text lines : List ℕ) → split_at (codes "%%%") input ≡ Some (text, lines)
    → host_split input ≡ Some (scenes text, pieces lines)
split_host input text lines is = rw is refl

few_from : (n : ℕ) → nat_le n 16 ≡ true → n ≤ 16
few_from n test = grind (arith, nat_tests)

pub hosted_none : (input : List ℕ) → split_at (codes "%%%") input ≡ None → hosted input ≡ stops NoScript []
unfolding hosted
hosted_none input is = rw is refl

pub hosted_many : (input text lines : List ℕ) → split_at (codes "%%%") input ≡ Some (text, lines) → nat_le (length (scenes text)) 16 ≡ false
    → hosted input ≡ stops TooManyScenes []
hosted_many input text lines is many = hosted_halves input (scenes text, pieces lines) (split_host input text lines is)
    ∙ ap (λ z. settled (cond z (Ok (scenes text)) (Err (stops TooManyScenes [])) >>= λ texts. scenes_in 0 texts >>= λ ps.
    Ok (host_outcome (map opened ps) (requests_of (length ps) (pieces lines))))) many

pub hosted_did : (input text lines : List ℕ) (ps : List Parts) (a b : Option (List ℕ)) (m n : ℕ) (s : Status)
    → split_at (codes "%%%") input ≡ Some (text, lines) → nat_le (length (scenes text)) 16 ≡ true → scenes_in 0 (scenes text) ≡ Ok ps
    → Does (host_on ps lines) a b m n s → Does (hosted input) a b m n s
unfolding host_on
hosted_did input text lines ps a b m n s is few read does =
    rw (hosted_on input (scenes text, pieces lines) ps (split_host input text lines is) (few_from (length (scenes text)) few) read) does

pub hosted_stops : (input text lines : List ℕ) (a b : Option (List ℕ)) (m n : ℕ) (s : Status)
    → split_at (codes "%%%") input ≡ Some (text, lines) → nat_le (length (scenes text)) 16 ≡ true → StopsAtScenes (scenes text) a b m n s
    → Does (hosted input) a b m n s
hosted_stops input text lines a b m n s is few stops =
    rw (hosted_scenes input (scenes text, pieces lines) (split_host input text lines is) (few_from (length (scenes text)) few)) (stops _)

pub hostable : (input text lines : List ℕ) (ps : List Parts) → nat_le (length (scenes text)) 16 ≡ true → scenes_in 0 (scenes text) ≡ Ok ps
    → length lines ≤ length input → length input ≤ 2 ^ 31 → IsHostable ps lines
hostable input text lines ps few read within short =
    let many = as_many 0 (scenes text) ps read in
    record {
      some = omega (arith, many, some_scene text);
      few = omega (arith, many, few_from (length (scenes text)) few);
      short = omega (arith, within, short);
    }

pub begins_with : (all : List (List ℕ)) (read : List Parts) → read ≡ [] → HasRead all all read
begins_with all read none = rw none (read_begins all)

pub counts_fit : {start ws : List World} (bytes : List ℕ) {ls : List (List ℕ)} {line : List ℕ} {left : List (List ℕ)}
    {a b : Option (List ℕ)} {refused more : ℕ} (it : Served) → length bytes ≤ 2 ^ 31 → ls ≡ line ∷ left
    → Serves start (pieces bytes) ws ls a b refused → more ≡ cond (is_refusal it) 1 0 → refused + more < 2 ^ 64
counts_fit bytes it short here has counts =
    omega (arith, has.few, counts, if_most_else (is_refusal it) 1, ap length here, pieces_few bytes, short)
