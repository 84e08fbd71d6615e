-- What `record` writes is never too long to be read as a log.
use Rattle.std.proofs.Common.{◌≡◌, ◌∙◌, sym, ap, refl, ℕ, zero, suc, ◌+◌, ◌*◌, ◌≤◌, ◌/◌, ◌%◌, Bool, true, false, cond, List, [], ◌∷◌, ◌++◌}
use Rattle.std.proofs.Common.{length, take, drop, Option, Some, None, Result, Ok, Err, ℤ, lit≤, arith, add-one}
use Rattle.std.specs.Prelude.{◌==◌, codes, flat_map, position}
use Rattle.std.specs.List.{join_with_byte}
use Rattle.std.specs.Str.{is_utf8}
use Rattle.pbd_world.specs.Outcomes.{◌>>=◌}
use Rattle.std.specs.Fmt.{decimal, digits, digits_onto, digit_glyph}
use Rattle.std.proofs.lemmas.List.{length-append}
use Rattle.pbd_script.specs.Lines.{pieces}
use Rattle.pbd_world.specs.Text.{line}
use Rattle.pbd_world.specs.declared.parts.Parts.{Parts}
use Rattle.pbd_world.specs.World.{opened}
use Rattle.pbd_scene.specs.Checks.{Broken, Checked}
use Rattle.pbd_scene.specs.Scene.{scene_of}
use Rattle.pbd_scene.specs.Keys.{key_text, rule_number, rule_text, table_text}
use Rattle.pbd_script.specs.Commands.{commands}
use Rattle.toml.specs.Data.{Members}
use Rattle.toml.specs.Parse.{parse_document}
use Rattle.pbd_session.specs.Recording.{entries_of, log_bytes}
use Rattle.pbd_outcome.specs.declared.status.Status.TheVariants.{SceneNotText}
use Rattle.pbd_outcome.specs.Outcome.{Outcome, halves_in, most, most_of_log, parts_in, range, record_outcome, recorded, scene_in, settled}
use Rattle.pbd_outcome.specs.Outcome.{stops, tree_in}
use Rattle.pbd_outcome.specs.Split.{divider, is_line, split, split_at}
use Rattle.pbd_outcome.specs.Statuses.{refused_line}
use Rattle.pbd_outcome.proofs.LineLaws.{key_short, rule_short, table_short}
use Rattle.pbd_outcome.proofs.ShortLines.{mapped, room, script_short, split_room}
use Rattle.pbd_outcome.proofs.ShortLogs.{entries_fit, log_length}

-- ---- the halves of an input

front_length : (parts : List (List ℕ)) → length (flat_map (λ piece. piece ++ 10 ∷ []) parts) ≡ room parts
front_length [] = refl
front_length (part ∷ parts) = omega (
  arith,
  length-append (part ++ 10 ∷ []) (flat_map (λ piece. piece ++ 10 ∷ []) parts),
  length-append part (10 ∷ []),
  front_length parts,
)

lines_length : (parts : List (List ℕ)) → length (join_with_byte 10 parts) ≤ room parts
lines_length [] = omega arith
lines_length (part ∷ []) = omega arith
lines_length (part ∷ next ∷ parts) = omega (arith, length-append part (10 ∷ join_with_byte 10 (next ∷ parts)), lines_length (next ∷ parts))

around : (i : ℕ) (parts : List (List ℕ)) → room (take i parts) + room (drop (suc i) parts) ≤ room parts
around zero [] = omega arith
around (suc i) [] = omega arith
around zero (part ∷ parts) = omega arith
around (suc i) (part ∷ parts) = omega (arith, around i parts)

pub halves_length : (input : List ℕ) (h : List ℕ × List ℕ) → split input ≡ Some h → length h.0 + length h.1 ≤ length input + 1
unfolding split_at
halves_length input h is =
    let at = mapped _ (position (is_line divider) (pieces input)) h is in
    let ps : List (List ℕ) = pieces input in
    let first : length h.0 ≡ room (take at.0 ps) = ap (λ (q : List ℕ × List ℕ). length q.0) (sym at.2) ∙ front_length (take at.0 ps) in
    let second : length h.1 ≤ room (drop (at.0 + 1) ps) = omega
    (arith, ap (λ (q : List ℕ × List ℕ). length q.1) at.2, lines_length (drop (at.0 + 1) ps)) in
    let all : room (take at.0 ps) + room (drop (at.0 + 1) ps) ≤ room ps = rw add-one (around at.0 ps) in
    omega (arith, first, second, all, split_room (λ b. b == 10) input)

-- ---- the lines that stop a run

line_length : (word : List ℕ) (words : List (List ℕ)) → length (line (word ∷ words)) ≡ room (word ∷ words)
line_length word [] = omega (arith, length-append word (10 ∷ []))
line_length word (next ∷ words) = omega (arith, length-append word (32 ∷ line (next ∷ words)), line_length next words)

either_few : (last : Bool) (n : ℕ) (here more : List ℕ) → length here ≤ n → length more ≤ n → length (cond last here more) ≤ n
either_few true n here more h m = h
either_few false n here more h m = m

digits_few : (k n : ℕ) (after : List ℕ) → length (digits_onto k 10 false n after) ≤ k + length after
digits_few zero n after = omega arith
digits_few (suc k) n after =
    let here : List ℕ = digit_glyph false (n % 10) ∷ after in
    either_few (n / 10 == 0) (suc k + length after) here (digits_onto k 10 false (n / 10) here) (omega arith)
    (omega (arith, digits_few k (n / 10) here))

decimal_few : (n : ℕ) → length (decimal n) ≤ 64
unfolding digits
decimal_few n = digits_few 64 n []

refused_few : (b : Broken) → length (refused_line b) ≤ 1000
unfolding refused_line
refused_few b =
    let words = codes "8" ∷ codes "SceneRefused" ∷ decimal (rule_number b.rule) ∷ rule_text b.rule ∷ table_text b.place.table
    ∷ decimal b.place.position ∷ key_text b.key ∷ [] in
    omega (
      arith,
      line_length (codes "error") words,
      decimal_few (rule_number b.rule),
      rule_short b.rule,
      table_short b.place.table,
      decimal_few b.place.position,
      key_short b.key,
    )

-- ---- the whole outcome

-- a run that stops writes at most so many bytes
abbrev StopsShort : {A : Type 0} → Result A Outcome → Type 0
StopsShort (Ok a) = Unit {0}
StopsShort (Err o) = length o.text ≤ 1000

parts_short : (c : Checked Parts) → StopsShort (parts_in c)
parts_short (Ok parts) = tt
parts_short (Err b) = refused_few b

tree_short : (limit : ℤ) (tree : Option Members) → StopsShort (tree_in limit tree)
tree_short limit None = lit≤ tt
tree_short limit (Some t) = parts_short (scene_of limit t)

text_short : (is : Bool) (limit : ℤ) (tree : Option Members) → StopsShort (cond is (tree_in limit tree) (Err (stops SceneNotText [])))
text_short true limit tree = tree_short limit tree
text_short false limit tree = lit≤ tt

scene_short : (limit : ℤ) (bytes : List ℕ) → StopsShort (scene_in limit bytes)
unfolding scene_in
scene_short limit bytes = text_short (is_utf8 bytes) limit (parse_document bytes)

-- the log of a scene and a script
written_few : (scene script : List ℕ) (parts : Parts) → length (log_bytes range scene (entries_of (opened parts) (commands script)))
    ≤ 64000033 + length scene + 4 * length script
written_few scene script parts =
    omega (
      arith,
      log_length range scene (entries_of (opened parts) (commands script)),
      entries_fit (opened parts) (commands script) (omega arith),
      script_short script,
    )

-- an outcome of at most so many bytes, and four for each of the input
abbrev IsFew : List ℕ → Outcome → Type 0
IsFew input o = length o.text ≤ 64000037 + 4 * length input

from_parts : (input scene script : List ℕ) (r : Result Parts Outcome) → StopsShort r → length scene + length script ≤ length input + 1
    → IsFew input (settled (r >>= λ parts. Ok (record_outcome scene (opened parts) (commands script))))
from_parts input scene script (Ok parts) stops within = omega (arith, written_few scene script parts, within)
from_parts input scene script (Err o) stops within = omega (arith, stops)

from_halves : (input : List ℕ) (halves : Option (List ℕ × List ℕ)) → split input ≡ halves
    → IsFew input (settled (halves_in halves >>= λ h. scene_in range h.0 >>= λ parts.
    Ok (record_outcome h.0 (opened parts) (commands h.1))))
from_halves input None is = omega arith
from_halves input (Some h) is = from_parts input h.0 h.1 (scene_in range h.0) (scene_short range h.0) (halves_length input h is)

recorded_few : (input : List ℕ) → IsFew input (recorded input)
unfolding recorded
recorded_few input = from_halves input (split input) refl

-- an input that may be recorded has no more than that
is_log_short : (n k : ℕ) → n ≤ most → k ≤ 64000037 + 4 * n → k ≤ most_of_log
unfolding most most_of_log
is_log_short n k short few = omega (arith, short, few)

pub recorded_short : (input : List ℕ) → length input ≤ most → length (recorded input).text ≤ most_of_log
recorded_short input short = is_log_short (length input) (length (recorded input).text) short (recorded_few input)
