-- What the words ask for.
use Rattle.std.specs.Prelude.{ℕ, ◌≤◌, ◌^◌, Bool, ◌&&◌, nat_le, nat_lt, codes, if◌then◌else◌, List, [], ◌∷◌, length, map, string_bytes}
use Rattle.std.specs.Prelude.{String, bytes_eq, Option, Some, None, option_map, option_and_then}
use Rattle.std.specs.List.{list_all}
use Rattle.std.specs.declared.alloc.Global.{Global}
use Rattle.pbd_world.specs.declared.command.Width.{Width}
use Rattle.pbd_world.specs.declared.command.Width.TheVariants.{W1, W2, W4, W8, W16}
use Rattle.pbd_script.specs.Lines.{is_digit, value}
use Rattle.pbd_outcome.specs.declared.job.Job.{Job}
use Rattle.pbd_outcome.specs.declared.job.Job.TheVariants.{Simulate, Record, Replay, Large, Scramble, Obj, Marks, Host}

unfoldable pub width : List ℕ → Option Width
width word =
    if bytes_eq word (codes "1") then Some W1
    else (if bytes_eq word (codes "2") then Some W2
    else (if bytes_eq word (codes "4") then Some W4
    else (if bytes_eq word (codes "8") then Some W8
    else (if bytes_eq word (codes "16") then Some W16 else None))))

abbrev pub are_digits : ℕ → List ℕ → Bool
are_digits most word = nat_le 1 (length word) && nat_le (length word) most && list_all is_digit word

-- 1 to 20 digits that say at most 2^64 - 1
unfoldable pub number : List ℕ → Option ℕ
number word = if are_digits 20 word && nat_lt (value word) (2 ^ 64) then Some (value word) else None

-- 1 to 3 digits that say 2 to 128
unfoldable pub size : List ℕ → Option ℕ
size word = if are_digits 3 word && nat_le 2 (value word) && nat_le (value word) 128 then Some (value word) else None

-- the forms that a width follows
abbrev pub with_width : List ℕ → Width → Option Job
with_width form w =
    if bytes_eq form (codes "simulate") then Some (Simulate w)
    else (if bytes_eq form (codes "record") then Some (Record w)
    else (if bytes_eq form (codes "replay") then Some (Replay w)
    else (if bytes_eq form (codes "obj") then Some (Obj w)
    else (if bytes_eq form (codes "marks") then Some (Marks w)
    else (if bytes_eq form (codes "host") then Some (Host w) else None)))))

abbrev pub large : List ℕ → List ℕ → List ℕ → Option Job
large w seed side =
    option_and_then (λ w. option_and_then (λ seed. option_map (λ side. Large w seed side) (size side)) (number seed)) (width w)

-- the job of the words, or nothing where they are no form
abbrev pub job : List (List ℕ) → Option Job
job (form ∷ word ∷ []) =
    if bytes_eq form (codes "scramble") then option_map (λ seed. Scramble seed) (number word)
    else option_and_then (with_width form) (width word)
job (form ∷ w ∷ seed ∷ side ∷ []) = if bytes_eq form (codes "large") then large w seed side else None
job _ = None

-- what a caller's words ask for
abbrev pub job_of : List (String Global) → Option Job
job_of words = job (map string_bytes words)

-- a generated scene has 2 to 128 rows
abbrev pub IsSized : Job → Type 0
IsSized (Large width seed size) = (2 ≤ size) × (size ≤ 128)
IsSized _ = Unit {0}
