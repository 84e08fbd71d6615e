-- What whole runs answer, from bytes to bytes.
use Rattle.std.specs.Prelude.{◌==◌, if◌then◌else◌, ⊤, ℕ, ◌<◌, List, length}
use Rattle.lakmozet_c.specs.declared.runs.NoRun.{NoRun}
use Rattle.lakmozet_c.specs.declared.runs.NoRun.TheVariants.{NoScene, NoRoom, TooLong, NoMemory}
use Rattle.lakmozet_c.specs.Calls.{status}
use Rattle.lakmozet_c.specs.Faults.{stop_number}

-- the status of the program's for so many refused commands
abbrev pub end_number : ℕ → ℕ
end_number refused = if refused == 0 then 0 else status 11

-- the status of the program's for a run that wrote nothing
abbrev pub no_run_number : NoRun → ℕ
no_run_number NoRoom = status 3
no_run_number TooLong = status 4
no_run_number (NoScene why) = stop_number why
no_run_number NoMemory = status 12

-- memory ran out, or the bytes of the run are more than there is room for
abbrev pub IsShortage : ℕ → List ℕ → NoRun → Type 0
IsShortage room bytes NoRoom = room < length bytes
IsShortage room bytes NoMemory = ⊤
IsShortage room bytes why = ⊥
