-- Files and a sink that are kept in memory.
use Rattle.std.specs.Prelude.{◌≡◌, ◌||◌, not, is_some, ℕ, ◌+◌, ◌^◌, Bool, true, false, List, find, nat_lt, ◌==◌, if◌then◌else◌, Some, None, IsTrue, IsSome, refl}
use Rattle.std.specs.List.{list_all, list_any}
use Rattle.std.specs.Str.{bytes_eq}
use Rattle.std.specs.Prelude.{◌≡◌, ◌||◌, not, is_some, Option, [], ◌∷◌, ◌++◌, Result, Ok, Err}
use Rattle.sp_edges.specs.declared.input.InputFault.{InputFault}
use Rattle.sp_edges.specs.declared.input.InputFault.TheVariants.{Failed, TooLong, Memory}
use Rattle.sp_edges.specs.Calls.{Call}
use Rattle.sp_edges.specs.Counts.{one_more}
use Rattle.sp_edges.specs.Standing.{Standing, Missing, Holds}

-- Calls are numbered from 0. The number of the next call is there as long as it fits a `u64`.

-- the number after this one
abbrev pub next_number : Option ℕ → Option ℕ
next_number None = None
next_number (Some call) = if nat_lt (call + 1) (2 ^ 64) then Some (call + 1) else None

-- the next call is among these
abbrev pub is_among : List ℕ → Option ℕ → Bool
is_among calls None = false
is_among calls (Some next) = list_any (λ call. call == next) calls

-- none of these calls is still to come
abbrev pub all_past : List ℕ → Option ℕ → Bool
all_past calls None = true
all_past calls (Some next) = list_all (λ call. nat_lt call next) calls

-- files in memory: names with their bytes, the calls that are to fail, the next call, the count of faults
pub record KeptFiles : Type 0 where
  pub files : List (List ℕ × List ℕ)
  pub failing : List ℕ
  pub next : Option ℕ
  pub faults : ℕ

-- the files before the first call
abbrev pub new_files : List (List ℕ × List ℕ) → List ℕ → KeptFiles
new_files files failing = record { files = files; failing = failing; next = Some 0; faults = 0 }

-- what stands in a file, if there is one
abbrev pub standing_of : Option (List ℕ × List ℕ) → Standing
standing_of None = Missing
standing_of (Some file) = Holds file.1

-- the first file of this name
abbrev pub file_named : List (List ℕ × List ℕ) → List ℕ → Option (List ℕ × List ℕ)
file_named files name = find (λ file. bytes_eq file.0 name) files

-- what stands under a name
abbrev pub standing_under : KeptFiles → List ℕ → Standing
standing_under kept name = standing_of (file_named kept.files name)

-- there is a file of this name, and no call that is to fail is still to come
abbrev pub IsSure : KeptFiles → List ℕ → Type 0
IsSure kept name = IsSome (file_named kept.files name) × IsTrue (all_past kept.failing kept.next)

-- the next call for this name fails: it is to fail, or there is no file of this name
abbrev pub fails_at : KeptFiles → List ℕ → Bool
fails_at kept name = is_among kept.failing kept.next || not (is_some (file_named kept.files name))

-- the files after a call that failed or did not
abbrev pub counted : KeptFiles → Bool → KeptFiles
counted kept failed = record kept { next = next_number kept.next; faults = if failed then one_more kept.faults else kept.faults }

-- the answer is that the call failed
abbrev pub is_failed : Result (Unit {0}) InputFault → Bool
is_failed (Ok done) = false
is_failed (Err Failed) = true
is_failed (Err TooLong) = false
is_failed (Err Memory) = false

-- the files after these calls
abbrev pub after_calls : KeptFiles → List Call → KeptFiles
after_calls kept [] = kept
after_calls kept (call ∷ calls) = after_calls (counted kept (is_failed call.answer)) calls

abbrev pub WasAsked : KeptFiles → List Call → KeptFiles → Type 0
WasAsked before calls after = after ≡ after_calls before calls

file_there : (file : Option (List ℕ × List ℕ)) → IsSome file → (bytes : List ℕ) × (standing_of file ≡ Holds bytes)
file_there (Some file) some = (file.1, refl)
file_there None some = absurd (cc)

-- what stands under a sure name is told
pub sure_name-told : (kept : KeptFiles) (name : List ℕ) → IsSure kept name → (bytes : List ℕ) × (standing_under kept name ≡ Holds bytes)
sure_name-told kept name sure = file_there (file_named kept.files name) sure.0

-- calls one after another
pub after_calls-append : (before middle after : KeptFiles) (calls more : List Call) →
    WasAsked before calls middle → WasAsked middle more after → WasAsked before (calls ++ more) after
after_calls-append before middle after [] more first second = rw (← first) second
after_calls-append before middle after (call ∷ calls) more first second =
    after_calls-append (counted before (is_failed call.answer)) middle after calls more first second
