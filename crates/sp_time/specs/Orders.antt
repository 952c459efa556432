-- When what happens in the runs of a loop's stages comes in order.
use Rattle.std.specs.Prelude.{◌≡◌, ℕ, suc, ◌+◌, ◌<◌, ◌≤◌, ◌⊎◌, IsTrue, List, length}
use Rattle.sp_time.specs.Beats.{Slot, slot_at, Run, run_at}
use Rattle.sp_time.specs.Copies.{Owned, copies_of, in_group}
use Rattle.sp_time.specs.Events.{Event}
use Rattle.sp_time.specs.Lists.{Each, Pairs}
use Rattle.sp_time.specs.Places.{Place, Act, changes}

-- what happens in a run: each two are in order, and each is over within the time that the run takes
pub record IsInOrder {E : Type 0} (over : E → ℕ) (R : E → E → Type 0) (run : Run E) : Type 0 where
  pub ordered : Pairs R run.events
  pub within : Each (λ e. over e ≤ run.took) run.events

-- two runs of stages in groups, in the order of the text
abbrev pub Sooner : (group stage other_group other_stage : ℕ) → Type 0
Sooner k s l r = (k < l) ⊎ ((k ≡ l) × (s < r))

-- the run of a stage is over before that of another one begins: it is in an earlier beat, or earlier in its chain
abbrev pub Precedes : List Slot → (group stage other_group other_stage : ℕ) → Type 0
Precedes slots k s l r = (k + (slot_at slots s).slot < l + (slot_at slots r).slot) ⊎ ((k ≡ l) × (slot_at slots s ≡ slot_at slots r) × (s < r))

-- runs of stages come one after the other where something in one meets something in the other
abbrev pub IsOuterSound : {E : Type 0} → ((group stage other_group other_stage : ℕ) → E → E → Type 0) → List Slot → List (List (Run E)) → Type 0
IsOuterSound Meets slots runs =
    (k s l r : ℕ) → Sooner k s l r → l < length runs → s < length slots → r < length slots →
    Each (λ e. Each (λ f. Meets k s l r e f → Precedes slots k s l r) (run_at runs l r).events) (run_at runs k s).events

-- two events touch one place, and one changes it; the same of events of two groups
abbrev pub Meet : (e f : Event Place Act) → Type 0
Meet e f = (e.place ≡ f.place) × (IsTrue (changes e.act) ⊎ IsTrue (changes f.act))

abbrev pub MeetIn : List Owned → (group stage other_group other_stage : ℕ) → (e f : Event Place Act) → Type 0
MeetIn owned k s l r e f = Meet (in_group owned k e) (in_group owned l f)

-- an event is over in the cycle after its own
abbrev pub over : Event Place Act → ℕ
over e = suc e.cycle

-- by which memories each stage names, and which it changes
module _ (Names Changes : (stage mem : ℕ) → Type 0) where
  -- two stages name a memory, and one changes it
  abbrev pub Share : (s r m : ℕ) → Type 0
  Share s r m = Names s m × Names r m × (Changes s m ⊎ Changes r m)

  -- rules of slots, chains and copies by which runs that meet come one after the other
  pub record AreStagesSound (owned : List Owned) (slots : List Slot) (runs : List (List (Run (Event Place Act)))) : Type 0 where
    -- what a run does is what its stage names
    pub names : (k s : ℕ) → Each (λ e. Names s e.place.mem × (IsTrue (changes e.act) → Changes s e.place.mem)) (run_at runs k s).events
    -- in one group stages that share a memory are in two slots, in order, or in one chain
    pub chained : (k s r : ℕ) → s < r → k < length runs → r < length slots → Each (λ e. Each (λ f. e.place.mem ≡ f.place.mem → IsTrue (changes e.act) ⊎ IsTrue (changes f.act) → Precedes slots k s k r) (run_at runs k r).events) (run_at runs k s).events
    -- a memory that is declared here has a copy for each slot from the first one that names it to the last one
    pub copies : (s r m n : ℕ) → s < length slots → r < length slots → Share s r m → copies_of owned m ≡ suc n → (slot_at slots s).slot ≤ n + (slot_at slots r).slot
    -- of one that is not, a stage and one of an earlier slot in later groups touch one place only so far apart
    pub apart : (k s l r : ℕ) → k < l → l < length runs → s < length slots → r < length slots → (slot_at slots r).slot < (slot_at slots s).slot → Each (λ e. Each (λ f. copies_of owned e.place.mem ≡ 0 → Meet e f → k + (slot_at slots s).slot < l + (slot_at slots r).slot) (run_at runs l r).events) (run_at runs k s).events
