-- What the members of chains do over runs of any kind, of which each has a first cycle for the chains and what was found of each
-- member.
use Rattle.std.specs.Prelude.{◌≡◌, ℕ, suc, ◌+◌, ◌≤◌, true, false, List, [], ◌∷◌, length, Option, Some, None}
use Rattle.std.specs.List.{Contains}
use Rattle.sp_netlist.specs.Signals.{Signals}
use Rattle.sp_gates.specs.Tested.{is_on}
use Rattle.sp_part_runs.specs.BodiesRuns.{IsOnAt}
use Rattle.sp_part_runs.specs.ControlParts.{Ran, Begins, DoesRuns}
use Rattle.sp_sequence.specs.declared.part.Member.{Member}
use Rattle.sp_sequence.specs.declared.part.Chain.{Chain}
use Rattle.sp_part_runs.specs.SequencesRuns.{MemberRan, chain_took}

-- what holds of each of a list, by its number
abbrev pub Numbered : {A : Type 0} → (P : (number : ℕ) → A → Type 0) → (from : ℕ) → List A → Type 0
Numbered P n [] = Unit {0}
Numbered P n (x ∷ xs) = P n x × Numbered P (suc n) xs

module _ {R : Type 0} where
  -- the cycles of something in all runs
  abbrev pub At : (when : R → ℕ) → List R → (t : ℕ) → Type 0
  At when runs t = (r : R) × Contains runs r × (t ≡ when r)

  -- the turn of a member is told in the first cycle, or where the members before it are over
  abbrev pub turn : (first : R → ℕ) → (found : R → (member : ℕ) → MemberRan) → (member : ℕ) → R → ℕ
  turn first found i r = first r + chain_took (found r) i

  -- the runs of a child: it begins a cycle after its turn is told, in the runs in which it is wanted
  abbrev pub child_runs : (told : R → ℕ) → (found : R → MemberRan) → List R → List Ran
  child_runs told found [] = []
  child_runs told found (r ∷ runs) = elim (found r).wanted [ true ↦ record { cycle = suc (told r); took = (found r).took } ∷ child_runs told found runs | false ↦ child_runs told found runs ]

  -- where the turn of a member is told its net says whether it is wanted; one without a net always is
  abbrev pub SaysWanted : Signals → (wanted : Option ℕ) → (told : R → ℕ) → (found : R → MemberRan) → List R → (last : ℕ) → Type 0
  SaysWanted s None told found runs last = (r : R) → Contains runs r → told r ≤ last → (found r).wanted ≡ true
  SaysWanted s (Some w) told found runs last = (r : R) → Contains runs r → told r ≤ last → is_on s w (told r) ≡ (found r).wanted

  pub record MemberDoes (s : Signals) (told : R → ℕ) (found : R → MemberRan) (runs : List R) (last : ℕ) (m : Member) : Type 0 where
    pub child : DoesRuns (is_on s m.child.start) (is_on s m.child.done) (child_runs told found runs) last
    pub wanted : SaysWanted s m.wanted told found runs last

  -- each chain takes a cycle at least, and its members do their runs
  pub record ChainDoes (s : Signals) (first : R → ℕ) (found : R → (member : ℕ) → MemberRan) (runs : List R) (last : ℕ) (c : Chain) : Type 0 where
    pub takes_time : (r : R) → Contains runs r → 1 ≤ chain_took (found r) (length c.members.items)
    pub members : Numbered (λ i m. MemberDoes s (turn first found i) (λ r. found r i) runs last m) 0 c.members.items

  abbrev pub ChainsDo : Signals → (first : R → ℕ) → (found : R → (chain member : ℕ) → MemberRan) → List R → (last : ℕ) → List Chain → Type 0
  ChainsDo s first found runs last chains = Numbered (λ j c. ChainDoes s first (λ r. found r j) runs last c) 0 chains

  -- each member is started in the cycles of its runs and in no other, up to a cycle
  abbrev pub MemberBegins : Signals → (told : R → ℕ) → (found : R → MemberRan) → List R → (last : ℕ) → Member → Type 0
  MemberBegins s told found runs last m = IsOnAt (is_on s m.child.start) (Begins (child_runs told found runs)) last

  abbrev pub ChainBegins : Signals → (first : R → ℕ) → (found : R → (member : ℕ) → MemberRan) → List R → (last : ℕ) → Chain → Type 0
  ChainBegins s first found runs last c = Numbered (λ i m. MemberBegins s (turn first found i) (λ r. found r i) runs last m) 0 c.members.items

  abbrev pub ChainsBegin : Signals → (first : R → ℕ) → (found : R → (chain member : ℕ) → MemberRan) → List R → (last : ℕ) → List Chain → Type 0
  ChainsBegin s first found runs last chains = Numbered (λ j c. ChainBegins s first (λ r. found r j) runs last c) 0 chains
