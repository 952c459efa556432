-- The accesses to a memory.
use Rattle.std.specs.Prelude.{◌≡◌, ℕ, ◌==◌, Bool, true, false, ◌&&◌, List, map}
use Rattle.std.specs.Borrow.{Bor}
use Rattle.sp_core.specs.declared.operation.OpKind.{OpKind}
use Rattle.sp_core.specs.declared.operation.OpKind.TheVariants.{Read, Write, Enq, Deq, Reset}
use Rattle.sp_core.specs.OperationRules.{is_access}
use Rattle.sp_access_nets.specs.declared.access.AccessNets.{AccessNets}

abbrev pub is_read : OpKind → Bool
is_read Read = true
is_read _ = false

abbrev pub is_write : OpKind → Bool
is_write Write = true
is_write _ = false

abbrev pub is_put : OpKind → Bool
is_put Enq = true
is_put _ = false

abbrev pub is_take : OpKind → Bool
is_take Deq = true
is_take _ = false

abbrev pub is_reset : OpKind → Bool
is_reset Reset = true
is_reset _ = false

-- accesses of one kind; other operations are none
abbrev pub is_same_access : OpKind → OpKind → Bool
is_same_access Read other = is_read other
is_same_access Write other = is_write other
is_same_access Enq other = is_put other
is_same_access Deq other = is_take other
is_same_access Reset other = is_reset other
is_same_access _ other = false

abbrev pub is_to : (mem : ℕ) → OpKind → AccessNets → Bool
is_to mem kind a = a.mem == mem && is_same_access kind a.kind

abbrev pub lent : List (Bor AccessNets) → List AccessNets
lent accesses = map (λ (a : Bor AccessNets). a.now) accesses

-- these are just the accesses of that kind to that memory
abbrev pub PicksAccessesTo : Type 0
PicksAccessesTo =
    (mem : ℕ) (kind : OpKind) (a : AccessNets) → is_access kind ≡ true
    → (is_to mem kind a ≡ true → (a.mem ≡ mem) × (a.kind ≡ kind)) × (a.mem ≡ mem → a.kind ≡ kind → is_to mem kind a ≡ true)
