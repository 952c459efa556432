-- A place of a tree at which all that is visible in a program is visible under its name and its number.
use Rattle.std.specs.Prelude.{◌≡◌, ℕ, Bool, true, false, not, List, map, slice_index_or, [], Contains, Some, None}
use Rattle.sp_words.specs.declared.types.Ty.{Ty}
use Rattle.sp_tree.specs.PlainProgram.{PlainProgram}
use Rattle.sp_tree.specs.Footprint.{Names}
use Rattle.sp_tree.specs.PlainExpression.{PlainExpr, type_of}
use Rattle.sp_tree.specs.Streams.{is_fifo}
use Rattle.sp_tree.specs.Typing.{Scope, IsNumber, visible, mem_at}
use Rattle.sp_types.specs.declared.own.Ask.{Ask}
use Rattle.sp_types.specs.Visible.{memory, value, counter, Visible, is_busy}
use Rattle.sp_typed.specs.Named.{Meant, Here, find}

module _ (p : PlainProgram) where
  pub record Shown (scope : Scope) (names : List (List ℕ × Meant)) : Type 0 where
    pub mem : (m : ℕ) → Contains scope.mems m
        → find names (mem_at p m).name ≡ Some (record { symbol = memory (mem_at p m).kind (Some (mem_at p m).ty) (mem_at p m).dims; number = m })
    pub val : (v : ℕ) (ty : Ty) → Contains scope.vals (v, ty) → find names (slice_index_or p.vals v []) ≡ Some (record { symbol = value (Some ty); number = v })
    pub counter_is : (c : ℕ) → Contains scope.counters c → find names (slice_index_or p.counters c []) ≡ Some (record { symbol = counter; number = c })
    -- a name that isn't visible in the program isn't visible there
    pub fresh : (name : List ℕ) → (Contains (visible p scope) name → ⊥) → find names name ≡ None

  -- as the rules of types see it, inside of the bodies of some accumulators, which are no values and no counters
  pub record Seen (scope : Scope) (here : Here) (seen : Visible) : Type 0 where
    pub shown : Shown scope here.names
    pub same : seen.names ≡ map (λ entry. (entry.0, entry.1.symbol)) here.names
    pub val_free : (v : ℕ) (ty : Ty) → Contains scope.vals (v, ty) → is_busy seen (slice_index_or p.vals v []) ≡ false
    pub counter_free : (c : ℕ) → Contains scope.counters c → is_busy seen (slice_index_or p.counters c []) ≡ false

  -- a memory that is no accumulator around, and one that is no queue
  abbrev pub is_free : Visible → ℕ → Bool
  is_free seen m = not (is_busy seen (mem_at p m).name)

  abbrev pub is_still : ℕ → Bool
  is_still m = not (is_fifo (mem_at p m).kind)

  -- an expression is checked at its own type, as a number only if it is one, and names no accumulator around; where it must
  -- take no word from a queue, it takes none
  pub record Asked (seen : Visible) (ask : Ask) (e : PlainExpr) : Type 0 where
    pub want : ask.want ≡ Some (type_of e)
    pub number : ask.number ≡ true → IsNumber (type_of e)
    pub free : Names (is_free seen) e
    pub still : ask.still ≡ true → Names is_still e
