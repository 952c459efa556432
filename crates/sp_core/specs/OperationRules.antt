-- What every list of operations of a core keeps.
use Rattle.std.specs.Prelude.{ℕ, ◌^◌, Bool, true, false, ◌&&◌, not, nat_le, nat_lt, List, [], ◌∷◌, ◌++◌, Option, Some, None}
use Rattle.std.specs.List.{list_all}
use Rattle.sp_words.specs.declared.kind.Kind.{Kind}
use Rattle.sp_words.specs.declared.kind.Kind.TheVariants.{Reg, Sram, Fifo, LineBuf, ArgIn, ArgOut}
use Rattle.sp_words.specs.declared.types.Ty.{Ty}
use Rattle.sp_words.specs.declared.types.Ty.TheVariants.{Bit}
use Rattle.sp_words.specs.Types.{int_type, width_of}
use Rattle.sp_core.specs.declared.operation.OpKind.{OpKind}
use Rattle.sp_core.specs.declared.operation.OpKind.TheVariants.{Word, Count, Live, Read, Write, Enq, Deq, Reset, Shift}
use Rattle.sp_core.specs.Around.{Around, has_lane, is_usable}
use Rattle.sp_core.specs.Declarations.{mem}
use Rattle.sp_core.specs.PlainCore.{PlainOp, PlainCounter, PlainCore}
use Rattle.sp_core.specs.Sequential.{has_reset}
use Rattle.sp_core.specs.Typed.{Given, is_type, given_type, index_count, taken_types, gives, give_all, last_gives}

-- the kinds of memory that may be read, written and so on
abbrev pub can_read : Kind → Bool
can_read Reg = true
can_read Sram = true
can_read LineBuf = true
can_read ArgIn = true
can_read _ = false

abbrev pub can_write : Kind → Bool
can_write Reg = true
can_write Sram = true
can_write ArgOut = true
can_write _ = false

abbrev pub is_fifo : Kind → Bool
is_fifo Fifo = true
is_fifo _ = false

abbrev pub can : OpKind → Kind → (start : Option ℕ) → Bool
can Read kind start = can_read kind
can Write kind start = can_write kind
can Enq kind start = is_fifo kind
can Deq kind start = is_fifo kind
can Reset kind start = has_reset kind start
can _ kind start = false

-- whether it is an access to a memory
abbrev pub is_access : OpKind → Bool
is_access Read = true
is_access Write = true
is_access Enq = true
is_access Deq = true
is_access Reset = true
is_access _ = false

-- a word is one of its type, a shift is below 64, and a counter is around, in a lane that its controller has
abbrev pub is_in_range : OpKind → Ty → Around → Bool
is_in_range (Word w) ty around = nat_lt w (2 ^ width_of ty)
is_in_range (Count c lane) ty around = has_lane around.counters c lane && is_type ty int_type
is_in_range (Live c first last) ty around = (nat_le first last && has_lane around.counters c last) && is_type ty Bit
is_in_range (Shift left by) ty around = nat_lt by 64
is_in_range _ ty around = true

module _ (core : PlainCore) (around : Around) where
  -- an access names a memory that may be used here, of a kind that allows it and of its type; nothing else names one
  abbrev pub names_rightly : OpKind → Ty → Option ℕ → Bool
  names_rightly kind ty None = not (is_access kind)
  names_rightly kind ty (Some m) = (is_access kind && is_usable core around m) && (can kind (mem core m).kind (mem core m).start && is_type ty (mem core m).ty)

  abbrev pub indices_of : Option ℕ → ℕ
  indices_of None = 0
  indices_of (Some m) = index_count (mem core m)

  -- a mask is a `Bit`
  abbrev pub is_mask : Given → Option ℕ → Bool
  is_mask earlier None = true
  is_mask earlier (Some m) = gives earlier m Bit

  abbrev pub is_operation_right : Given → PlainOp → Bool
  is_operation_right earlier op =
      (is_in_range op.kind op.ty around && names_rightly op.kind op.ty op.mem)
      && (give_all earlier op.args (taken_types op.kind op.ty (indices_of op.mem)) && is_mask earlier op.mask)

  -- each by those before it
  abbrev pub are_operations_right_after : Given → List PlainOp → Bool
  are_operations_right_after earlier [] = true
  are_operations_right_after earlier (op ∷ ops) = is_operation_right earlier op && are_operations_right_after (earlier ++ given_type op.kind op.ty ∷ []) ops

  abbrev pub are_operations_right : List PlainOp → Bool
  are_operations_right ops = are_operations_right_after [] ops

  -- a list that gives a word of a type
  abbrev pub is_word_list : List PlainOp → Ty → Bool
  is_word_list ops ty = are_operations_right ops && last_gives ops ty

  -- bounds and slices read no SRAM and no line buffer, and change nothing
  abbrev pub is_early_kind : OpKind → Kind → Bool
  is_early_kind Read Sram = false
  is_early_kind Read LineBuf = false
  is_early_kind Write kind = false
  is_early_kind Enq kind = false
  is_early_kind Deq kind = false
  is_early_kind Reset kind = false
  is_early_kind _ kind = true

  abbrev pub is_early_at : OpKind → Option ℕ → Bool
  is_early_at kind None = true
  is_early_at kind (Some m) = is_early_kind kind (mem core m).kind

  abbrev pub is_early : PlainOp → Bool
  is_early op = is_early_at op.kind op.mem

  -- a bound, an index of a slice, or a count
  abbrev pub is_bound : List PlainOp → Bool
  is_bound ops = is_word_list ops int_type && list_all is_early ops

  abbrev pub is_counter_right : PlainCounter → Bool
  is_counter_right c = (is_bound c.from && is_bound c.until) && ((nat_le 1 c.by && nat_lt c.by (2 ^ 31)) && (nat_le 1 c.par && nat_le c.par 16))
