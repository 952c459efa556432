-- What a list of operations means: one after the other, each by the words of earlier ones.
use Rattle.std.specs.Prelude.{ℕ, ◌-◌, ◌==◌, Bool, true, false, List, [], ◌∷◌, ◌++◌, length, map, take, slice_index, Option, Some, None}
use Rattle.sp_words.specs.declared.types.Ty.{Ty}
use Rattle.sp_words.specs.Words.{word_cast}
use Rattle.sp_core.specs.declared.operation.OpKind.{OpKind}
use Rattle.sp_core.specs.declared.operation.OpKind.TheVariants.{Word, Count, Live, Read, Write, Enq, Deq, Reset, One, Two, Shift, Mux, Cast}
use Rattle.sp_core.specs.Accesses.{hold_now, read_at, write_at, enqueue, dequeue}
use Rattle.sp_core.specs.Declarations.{fresh}
use Rattle.sp_core.specs.History.{Entry, left_out, gave, touched, word_at}
use Rattle.sp_core.specs.Operators.{bit, one_word, two_word, shifted, chosen}
use Rattle.sp_core.specs.PlainCore.{PlainOp, PlainCore}
use Rattle.sp_core.specs.Scope.{Scope, is_some_live, count_word}
use Rattle.sp_core.specs.Step.{Step, pure, ◌>>=◌, ◌>>◌, stop}

-- whether its mask is 0, by what was done before
abbrev pub is_masked : Option ℕ → List Entry → Bool
is_masked None done = false
is_masked (Some m) done = word_at done m == 0

module _ (core : PlainCore) (scope : Scope) where
  -- an access to a memory, by the words of its operands: the indices, and then the word that is written or put
  abbrev pub access : OpKind → ℕ → List ℕ → Step Entry
  access Read m args = read_at core m args
  access Write m args = write_at core m (take (length args - 1) args) (slice_index args (length args - 1))
  access Enq m args = do
    enqueue core m (slice_index args 0)
    pure (touched [] (slice_index args 0))
  access Deq m args = do
    w ← dequeue core m
    pure (touched [] w)
  access Reset m args = do
    hold_now m (fresh core m)
    pure (touched [] 0)
  access _ m args = stop

  abbrev pub access_of : OpKind → Option ℕ → List ℕ → Step Entry
  access_of kind None args = stop
  access_of kind (Some m) args = access kind m args

  -- by the type at which it is done, the memory that it names and the words of its operands
  abbrev pub done_by : OpKind → Ty → Option ℕ → List ℕ → Step Entry
  done_by (Word w) ty m args = pure (gave w)
  done_by (Count c lane) ty m args = pure (gave (count_word (scope c) lane))
  done_by (Live c first last) ty m args = pure (gave (bit (is_some_live (scope c).live first last)))
  done_by (One op) ty m args = pure (gave (one_word op ty (slice_index args 0)))
  done_by (Two op) ty m args = pure (gave (two_word op ty (slice_index args 0) (slice_index args 1)))
  done_by (Shift left by) ty m args = pure (gave (shifted left ty (slice_index args 0) by))
  done_by Mux ty m args = pure (gave (chosen (slice_index args 0) (slice_index args 1) (slice_index args 2)))
  done_by (Cast to) ty m args = pure (gave (word_cast ty to (slice_index args 0)))
  done_by kind ty m args = access_of kind m args

  abbrev pub operation : PlainOp → (done : List Entry) → Step Entry
  operation op done = elim (is_masked op.mask done) [
    | true ↦ pure left_out
    | false ↦ done_by op.kind op.ty op.mem (map (word_at done) op.args)
  ]

  unfoldable pub operations_after : (done : List Entry) → List PlainOp → Step (List Entry)
  operations_after done [] = pure done
  operations_after done (op ∷ ops) = do
    e ← operation op done
    operations_after (done ++ e ∷ []) ops

  abbrev pub operations : List PlainOp → Step (List Entry)
  operations ops = operations_after [] ops
