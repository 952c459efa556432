-- How accesses go, by what the memory holds.
use Rattle.std.proofs.Common.{◌≡◌, ℕ, zero, suc, ◌-◌, ◌<◌, List, [], ◌∷◌, ◌++◌, Bool, true, false, length, get_or, set, Option, Some, None, refl, sym, ◌∙◌, ap, subst, arith}
use Rattle.std.specs.Prelude.{nat_lt, not, Result}
use Rattle.std.proofs.lemmas.List.{get_or-map}
use Rattle.sp_tree.specs.declared.statement.FaultKind.TheVariants.{FifoFull, FifoEmpty}
use Rattle.sp_words.specs.Memory.{cells, queue, words}
use Rattle.sp_tree.specs.Accesses.{written, hold_now, read_cell, write_cell, read_line, take_oldest, dequeue, enqueue, read_word, write_word}
use Rattle.sp_tree.specs.Step.{Went, went, faulted, more, ◌>>=◌, ◌>>◌, turn, ensure, read, change, pure, fault}
use Rattle.sp_tree.specs.Store.{Store, hold, cells_of, queue_of, rows_of, words_of}
use Rattle.sp_seq.specs.declared.memory.Storage.TheVariants.{Cells, Queue, Rows, Words}
use Rattle.sp_seq.specs.declared.state.State.{State}
use Rattle.sp_seq.specs.declared.state.Stop.{Stop}
use Rattle.sp_seq.specs.Rows.{WordRow, CellRow, WordQueue, no_cells, first, rest}
use Rattle.sp_seq.specs.States.{CellRows, store_of, word_or_fault, Ran, IsLive}
use Rattle.sp_seq.proofs.StoreLemmas.{held_live}

-- a read by what came back
pub read_ran : (s : State) (place : ℕ) (o : Option ℕ) → Ran (written place o s.left (store_of s)) (word_or_fault o place) s
unfolding pure fault
read_ran s place (Some w) = refl
read_ran s place None = refl

pub read_cell-went : (s : State) (m at place : ℕ) (c : CellRow) → IsLive s m (Cells c) → (o : Option ℕ) → o ≡ get_or c.cells at None → read_cell m at place s.left (store_of s) ≡ written place o s.left (store_of s)
unfolding ◌>>=◌ read store_of
read_cell-went s m at place c h o e =
    ap (λ x. written place (get_or (cells_of x) at None) s.left (store_of s)) (held_live s m (Cells c) h) ∙ ap (λ x. written place x s.left (store_of s)) (sym e)

pub write_cell-went : (s : State) (m at word : ℕ) (c : CellRow) → IsLive s m (Cells c) → write_cell m at word s.left (store_of s) ≡ went tt s.left (hold (store_of s) m (cells (set c.cells at (Some word))))
unfolding ◌>>=◌ read change store_of
write_cell-went s m at word c h = ap (λ x. went tt s.left (hold (store_of s) m (cells (set (cells_of x) at (Some word))))) (held_live s m (Cells c) h)

pub read_line-went : (s : State) (m row column place : ℕ) (rs : CellRows) → IsLive s m (Rows rs) → row < length rs.items → (o : Option ℕ) → o ≡ get_or (get_or rs.items row no_cells).cells column None → read_line m row column place s.left (store_of s) ≡ written place o s.left (store_of s)
unfolding ◌>>=◌ read store_of
read_line-went s m row column place rs h l o e =
    ap (λ x. written place (get_or (get_or (rows_of x) row []) column None) s.left (store_of s)) (held_live s m (Rows rs) h)
    ∙ ap (λ x. written place (get_or x column None) s.left (store_of s)) (get_or-map (λ (r : CellRow). r.cells) rs.items row no_cells [] l)
    ∙ ap (λ x. written place x s.left (store_of s)) (sym e)

pub dequeue-went : (s : State) (m place : ℕ) (q : WordQueue) → IsLive s m (Queue q) → dequeue m place s.left (store_of s) ≡ take_oldest m place q.words s.left (store_of s)
unfolding ◌>>=◌ read store_of
dequeue-went s m place q h = ap (λ x. take_oldest m place (queue_of x) s.left (store_of s)) (held_live s m (Queue q) h)

pub oldest-went : (left : ℕ) (s : Store) (m place w : ℕ) (ws : List ℕ) → Some w ≡ first ws → take_oldest m place ws left s ≡ went w left (hold s m (queue (rest ws)))
unfolding ◌>>=◌ change pure
oldest-went left s m place w [] e = absurd (cc)
oldest-went left s m place w (x ∷ ws) e = let same : w ≡ x = cc in ap (λ y. went y left (hold s m (queue ws))) (sym same)

pub oldest-none : (left : ℕ) (s : Store) (m place : ℕ) (ws : List ℕ) → None ≡ first ws → take_oldest m place ws left s ≡ faulted FifoEmpty place
unfolding fault
oldest-none left s m place [] e = refl
oldest-none left s m place (x ∷ ws) e = absurd (cc)

pub enqueue-went : (s : State) (m word place : ℕ) (q : WordQueue) → IsLive s m (Queue q) → nat_lt (length q.words) q.room ≡ true → enqueue m q.room word place s.left (store_of s) ≡ went tt s.left (hold (store_of s) m (queue (q.words ++ word ∷ [])))
unfolding ◌>>=◌ read change pure store_of
enqueue-went s m word place q h e =
    let after : Bool → List ℕ → Went (Unit {0}) = λ b ws. ((ensure b FifoFull place) >> hold_now m (queue (ws ++ word ∷ []))) s.left (store_of s) in
    ap (λ x. after (nat_lt (length (queue_of x)) q.room) (queue_of x)) (held_live s m (Queue q) h) ∙ ap (λ b. after b q.words) e

pub enqueue-full : (s : State) (m word place : ℕ) (q : WordQueue) → IsLive s m (Queue q) → nat_lt (length q.words) q.room ≡ false → enqueue m q.room word place s.left (store_of s) ≡ faulted FifoFull place
unfolding ◌>>=◌ read change pure fault store_of
enqueue-full s m word place q h e =
    let after : Bool → List ℕ → Went (Unit {0}) = λ b ws. ((ensure b FifoFull place) >> hold_now m (queue (ws ++ word ∷ []))) s.left (store_of s) in
    ap (λ x. after (nat_lt (length (queue_of x)) q.room) (queue_of x)) (held_live s m (Queue q) h) ∙ ap (λ b. after b q.words) e

pub read_word-went : (s : State) (m at : ℕ) (r : WordRow) → IsLive s m (Words r) → read_word m at s.left (store_of s) ≡ went (get_or r.words at 0) s.left (store_of s)
unfolding read store_of
read_word-went s m at r h = ap (λ x. went (get_or (words_of x) at 0) s.left (store_of s)) (held_live s m (Words r) h)

pub write_word-went : (s : State) (m at word : ℕ) (r : WordRow) → IsLive s m (Words r) → write_word m at word s.left (store_of s) ≡ went tt s.left (hold (store_of s) m (words (set r.words at word)))
unfolding ◌>>=◌ read change store_of
write_word-went s m at word r h = ap (λ x. went tt s.left (hold (store_of s) m (words (set (words_of x) at word)))) (held_live s m (Words r) h)

pub ran_read : (s : State) (place : ℕ) (o : Option ℕ) (w : Went ℕ) (r : Result ℕ Stop) → w ≡ written place o s.left (store_of s) → r ≡ word_or_fault o place → Ran w r s
ran_read s place o w r e f = subst (λ x. Ran x r s) (sym e) (subst (λ x. Ran (written place o s.left (store_of s)) x s) (sym f) (read_ran s place o))

pub not_full : (a b : Bool) → not a ≡ b → a ≡ not b
not_full true b e = ap not e
not_full false b e = ap not e

pub turn_none : (left : ℕ) (s : Store) → left ≡ 0 → turn left s ≡ more
unfolding turn
turn_none zero s e = refl
turn_none (suc left) s e = absurd (omega arith)

pub turn_went : (left : ℕ) (s : Store) → 0 < left → turn left s ≡ went tt (left - 1) s
unfolding turn
turn_went zero s l = absurd (omega arith)
turn_went (suc left) s l = ap (λ n. went tt n s) (omega arith)
