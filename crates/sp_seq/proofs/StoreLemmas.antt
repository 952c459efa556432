-- What a state stands for after one of its parts changed.
use Rattle.std.proofs.Common.{◌≡◌, ℕ, ◌<◌, ◌≢◌, true, false, List, [], length, get_or, set, Some, sym, ◌∙◌, ap, ap₂, ⊎_elim}
use mathlib.Core.Path.{fun_ext}
use Rattle.std.proofs.lemmas.Bool.{cases_eq, eq-eqb, ne_eqb}
use Rattle.std.proofs.lemmas.List.{get_or-set_same, get_or-set_other, get_or_read}
use Rattle.sp_words.specs.Memory.{Contents}
use Rattle.sp_tree.specs.Store.{changed, hold, name_value, set_counter}
use Rattle.sp_seq.specs.declared.memory.Memory.{Memory}
use Rattle.sp_seq.specs.declared.memory.Storage.{Storage}
use Rattle.sp_seq.specs.declared.memory.Storage.TheVariants.{Queue, Rows}
use Rattle.sp_seq.specs.declared.state.State.{State}
use Rattle.sp_seq.specs.Rows.{CellRow, WordQueue}
use Rattle.sp_seq.specs.States.{CellRows, contents_of, held_if, held_of, no_memory, memory_of, store_of, IsLive}

pub held_live : (s : State) (m : ℕ) (st : Storage) → IsLive s m st → held_of (memory_of s m) ≡ Some (contents_of st)
held_live s m st h = ap₂ held_if h.live h.is

-- a function of the elements of a list, one of which changed
pub changed-set : {A B : Type 0} (f : A → B) (d : A) (xs : List A) (m : ℕ) (x : A) → m < length xs → changed (λ k. f (get_or xs k d)) m (f x) ≡ (λ k. f (get_or (set xs m x) k d))
changed-set {B = B} f d xs m x l = fun_ext (λ k. ⊎_elim
    (λ e. same k e) (λ n. other k n) (cases_eq k m))
  where
    same : (k : ℕ) → k ≡ m → changed (λ k. f (get_or xs k d)) m (f x) k ≡ f (get_or (set xs m x) k d)
    same k e = ap (λ b. elim b as (λ _. B) [ true ↦ f x | false ↦ f (get_or xs k d) ]) (eq-eqb k m e) ∙ ap f (sym (get_or-set_same xs m x d l)) ∙ ap (λ j. f (get_or (set xs m x) j d)) (sym e)

    other : (k : ℕ) → k ≢ m → changed (λ k. f (get_or xs k d)) m (f x) k ≡ f (get_or (set xs m x) k d)
    other k n = ap (λ b. elim b as (λ _. B) [ true ↦ f x | false ↦ f (get_or xs k d) ]) (ne_eqb k m n) ∙ ap f (sym (get_or-set_other xs m k x d n))

-- another memory at a number
pub hold-set : (s t : State) (m : ℕ) (x : Memory) (contents : Contents) → m < length s.memories.items → t.memories.items ≡ set s.memories.items m x
    → t.values.items ≡ s.values.items → t.counts.items ≡ s.counts.items → held_of x ≡ Some contents → hold (store_of s) m contents ≡ store_of t
unfolding store_of
hold-set s t m x contents l e v c h =
    let held : changed (λ k. held_of (memory_of s k)) m (Some contents) ≡ (λ k. held_of (memory_of t k)) =
    ap (λ o. changed (λ k. held_of (memory_of s k)) m o) (sym h) ∙ changed-set held_of no_memory s.memories.items m x l ∙ ap (λ ms. (λ k. held_of (get_or ms k no_memory))) (sym e) in
    let values : (λ k. get_or s.values.items k 0) ≡ (λ k. get_or t.values.items k 0) = ap (λ ws. (λ k. get_or ws k 0)) (sym v) in
    let counts : (λ k. get_or s.counts.items k 0) ≡ (λ k. get_or t.counts.items k 0) = ap (λ ws. (λ k. get_or ws k 0)) (sym c) in
    λ i. record { held = held i; values = values i; counts = counts i }

-- the memory that was looked up
pub looked_up : (s : State) (m : ℕ) (x : Memory) (other : Storage) → IsLive s m other → x ≡ get_or s.memories.items m x → x ≡ memory_of s m
looked_up s m x other h r = get_or_read s.memories.items m x h.inside r no_memory

pub live_as : (s : State) (m : ℕ) (x : Memory) (other st : Storage) → IsLive s m other → x ≡ get_or s.memories.items m x → x.storage ≡ st → IsLive s m st
live_as s m x other st h r e = record { inside = h.inside; live = h.live; is = ap (λ (y : Memory). y.storage) (sym (looked_up s m x other h r)) ∙ e }

-- the state after something else lies in that memory's storage
pub stored : (s t : State) (m : ℕ) (x : Memory) (other st : Storage) (contents : Contents) → IsLive s m other → x ≡ get_or s.memories.items m x
    → t.memories.items ≡ set s.memories.items m (record { live = x.live; storage = st }) → t.values.items ≡ s.values.items → t.counts.items ≡ s.counts.items
    → contents_of st ≡ contents → hold (store_of s) m contents ≡ store_of t
stored s t m x other st contents h r e v c k =
    hold-set s t m (record { live = x.live; storage = st }) contents h.inside e v c
    (ap (λ b. held_if b st) (ap (λ (y : Memory). y.live) (looked_up s m x other h r) ∙ h.live) ∙ ap (λ z. Some z) k)

-- what lies in a storage by two accounts
rows_in : Storage → List CellRow
rows_in (Rows rs) = rs.items
rows_in _ = []

pub same_rows : (s : State) (m : ℕ) (rs ts : CellRows) → IsLive s m (Rows rs) → IsLive s m (Rows ts) → rs.items ≡ ts.items
unfolding rows_in
same_rows s m rs ts h k = ap rows_in (sym h.is ∙ k.is)

room_in : Storage → ℕ
room_in (Queue q) = q.room
room_in _ = 0

pub same_room : (s : State) (m : ℕ) (q r : WordQueue) → IsLive s m (Queue q) → IsLive s m (Queue r) → q.room ≡ r.room
unfolding room_in
same_room s m q r h k = ap room_in (sym h.is ∙ k.is)

-- another word of a value, and of a counter
pub name-set : (s t : State) (v w : ℕ) → v < length s.values.items → t.values.items ≡ set s.values.items v w → t.counts.items ≡ s.counts.items → t.memories.items ≡ s.memories.items → name_value (store_of s) v w ≡ store_of t
unfolding store_of
name-set s t v w l e c m =
    let held : (λ k. held_of (memory_of s k)) ≡ (λ k. held_of (memory_of t k)) = ap (λ ms. (λ k. held_of (get_or ms k no_memory))) (sym m) in
    let values : changed (λ k. get_or s.values.items k 0) v w ≡ (λ k. get_or t.values.items k 0) = changed-set (λ x. x) 0 s.values.items v w l ∙ ap (λ ws. (λ k. get_or ws k 0)) (sym e) in
    let counts : (λ k. get_or s.counts.items k 0) ≡ (λ k. get_or t.counts.items k 0) = ap (λ ws. (λ k. get_or ws k 0)) (sym c) in
    λ i. record { held = held i; values = values i; counts = counts i }

pub count-set : (s t : State) (k w : ℕ) → k < length s.counts.items → t.counts.items ≡ set s.counts.items k w → t.values.items ≡ s.values.items → t.memories.items ≡ s.memories.items → set_counter (store_of s) k w ≡ store_of t
unfolding store_of
count-set s t k w l e v m =
    let held : (λ j. held_of (memory_of s j)) ≡ (λ j. held_of (memory_of t j)) = ap (λ ms. (λ j. held_of (get_or ms j no_memory))) (sym m) in
    let values : (λ j. get_or s.values.items j 0) ≡ (λ j. get_or t.values.items j 0) = ap (λ ws. (λ j. get_or ws j 0)) (sym v) in
    let counts : changed (λ j. get_or s.counts.items j 0) k w ≡ (λ j. get_or t.counts.items j 0) = changed-set (λ x. x) 0 s.counts.items k w l ∙ ap (λ ws. (λ j. get_or ws j 0)) (sym e) in
    λ i. record { held = held i; values = values i; counts = counts i }
