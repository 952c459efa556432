-- The memories and ports of the core of a program are right by themselves.
use Rattle.std.proofs.Common.{◌≡◌, ℕ, zero, suc, ◌+◌, ◌^◌, ◌<◌, ◌≤◌, max, Bool, true, false, cond, List, [], ◌∷◌, Option, Some, None, refl, sym, ◌∙◌, ap, subst, arith, if◌then◌else◌}
use Rattle.std.proofs.lemmas.Bool.{false≢true, true≢false, eq-eqb, lt-ltb, le-leb, not-true, and_from}
use Rattle.std.proofs.lemmas.List.Folds.{list_all-append}
use Rattle.std.proofs.lemmas.List.Sums.{get_or-le-sum_by}
use Rattle.std.proofs.lemmas.Nat.{mul-le}
use Rattle.std.specs.List.{list_all}
use Rattle.std.specs.Prelude.{length, map, filter, slice_index_or, All}
use Rattle.sp_words.specs.declared.kind.Kind.{Kind}
use Rattle.sp_words.specs.declared.kind.Kind.TheVariants.{Reg, Sram, Fifo, LineBuf, Dram, ArgIn, ArgOut}
use Rattle.sp_words.specs.Interface.{IsCount, word_count}
use Rattle.sp_words.specs.Types.{width_of}
use Rattle.sp_tree.specs.Counts.{is_port, words_from, dram_count}
use Rattle.sp_tree.specs.Declarations.{HasRank, HasStart, IsDeclaration}
use Rattle.sp_tree.specs.Expressions as expressions
use Rattle.sp_tree.specs.Invariant.{IsProgram, port_of}
use Rattle.sp_tree.specs.Meaning.{is_dram}
use Rattle.sp_tree.specs.PlainProgram.{PlainMem, PlainProgram, no_mem}
use Rattle.sp_tree.specs.Streams.{room, roomy_in, stream_room}
use Rattle.sp_tree.specs.Tallies.{is_among}
use Rattle.sp_core.specs.MemoryRules.{has_rank, has_start, has_words, is_mem_right, is_dram_right, are_memories_right}
use Rattle.sp_core.specs.PlainCore as core
use Rattle.sp_words.specs.Ports as core_port
use Rattle.sp_sugar.specs.Core.{core_of}
use Rattle.sp_sugar.specs.Numbers.{is_off_dram, written_mem, written_mems}
use Rattle.sp_sugar.specs.Registers.{registers_in}
use Rattle.sp_sugar.specs.Uses.{no_more}
use Rattle.sp_sugar.proofs.NumberLemmas.{either, written_kept, written_skipped}
use Rattle.sp_sugar.proofs.Registered.{are_registers_in}

rank_is : (k : Kind) (n : ℕ) → is_dram k ≡ false → HasRank k n → has_rank k n ≡ true
rank_is Reg n d h = eq-eqb n 0 h
rank_is Sram n d h = and_from _ _ (le-leb 1 n h.0) (le-leb n 3 h.1)
rank_is Fifo n d h = eq-eqb n 1 h
rank_is LineBuf n d h = eq-eqb n 2 h
rank_is Dram n d h = absurd (true≢false d)
rank_is ArgIn n d h = eq-eqb n 0 h
rank_is ArgOut n d h = eq-eqb n 0 h

start_is : (m : PlainMem) (k : Kind) (start : Option ℕ) → HasStart m k start → has_start k m.ty start ≡ true
start_is m Reg None h = refl
start_is m Reg (Some w) h = lt-ltb w (2 ^ width_of m.ty) h
start_is m Sram start h = subst (λ s. has_start Sram m.ty s ≡ true) (sym h) refl
start_is m Fifo start h = subst (λ s. has_start Fifo m.ty s ≡ true) (sym h) refl
start_is m LineBuf start h = subst (λ s. has_start LineBuf m.ty s ≡ true) (sym h) refl
start_is m Dram start h = subst (λ s. has_start Dram m.ty s ≡ true) (sym h) refl
start_is m ArgIn start h = subst (λ s. has_start ArgIn m.ty s ≡ true) (sym h) refl
start_is m ArgOut start h = subst (λ s. has_start ArgOut m.ty s ≡ true) (sym h) refl

pub some_words : (dims : List ℕ) → All IsCount dims → 1 ≤ word_count dims
some_words [] h = omega arith
some_words (d ∷ dims) h = mul-le 1 1 d (word_count dims) (h 0 0 (omega arith)).0 (some_words dims (λ k e lt. h (suc k) e (omega arith)))

words_are : (most : ℕ) (dims : List ℕ) → All IsCount dims → word_count dims ≤ most → has_words most dims ≡ true
words_are most dims h le = and_from _ _ (le-leb 1 (word_count dims) (some_words dims h)) (le-leb (word_count dims) most le)

module _ (p : PlainProgram) where
  abbrev roomy : List ℕ
  roomy = roomy_in p.mems p.body

  room_le : (m : ℕ) → word_count (expressions.dims p.mems m) ≤ room p.mems roomy m
  room_le m = either (is_among m roomy)
      (λ e. subst (λ b. word_count (expressions.dims p.mems m) ≤ (if b then max (word_count (expressions.dims p.mems m)) stream_room else word_count (expressions.dims p.mems m))) (sym e) (omega arith))
      (λ e. subst (λ b. word_count (expressions.dims p.mems m) ≤ (if b then max (word_count (expressions.dims p.mems m)) stream_room else word_count (expressions.dims p.mems m))) (sym e) (omega arith))

  -- a memory on the chip has no more words than all of them
  words_le : (first : ℕ) (l : List PlainMem) (j m : ℕ) → j < length l → first + j ≡ m → is_port (slice_index_or l j no_mem).kind ≡ false → word_count (expressions.dims p.mems m) ≤ words_from p first l
  words_le first [] j m lt same e = absurd (omega arith)
  words_le first (x ∷ l) zero m lt same e =
      let f : (if is_port x.kind then 0 else room p.mems roomy first) ≡ room p.mems roomy first = ap (λ b. if b then 0 else room p.mems roomy first) e in
      let g : room p.mems roomy m ≡ room p.mems roomy first = ap (room p.mems roomy) (omega (arith, same)) in
      omega (arith, f, g, room_le m)
  words_le first (x ∷ l) (suc j) m lt same e = let f : word_count (expressions.dims p.mems m) ≤ words_from p (suc first) l = words_le (suc first) l j m (omega arith) (omega (arith, same)) e in omega (arith, f)

  module _ (h : IsProgram p) where
    port_words : (k : Kind) (dims : List ℕ) → is_port k ≡ true → is_dram k ≡ false → HasRank k (length dims) → word_count dims ≤ 4194304
    port_words Reg dims e d r = absurd (false≢true e)
    port_words Sram dims e d r = absurd (false≢true e)
    port_words Fifo dims e d r = absurd (false≢true e)
    port_words LineBuf dims e d r = absurd (false≢true e)
    port_words Dram dims e d r = absurd (true≢false d)
    port_words ArgIn [] e d r = omega arith
    port_words ArgIn (x ∷ dims) e d r = absurd (omega (arith, r))
    port_words ArgOut [] e d r = omega arith
    port_words ArgOut (x ∷ dims) e d r = absurd (omega (arith, r))

    chip_words_le : (m : ℕ) → m < length p.mems → is_dram (expressions.mem p.mems m).kind ≡ false → word_count (expressions.dims p.mems m) ≤ 4194304
    chip_words_le m lt d = either (is_port (expressions.mem p.mems m).kind)
        (λ e. port_words (expressions.mem p.mems m).kind (expressions.dims p.mems m) e d (h.declarations m no_mem lt).rank)
        (λ e. let f : word_count (expressions.dims p.mems m) ≤ words_from p 0 p.mems = words_le 0 p.mems m m lt (omega arith) e in let g : words_from p 0 p.mems ≤ 4194304 = h.limits.words in omega (arith, f, g))

    mem_right : (m : ℕ) → m < length p.mems → is_off_dram (expressions.mem p.mems m) ≡ true → is_mem_right (written_mem (expressions.mem p.mems m)) ≡ true
    mem_right m lt off =
        let d : is_dram (expressions.mem p.mems m).kind ≡ false = not-true (is_dram (expressions.mem p.mems m).kind) off in
        let x : IsDeclaration (expressions.mem p.mems m) = h.declarations m no_mem lt in
        and_from _ _ (and_from _ _ (rank_is (expressions.mem p.mems m).kind (length (expressions.mem p.mems m).dims) d x.rank) (start_is (expressions.mem p.mems m) (expressions.mem p.mems m).kind (expressions.mem p.mems m).start x.start))
        (words_are 4194304 (expressions.mem p.mems m).dims x.dims (chip_words_le m lt d))

  -- what holds of each memory of the text holds of all
  all_written : (f : core.PlainMem → Bool) (l : List PlainMem) → ((j : ℕ) → j < length l → is_off_dram (slice_index_or l j no_mem) ≡ true → f (written_mem (slice_index_or l j no_mem)) ≡ true) → list_all f (written_mems l) ≡ true
  all_written f [] h = refl
  all_written f (x ∷ l) h = either (is_off_dram x)
      (λ e. subst (λ ms. list_all f ms ≡ true) (sym (written_kept x l e)) (and_from _ _ (h 0 (omega arith) e) (all_written f l (λ j lt. h (suc j) (omega arith)))))
      (λ e. subst (λ ms. list_all f ms ≡ true) (sym (written_skipped x l e)) (all_written f l (λ j lt. h (suc j) (omega arith))))

  all_added : (f : core.PlainMem → Bool) (l : List core.PlainMem) → ((j : ℕ) → f (slice_index_or l j core.no_mem) ≡ true) → list_all f l ≡ true
  all_added f [] h = refl
  all_added f (x ∷ l) h = and_from _ _ (h 0) (all_added f l (λ j. h (suc j)))

  all_ports : (f : core_port.PlainPort → Bool) (is : Kind → Bool) (l : List PlainMem) → ((j : ℕ) → j < length l → is (slice_index_or l j no_mem).kind ≡ true → f (port_of (slice_index_or l j no_mem)) ≡ true)
      → list_all f (map port_of (filter (λ m. is m.kind) l)) ≡ true
  all_ports f is [] h = refl
  all_ports f is (x ∷ l) h = either (is x.kind)
      (λ e. subst (λ b. list_all f (map port_of (cond b (x ∷ filter (λ m. is m.kind) l) (filter (λ m. is m.kind) l))) ≡ true) (sym e) (and_from _ _ (h 0 (omega arith) e) (all_ports f is l (λ j lt. h (suc j) (omega arith)))))
      (λ e. subst (λ b. list_all f (map port_of (cond b (x ∷ filter (λ m. is m.kind) l) (filter (λ m. is m.kind) l))) ≡ true) (sym e) (all_ports f is l (λ j lt. h (suc j) (omega arith))))

  module _ (h : IsProgram p) where
    dram_rank : (k : Kind) (n : ℕ) → is_dram k ≡ true → HasRank k n → (1 ≤ n) × (n ≤ 3)
    dram_rank Reg n d r = absurd (false≢true d)
    dram_rank Sram n d r = absurd (false≢true d)
    dram_rank Fifo n d r = absurd (false≢true d)
    dram_rank LineBuf n d r = absurd (false≢true d)
    dram_rank Dram n d r = r
    dram_rank ArgIn n d r = absurd (false≢true d)
    dram_rank ArgOut n d r = absurd (false≢true d)

    dram_words_le : (m : ℕ) → m < length p.mems → is_dram (expressions.mem p.mems m).kind ≡ true → word_count (expressions.dims p.mems m) ≤ 67108864
    dram_words_le m lt d =
        let f : (if is_dram (expressions.mem p.mems m).kind then word_count (expressions.mem p.mems m).dims else 0) ≤ dram_count p = get_or-le-sum_by (λ (x : PlainMem). if is_dram x.kind then word_count x.dims else 0) p.mems m no_mem lt in
        let g : (if is_dram (expressions.mem p.mems m).kind then word_count (expressions.mem p.mems m).dims else 0) ≡ word_count (expressions.mem p.mems m).dims = ap (λ b. if b then word_count (expressions.mem p.mems m).dims else 0) d in
        let i : dram_count p ≤ 67108864 = h.limits.dram in omega (arith, f, g, i)

    dram_right : (m : ℕ) → m < length p.mems → is_dram (expressions.mem p.mems m).kind ≡ true → is_dram_right (port_of (expressions.mem p.mems m)) ≡ true
    dram_right m lt d =
        let x : IsDeclaration (expressions.mem p.mems m) = h.declarations m no_mem lt in
        let r = dram_rank (expressions.mem p.mems m).kind (length (expressions.mem p.mems m).dims) d x.rank in
        and_from _ _ (and_from _ _ (le-leb 1 (length (expressions.mem p.mems m).dims) r.0) (le-leb (length (expressions.mem p.mems m).dims) 3 r.1))
        (words_are 67108864 (expressions.mem p.mems m).dims x.dims (dram_words_le m lt d))

    pub memories_right : are_memories_right (core_of p) ≡ true
    unfolding core_of
    memories_right = and_from _ _
        (list_all-append is_mem_right (written_mems p.mems) (registers_in p.body no_more)
        ∙ and_from _ _ (all_written is_mem_right p.mems (mem_right h)) (all_added is_mem_right (registers_in p.body no_more) (are_registers_in (λ m. is_mem_right m ≡ true) refl refl (λ ty. refl) (λ ty. refl) p.body no_more)))
        (subst (λ (x : core_port.PlainPorts). list_all is_dram_right x.drams ≡ true) (sym h.ports) (all_ports is_dram_right is_dram p.mems (dram_right)))
