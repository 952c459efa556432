-- What the combination of an element does: it combines a word with that of its element, if this holds one of this run, and with the
-- last element it tells that all do.
use Rattle.std.proofs.Common.{◌≡◌, ℕ, zero, suc, ◌+◌, ◌-◌, ◌<◌, ◌≤◌, Bool, true, false, List, [], ◌∷◌, ◌++◌, length, map, Option, Some, None, refl, sym, ◌∙◌, ap, arith, ◌==◌}
use Rattle.std.proofs.lemmas.List.{append_assoc, length-append}
use Rattle.sp_words.specs.declared.kind.BinOp.TheVariants as binary
use Rattle.sp_words.specs.declared.types.Ty.{Ty}
use Rattle.sp_words.specs.declared.types.Ty.TheVariants.{Bit}
use Rattle.sp_words.specs.Types.{int_type}
use Rattle.sp_tree.specs.declared.statement.Comb.{Comb}
use Rattle.sp_tree.specs.PlainExpression.{PlainExpr, expr, two, type_of}
use Rattle.sp_tree.specs.PlainProgram.{PlainMem}
use Rattle.sp_core.specs.declared.operation.OpKind.TheVariants.{Read, Write, Two}
use Rattle.sp_core.specs.History.{Entry, left_out, gave, touched, word_of, word_at}
use Rattle.sp_core.specs.Operations.{access, operation, operations_after}
use Rattle.sp_core.specs.Operators.{two_word, chosen}
use Rattle.sp_core.specs.PlainCore.{PlainOp, PlainCore}
use Rattle.sp_core.specs.Scope.{Scope, count_word}
use Rattle.sp_core.specs.Step.{Step, went, pure}
use Rattle.sp_core.specs.Store.{Store}
use Rattle.sp_sugar.specs.Combination.{operator_of, is_last_at, conjunction, is_last_element}
use Rattle.sp_sugar.specs.Operations.{Code, computes, read_op, write_op, literal_op, counter_op, under, code, code_of}
use Rattle.sp_lane_groups.proofs.LiveAlong.{store_of}
use Rattle.sp_lane_groups.proofs.LiveLane.{word_kept, word_end, split_run, kept_run}
use Rattle.sp_lane_groups.proofs.RunsWhole.{nothing_on}
use Rattle.sp_lane_trees.proofs.CombinationsCombining.{after_word, step_on, computed_on, next_word, longer, two_runs, mux_runs, put_runs, literal_runs}
use Rattle.sp_lane_trees.proofs.CombinationsRegisters as register
use Rattle.sp_lane_trees.proofs.CombinationsRegisters.{HasPlace, ReadsAs, put}
use Rattle.sp_lane_trees.proofs.ElementsAccesses.{indices, HasElement, HoldsAt, flagged, written_at, set_at, read_runs, read_was, write_runs, write_was}
use Rattle.sp_lane_trees.proofs.ElementsCodes.{counts, places, map_append, at_place, Shifts, last_shifts, both_shifts, test_shifts}
use Rattle.sp_lane_trees.proofs.ElementsForms.{reads, chooses, writes, element}

-- the words of so many counters from one on
abbrev pub count_words : Scope → (c n : ℕ) → List ℕ
count_words scope c zero = []
count_words scope c (suc n) = count_word (scope c) 0 ∷ count_words scope (suc c) n

abbrev pub gaves : List ℕ → List Entry
gaves ws = map gave ws

pub words_long : (scope : Scope) (c n : ℕ) → length (gaves (count_words scope c n)) ≡ n
words_long scope c zero = refl
words_long scope c (suc n) = ap suc (words_long scope (suc c) n)

-- whether the element is the last one, as a word
abbrev pub last_at : Scope → (c d : ℕ) → ℕ
last_at scope c d = two_word binary.Eq int_type (count_word (scope c) 0) (d - 1)

abbrev pub last_from : Scope → (so_far c : ℕ) → (dims : List ℕ) → ℕ
last_from scope b c [] = b
last_from scope b c (d ∷ dims) = last_from scope (two_word binary.And Bit b (last_at scope c d)) (suc c) dims

abbrev pub is_last : Scope → (c : ℕ) → (dims : List ℕ) → ℕ
is_last scope c [] = 1
is_last scope c (d ∷ dims) = last_from scope (last_at scope c d) (suc c) dims

-- words at places stay after more entries
pub words_stay : (done es : List Entry) (k n : ℕ) → k + n ≤ length done → map (word_at (done ++ es)) (places k n) ≡ map (word_at done) (places k n)
words_stay done es k zero le = refl
words_stay done es k (suc n) le = ap (λ w. w ∷ map (word_at (done ++ es)) (places (k + 1) n)) (word_kept done es k (omega (arith, le))) ∙ ap (λ ws. word_at done k ∷ ws) (words_stay done es (k + 1) n (omega (arith, le)))

module _ (core : PlainCore) (scope : Scope) where
  counts_run : (c n : ℕ) (es : List Entry) (s : Store) (rest : List PlainOp) → operations_after core scope es (counts c n ++ rest) s ≡ operations_after core scope (es ++ gaves (count_words scope c n)) rest s
  unfolding pure
  counts_run c zero es s rest = ap (λ l. operations_after core scope l rest s) (none es)
    where
      none : (l : List Entry) → l ≡ l ++ []
      none [] = refl
      none (e ∷ l) = ap (λ k. e ∷ k) (none l)
  counts_run c (suc n) es s rest =
      computed_on core scope (counter_op int_type c) (counts (suc c) n ++ rest) es s (count_word (scope c) 0) refl
      ∙ counts_run (suc c) n (es ++ gave (count_word (scope c) 0) ∷ []) s rest
      ∙ ap (λ l. operations_after core scope l rest s) (append_assoc es (gave (count_word (scope c) 0) ∷ []) (gaves (count_words scope (suc c) n)))

  counts_there : (c n : ℕ) (es : List Entry) (k : ℕ) → k ≡ length es → map (word_at (es ++ gaves (count_words scope c n))) (places k n) ≡ count_words scope c n
  counts_there c zero es k e = refl
  counts_there c (suc n) es k e =
      let w : ℕ = count_word (scope c) 0 in
      let others : List Entry = gaves (count_words scope (suc c) n) in
      let d : List Entry = es ++ gave w ∷ [] in
      ap (λ l. map (word_at l) (places k (suc n))) (sym (append_assoc es (gave w ∷ []) others))
      ∙ ap (λ x. x ∷ map (word_at (d ++ others)) (places (k + 1) n)) (word_kept d others k (omega (arith, e, length-append es (gave w ∷ []))) ∙ word_end es (gave w) k e)
      ∙ ap (λ ws. w ∷ ws) (counts_there (suc c) n d (k + 1) (omega (arith, e, length-append es (gave w ∷ []))))

  module _ (mems : List PlainMem) where
    -- an expression that names no memory gives a word
    abbrev pub Gives : PlainExpr → ℕ → Type 0
    Gives x b =
        (es : List Entry) (q : ℕ) → q ≡ length es → (s : Store) (rest : List PlainOp)
        → (new : List Entry) × (length new ≡ length (at_place mems q x).ops) × (operations_after core scope es ((at_place mems q x).ops ++ rest) s ≡ operations_after core scope (es ++ new) rest s) × (word_at (es ++ new) (at_place mems q x).word ≡ b)

    one_gives : (c d : ℕ) → Gives (is_last_at c d) (last_at scope c d)
    unfolding code code_of pure
    one_gives c d es q e s rest =
        let w : ℕ = count_word (scope c) 0 in
        let d1 : List Entry = es ++ gave w ∷ [] in
        let d2 : List Entry = d1 ++ gave (d - 1) ∷ [] in
        let last : PlainOp = computes (Two binary.Eq) int_type (q ∷ (q + 1) ∷ []) in
        let l1 : length d1 ≡ suc q = longer core scope es (gave w) q (sym e) in
        let a : word_at d2 q ≡ w = next_word core scope d1 (gave (d - 1)) q w (omega (arith, l1)) (word_end es (gave w) q e) in
        let b : word_at d2 (q + 1) ≡ d - 1 = word_end d1 (gave (d - 1)) (q + 1) (omega (arith, l1)) in
        let all : (d2 ++ gave (last_at scope c d) ∷ []) ≡ es ++ gave w ∷ gave (d - 1) ∷ gave (last_at scope c d) ∷ [] =
        append_assoc d1 (gave (d - 1) ∷ []) (gave (last_at scope c d) ∷ []) ∙ append_assoc es (gave w ∷ []) (gave (d - 1) ∷ gave (last_at scope c d) ∷ []) in (
          gave w ∷ gave (d - 1) ∷ gave (last_at scope c d) ∷ [],
          refl,
          computed_on core scope (counter_op int_type c) (literal_op int_type (d - 1) ∷ last ∷ rest) es s w refl
              ∙ computed_on core scope (literal_op int_type (d - 1)) (last ∷ rest) d1 s (d - 1) refl
              ∙ computed_on core scope last rest d2 s (last_at scope c d) (ap (λ z. went (gave (two_word binary.Eq int_type z (word_at d2 (q + 1)))) s) a ∙ ap (λ z. went (gave (two_word binary.Eq int_type w z)) s) b)
              ∙ ap (λ l. operations_after core scope l rest s) all,
          ap (λ l. word_at l (q + 2)) (sym all) ∙ word_end d2 (gave (last_at scope c d)) (q + 2) (omega (arith, longer core scope d1 (gave (d - 1)) (suc q) l1)),
        )

    pub both_give : (t : PlainExpr) (b c d : ℕ) → Shifts mems t → type_of t ≡ Bit → Gives t b → Gives (expr 0 Bit (two binary.And t (is_last_at c d))) (two_word binary.And Bit b (last_at scope c d))
    unfolding code code_of pure
    both_give t b c d shifts typed h es q e s rest =
        let x : Code = at_place mems q t in
        let k : ℕ = q + length x.ops in
        let y : Code = at_place mems k (is_last_at c d) in
        let op : PlainOp = computes (Two binary.And) (type_of t) (x.word ∷ y.word ∷ []) in
        let value : ℕ = two_word binary.And Bit b (last_at scope c d) in
        let one = h es q e s (y.ops ++ op ∷ rest) in
        let d1 : List Entry = es ++ one.0 in
        let long : k ≡ length d1 = (let l = one.1 in omega (arith, l, e, length-append es one.0)) in
        let two = one_gives c d d1 k long s (op ∷ rest) in
        let d2 : List Entry = d1 ++ two.0 in
        let first : word_at d2 x.word ≡ b = word_kept d1 two.0 x.word (let i = shifts.inside q in let l = shifts.is_long q in omega (arith, i, l, long)) ∙ one.3 in
        let there : (new : List Entry) → (d2 ++ new) ≡ es ++ (one.0 ++ (two.0 ++ new)) = λ new. append_assoc d1 two.0 new ∙ append_assoc es one.0 (two.0 ++ new) in (
          one.0 ++ (two.0 ++ gave value ∷ []),
          (let l = one.1 in let m = two.1 in omega (arith, l, m, length-append one.0 (two.0 ++ gave value ∷ []), length-append two.0 (gave value ∷ []), length-append (x.ops ++ y.ops) (op ∷ []), length-append x.ops y.ops)),
          ap (λ l. operations_after core scope es l s) (append_assoc (x.ops ++ y.ops) (op ∷ []) rest ∙ append_assoc x.ops y.ops (op ∷ rest))
              ∙ one.2 ∙ two.2
              ∙ computed_on core scope op rest d2 s value (ap (λ ty. went (gave (two_word binary.And ty (word_at d2 x.word) (word_at d2 y.word))) s) typed
              ∙ ap (λ z. went (gave (two_word binary.And Bit z (word_at d2 y.word))) s) first ∙ ap (λ z. went (gave (two_word binary.And Bit b z)) s) two.3)
              ∙ ap (λ l. operations_after core scope l rest s) (there (gave value ∷ [])),
          ap (λ l. word_at l (q + length (x.ops ++ y.ops))) (sym (there (gave value ∷ [])))
              ∙ word_end d2 (gave value) (q + length (x.ops ++ y.ops)) (let m = two.1 in omega (arith, long, m, length-append d1 two.0, length-append x.ops y.ops)),
        )

    all_give : (t : PlainExpr) (b : ℕ) → Shifts mems t → type_of t ≡ Bit → Gives t b → (c : ℕ) (dims : List ℕ) → Gives (conjunction t c dims) (last_from scope b c dims)
    all_give t b shifts typed h c [] = h
    all_give t b shifts typed h c (d ∷ dims) =
        all_give (expr 0 Bit (two binary.And t (is_last_at c d))) (two_word binary.And Bit b (last_at scope c d)) (both_shifts mems t shifts c d) refl (both_give t b c d shifts typed h) (suc c) dims

    pub test_gives : (c : ℕ) (dims : List ℕ) → Gives (is_last_element c dims) (is_last scope c dims)
    unfolding code code_of pure
    test_gives c [] es q e s rest = (gave 1 ∷ [], refl, computed_on core scope (literal_op Bit 1) rest es s 1 refl, word_end es (gave 1) q e)
    test_gives c (d ∷ dims) es q e s rest = all_give (is_last_at c d) (last_at scope c d) (last_shifts mems c d) refl (one_gives c d) (suc c) dims es q e s rest

  module _ (mems : List PlainMem) (c : ℕ) (dims : List ℕ) (ty : Ty) (comb : Comb) (acc begun : ℕ) where
    abbrev n : ℕ
    n = length dims

    abbrev ws : List ℕ
    ws = count_words scope c n

    abbrev last_word : ℕ
    last_word = is_last scope c dims

    abbrev pub joint : ℕ → ℕ → ℕ
    joint = two_word (operator_of comb) ty

    -- the flag, under its mask
    abbrev flag_step : (l : ℕ) → (done : List Entry) → Bool → Step Entry
    flag_step l done z = elim z as (λ _. Step Entry) [ true ↦ pure left_out | false ↦ access core scope Write begun (word_at done l ∷ []) ]

    flag_runs : (t l : ℕ) (done : List Entry) (u : Store) (b : ℕ) → word_at done t ≡ b → word_at done l ≡ 1 → HasPlace core begun
        → (e : Entry) × (operation core scope (under t (write_op Bit begun (l ∷ []))) done u ≡ went e (flagged core begun b u))
    unfolding pure
    flag_runs t l done u b is one h = by (b == 0) refl
      where
        by : (z : Bool) → (b == 0) ≡ z → (e : Entry) × (operation core scope (under t (write_op Bit begun (l ∷ []))) done u ≡ went e (flagged core begun b u))
        by true i = (left_out, ap (λ w. flag_step l done (w == 0) u) is ∙ ap (λ z. flag_step l done z u) i ∙ ap (λ z. went left_out (elim z as (λ _. Store) [ true ↦ u | false ↦ put core begun 1 u ])) (sym i))
        by false i =
            (touched [] 1, ap (λ w. flag_step l done (w == 0) u) is ∙ ap (λ z. flag_step l done z u) i ∙ put_runs core scope Bit begun l 1 done u h one ∙ ap (λ z. went (touched [] 1) (elim z as (λ _. Store) [ true ↦ u | false ↦ put core begun 1 u ])) (sym i))

    -- from the choice on
    pub writes_run : (q v x : ℕ) (done : List Entry) (s : Store) → q ≡ length done → v < q → word_at done v ≡ x → HasElement core acc ws → HasPlace core begun
        → (fs : List Entry) × (operations_after core scope done (writes mems c dims ty comb q v acc begun) s ≡ went fs (written_at core begun acc ws last_word x s))
    writes_run q v x done s e lt is h k =
        let d1 : List Entry = done ++ gaves ws in
        let u : Store = set_at core acc ws x s in
        let d2 : List Entry = d1 ++ touched (indices ws) x ∷ [] in
        let p : ℕ = q + 1 + n in
        let t : Code = at_place mems p (is_last_element c dims) in
        let flag : PlainOp = under t.word (write_op Bit begun ((p + length t.ops) ∷ [])) in
        let long : p ≡ length d2 = omega (arith, e, length-append d1 (touched (indices ws) x ∷ []), length-append done (gaves ws), words_long scope c n) in
        let args : map (word_at d1) (places q n ++ v ∷ []) ≡ ws ++ x ∷ [] = (map_append (word_at d1) (places q n) (v ∷ []) ∙ ap (λ l. l ++ word_at d1 v ∷ []) (counts_there c n done q e) ∙ ap (λ y. ws ++ y ∷ []) (word_kept done (gaves ws) v (omega (arith, e, lt)) ∙ is)) in
        let z = test_gives mems c dims d2 p long u (literal_op Bit 1 ∷ flag ∷ []) in
        let d3 : List Entry = d2 ++ z.0 in
        let d4 : List Entry = d3 ++ gave 1 ∷ [] in
        let long3 : p + length t.ops ≡ length d3 = (let l = z.1 in omega (arith, l, long, length-append d2 z.0)) in
        let there : word_at d4 t.word ≡ last_word = next_word core scope d3 (gave 1) t.word last_word (let i = (test_shifts mems c dims).inside p in let l = (test_shifts mems c dims).is_long p in omega (arith, i, l, long3)) z.3 in
        let f = flag_runs t.word (p + length t.ops) d4 u last_word there (word_end d3 (gave 1) (p + length t.ops) long3) k in (
          d4 ++ f.0 ∷ [],
          counts_run c n done s (write_op ty acc (places q n ++ v ∷ []) ∷ (t.ops ++ literal_op Bit 1 ∷ flag ∷ []))
              ∙ step_on core scope (write_op ty acc (places q n ++ v ∷ [])) (t.ops ++ literal_op Bit 1 ∷ flag ∷ []) d1 s u (touched (indices ws) x) (ap (λ l. access core scope Write acc l s) args ∙ write_runs core scope acc ws x s h)
              ∙ z.2
              ∙ computed_on core scope (literal_op Bit 1) (flag ∷ []) d3 u 1 (literal_runs core scope d3 u)
              ∙ step_on core scope flag [] d4 u (flagged core begun last_word u) f.0 f.1
              ∙ nothing_on core scope (d4 ++ f.0 ∷ []) (flagged core begun last_word u),
        )

    pub writes_were : (q v x : ℕ) (done : List Entry) (s u : Store) (fs : List Entry) → q ≡ length done → v < q → word_at done v ≡ x → operations_after core scope done (writes mems c dims ty comb q v acc begun) s ≡ went fs u → HasElement core acc ws
    writes_were q v x done s u fs e lt is ran =
        let d1 : List Entry = done ++ gaves ws in
        let p : ℕ = q + 1 + n in
        let t : Code = at_place mems p (is_last_element c dims) in
        let rest : List PlainOp = t.ops ++ literal_op Bit 1 ∷ under t.word (write_op Bit begun ((p + length t.ops) ∷ [])) ∷ [] in
        let args : map (word_at d1) (places q n ++ v ∷ []) ≡ ws ++ x ∷ [] = (map_append (word_at d1) (places q n) (v ∷ []) ∙ ap (λ l. l ++ word_at d1 v ∷ []) (counts_there c n done q e) ∙ ap (λ y. ws ++ y ∷ []) (word_kept done (gaves ws) v (omega (arith, e, lt)) ∙ is)) in
        let r = split_run core scope (write_op ty acc (places q n ++ v ∷ [])) rest d1 s fs u (sym (counts_run c n done s (write_op ty acc (places q n ++ v ∷ []) ∷ rest)) ∙ ran) in
        write_was core scope acc ws x s r.1 r.0 (sym (ap (λ l. access core scope Write acc l s) args) ∙ r.2)

    -- up to the choice: by the word that tells whether it has begun, and what the second read gives
    module _ (at word : ℕ) (es : List Entry) (same : at ≡ length es) (before : word < at) where
      abbrev w : ℕ
      w = word_at es word

      abbrev pub second : PlainOp
      second = under at (read_op ty acc (places (at + 1) n))

      abbrev third : PlainOp
      third = computes (Two (operator_of comb)) ty ((at + 1 + n) ∷ word ∷ [])

      abbrev fourth : PlainOp
      fourth = chooses mems c dims ty comb at word

      -- before the second read
      abbrev pub done_first : ℕ → List Entry
      done_first p = (es ++ touched [] p ∷ []) ++ gaves ws

      pub record Front (rest : List PlainOp) (s : Store) (x : ℕ) : Type 0 where
        pub done : List Entry
        pub new : List Entry
        pub grown : done ≡ es ++ new
        pub long : length done ≡ at + n + 4
        pub word_there : word_at done (at + n + 3) ≡ x
        pub ran : operations_after core scope es (reads mems c dims ty comb at word acc begun ++ fourth ∷ rest) s ≡ operations_after core scope done rest s

      first_long : (p : ℕ) → length (done_first p) ≡ at + 1 + n
      first_long p = omega (arith, same, length-append (es ++ touched [] p ∷ []) (gaves ws), length-append es (touched [] p ∷ []), words_long scope c n)

      first_there : (p : ℕ) → word_at (done_first p) at ≡ p
      first_there p = word_kept (es ++ touched [] p ∷ []) (gaves ws) at (omega (arith, same, length-append es (touched [] p ∷ []))) ∙ word_end es (touched [] p) at same

      -- the first two, and what is left
      reads_are : (rest : List PlainOp) → reads mems c dims ty comb at word acc begun ++ fourth ∷ rest ≡ read_op Bit begun [] ∷ (counts c n ++ second ∷ third ∷ fourth ∷ rest)
      reads_are rest = append_assoc (read_op Bit begun [] ∷ counts c n) (second ∷ third ∷ []) (fourth ∷ rest)

      to_second : (rest : List PlainOp) (p : ℕ) (s : Store) → ReadsAs core begun (s begun) p
          → operations_after core scope es (reads mems c dims ty comb at word acc begun ++ fourth ∷ rest) s ≡ operations_after core scope (done_first p) (second ∷ third ∷ fourth ∷ rest) s
      to_second rest p s reads_as =
          ap (λ l. operations_after core scope es l s) (reads_are rest)
          ∙ step_on core scope (read_op Bit begun []) (counts c n ++ second ∷ third ∷ fourth ∷ rest) es s s (touched [] p) (register.read_runs core scope begun p s reads_as)
          ∙ counts_run c n (es ++ touched [] p ∷ []) s (second ∷ third ∷ fourth ∷ rest)

      pub front : (rest : List PlainOp) (p a : ℕ) (e : Entry) (s : Store) → ReadsAs core begun (s begun) p → word_of e ≡ a → operation core scope second (done_first p) s ≡ went e s → Front rest s (chosen p (joint a w) w)
      front rest p a e s reads_as is ran =
          let d2 : List Entry = done_first p in
          let d3 : List Entry = d2 ++ e ∷ [] in
          let d4 : List Entry = d3 ++ gave (joint a w) ∷ [] in
          let d5 : List Entry = d4 ++ gave (chosen p (joint a w) w) ∷ [] in
          let l2 : length d2 ≡ at + 1 + n = first_long p in
          let l3 : length d3 ≡ suc (at + 1 + n) = longer core scope d2 e (at + 1 + n) l2 in
          let l4 : length d4 ≡ suc (suc (at + 1 + n)) = longer core scope d3 (gave (joint a w)) (suc (at + 1 + n)) l3 in
          let l5 : length d5 ≡ suc (suc (suc (at + 1 + n))) = longer core scope d4 (gave (chosen p (joint a w) w)) (suc (suc (at + 1 + n))) l4 in
          let w2 : word_at d2 word ≡ w = word_kept (es ++ touched [] p ∷ []) (gaves ws) word (omega (arith, same, before, length-append es (touched [] p ∷ []))) ∙ next_word core scope es (touched [] p) word w (omega (arith, same, before)) refl in
          let w3 : word_at d3 word ≡ w = next_word core scope d2 e word w (omega (arith, l2, before)) w2 in
          let w4 : word_at d4 word ≡ w = next_word core scope d3 (gave (joint a w)) word w (omega (arith, l3, before)) w3 in
          let p3 : word_at d3 at ≡ p = next_word core scope d2 e at p (omega (arith, l2)) (first_there p) in
          let p4 : word_at d4 at ≡ p = next_word core scope d3 (gave (joint a w)) at p (omega (arith, l3)) p3 in
          let a3 : word_at d3 (at + 1 + n) ≡ a = word_end d2 e (at + 1 + n) (sym l2) ∙ is in
          let j4 : word_at d4 (at + 1 + n + 1) ≡ joint a w = word_end d3 (gave (joint a w)) (at + 1 + n + 1) (omega (arith, l3)) in
          record {
            done = d5;
            new = touched [] p ∷ (gaves ws ++ e ∷ gave (joint a w) ∷ gave (chosen p (joint a w) w) ∷ []);
            grown = append_assoc d3 (gave (joint a w) ∷ []) (gave (chosen p (joint a w) w) ∷ []) ∙ append_assoc d2 (e ∷ []) (gave (joint a w) ∷ gave (chosen p (joint a w) w) ∷ [])
                ∙ append_assoc (es ++ touched [] p ∷ []) (gaves ws) (e ∷ gave (joint a w) ∷ gave (chosen p (joint a w) w) ∷ [])
                ∙ append_assoc es (touched [] p ∷ []) (gaves ws ++ e ∷ gave (joint a w) ∷ gave (chosen p (joint a w) w) ∷ []);
            long = omega (arith, l5);
            word_there = word_end d4 (gave (chosen p (joint a w) w)) (at + n + 3) (omega (arith, l4));
            ran =
                to_second rest p s reads_as
                ∙ step_on core scope second (third ∷ fourth ∷ rest) d2 s s e ran
                ∙ computed_on core scope third (fourth ∷ rest) d3 s (joint a w) (two_runs core scope comb ty (at + 1 + n) word a w d3 s a3 w3)
                ∙ computed_on core scope fourth rest d4 s (chosen p (joint a w) w) (mux_runs core scope ty at (at + 1 + n + 1) word p (joint a w) w d4 s p4 j4 w4);
          }

      -- the second read, under its mask
      second_step : (done : List Entry) → Bool → Step Entry
      second_step done z = elim z as (λ _. Step Entry) [ true ↦ pure left_out | false ↦ access core scope Read acc (map (word_at done) (places (at + 1) n)) ]

      pub second_left : (s : Store) → operation core scope second (done_first 0) s ≡ went left_out s
      unfolding pure second_step
      second_left s = ap (λ p. second_step (done_first 0) (p == 0) s) (first_there 0)

      second_read : (s : Store) → operation core scope second (done_first 1) s ≡ access core scope Read acc ws s
      unfolding second_step
      second_read s = ap (λ p. second_step (done_first 1) (p == 0) s) (first_there 1)
          ∙ ap (λ l. access core scope Read acc l s) (counts_there c n (es ++ touched [] 1 ∷ []) (at + 1) (omega (arith, same, length-append es (touched [] 1 ∷ []))))

      pub front_held : (rest : List PlainOp) (o : Option ℕ) (s : Store) → HoldsAt core begun acc ws s o → Front rest s (after_word joint o w)
      front_held rest None s h = front rest 0 0 left_out s h.0 refl (second_left s)
      front_held rest (Some a) s h = front rest 1 a (touched (indices ws) a) s h.0 refl (second_read s ∙ read_runs core scope acc ws a s h.1)

      pub has_element : (s : Store) (o : Option ℕ) → HoldsAt core begun acc ws s o → HasElement core acc ws
      has_element s None h = h.1
      has_element s (Some a) h = h.1.0

      pub has_flag : (s : Store) (o : Option ℕ) → HoldsAt core begun acc ws s o → HasPlace core begun
      has_flag s None h = h.0.0
      has_flag s (Some a) h = h.0.0

      abbrev q : ℕ
      q = at + 1 + n + 3

      abbrev v : ℕ
      v = at + 1 + n + 2

      abbrev rest_ops : List PlainOp
      rest_ops = writes mems c dims ty comb q v acc begun

      pub element_builds : (o : Option ℕ) (s : Store) → HoldsAt core begun acc ws s o
          → (fs : List Entry) × (operations_after core scope es (element mems c dims ty comb at word acc begun) s ≡ went fs (written_at core begun acc ws last_word (after_word joint o w) s))
      element_builds o s h =
          let f : Front rest_ops s (after_word joint o w) = front_held rest_ops o s h in
          let x = writes_run q v (after_word joint o w) f.done s (let l = f.long in omega (arith, l)) (omega arith) (ap (word_at f.done) {x = v} {y = at + n + 3} (omega arith) ∙ f.word_there) (has_element s o h) (has_flag s o h) in
          (x.0, f.ran ∙ x.1)

      pub element_was : (s u : Store) (fs : List Entry) → word_at fs at < 2 → operations_after core scope es (element mems c dims ty comb at word acc begun) s ≡ went fs u
          → (o : Option ℕ) × HoldsAt core begun acc ws s o × (written_at core begun acc ws last_word (after_word joint o w) s ≡ u)
      element_was s u fs bit ran =
          let r = split_run core scope (read_op Bit begun []) (counts c n ++ second ∷ third ∷ fourth ∷ rest_ops) es s fs u (sym (ap (λ l. operations_after core scope es l s) (reads_are rest_ops)) ∙ ran) in
          let z = register.read_was core scope begun s r.1 r.0 r.2 in
          let rest : operations_after core scope (done_first z.0) (second ∷ third ∷ fourth ∷ rest_ops) s ≡ went fs u = sym (to_second rest_ops z.0 s z.1) ∙ ran in
          let kept : word_at fs at ≡ z.0 = kept_run core scope (second ∷ third ∷ fourth ∷ rest_ops) (done_first z.0) s fs u rest at (omega (arith, first_long z.0)) ∙ first_there z.0 in
          by z.0 z.1 rest (omega (arith, bit, kept))
        where
          compared : (o : Option ℕ) → HoldsAt core begun acc ws s o → (o : Option ℕ) × HoldsAt core begun acc ws s o × (written_at core begun acc ws last_word (after_word joint o w) s ≡ u)
          compared o h = let b = element_builds o s h in (o, h, ap (store_of s) (sym b.1 ∙ ran))

          by : (p : ℕ) → ReadsAs core begun (s begun) p → operations_after core scope (done_first p) (second ∷ third ∷ fourth ∷ rest_ops) s ≡ went fs u → p < 2
              → (o : Option ℕ) × HoldsAt core begun acc ws s o × (written_at core begun acc ws last_word (after_word joint o w) s ≡ u)
          by zero h rest lt =
              let f : Front rest_ops s w = front rest_ops 0 0 left_out s h refl (second_left s) in
              compared None (h, writes_were q v w f.done s u fs (let l = f.long in omega (arith, l)) (omega arith) (ap (word_at f.done) {x = v} {y = at + n + 3} (omega arith) ∙ f.word_there) (sym f.ran ∙ ran))
          by (suc zero) h rest lt =
              let r = split_run core scope second (third ∷ fourth ∷ rest_ops) (done_first 1) s fs u rest in
              let z = read_was core scope acc ws s r.1 r.0 (sym (second_read s) ∙ r.2) in
              compared (Some z.0) (h, z.1)
          by (suc (suc p)) h rest lt = absurd (omega (arith, lt))
