-- Counters in an iteration of a loop: inside they stand for their words, and outside all is as it was.
use Rattle.std.proofs.Common.{◌≡◌, ℕ, zero, suc, ◌*◌, Bool, List, [], ◌∷◌, ◌++◌, refl, sym, ◌∙◌, ap, subst, arith, ◌==◌}
use Rattle.std.proofs.lemmas.Bool.{eqb-true, eqb-false}
use Rattle.std.proofs.Math.IntN.{+ℤ_idr}
use Rattle.std.specs.Prelude.{ℤ, pos, ◌+ℤ◌, Contains, slice_index_or, map}
use Rattle.sp_words.specs.Types.{int_type}
use Rattle.sp_words.specs.Words.{wrap}
use Rattle.sp_tree.specs.PlainProgram.{PlainProgram, no_mem}
use Rattle.sp_tree.specs.PlainStatement.{PlainCounter}
use Rattle.sp_tree.specs.Sequential.{count_now}
use Rattle.sp_tree.specs.Step as program_step
use Rattle.sp_tree.specs.Store as program_store
use Rattle.sp_tree.specs.Typing as typing
use Rattle.sp_tree.specs.Typing.{Scope, with_counter, visible, IsFresh, BindersFresh}
use Rattle.sp_core.specs.PlainCore.{PlainCore}
use Rattle.sp_core.specs.Scope as counters
use Rattle.sp_core.specs.Scope.{Loop, InGroup, lane_step, is_live, in_group, count_word}
use Rattle.sp_core.specs.Store as store
use Rattle.sp_core.specs.Store.{changed}
use Rattle.sp_sugar.specs.Agreement.{View, Finds, IsWaiting, Agree}
use Rattle.sp_sugar.specs.Values.{Source, at_place, in_register, constant, count}
use Rattle.sp_sugar.proofs.Entering.{same_mems, same_vals}
use Rattle.sp_sugar.proofs.MemoryLemmas.{changed_here, changed_elsewhere}
use Rattle.sp_sugar.proofs.NumberLemmas.{either}
use Rattle.sp_sugar.proofs.RunKeeps.{in_back, in_map}
use Rattle.sp_sugar.proofs.StepLemmas.{as_it_went}
use Rattle.sp_same.specs.Following.{SourceSeen, SourcesSeen}
use Rattle.sp_same.proofs.BoundsTaken.{IsLoop, IsLive}
use Rattle.sp_same.proofs.Quietly.{Pairs}
use Rattle.sp_same.proofs.Values.{Fit, word_of_value}

-- the first lane
pub first_lane : (v : ℤ) (l : ℕ) → wrap int_type (v +ℤ pos (0 * l)) ≡ wrap int_type v
first_lane v l = ap (λ n. wrap int_type (v +ℤ pos n)) {x = 0 * l} {y = 0} (omega arith) ∙ ap (wrap int_type) (+ℤ_idr v)

module _ (p : PlainProgram) where
  -- a fresh name is that of no visible counter
  fresh_counter : (scope : Scope) (c k : ℕ) → IsFresh p scope (slice_index_or p.counters c []) → Contains scope.counters k → k ≡ c → ⊥
  fresh_counter scope c k fresh seen e =
      fresh (subst (λ x. Contains (visible p scope) (slice_index_or p.counters x [])) e
      (in_back (map (λ m. (slice_index_or p.mems m no_mem).name) scope.mems ++ map (λ v. slice_index_or p.vals v.0 []) scope.vals) (map (λ c. slice_index_or p.counters c []) scope.counters) (slice_index_or p.counters k [])
      (in_map (λ c. slice_index_or p.counters c []) scope.counters k seen)))

  module _ (core : PlainCore) where
    waits_again : (view : View) (scope : Scope) (around : counters.Scope) (t : store.Store) (m : ℕ) → scope.mems ≡ view.scope.mems → IsWaiting p core view t m → IsWaiting p core (record view { scope = scope; around = around }) t m
    waits_again view scope around t m same w = record { exists = w.exists; on_chip = w.on_chip; unseen = λ c. w.unseen (subst (λ l. Contains l m) same c); holds = w.holds }

    -- one counter begins to stand for a word
    module _ (view : View) (c : ℕ) (x : InGroup) (w : ℕ) (s : program_store.Store) (t : store.Store) (word : count_word x 0 ≡ w) (fresh : IsFresh p view.scope (slice_index_or p.counters c [])) (seen : SourcesSeen view.scope view.sources) (a : Agree p core view [] s t) where
      found_besides : (source : Source) (w : ℕ) → SourceSeen view.scope source → Finds p core view.around [] t source w → Finds p core (changed view.around c x) [] t source w
      found_besides (at_place k) w sees f = f
      found_besides (in_register r) w sees f = f
      found_besides (constant k) w sees f = f
      found_besides (count k) w sees f = ap (λ y. count_word y 0) (changed_elsewhere view.around c k x (fresh_counter view.scope c k fresh sees)) ∙ f

      counted_in : (k : ℕ) → Contains (c ∷ view.scope.counters) k → count_word (changed view.around c x k) 0 ≡ changed s.counts c w k
      counted_in k v = either (k == c)
          (λ e. let f : k ≡ c = eqb-true k c e in ap (λ y. count_word y 0) (changed_here view.around c k x f) ∙ word ∙ sym (changed_here s.counts c k w f))
          (λ e. let ne : k ≡ c → ⊥ = eqb-false k c e in
          ap (λ y. count_word y 0) (changed_elsewhere view.around c k x ne) ∙ a.counts k (before k v ne) ∙ sym (changed_elsewhere s.counts c k w ne))
        where
          before : (k : ℕ) → Contains (c ∷ view.scope.counters) k → (k ≡ c → ⊥) → Contains view.scope.counters k
          before k (zero, lt, e) ne = absurd (ne (sym e))
          before k (suc j, lt, e) ne = (j, omega arith, e)

      agree_counter : Agree p core (record view { scope = with_counter view.scope c; around = changed view.around c x }) [] (program_store.set_counter s c w) t
      agree_counter = record {
        mems = a.mems;
        vals = λ v y. found_besides (view.sources v.0) (s.values v.0) (seen v y) (a.vals v y);
        counts = counted_in;
        waiting = λ m y. waits_again view (with_counter view.scope c) (changed view.around c x) t m refl (a.waiting m y);
        registers = a.registers;
      }

    seen_more : (view : View) (c : ℕ) → SourcesSeen view.scope view.sources → SourcesSeen (with_counter view.scope c) view.sources
    seen_more view c seen v y = more (view.sources v.0) (seen v y)
      where
        more : (source : Source) → SourceSeen view.scope source → SourceSeen (with_counter view.scope c) source
        more (count k) (j, lt, e) = (suc j, omega arith, e)
        more (at_place k) s = tt
        more (in_register r) s = tt
        more (constant w) s = tt

    -- all counters of a loop
    pub enter : (view : View) (loops : List PlainCounter) (ls : List Loop) (ws : List ℕ) (vs : List ℤ) (live : ℕ → Bool) (s after : program_store.Store) (t : store.Store) (x : Unit {0}) (left rest : ℕ)
        → Pairs IsLoop loops ls → map word_of_value vs ≡ ws → Fit IsLive ls vs → BindersFresh p view.scope loops → SourcesSeen view.scope view.sources → Agree p core view [] s t → count_now loops ws left s ≡ program_step.went x rest after
        → (rest ≡ left) × Agree p core (record view { scope = typing.with_counters view.scope loops; around = counters.with_counters view.around ls vs live }) [] after t
    unfolding program_step.pure program_step.change program_step.◌>>=◌
    enter view [] [] ws [] live s after t x left rest same words fit fresh seen a e = entered ws words e
      where
        entered : (ws : List ℕ) → [] ≡ ws → count_now [] ws left s ≡ program_step.went x rest after → (rest ≡ left) × Agree p core view [] after t
        entered ws words e = as_it_went (λ y n u. (n ≡ left) × Agree p core view [] u t) tt x left rest s after e (refl, a)
    enter view [] [] ws (v ∷ vs) live s after t x left rest same words fit fresh seen a e = absurd fit
    enter view [] (l ∷ ls) ws vs live s after t x left rest same words fit fresh seen a e = absurd same
    enter view (c ∷ loops) [] ws vs live s after t x left rest same words fit fresh seen a e = absurd same
    enter view (c ∷ loops) (l ∷ ls) ws [] live s after t x left rest same words fit fresh seen a e = absurd fit
    enter view (c ∷ loops) (l ∷ ls) ws (v ∷ vs) live s after t x left rest same words fit fresh seen a e =
        let w : ℕ = word_of_value v in
        let g : InGroup = record { value = v; lane_step = lane_step l ls; live = live } in
        let here : count_now (c ∷ loops) (w ∷ map word_of_value vs) left s ≡ program_step.went x rest after = ap (λ l. count_now (c ∷ loops) l left s) words ∙ e in
        let one = agree_counter view c.number g w s t (first_lane v (lane_step l ls)) fresh.0 seen a in
        let again = enter (record view { scope = with_counter view.scope c.number; around = changed view.around c.number g }) loops ls (map word_of_value vs) vs live (program_store.set_counter s c.number w) after t x left rest same.1 refl fit.1 fresh.1 (seen_more view c.number seen) one here in
        (again.0, subst (λ k. Agree p core (record view { scope = typing.with_counters (with_counter view.scope c.number) loops; around = counters.with_counters (changed view.around k g) ls vs live }) [] after t) same.0 again.1)

    -- outside the counters around are those that they were
    pub outside : (scope : Scope) (around : counters.Scope) (loops : List PlainCounter) (ls : List Loop) (vs : List ℤ) (live : ℕ → Bool) (k : ℕ)
        → Pairs IsLoop loops ls → BindersFresh p scope loops → Contains scope.counters k → counters.with_counters around ls vs live k ≡ around k
    outside scope around [] [] vs live k same fresh seen = refl
    outside scope around [] (l ∷ ls) vs live k same fresh seen = absurd same
    outside scope around (c ∷ loops) [] vs live k same fresh seen = absurd same
    outside scope around (c ∷ loops) (l ∷ ls) [] live k same fresh seen = refl
    outside scope around (c ∷ loops) (l ∷ ls) (v ∷ vs) live k same fresh seen =
        let g : InGroup = record { value = v; lane_step = lane_step l ls; live = live } in
        outside (with_counter scope c.number) (changed around l.number g) loops ls vs live k same.1 fresh.1 (suc seen.0, omega (arith, seen.1), seen.2)
        ∙ changed_elsewhere around l.number k g (λ e. fresh_counter scope c.number k fresh.0 seen (e ∙ sym same.0))

    more_counters : (scope : Scope) (loops : List PlainCounter) (k : ℕ) → Contains scope.counters k → Contains (typing.with_counters scope loops).counters k
    more_counters scope [] k c = c
    more_counters scope (l ∷ loops) k c = more_counters (with_counter scope l.number) loops k (suc c.0, omega (arith, c.1), c.2)

    pub leave : (view : View) (loops : List PlainCounter) (around : counters.Scope) (s : program_store.Store) (t : store.Store)
        → ((k : ℕ) → Contains view.scope.counters k → around k ≡ view.around k) → SourcesSeen view.scope view.sources
        → Agree p core (record view { scope = typing.with_counters view.scope loops; around = around }) [] s t → Agree p core view [] s t
    leave view loops around s t same seen a = record {
      mems = λ m c. a.mems m (subst (λ l. Contains l m) (sym (same_mems view.scope loops)) c);
      vals = λ v c. found (view.sources v.0) (s.values v.0) (seen v c) (a.vals v (subst (λ l. Contains l v) (sym (same_vals view.scope loops)) c));
      counts = λ k c. ap (λ y. count_word y 0) (sym (same k c)) ∙ a.counts k (more_counters view.scope loops k c);
      waiting = λ m c. let w = a.waiting m c in record { exists = w.exists; on_chip = w.on_chip; unseen = λ c. w.unseen (subst (λ l. Contains l m) (sym (same_mems view.scope loops)) c); holds = w.holds };
      registers = a.registers;
    }
      where
        found : (source : Source) (w : ℕ) → SourceSeen view.scope source → Finds p core around [] t source w → Finds p core view.around [] t source w
        found (at_place k) w sees f = f
        found (in_register r) w sees f = f
        found (constant k) w sees f = f
        found (count k) w sees f = ap (λ y. count_word y 0) (sym (same k sees)) ∙ f
