-- The bounds of counters, as a program and its core take them.
use Rattle.std.proofs.Common.{◌≡◌, ℕ, List, [], ◌∷◌, refl, sym, ◌∙◌, ap, subst}
use Rattle.std.specs.Prelude.{ℤ, length, map}
use Rattle.sp_words.specs.Types.{int_type}
use Rattle.sp_tree.specs.Elements.{counter_words, tuples}
use Rattle.sp_tree.specs.Expressions.{word}
use Rattle.sp_tree.specs.PlainProgram.{PlainProgram}
use Rattle.sp_tree.specs.PlainStatement.{PlainCounter}
use Rattle.sp_tree.specs.Sequential.{counter_range}
use Rattle.sp_tree.specs.Step as program_step
use Rattle.sp_tree.specs.Store as program_store
use Rattle.sp_tree.specs.Typing.{Scope, BoundsTyped}
use Rattle.sp_core.specs.Elements.{index_value, values_below}
use Rattle.sp_core.specs.History.{Bounds, last_word}
use Rattle.sp_core.specs.Operations.{operations}
use Rattle.sp_core.specs.PlainCore as core_tree
use Rattle.sp_core.specs.PlainCore.{PlainCore}
use Rattle.sp_core.specs.Scope.{Loop, plainly, loops_of, counts_of, group_values}
use Rattle.sp_core.specs.Sequential.{bounds}
use Rattle.sp_core.specs.Step as core_step
use Rattle.sp_core.specs.Store as store
use Rattle.sp_sugar.specs.Agreement.{HasMemories, View, Agree}
use Rattle.sp_sugar.specs.Early.{is_early, after, from_register, counters_of, bounds_of}
use Rattle.sp_sugar.specs.Values.{Sources}
use Rattle.sp_sugar.proofs.StepLemmas.{same_answer, taken_apart, then_on}
use Rattle.sp_same.specs.Following.{AreReady}
use Rattle.sp_same.proofs.Quietly.{Pairs, Triples, Quietly, quiet_order}
use Rattle.sp_same.proofs.StillWords.{unchanged}
use Rattle.sp_same.proofs.Values.{Each, IsBelow, Fit, FitAll, word_of_value, values_live, same_range, range_length, tuples_map, tuples_fit}
use Rattle.sp_same.proofs.WordsTaken.{part_taken}

abbrev pub IsRange : PlainCounter → Bounds → List ℕ → Type 0
IsRange c b ws = counter_words (last_word b.from) (last_word b.until) c.step ≡ ws

module _ (p : PlainProgram) (core : PlainCore) (h : HasMemories p core) (most : ℕ) (view : View) (s : program_store.Store) (t : store.Store) (left : ℕ) (a : Agree p core view [] s t) where
  abbrev Quiet_counter : PlainCounter → core_tree.PlainCounter → Type 0
  Quiet_counter = Quietly (counter_range p.mems) (bounds core plainly most view.around) IsRange left s t

  bounds_pair : (r : ℕ) (loops : List PlainCounter) → BoundsTyped p view.scope loops → AreReady p core is_early left s t r (bounds_of loops) → Pairs Quiet_counter loops (counters_of p.mems view.sources r loops)
  unfolding program_step.pure core_step.pure
  bounds_pair r [] typed ready = tt
  bounds_pair r (l ∷ loops) typed ready = (
    λ q n u goes.
        let second : ℕ = after is_early r l.from in
        let c = taken_apart (word p.mems l.from) (λ i. program_step.◌>>=◌ (word p.mems l.until) (λ j. program_step.pure (counter_words i j l.step))) left s q n u goes in
        let x = part_taken p core h view is_early r l.from s c.store t left c.between c.answer int_type typed.0 a ready.0 c.first in
        let f = taken_apart (word p.mems l.until) (λ j. program_step.pure (counter_words c.answer j l.step)) c.between c.store q n u c.second in
        let here : word p.mems l.until left s ≡ program_step.went f.answer f.between f.store = ap (λ k. word p.mems l.until k s) (sym x.0) ∙ ap (λ v. word p.mems l.until c.between v) (sym x.1) ∙ f.first in
        let z = part_taken p core h view is_early second l.until s f.store t left f.between f.answer int_type typed.1 a ready.1.0 here in
        let y = unchanged (counter_words c.answer f.answer l.step) q f.between n f.store u f.second in (
          y.0 ∙ z.0,
          y.1 ∙ z.1,
          record { from = x.2.0; until = z.2.0 },
          then_on (operations core view.around (from_register p.mems view.sources is_early r l.from)) (λ i. core_step.◌>>=◌ (operations core view.around (from_register p.mems view.sources is_early second l.until)) (λ j. core_step.pure (record { from = i; until = j }))) t x.2.0 t x.2.1
              ∙ then_on (operations core view.around (from_register p.mems view.sources is_early second l.until)) (λ j. core_step.pure (record { from = x.2.0; until = j })) t z.2.0 t z.2.1,
          ap (λ w. counter_words w (last_word z.2.0) l.step) x.2.2 ∙ ap (λ w. counter_words c.answer w l.step) z.2.2 ∙ same_answer (counter_words c.answer f.answer l.step) q f.between n f.store u f.second,
        ),
    bounds_pair (after is_early (after is_early r l.from) l.until) loops typed.4 ready.1.1,
  )

  pub bounds_taken : (r : ℕ) (loops : List PlainCounter) (ranges : List (List ℕ)) (rest : ℕ) (u : program_store.Store) → BoundsTyped p view.scope loops → AreReady p core is_early left s t r (bounds_of loops)
      → program_step.in_order (counter_range p.mems) loops left s ≡ program_step.went ranges rest u
      → (rest ≡ left) × (u ≡ s) × (bs : List Bounds) × (core_step.in_order (bounds core plainly most view.around) (counters_of p.mems view.sources r loops) t ≡ core_step.went bs t) × Triples IsRange loops bs ranges
  bounds_taken r loops ranges rest u typed ready goes = quiet_order (counter_range p.mems) (bounds core plainly most view.around) IsRange left s t loops (counters_of p.mems view.sources r loops) ranges rest u (bounds_pair r loops typed ready) goes

-- what the loops of a core are, by those of its program
abbrev pub IsLoop : PlainCounter → Loop → Type 0
IsLoop c l = c.number ≡ l.number

abbrev pub IsLive : Loop → ℤ → Type 0
IsLive l v = IsBelow l.until l.by v

module _ (p : PlainProgram) (sources : Sources) where
  abbrev pub core_loops : (r : ℕ) → List PlainCounter → List Bounds → List Loop
  core_loops r loops bs = loops_of plainly (counters_of p.mems sources r loops) bs

  abbrev values : Loop → List ℤ
  values l = values_below l.from l.until l.advance

  pub record AreLoops (r : ℕ) (loops : List PlainCounter) (bs : List Bounds) (ranges : List (List ℕ)) : Type 0 where
    pub numbers : Pairs IsLoop loops (core_loops r loops bs)
    pub counted : counts_of (core_loops r loops bs) ≡ map length ranges
    pub words : map (map word_of_value) (map values (core_loops r loops bs)) ≡ ranges
    pub live : FitAll IsLive (core_loops r loops bs) (map values (core_loops r loops bs))

  pub are_loops : (S : Scope) (r : ℕ) (loops : List PlainCounter) (bs : List Bounds) (ranges : List (List ℕ)) → BoundsTyped p S loops → Triples IsRange loops bs ranges → AreLoops r loops bs ranges
  are_loops S r [] [] [] typed h = record { numbers = tt; counted = refl; words = refl; live = tt }
  are_loops S r [] [] (x ∷ ranges) typed h = absurd h
  are_loops S r [] (b ∷ bs) ranges typed h = absurd h
  are_loops S r (c ∷ loops) [] ranges typed h = absurd h
  are_loops S r (c ∷ loops) (b ∷ bs) [] typed h = absurd h
  are_loops S r (c ∷ loops) (b ∷ bs) (ws ∷ ranges) typed h =
      let more = are_loops S (after is_early (after is_early r c.from) c.until) loops bs ranges typed.4 h.1 in
      let from : ℕ = last_word b.from in
      let until : ℕ = last_word b.until in
      record {
        numbers = (refl, more.numbers);
        counted = ap (λ n. n ∷ counts_of (core_loops (after is_early (after is_early r c.from) c.until) loops bs)) (sym (range_length from until c.step) ∙ ap length h.0) ∙ ap (λ l. length ws ∷ l) more.counted;
        words = ap (λ l. l ∷ map (map word_of_value) (map values (core_loops (after is_early (after is_early r c.from) c.until) loops bs))) (same_range from until c.step ∙ h.0) ∙ ap (λ l. ws ∷ l) more.words;
        live = (values_live (index_value from) (index_value until) c.step typed.2.0, more.live);
      }

  -- an iteration, in both
  abbrev pub SameValues : List Loop → List ℕ → List ℤ → Type 0
  SameValues ls ws vs = (map word_of_value vs ≡ ws) × Fit IsLive ls vs

  pair_each : (ls : List Loop) (vss : List (List ℤ)) → Each (Fit IsLive ls) vss → Pairs (SameValues ls) (map (map word_of_value) vss) vss
  pair_each ls [] e = tt
  pair_each ls (vs ∷ vss) e = ((refl, e.0), pair_each ls vss e.1)

  pub iterations : (r : ℕ) (loops : List PlainCounter) (bs : List Bounds) (ranges : List (List ℕ)) → AreLoops r loops bs ranges → Pairs (SameValues (core_loops r loops bs)) (tuples ranges) (group_values (core_loops r loops bs))
  iterations r loops bs ranges h =
      let ls : List Loop = core_loops r loops bs in
      subst (λ l. Pairs (SameValues ls) l (group_values ls)) (sym (tuples_map word_of_value (map values ls)) ∙ ap tuples h.words)
      (pair_each ls (group_values ls) (tuples_fit IsLive ls (map values ls) h.live))
