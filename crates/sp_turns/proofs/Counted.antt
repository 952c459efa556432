-- What is counted in steps, against the turns that they take.
use Rattle.std.proofs.Common.{◌≡◌, ℕ, zero, suc, ◌+◌, ◌≤◌, Bool, true, false, List, [], ◌∷◌, ◌++◌, refl, sym, ◌∙◌, ap, subst, arith, append_assoc}
use Rattle.std.specs.Prelude.{length, map}
use Rattle.sp_words.specs.Interface.{word_count}
use Rattle.sp_tree.specs.Shape.{Shape, looped, turned, shapes}
use Rattle.sp_tree.specs.Step.{Step, went, pure, ◌>>=◌, out_of_turns, in_order, repeated}
use Rattle.sp_tree.specs.Store.{Store}
use Rattle.sp_sugar.proofs.StepLemmas.{as_it_went, not_more, same_answer, same_left, taken_apart}
use Rattle.sp_same.specs.Counts.{Count, loop, turns, counts_in, counts_in_all}
use Rattle.sp_turns.proofs.Outlines.{Outlines, loop_of, fsm_of, only, Spent, besides, times, spent, spent_all, Reads, reads_only, flat, ReadsEach, reads_times}
use Rattle.sp_turns.proofs.Falling.{Takes}

pub no_more_counts : (cs : List Count) → cs ++ [] ≡ cs
no_more_counts [] = refl
no_more_counts (c ∷ cs) = ap (λ l. c ∷ l) (no_more_counts cs)

abbrev pub did : List Shape → List Count
did al = counts_in_all (shapes al)

pub counts_of_both : (al bl : List Shape) → did (al ++ bl) ≡ did al ++ did bl
unfolding counts_in_all
counts_of_both [] bl = refl
counts_of_both (a ∷ al) bl = ap (λ l. counts_in a ++ l) (counts_of_both al bl) ∙ sym (append_assoc (counts_in a) (did al) (did bl))

pub reads_same : (read : List Count → Spent) (cs ds : List Count) (k l : ℕ) → cs ≡ ds → k ≡ l → Reads read cs k → Reads read ds l
reads_same read cs ds k l e f h = subst (λ n. Reads read ds n) f (subst (λ x. Reads read x k) e h)

-- where the step goes on, what is counted in its answer is read as no more turns than it took, and so many
abbrev pub Counted : {A : Type 0} → (spare : ℕ) → Step A → (List Count → Spent) → (A → List Count) → Type 0
Counted {A = A} spare step read counts = (left rest : ℕ) (s after : Store) (a : A) → step left s ≡ went a rest after → (k : ℕ) × Reads read (counts a) k × (k + rest ≤ spare + left)

-- what is counted in its answer, and how many turns it takes at least
abbrev pub Gives : {A : Type 0} → (A → List Count) → Step A → ℕ → List Count → Type 0
Gives {A = A} counts step n cs = (left rest : ℕ) (s after : Store) (a : A) → step left s ≡ went a rest after → (cs ≡ counts a) × (n + rest ≤ left)

pub gives_pure : {A : Type 0} (counts : A → List Count) (a : A) → Gives counts (pure a) 0 (counts a)
unfolding pure
gives_pure counts a left rest s after b e = (ap counts (same_answer a b left rest s after e), let f = same_left a b left rest s after e in omega (arith, f))

pub gives_after : {A B : Type 0} (counts : B → List Count) (step : Step A) (more : A → Step B) (m n total : ℕ) (cs : List Count) → total ≤ m + n → Takes step m → ((a : A) → Gives counts (more a) n cs) → Gives counts (step >>= more) total cs
gives_after counts step more m n total cs le f g left rest s after c e =
    let x = taken_apart step more left s c rest after e in
    let y = g x.answer x.between rest x.store after c x.second in
    (y.0, omega (arith, le, y.1, f left x.between s x.store x.answer x.first))

pub counted_pure : {A : Type 0} (a : A) (spare k : ℕ) (read : List Count → Spent) (counts : A → List Count) → Reads read (counts a) k → k ≤ spare → Counted spare (pure a) read counts
unfolding pure
counted_pure a spare k read counts h le left rest s after b e =
    as_it_went (λ x n u. (m : ℕ) × Reads read (counts x) m × (m + n ≤ spare + left)) a b left rest s after e (k, h, omega (arith, le))

pub counted_after : {A B : Type 0} (step : Step A) (more : A → Step B) (n spare later : ℕ) (read : List Count → Spent) (counts : B → List Count) → later ≤ n + spare → Takes step n → ((a : A) → Counted later (more a) read counts) → Counted spare (step >>= more) read counts
counted_after step more n spare later read counts le f g left rest s after b e =
    let x = taken_apart step more left s b rest after e in
    let y = g x.answer x.between rest x.store after b x.second in
    (y.0, y.1, omega (arith, le, y.2, f left x.between s x.store x.answer x.first))

-- the same where what follows asks how the step went
pub counted_known : {A B : Type 0} (step : Step A) (more : A → Step B) (spare : ℕ) (read : List Count → Spent) (counts : B → List Count) → Takes step 0 → ((a : A) (left rest : ℕ) (s after : Store) → step left s ≡ went a rest after → Counted spare (more a) read counts) → Counted spare (step >>= more) read counts
counted_known step more spare read counts f g left rest s after b e =
    let x = taken_apart step more left s b rest after e in
    let y = g x.answer left x.between s x.store x.first x.between rest x.store after b x.second in
    (y.0, y.1, omega (arith, y.2, f left x.between s x.store x.answer x.first))

-- a step in which something is counted, and what is counted in the answer that follows
pub counted_then : {A B : Type 0} (step : Step A) (more : A → Step B) (spare n j total : ℕ) (first read : List Count → Spent) (counts later : A → List Count) (both : B → List Count) → Counted spare step first counts → ((a : A) → Gives both (more a) n (later a))
    → ((a : A) (k : ℕ) → Reads first (counts a) k → Reads read (later a) (j + k)) → j + spare ≤ n + total → Counted total (step >>= more) read both
counted_then step more spare n j total first read counts later both g h reading le left rest s after b e =
    let x = taken_apart step more left s b rest after e in
    let y = g left x.between s x.store x.answer x.first in
    let z = h x.answer x.between rest x.store after b x.second in
    (j + y.0, subst (λ cs. Reads read cs (j + y.0)) z.0 (reading x.answer y.0 y.1), omega (arith, y.2, z.1, le))

-- each step of a list
module _ {X A : Type 0} (f : X → Step A) (read : List Count → Spent) (counts : A → List Count) (one : (x : X) → Counted 0 (f x) read counts) where
  pub each_counted : (xs : List X) (left rest : ℕ) (s after : Store) (al : List A) → in_order f xs left s ≡ went al rest after → (total : ℕ) × ReadsEach read (map counts al) total × (length al ≡ length xs) × (total + rest ≤ left)
  unfolding in_order pure
  each_counted [] left rest s after al e = as_it_went (λ bs n u. (total : ℕ) × ReadsEach read (map counts bs) total × (length bs ≡ 0) × (total + n ≤ left)) [] al left rest s after e (0, refl, refl, omega arith)
  each_counted (x ∷ xs) left rest s after al e =
      let b = taken_apart (f x) (λ first. in_order f xs >>= (λ others. pure (first ∷ others))) left s al rest after e in
      let d = taken_apart (in_order f xs) (λ others. pure (b.answer ∷ others)) b.between b.store al rest after b.second in
      let y = one x left b.between s b.store b.answer b.first in
      let z = each_counted xs b.between d.between b.store d.store d.answer d.first in
      as_it_went (λ bs n u. (total : ℕ) × ReadsEach read (map counts bs) total × (length bs ≡ suc (length xs)) × (total + n ≤ left)) (b.answer ∷ d.answer) al d.between rest d.store after d.second
      (y.0 + z.0, (y.0, z.0, y.1, z.1, refl), ap suc z.2, omega (arith, y.2, z.3))

-- each turn of a loop
module _ {X A : Type 0} (test : X → Step Bool) (step : X → Step (X × A)) (read : List Count → Spent) (counts : A → List Count) (still : (x : X) → Takes (test x) 0) (one : (x : X) → Counted 0 (step x) read (λ (r : X × A). counts r.1)) where
  abbrev Turned : List A → (rest left : ℕ) → Type 0
  Turned al rest left = (total : ℕ) × ReadsEach read (map counts al) total × (total + rest ≤ left)

  abbrev later : ℕ → X × A → Step (List A)
  later most r = repeated most test step r.0 >>= (λ others. pure (r.1 ∷ others))

  ended : (left rest : ℕ) (s after : Store) (al : List A) → pure [] left s ≡ went al rest after → Turned al rest left
  unfolding pure
  ended left rest s after al e = as_it_went (λ bs n u. Turned bs n left) [] al left rest s after e (0, refl, omega arith)

  -- by what the test gave
  by_test : (most : ℕ) (x : X) (left : ℕ) (rest : ℕ) (after : Store) (al : List A) (again : Step (List A)) → ((between : ℕ) (u : Store) → again between u ≡ went al rest after → Turned al rest between)
      → (holds : Bool) (between : ℕ) (u : Store) → (elim holds as (λ _. Step (List A)) [ true ↦ again | false ↦ pure [] ]) between u ≡ went al rest after → between ≤ left → Turned al rest left
  by_test most x left rest after al again f true between u g le = let y = f between u g in (y.0, y.1, omega (arith, y.2, le))
  by_test most x left rest after al again f false between u g le = let y = ended between rest u after al g in (y.0, y.1, omega (arith, y.2, le))

  pub turns_counted : (most : ℕ) (x : X) (left rest : ℕ) (s after : Store) (al : List A) → repeated most test step x left s ≡ went al rest after → Turned al rest left
  unfolding repeated pure out_of_turns
  turns_counted zero x left rest s after al e =
      let b = taken_apart (test x) (λ holds. elim holds as (λ _. Step (List A)) [ true ↦ out_of_turns | false ↦ pure [] ]) left s al rest after e in
      let f = still x left b.between s b.store b.answer b.first in
      by_test 0 x left rest after al out_of_turns (λ between u g. not_more al rest after g) b.answer b.between b.store b.second (omega (arith, f))
  turns_counted (suc most) x left rest s after al e =
      let b = taken_apart (test x) (λ holds. elim holds as (λ _. Step (List A)) [ true ↦ step x >>= later most | false ↦ pure [] ]) left s al rest after e in
      let f = still x left b.between s b.store b.answer b.first in
      by_test most x left rest after al (step x >>= later most)
      (λ between u g.
      let c = taken_apart (step x) (later most) between u al rest after g in
      let d = taken_apart (repeated most test step c.answer.0) (λ others. pure (c.answer.1 ∷ others)) c.between c.store al rest after c.second in
      let y = one x between c.between u c.store c.answer c.first in
      let z = turns_counted most c.answer.0 c.between d.between c.store d.store d.answer d.first in
      as_it_went (λ bs n v. Turned bs n between) (c.answer.1 ∷ d.answer) al d.between rest d.store after d.second
      (y.0 + z.0, (y.0, z.0, y.1, z.1, refl), omega (arith, y.2, z.2)))
      b.answer b.between b.store b.second (omega (arith, f))

pub flat_counts : (al : List Shape) → flat (map counts_in al) ≡ did al
unfolding counts_in_all
flat_counts [] = refl
flat_counts (a ∷ al) = ap (λ l. counts_in a ++ l) (flat_counts al)

length_of_map : {A B : Type 0} (f : A → B) (xs : List A) → length (map f xs) ≡ length xs
length_of_map f [] = refl
length_of_map f (x ∷ xs) = ap suc (length_of_map f xs)

-- a loop, and an FSM, by their bodies
pub reads_loop : (more : ℕ) (body : Outlines) (ns : List ℕ) (al : List Shape) (total : ℕ) → length al ≡ word_count ns → ReadsEach (besides (suc more) (spent_all body)) (map counts_in al) total → Reads (spent_all (only (loop_of more body))) (did (looped ns (shapes al) ∷ [])) total
unfolding spent counts_in counts_in_all
reads_loop more body ns al total e h =
    let read : List Count → Spent = besides (suc more) (spent_all body) in
    let each : Reads (times (word_count ns) read) (did al) total = reads_same (times (word_count ns) read) (flat (map counts_in al)) (did al) total total (flat_counts al) refl (reads_times read (map counts_in al) total (word_count ns) (length_of_map counts_in al ∙ e) h) in
    reads_same (spent_all (only (loop_of more body))) (loop ns ∷ did al) (loop ns ∷ did al ++ []) total total (ap (λ l. loop ns ∷ l) (sym (no_more_counts (did al)))) refl (reads_only (loop_of more body) (loop ns ∷ did al) total each)

pub reads_fsm : (body : Outlines) (al : List Shape) (total : ℕ) → ReadsEach (besides 1 (spent_all body)) (map counts_in al) total → Reads (spent_all (only (fsm_of body))) (did (turned (length al) (shapes al) ∷ [])) total
unfolding spent counts_in counts_in_all
reads_fsm body al total h =
    let read : List Count → Spent = besides 1 (spent_all body) in
    let each : Reads (times (length al) read) (did al) total = reads_same (times (length al) read) (flat (map counts_in al)) (did al) total total (flat_counts al) refl (reads_times read (map counts_in al) total (length al) (length_of_map counts_in al) h) in
    reads_same (spent_all (only (fsm_of body))) (turns (length al) ∷ did al) (turns (length al) ∷ did al ++ []) total total (ap (λ l. turns (length al) ∷ l) (sym (no_more_counts (did al)))) refl (reads_only (fsm_of body) (turns (length al) ∷ did al) total each)
