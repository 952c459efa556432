-- What is counted in the runs of a body, by its statements alone; and how many turns a list of counts tells of, read along it.
use Rattle.std.proofs.Common.{◌≡◌, ℕ, zero, suc, ◌+◌, true, false, List, [], ◌∷◌, ◌++◌, refl, sym, ◌∙◌, ap, arith, append_assoc}
use Rattle.std.specs.Prelude.{length}
use Rattle.sp_words.specs.Interface.{word_count}
use Rattle.sp_core.specs.Cost.{sum_of}
use Rattle.sp_same.specs.Counts.{Count, loop, turns, taken, words}

mutual
  pub data Outline : Type 0 where
    -- a loop, of which each iteration takes so many turns besides those of its body and its own
    loop_of : (more : ℕ) → Outlines → Outline
    fsm_of : Outlines → Outline
    branch_of : (first second : Outlines) → Outline
    transfer : Outline

  pub data Outlines : Type 0 where
    no_outline : Outlines
    more_outline : Outline → Outlines → Outlines

abbrev pub only : Outline → Outlines
only o = more_outline o no_outline

abbrev pub joined : Outlines → Outlines → Outlines
joined no_outline ps = ps
joined (more_outline o os) ps = more_outline o (joined os ps)

-- how many turns, and the counts that are left
abbrev pub Spent : Type 0
Spent = ℕ × List Count

abbrev pub and_then : Spent → (List Count → Spent) → Spent
and_then s next = (s.0 + (next s.1).0, (next s.1).1)

-- so many more
abbrev pub besides : ℕ → (List Count → Spent) → List Count → Spent
besides n read cs = (n + (read cs).0, (read cs).1)

unfoldable pub times : ℕ → (List Count → Spent) → List Count → Spent
times zero read cs = (0, cs)
times (suc n) read cs = and_then (read cs) (times n read)

unfoldable mutual
  pub spent : Outline → List Count → Spent
  spent (loop_of more body) (loop ns ∷ cs) = times (word_count ns) (besides (suc more) (spent_all body)) cs
  spent (fsm_of body) (turns n ∷ cs) = times n (besides 1 (spent_all body)) cs
  spent (branch_of first second) (taken true ∷ cs) = spent_all first cs
  spent (branch_of first second) (taken false ∷ cs) = spent_all second cs
  spent transfer (words ns ∷ cs) = (suc (sum_of ns), cs)
  spent _ cs = (0, cs)

  pub spent_all : Outlines → List Count → Spent
  spent_all no_outline cs = (0, cs)
  spent_all (more_outline o os) cs = and_then (spent o cs) (spent_all os)

-- these counts are read as so many turns, whatever comes after them
abbrev pub Reads : (List Count → Spent) → List Count → ℕ → Type 0
Reads read cs k = (rest : List Count) → read (cs ++ rest) ≡ (k, rest)

pub reads_nothing : Reads (spent_all no_outline) [] 0
unfolding spent_all
reads_nothing rest = refl

pub reads_only : (o : Outline) (cs : List Count) (k : ℕ) → Reads (spent o) cs k → Reads (spent_all (only o)) cs k
unfolding spent_all
reads_only o cs k h rest = ap (λ (s : Spent). and_then s (spent_all no_outline)) (h rest) ∙ ap (λ n. (n, rest)) {x = k + 0} {y = k} (omega arith)

pub reads_besides : (n : ℕ) (read : List Count → Spent) (cs : List Count) (k : ℕ) → Reads read cs k → Reads (besides n read) cs (n + k)
reads_besides n read cs k h rest = ap (λ (s : Spent). (n + s.0, s.1)) (h rest)

nothing_first : (s : Spent) → (0 + s.0, s.1) ≡ s
nothing_first (n, cs) = ap (λ k. (k, cs)) {x = 0 + n} {y = n} (omega arith)

abbrev so_many : ℕ → List Count → Spent
so_many n cs = (n, cs)

sums : (a b c : ℕ) (cs : List Count) → so_many (a + (b + c)) cs ≡ so_many (a + b + c) cs
sums a b c cs = ap (λ k. so_many k cs) {x = a + (b + c)} {y = a + b + c} (omega arith)

spent_joined : (os ps : Outlines) (cs : List Count) → spent_all (joined os ps) cs ≡ and_then (spent_all os cs) (spent_all ps)
unfolding spent_all
spent_joined no_outline ps cs = sym (nothing_first (spent_all ps cs))
spent_joined (more_outline o os) ps cs =
    let s : Spent = spent o cs in
    let t : Spent = spent_all os s.1 in
    ap (λ (u : Spent). (s.0 + u.0, u.1)) (spent_joined os ps s.1) ∙ sums s.0 t.0 (spent_all ps t.1).0 (spent_all ps t.1).1

-- one list of counts after the other
pub reads_joined : (os ps : Outlines) (cs ds : List Count) (k l : ℕ) → Reads (spent_all os) cs k → Reads (spent_all ps) ds l → Reads (spent_all (joined os ps)) (cs ++ ds) (k + l)
reads_joined os ps cs ds k l g h rest =
    ap (spent_all (joined os ps)) (append_assoc cs ds rest)
    ∙ spent_joined os ps (cs ++ (ds ++ rest))
    ∙ ap (λ (s : Spent). and_then s (spent_all ps)) (g (ds ++ rest))
    ∙ ap (λ (s : Spent). (k + s.0, s.1)) (h rest)

-- counts of one turn after the other
abbrev pub flat : List (List Count) → List Count
flat [] = []
flat (cs ∷ all) = cs ++ flat all

abbrev pub ReadsEach : (List Count → Spent) → List (List Count) → ℕ → Type 0
ReadsEach read [] total = total ≡ 0
ReadsEach read (cs ∷ all) total = (k : ℕ) × (l : ℕ) × Reads read cs k × ReadsEach read all l × (k + l ≡ total)

pub reads_times : (read : List Count → Spent) (all : List (List Count)) (total n : ℕ) → length all ≡ n → ReadsEach read all total → Reads (times n read) (flat all) total
unfolding times
reads_times read [] total zero e h rest = ap (λ k. (k, rest)) (sym h)
reads_times read [] total (suc n) e h rest = absurd (omega (arith, e))
reads_times read (cs ∷ all) total zero e h rest = absurd (omega (arith, e))
reads_times read (cs ∷ all) total (suc n) e h rest =
    ap (times (suc n) read) (append_assoc cs (flat all) rest)
    ∙ ap (λ (s : Spent). and_then s (times n read)) (h.2 (flat all ++ rest))
    ∙ ap (λ (s : Spent). (h.0 + s.0, s.1)) (reads_times read all h.1 n (omega (arith, e)) h.3 rest)
    ∙ ap (λ k. (k, rest)) h.4
