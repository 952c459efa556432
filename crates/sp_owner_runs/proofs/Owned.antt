-- What loops make fresh and FSMs keep is owned by them.
use Rattle.std.proofs.Common.{◌≡◌, ℕ, true, ◌⊎◌, inl, inr, List, [], ◌∷◌, ◌++◌}
use Rattle.sp_core.specs.Declarations.{is_among}
use Rattle.sp_core.specs.Invariant.{owned_in, owned_in_stages}
use Rattle.sp_core.specs.PlainCore.{PlainNode, PlainStages, inner, outer, fsm, branch, load, store, sparse, no_stage, more_stage}
use Rattle.sp_owner_runs.specs.Deeds.{renewed_in, renewed_in_stages, kept_in, kept_in_stages}
use Rattle.sp_owner_runs.proofs.Among.{among_nothing, among_left, among_right, among_one}

-- what is among two lists is among two that have more
among_more : (m : ℕ) (xs ys more rest : List ℕ) → (is_among m xs ≡ true → is_among m more ≡ true) → (is_among m ys ≡ true → is_among m rest ≡ true) → is_among m (xs ++ ys) ≡ true → is_among m (more ++ rest) ≡ true
among_more m xs ys more rest one other h = by (among_one m xs ys h)
  where
    by : (is_among m xs ≡ true) ⊎ (is_among m ys ≡ true) → is_among m (more ++ rest) ≡ true
    by (inl q) = among_left m more rest (one q)
    by (inr q) = among_right m more rest (other q)

mutual
  pub fresh_owned : (node : PlainNode) (m : ℕ) → is_among m (renewed_in node) ≡ true → is_among m (owned_in node) ≡ true
  fresh_owned (outer counters style owned stages) m h = among_more m owned (renewed_in_stages stages) owned (owned_in_stages stages) (λ q. q) (all_fresh_owned stages m) h
  fresh_owned (fsm start state test body next) m h = among_right m (state ∷ []) (owned_in body) (fresh_owned body m h)
  fresh_owned (branch test first second) m h = among_more m (renewed_in first) (renewed_in second) (owned_in first) (owned_in second) (fresh_owned first m) (fresh_owned second m) h
  fresh_owned (inner counters owned ops comb) m h = absurd (among_nothing m h)
  fresh_owned (load r x spans) m h = absurd (among_nothing m h)
  fresh_owned (store r x spans) m h = absurd (among_nothing m h)
  fresh_owned (sparse kind r x places spans count par) m h = absurd (among_nothing m h)

  pub all_fresh_owned : (stages : PlainStages) (m : ℕ) → is_among m (renewed_in_stages stages) ≡ true → is_among m (owned_in_stages stages) ≡ true
  all_fresh_owned no_stage m h = h
  all_fresh_owned (more_stage first last comb node rest) m h = among_more m (renewed_in node) (renewed_in_stages rest) (owned_in node) (owned_in_stages rest) (fresh_owned node m) (all_fresh_owned rest m) h

mutual
  pub state_owned : (node : PlainNode) (m : ℕ) → is_among m (kept_in node) ≡ true → is_among m (owned_in node) ≡ true
  state_owned (outer counters style owned stages) m h = among_right m owned (owned_in_stages stages) (states_owned stages m h)
  state_owned (fsm start state test body next) m h = among_more m (state ∷ []) (kept_in body) (state ∷ []) (owned_in body) (λ q. q) (state_owned body m) h
  state_owned (branch test first second) m h = among_more m (kept_in first) (kept_in second) (owned_in first) (owned_in second) (state_owned first m) (state_owned second m) h
  state_owned (inner counters owned ops comb) m h = absurd (among_nothing m h)
  state_owned (load r x spans) m h = absurd (among_nothing m h)
  state_owned (store r x spans) m h = absurd (among_nothing m h)
  state_owned (sparse kind r x places spans count par) m h = absurd (among_nothing m h)

  pub states_owned : (stages : PlainStages) (m : ℕ) → is_among m (kept_in_stages stages) ≡ true → is_among m (owned_in_stages stages) ≡ true
  states_owned no_stage m h = h
  states_owned (more_stage first last comb node rest) m h = among_more m (kept_in node) (kept_in_stages rest) (owned_in node) (owned_in_stages rest) (state_owned node m) (states_owned rest m) h
