-- What is known of times that were raised as some orders ask.
use Rattle.std.proofs.Common.{◌≡◌, ℕ, ◌+◌, ◌<◌, ◌≤◌, List, sum, slice_index_or, arith, below_more, sym, ◌∙◌, ap, subst, length, refl, suc, [], ◌∷◌}
use Rattle.std.proofs.lemmas.List.Sums.{sum_by-cons}
use Rattle.std.specs.List.{All}
use Rattle.sp_modulo.specs.Times.{IsObeyed, IsNoLater}
use Rattle.sp_modulo.specs.declared.order.Order.{Order}
use Rattle.sp_modulo.specs.declared.least.Step.{Step}
use Rattle.sp_modulo.specs.declared.least.Step.TheVariants.{Same, Raised, Late}

-- the first orders, so many
abbrev pub First : (Order → Type 0) → List Order → ℕ → Type 0
First P orders n = (k : ℕ) (d : Order) → k < n → P (slice_index_or orders k d)

pub record IsRaised (interval : ℕ) (limits : List ℕ) (orders : List Order) (n : ℕ) (before after : List ℕ) (step : Step) : Type 0 where
  pub same : step ≡ Same → (after ≡ before) × First (IsObeyed interval after) orders n
  pub raised : step ≡ Raised → sum before < sum after
  pub not_late : step ≡ Late → ⊥
  pub within : IsNoLater before limits → IsNoLater after limits
  pub under : (others : List ℕ) → First (IsObeyed interval others) orders n → IsNoLater before others → IsNoLater after others

First-less : (P : Order → Type 0) (orders : List Order) (n : ℕ) → First P orders (n + 1) → First P orders n
First-less P orders n h k d lt = h k d (omega arith)

First-more : (P : Order → Type 0) (orders : List Order) (n : ℕ) → First P orders n → ((d : Order) → P (slice_index_or orders n d)) → First P orders (n + 1)
First-more P orders n h here k d lt = below_more (λ j. P (slice_index_or orders j d)) n (λ j less. h j d less) (here d) k lt

sum_up : (interval : ℕ) (limits : List ℕ) (orders : List Order) (n : ℕ) (before after : List ℕ) (step : Step) → IsRaised interval limits orders n before after step → sum before ≤ sum after
sum_up interval limits orders n before after Same h = let e = ap sum ((h.same refl).0) in omega arith
sum_up interval limits orders n before after Raised h = let e : sum before < sum after = h.raised refl in omega arith
sum_up interval limits orders n before after Late h = absurd (h.not_late refl)

module _ (interval : ℕ) (limits : List ℕ) (orders : List Order) (n : ℕ) (before t u : List ℕ) where
  at_next : (P : Order → Type 0) (o : Order) → ((d : Order) → slice_index_or orders n d ≡ o) → First P orders (n + 1) → P o
  at_next P o is h = subst P (is o) (h n o (omega arith))

  here : (P : Order → Type 0) (o : Order) → ((d : Order) → slice_index_or orders n d ≡ o) → P o → (d : Order) → P (slice_index_or orders n d)
  here P o is p d = subst P (sym (is d)) p

  -- the next order was obeyed already
  pub after_same : (o : Order) (step : Step) → ((d : Order) → slice_index_or orders n d ≡ o) → IsRaised interval limits orders n before t step → u ≡ t → IsObeyed interval u o →
      IsRaised interval limits orders (n + 1) before u step
  after_same o step is h e obeyed = record {
    same = λ s. (e ∙ (h.same s).0, First-more (IsObeyed interval u) orders n (subst (λ (x : List ℕ). First (IsObeyed interval x) orders n) (sym e) (h.same s).1) (here (IsObeyed interval u) o is obeyed));
    raised = λ s. subst (λ (x : List ℕ). sum before < sum x) (sym e) (h.raised s);
    not_late = h.not_late;
    within = λ w. subst (λ (x : List ℕ). IsNoLater x limits) (sym e) (h.within w);
    under = λ others obey w. subst (λ (x : List ℕ). IsNoLater x others) (sym e) (h.under others (First-less (IsObeyed interval others) orders n obey) w);
  }

  -- or a time was raised
  pub after_raised : (o : Order) (step : Step) → ((d : Order) → slice_index_or orders n d ≡ o) → IsRaised interval limits orders n before t step → sum t < sum u → (IsNoLater t limits → IsNoLater u limits) →
      ((others : List ℕ) → IsObeyed interval others o → IsNoLater t others → IsNoLater u others) → IsRaised interval limits orders (n + 1) before u Raised
  after_raised o step is h up within under = record {
    same = λ s. cc;
    raised = λ s. let k = sum_up interval limits orders n before t step h in omega arith;
    not_late = λ s. cc;
    within = λ w. within (h.within w);
    under = λ others obey w. under others (at_next (IsObeyed interval others) o is obey) (h.under others (First-less (IsObeyed interval others) orders n obey) w);
  }

  -- the next order asks for a time past its limit
  pub after_late : (o : Order) (step : Step) → ((d : Order) → slice_index_or orders n d ≡ o) → n < length orders → IsRaised interval limits orders n before t step →
      ((others : List ℕ) → IsObeyed interval others o → IsNoLater t others → IsNoLater others limits → ⊥) →
      (others : List ℕ) → All (IsObeyed interval others) orders → IsNoLater before others → IsNoLater others limits → ⊥
  after_late o step is inside h late others obey w l = late others (subst (λ (x : Order). IsObeyed interval others x) (is o) (obey n o inside)) (h.under others (λ k d lt. obey k d (omega arith)) w) l

-- What is known of times that were raised again and again.
pub record IsSettling (interval : ℕ) (limits : List ℕ) (orders : List Order) (before after : List ℕ) : Type 0 where
  pub one_each : length after ≡ length limits
  pub within : IsNoLater after limits
  pub under : (others : List ℕ) → All (IsObeyed interval others) orders → IsNoLater before others → IsNoLater after others

IsNoLater-tail : (x y : ℕ) (xs ys : List ℕ) → IsNoLater (x ∷ xs) (y ∷ ys) → IsNoLater xs ys
IsNoLater-tail x y xs ys h i = h (suc i)

-- of as many numbers that are no greater the sum is no greater
pub sum-within : (xs ys : List ℕ) → length xs ≡ length ys → IsNoLater xs ys → sum xs ≤ sum ys
sum-within [] ys e h = omega arith
sum-within (x ∷ xs) [] e h = absurd (omega arith)
sum-within (x ∷ xs) (y ∷ ys) e h =
    let rest = sum-within xs ys (omega arith) (IsNoLater-tail x y xs ys h) in
    let first : x ≤ y = h 0 in
    omega (arith, sum_by-cons (λ n. n) x xs, sum_by-cons (λ n. n) y ys)
