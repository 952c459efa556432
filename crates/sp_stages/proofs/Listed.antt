-- Lists of leaders as they change.
use Rattle.std.proofs.Common.{◌≡◌, ℕ, ◌+◌, ◌<◌, ◌≤◌, ◌==◌, ◌&&◌, nat_le, Bool, true, false, cond, List, length, get_or, slice_index, set, ap, sym, subst, ◌∙◌, ⊎_elim, add-one, length-set, get_or-set_same, get_or-set_other, arith}
use Rattle.std.proofs.lemmas.Bool.{cases_lt}
use Rattle.sp_core.specs.Elements.{numbers_below}
use Rattle.sp_stages.specs.Chains.{AreListed, instead, merged, after_links, leaders_before, leads_in}
use Rattle.sp_stages.proofs.Below.{length-numbers, number_at}
use Rattle.sp_stages.proofs.Counting.{count_below, count_next}
use Rattle.sp_stages.proofs.LeaderLaws.{leaders_are}

-- up to i each leader has been replaced, and from there on none
abbrev pub AreReplaced : (first now : List ℕ) (a b i : ℕ) → Type 0
AreReplaced first now a b i =
    (length now ≡ length first)
    × ((r : ℕ) → r < i → get_or now r 0 ≡ instead (λ k. slice_index first k) a b r)
    × ((r : ℕ) → i ≤ r → get_or now r 0 ≡ get_or first r 0)

pub replaced_more : (first now : List ℕ) (a b i new : ℕ) → AreReplaced first now a b i → i < length now → new ≡ cond (get_or now i 0 == b) a (get_or now i 0) → AreReplaced first (set now i new) a b (i + 1)
replaced_more first now a b i new h lt is = (
  length-set now i new ∙ h.0,
  λ r below. ⊎_elim
      (λ l. get_or-set_other now i r new 0 (λ e. omega (arith, e, l)) ∙ h.1 r l)
      (λ l. let e : i ≡ r = omega arith in
      subst (λ k. get_or (set now i new) k 0 ≡ instead (λ j. slice_index first j) a b k) e
      (get_or-set_same now i new 0 lt ∙ is ∙ ap (λ x. cond (x == b) a x) (h.2 i (omega arith))))
      (cases_lt r i),
  λ r from. get_or-set_other now i r new 0 (λ e. omega (arith, e, from)) ∙ h.2 r (omega arith),
)

-- the lesser leader is that of p
pub merged_lesser : (leader : ℕ → ℕ) (old new : List ℕ) (p q a b : ℕ) → p < length old → q < length old → a ≡ get_or old p 0 → b ≡ get_or old q 0 → nat_le a b ≡ true → length new ≡ length old
    → ((r : ℕ) → r < length old → get_or new r 0 ≡ instead (λ k. slice_index old k) a b r) → AreListed leader old → AreListed (merged leader p q) new
merged_lesser leader old new p q a b lp lq ea eb le same h l r lt =
    let lo : r < length old = omega (arith, same, lt) in
    let fa : a ≡ leader p = ea ∙ l p lp in
    let fb : b ≡ leader q = eb ∙ l q lq in
    let is : nat_le (leader p) (leader q) ≡ true = ap (λ x. nat_le x (leader q)) (sym fa) ∙ ap (nat_le a) (sym fb) ∙ le in
    h r lo ∙ ap (λ x. cond (x == b) a x) (l r lo) ∙ ap (λ x. cond (leader r == b) x (leader r)) fa
    ∙ ap (λ x. cond (leader r == x) (leader p) (leader r)) fb
    ∙ sym (ap (λ t. (cond t (instead leader (leader p) (leader q)) (instead leader (leader q) (leader p))) r) is)

-- or that of q
pub merged_greater : (leader : ℕ → ℕ) (old new : List ℕ) (p q a b : ℕ) → p < length old → q < length old → a ≡ get_or old p 0 → b ≡ get_or old q 0 → nat_le a b ≡ false → length new ≡ length old
    → ((r : ℕ) → r < length old → get_or new r 0 ≡ instead (λ k. slice_index old k) b a r) → AreListed leader old → AreListed (merged leader p q) new
merged_greater leader old new p q a b lp lq ea eb le same h l r lt =
    let lo : r < length old = omega (arith, same, lt) in
    let fa : a ≡ leader p = ea ∙ l p lp in
    let fb : b ≡ leader q = eb ∙ l q lq in
    let is : nat_le (leader p) (leader q) ≡ false = ap (λ x. nat_le x (leader q)) (sym fa) ∙ ap (nat_le a) (sym fb) ∙ le in
    h r lo ∙ ap (λ x. cond (x == a) b x) (l r lo) ∙ ap (λ x. cond (leader r == a) x (leader r)) fb
    ∙ ap (λ x. cond (leader r == x) (leader q) (leader r)) fa
    ∙ sym (ap (λ t. (cond t (instead leader (leader p) (leader q)) (instead leader (leader q) (leader p))) r) is)

pub own_listed : (xs : List ℕ) (n : ℕ) → xs ≡ numbers_below n → (length xs ≡ n) × AreListed (λ r. r) xs
own_listed xs n e =
    let same : length xs ≡ n = ap length e ∙ length-numbers n in
    (same, λ r lt. ap (λ ys. get_or ys r 0) e ∙ number_at n r 0 (omega (arith, same, lt)))

module _ (is_linked : ℕ → ℕ → Bool) where
  pub link_listed : (leader : ℕ → ℕ) (p q : ℕ) (xs : List ℕ) → AreListed (cond (is_linked p q) (merged (after_links is_linked leader p q) p q) (after_links is_linked leader p q)) xs → AreListed (after_links is_linked leader p (q + 1)) xs
  link_listed leader p q xs h = subst (λ k. AreListed (after_links is_linked leader p k) xs) (sym (add-one q)) h

  pub run_listed : (size p : ℕ) (xs : List ℕ) → AreListed (after_links is_linked (leaders_before is_linked size p) p size) xs → AreListed (leaders_before is_linked size (p + 1)) xs
  run_listed size p xs h = subst (λ k. AreListed (leaders_before is_linked size k) xs) (sym (add-one p)) h

  pub all_listed : (size p m : ℕ) (xs : List ℕ) → p ≡ size → m ≡ size → AreListed (leaders_before is_linked size p) xs → AreListed (leaders_before is_linked m m) xs
  all_listed size p m xs ep em h = subst (λ k. AreListed (leaders_before is_linked k k) xs) (sym em) (subst (λ k. AreListed (leaders_before is_linked size k) xs) ep h)

-- one leader more, or none
pub counted_more : (slots : List ℕ) (leaders : List ℕ) (leader : ℕ → ℕ) (s r count next : ℕ) → AreListed leader leaders → r < length leaders → count ≡ count_below (leads_in slots leader s) r
    → next ≡ count + cond (leads_in slots (λ k. slice_index leaders k) s r) 1 0 → next ≡ count_below (leads_in slots leader s) (r + 1)
counted_more slots leaders leader s r count next l lt e is =
    is ∙ ap (λ n. n + cond (leads_in slots (λ k. slice_index leaders k) s r) 1 0) e
    ∙ ap (λ x. count_below (leads_in slots leader s) r + cond ((x == r) && (slice_index slots r == s)) 1 0) (l r lt)
    ∙ sym (count_next (leads_in slots leader s) r) ∙ ap (count_below (leads_in slots leader s)) (sym (add-one r))

pub counted_few : (count r next : ℕ) (b : Bool) → count ≤ r → next ≡ count + cond b 1 0 → next ≤ r + 1
counted_few count r next true le e = omega arith
counted_few count r next false le e = omega arith

pub leader_least : (is_linked : ℕ → ℕ → Bool) (size n p : ℕ) (xs ys : List ℕ) → ys ≡ xs → AreListed (leaders_before is_linked size n) xs → p < length xs → slice_index ys p ≤ p
leader_least is_linked size n p xs ys e l lt =
    let at = ap (λ zs. slice_index zs p) e in
    let is = l p lt in
    let least = (leaders_are is_linked size n).least p in
    omega (arith, at, is, least)

pub listed_like : (leader : Bool → ℕ → ℕ) (a b : Bool) (xs ys : List ℕ) → a ≡ b → ys ≡ xs → AreListed (leader a) xs → AreListed (leader b) ys
listed_like leader a b xs ys e is h = subst (λ k. AreListed (leader k) ys) e (subst (λ zs. AreListed (leader a) zs) (sym is) h)
