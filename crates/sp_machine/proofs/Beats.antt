-- The beats of an outer body take no longer than they cost.
use Rattle.std.proofs.Common.{◌≡◌, ℕ, zero, suc, ◌+◌, ◌-◌, ◌<◌, ◌≤◌, Bool, true, false, cond, List, [], ◌∷◌, length, nat_le, nat_lt, inl, inr, arith, refl, sym, subst, ap, ◌∙◌, le-leb}
use Rattle.std.proofs.lemmas.Bool.{cases_order, and_from, and_parts, eq-eqb, eqb-true, leb-true, ltb-false, ne_eqb}
use Rattle.std.specs.Prelude.{◌==◌, ◌&&◌, slice_index}
use Rattle.sp_core.specs.Cost.{sum_below, greatest_below, greatest_of, cost_at, is_chain, work, chain_cost, beat_cost, beat_count, beats_cost}
use Rattle.sp_time.specs.Beats as beats
use Rattle.sp_time.specs.Beats.{Slot, slot_at, is_slot, offset, ends, beat, begins, whole}
use Rattle.sp_time.specs.Lists.{total, greatest}
use Rattle.sp_machine.specs.Timeline.{slots_from}

-- a stage stands where its slot and its chain say
pub slots_length : (slots chains : List ℕ) → length slots ≡ length chains → length (slots_from slots chains) ≡ length slots
slots_length [] [] e = refl
slots_length [] (c ∷ chains) e = refl
slots_length (s ∷ slots) [] e = absurd (omega (arith, e))
slots_length (s ∷ slots) (c ∷ chains) e = ap suc (slots_length slots chains (let h : suc (length slots) ≡ suc (length chains) = e in omega arith))

pub slot_of_stage : (slots chains : List ℕ) (s : ℕ) → length slots ≡ length chains → s < length slots → (slot_at (slots_from slots chains) s).slot ≡ slice_index slots s
slot_of_stage [] chains s e l = absurd (omega (arith, l))
slot_of_stage (x ∷ slots) [] s e l = absurd (omega (arith, e))
slot_of_stage (x ∷ slots) (c ∷ chains) zero e l = refl
slot_of_stage (x ∷ slots) (c ∷ chains) (suc s) e l = slot_of_stage slots chains s (let h : suc (length slots) ≡ suc (length chains) = e in omega arith) (let h : suc s < suc (length slots) = l in omega arith)

pub chain_of_stage : (slots chains : List ℕ) (s : ℕ) → length slots ≡ length chains → s < length slots → (slot_at (slots_from slots chains) s).chain ≡ slice_index chains s
chain_of_stage [] chains s e l = absurd (omega (arith, l))
chain_of_stage (x ∷ slots) [] s e l = absurd (omega (arith, e))
chain_of_stage (x ∷ slots) (c ∷ chains) zero e l = refl
chain_of_stage (x ∷ slots) (c ∷ chains) (suc s) e l = chain_of_stage slots chains s (let h : suc (length slots) ≡ suc (length chains) = e in omega arith) (let h : suc s < suc (length slots) = l in omega arith)

-- sums and the greatest, compared
pub total_below : (f g : ℕ → ℕ) (n m : ℕ) → n ≤ m → ((i : ℕ) → i < n → f i ≤ g i) → total f n ≤ sum_below g m
total_below f g zero m l h = omega arith
total_below f g (suc n) zero l h = absurd (omega (arith, l))
total_below f g (suc n) (suc m) l h = elim (cases_order n m) [
  | inl e ↦ let a : total f n ≤ sum_below g m = total_below f g n m (omega arith) (λ i q. h i (omega arith)) in let b : f n ≤ g n = h n (omega arith) in let c : g n ≡ g m = ap g e in omega arith
  | inr (inl q) ↦ let a : total f (suc n) ≤ sum_below g m = total_below f g (suc n) m (omega arith) h in omega arith
  | inr (inr q) ↦ absurd (omega arith)
]

pub greatest_under : (f : ℕ → ℕ) (n m : ℕ) → ((i : ℕ) → i < n → f i ≤ m) → greatest f n ≤ m
greatest_under f zero m h = omega arith
greatest_under f (suc n) m h = let a : greatest f n ≤ m = greatest_under f n m (λ i q. h i (omega arith)) in let b : f n ≤ m = h n (omega arith) in omega arith

pub below_greatest : (f : ℕ → ℕ) (n i : ℕ) → i < n → f i ≤ greatest_below f n
below_greatest f zero i l = absurd (omega arith)
below_greatest f (suc n) i l = elim (cases_order i n) [
  | inl e ↦ subst (λ j. f j ≤ greatest_below f (suc n)) (sym e) (omega arith)
  | inr (inl q) ↦ let a : f i ≤ greatest_below f n = below_greatest f n i q in omega arith
  | inr (inr q) ↦ absurd (omega arith)
]

pub under_greatest_of : (ns : List ℕ) (i : ℕ) → i < length ns → slice_index ns i ≤ greatest_of ns
under_greatest_of [] i l = absurd (omega (arith, l))
under_greatest_of (n ∷ ns) zero l = omega arith
under_greatest_of (n ∷ ns) (suc i) l = let a : slice_index ns i ≤ greatest_of ns = under_greatest_of ns i (let q : suc i < suc (length ns) = l in omega arith) in omega arith

module _ (slots chains : List ℕ) (took : ℕ → ℕ → ℕ) (costs : List (List ℕ)) (same : length slots ≡ length chains)
    (below : (k s : ℕ) → took k s ≤ cost_at slots chains costs k s) (over : (k s : ℕ) → length costs ≤ k → took k s ≡ 0) where
  abbrev pub all : List Slot
  all = slots_from slots chains

  -- a run takes no longer than its work costs
  work_under : (b s : ℕ) → slice_index slots s ≤ b → took (b - slice_index slots s) s ≤ work slots chains costs b s
  work_under b s l = choice (nat_lt (b - slice_index slots s) (length costs)) refl
    where
      choice : (q : Bool) → nat_lt (b - slice_index slots s) (length costs) ≡ q → took (b - slice_index slots s) s ≤ work slots chains costs b s
      choice true e =
          let w : work slots chains costs b s ≡ cost_at slots chains costs (b - slice_index slots s) s =
          ap (λ x. cond (x && nat_lt (b - slice_index slots s) (length costs)) (cost_at slots chains costs (b - slice_index slots s) s) 0) (le-leb _ _ l)
          ∙ ap (λ x. cond x (cost_at slots chains costs (b - slice_index slots s) s) 0) e in
          let c : took (b - slice_index slots s) s ≤ cost_at slots chains costs (b - slice_index slots s) s = below _ s in omega arith
      choice false e = let z : took (b - slice_index slots s) s ≡ 0 = over _ s (ltb-false _ _ e) in omega arith

  -- a run ends no later than its chain costs
  ends_under : (b s : ℕ) → s < length slots → slice_index slots s ≤ b → ends all took (b - slice_index slots s) s ≤ chain_cost slots chains costs b s
  ends_under b s l q =
      let k : ℕ = b - slice_index slots s in
      let f : ℕ → ℕ = λ j. cond (is_slot (slot_at all j) (slot_at all s)) (took k j) 0 in
      let here : f s ≡ took k s = ap (λ x. cond x (took k s) 0) (and_from _ _ (eq-eqb (slot_at all s).slot (slot_at all s).slot refl) (eq-eqb (slot_at all s).chain (slot_at all s).chain refl)) in
      let a : total f (suc s) ≤ chain_cost slots chains costs b s = total_below f _ (suc s) (length slots) (omega arith) (λ i r. each i (omega arith)) in
      omega arith
    where
      each : (i : ℕ) → i < length slots → cond (is_slot (slot_at all i) (slot_at all s)) (took (b - slice_index slots s) i) 0 ≤ cond (is_chain slots chains costs s i) (work slots chains costs b i) 0
      each i r = choice (is_slot (slot_at all i) (slot_at all s)) refl
        where
          choice : (x : Bool) → is_slot (slot_at all i) (slot_at all s) ≡ x → cond x (took (b - slice_index slots s) i) 0 ≤ cond (is_chain slots chains costs s i) (work slots chains costs b i) 0
          choice false e = omega arith
          choice true e =
              let se : slice_index slots i ≡ slice_index slots s = sym (slot_of_stage slots chains i same r) ∙ eqb-true _ _ (and_parts _ _ e).0 ∙ slot_of_stage slots chains s same l in
              let ce : slice_index chains i ≡ slice_index chains s = sym (chain_of_stage slots chains i same r) ∙ eqb-true _ _ (and_parts _ _ e).1 ∙ chain_of_stage slots chains s same l in
              let joined : is_chain slots chains costs s i ≡ true = and_from _ _ (eq-eqb _ _ (sym se)) (eq-eqb _ _ (sym ce)) in
              let w : took (b - slice_index slots i) i ≤ work slots chains costs b i = work_under b i (subst (λ g. g ≤ b) (sym se) q) in
              subst (λ y. took (b - slice_index slots s) i ≤ cond y (work slots chains costs b i) 0) (sym joined)
              (subst (λ g. took (b - g) i ≤ work slots chains costs b i) se w)

  beat_under : (b : ℕ) → suc (beat all took b) ≤ beat_cost slots chains costs b
  beat_under b =
      let a : beat all took b ≤ greatest_below (chain_cost slots chains costs b) (length slots) =
      greatest_under _ (length all) _ (λ s l. each s (subst (λ n. s < n) (slots_length slots chains same) l)) in
      omega arith
    where
      each : (s : ℕ) → s < length slots → cond (nat_le (slot_at all s).slot b) (ends all took (b - (slot_at all s).slot) s) 0 ≤ greatest_below (chain_cost slots chains costs b) (length slots)
      each s l = subst (λ g. cond (nat_le g b) (ends all took (b - g) s) 0 ≤ greatest_below (chain_cost slots chains costs b) (length slots)) (sym (slot_of_stage slots chains s same l)) (choice (nat_le (slice_index slots s) b) refl)
        where
          choice : (x : Bool) → nat_le (slice_index slots s) b ≡ x → cond x (ends all took (b - slice_index slots s) s) 0 ≤ greatest_below (chain_cost slots chains costs b) (length slots)
          choice false e = omega arith
          choice true e =
              let a : ends all took (b - slice_index slots s) s ≤ chain_cost slots chains costs b s = ends_under b s l (leb-true _ _ e) in
              let c : chain_cost slots chains costs b s ≤ greatest_below (chain_cost slots chains costs b) (length slots) = below_greatest (chain_cost slots chains costs b) (length slots) s l in
              omega arith

  last_under : greatest (λ s. (slot_at all s).slot) (length all) ≤ greatest_of slots
  last_under = greatest_under _ (length all) _ (λ s l.
      let r : s < length slots = subst (λ n. s < n) (slots_length slots chains same) l in
      subst (λ g. g ≤ greatest_of slots) (sym (slot_of_stage slots chains s same r)) (under_greatest_of slots s r))

  count_under : (groups : ℕ) → groups ≤ length costs → beats.beat_count groups (greatest (λ s. (slot_at all s).slot) (length all)) ≤ beat_count slots chains costs
  count_under zero l = omega arith
  count_under (suc n) l =
      let a : greatest (λ s. (slot_at all s).slot) (length all) ≤ greatest_of slots = last_under in
      let d : (length costs == 0) ≡ false = ne_eqb (length costs) 0 (λ e. absurd (omega (arith, e, l))) in
      let f : beat_count slots chains costs ≡ length costs + greatest_of slots = ap (λ x. cond x 0 (length costs + greatest_of slots)) d in
      omega arith

  pub whole_under : (groups : ℕ) → groups ≤ length costs → whole all took groups ≤ beats_cost slots chains costs
  whole_under groups l =
      let a : begins all took (beats.beat_count groups (greatest (λ s. (slot_at all s).slot) (length all))) ≤ sum_below (beat_cost slots chains costs) (beat_count slots chains costs) =
      total_below (λ c. suc (beat all took c)) (beat_cost slots chains costs) _ _ (count_under groups l) (λ i q. beat_under i) in
      omega arith
