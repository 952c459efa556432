-- Counters, one more before some.
use Rattle.std.proofs.Common.{◌≡◌, ℕ, ◌-◌, ◌<◌, ◌≤◌, Bool, true, false, ◌&&◌, ◌==◌, pos, ◌+ℤ◌, if◌then◌else◌, List, [], ◌∷◌, length, take, drop, slice_index, All, refl, sym, ap, ap₂, subst, ◌∙◌, arith}
use Rattle.std.specs.Prelude.{slice_index_or}
use Rattle.std.proofs.lemmas.List.{take_all}
use Rattle.std.proofs.lemmas.List.Elements.{All-nil, All-cons, All-head, All-tail, All-weaker}
use Rattle.sp_netlist.specs.Draft.{Draft}
use Rattle.sp_netlist.specs.Signals.{Signals}
use Rattle.sp_gates.specs.Bits.{IsOne}
use Rattle.sp_gates.specs.Grows.{Grows}
use Rattle.sp_gates.specs.Nets.{HasNet}
use Rattle.sp_gates.specs.Runs.{RunsOn}
use Rattle.sp_gates.specs.Tested.{is_on}
use Rattle.sp_gates.proofs.Growing.{HasNet-stays}
use Rattle.sp_gates.proofs.Running.{runs_earlier}
use Rattle.sp_counters.specs.declared.part.Count.{Count}
use Rattle.sp_counters.specs.declared.part.Counter.{Counter}
use Rattle.sp_counters.specs.declared.counter.One.{One}
use Rattle.sp_counters.specs.Counting.{number, low_number, advance_of, is_last, are_last, lanes_of, is_below, Counts, none, counted}
use Rattle.sp_counters.specs.Fits.{CountFits, IsCounter}
use Rattle.sp_counters.specs.Pieces.{AreMasks, CountsOne, CountsAll, HasInt}

pub first_and_rest : (xs : List Count) (x : Count) → 1 ≤ length xs → x ≡ slice_index_or xs 0 x → xs ≡ x ∷ take (length xs - 1) (drop 1 xs)
first_and_rest [] x l e = absurd (omega (arith, l))
first_and_rest (y ∷ ys) x l e = ap₂ (λ z zs. z ∷ zs) (sym e) (sym (take_all (length (y ∷ ys) - 1) ys (omega arith)))

count_fits_stays : (a b : Draft) → Grows a b → (c : Count) → CountFits a c → CountFits b c
count_fits_stays a b g c h = record { from = HasNet-stays a b c.from 32 g h.from; until = HasNet-stays a b c.until 32 g h.until; goes_on = h.goes_on; small = h.small }

pub first_fits : (d e : Draft) (xs rest : List Count) (x : Count) → xs ≡ x ∷ rest → Grows d e → All (CountFits d) xs → CountFits e x
first_fits d e xs rest x is g h = count_fits_stays d e g x (All-head (CountFits d) x rest (subst (All (CountFits d)) is h))

pub rest_fits : (d : Draft) (xs rest : List Count) (x : Count) → xs ≡ x ∷ rest → All (CountFits d) xs → All (CountFits d) rest
rest_fits d xs rest x is h = All-tail (CountFits d) x rest (subst (All (CountFits d)) is h)

pub counts_fit_stay : (a b : Draft) (xs : List Count) → Grows a b → All (CountFits a) xs → All (CountFits b) xs
counts_fit_stay a b xs g h = All-weaker (CountFits a) (CountFits b) (count_fits_stays a b g) xs h

pub value_is_int : (d : Draft) (start goes : ℕ) (c : Count) (one : One) → CountsOne d start goes c one → HasInt d one.counter.value
value_is_int d start goes c one h = record { net_stands = h.value_net; fits = λ s r. (h.counts s r).fits }

pub until_is_int : (d : Draft) (start goes : ℕ) (c : Count) (one : One) → CountsOne d start goes c one → HasInt d one.counter.until
until_is_int d start goes c one h = record { net_stands = h.until_net; fits = h.until_fits }

pub one_stays : (a b : Draft) (start goes : ℕ) (c : Count) (one : One) → Grows a b → CountsOne a start goes c one → CountsOne b start goes c one
one_stays a b start goes c one g h = record {
  value_net = HasNet-stays a b one.counter.value 32 g h.value_net;
  some_net = HasNet-stays a b one.some 1 g h.some_net;
  last_net = HasNet-stays a b one.last 1 g h.last_net;
  until_net = HasNet-stays a b one.counter.until 32 g h.until_net;
  counts = λ s r. h.counts s (runs_earlier a b s g r);
  until_fits = λ s r. h.until_fits s (runs_earlier a b s g r);
  some = λ s r. h.some s (runs_earlier a b s g r);
  last = λ s r. h.last s (runs_earlier a b s g r);
}

pub all_stay : (a b : Draft) (start step : ℕ) (counts : List Count) (counters : List Counter) (masks : List ℕ) (all past : ℕ) → Grows a b → CountsAll a start step counts counters masks all past → CountsAll b start step counts counters masks all past
all_stay a b start step counts counters masks all past g h = record {
  values = All-weaker (IsCounter a) (IsCounter b) (λ n. HasNet-stays a b n.value 32 g) counters h.values;
  lanes = h.lanes;
  mask_nets = λ lane l. HasNet-stays a b (slice_index masks lane) 1 g (h.mask_nets lane l);
  all_net = HasNet-stays a b all 1 g h.all_net;
  past_net = HasNet-stays a b past 1 g h.past_net;
  each = λ s r. h.each s (runs_earlier a b s g r);
  all_on = λ s r. h.all_on s (runs_earlier a b s g r);
  past_on = λ s r. h.past_on s (runs_earlier a b s g r);
  below = λ s r. h.below s (runs_earlier a b s g r);
}

pub no_counters : (d : Draft) (start step : ℕ) (counts : List Count) (counters : List Counter) (masks : List ℕ) (one : ℕ) → counts ≡ [] → counters ≡ [] → masks ≡ [] → IsOne d one → HasNet d step 1 → CountsAll d start step counts counters masks one step
no_counters d start step counts counters masks one a b e o h =
    subst (λ xs. CountsAll d start step xs counters masks one step) (sym a) (subst (λ xs. CountsAll d start step [] xs masks one step) (sym b) (record {
      values = All-nil (IsCounter d);
      lanes = ap length e;
      mask_nets = λ lane l. absurd (omega (arith, l));
      all_net = o.net_stands;
      past_net = h;
      each = λ s r. none;
      all_on = λ s r t. ap (λ n. n == 1) (o.always s r t);
      past_on = λ s r t. sym (and_true (is_on s step t));
      below = λ s r lane t l. absurd (omega (arith, l));
    }))
  where
    and_true : (b : Bool) → (b && true) ≡ b
    and_true true = refl
    and_true false = refl

counts_by : (s : Signals) (start goes others : ℕ → Bool) (c : Count) (n : Counter) → ((t : ℕ) → goes t ≡ others t) → Counts s start goes c n → Counts s start others c n
counts_by s start goes others c n e h = record {
  fits = h.fits;
  from = h.from;
  until = h.until;
  value = λ t. h.value t ∙ ap (λ g. if start t then low_number s c.from t else (if g then (if is_last s c n t then number s n.from t else number s n.value t +ℤ pos (advance_of c)) else number s n.value t)) (e t);
}

three : (a b c : Bool) → ((a && b) && c) ≡ (a && (c && b))
three true true c = sym (and_true c)
  where
    and_true : (b : Bool) → (b && true) ≡ b
    and_true true = refl
    and_true false = refl
three true false true = refl
three true false false = refl
three false b c = refl

-- one more before the others: it goes on where they go past their last values
module _ (d : Draft) (start step : ℕ) (c : Count) (counts : List Count) (counters : List Counter) (masks old : List ℕ) (later_all later_past all past : ℕ) (one : One)
    (later : CountsAll d start step counts counters old later_all later_past) (own : CountsOne d start later_past c one) (all_stands : HasNet d all 1) (past_stands : HasNet d past 1)
    (all_is : (s : Signals) → RunsOn s d.cells → (t : ℕ) → is_on s all t ≡ (is_on s one.some t && is_on s later_all t))
    (past_is : (s : Signals) → RunsOn s d.cells → (t : ℕ) → is_on s past t ≡ (is_on s later_past t && is_on s one.last t))
    (last_one : counts ≡ [] → AreMasks d c one.counter masks c.par) (not_last : (counts ≡ [] → ⊥) → masks ≡ old) where
  -- what is so of the masks, by whether the counter is the last one
  by_place : (P : List Count → Type 0) → (counts ≡ [] → P []) → ((x : Count) (xs : List Count) → counts ≡ x ∷ xs → P (x ∷ xs)) → P counts
  by_place P at_last before = go counts at_last before
    where
      go : (xs : List Count) → (xs ≡ [] → P []) → ((y : Count) (ys : List Count) → xs ≡ y ∷ ys → P (y ∷ ys)) → P xs
      go [] f g = f refl
      go (y ∷ ys) f g = g y ys refl

  has_more : (x : Count) (xs : List Count) → counts ≡ x ∷ xs → masks ≡ old
  has_more x xs e = not_last (λ f. absurd (let g = sym e ∙ f in cc (g)))

  LanesRight : List Count → Type 0
  LanesRight rest =
      (length masks ≡ lanes_of (c ∷ rest)) × ((lane : ℕ) → lane < lanes_of (c ∷ rest) → HasNet d (slice_index masks lane) 1)
      × ((s : Signals) → RunsOn s d.cells → (lane t : ℕ) → lane < lanes_of (c ∷ rest) → is_on s (slice_index masks lane) t ≡ is_below s (c ∷ rest) (one.counter ∷ counters) lane t)

  lanes_right : LanesRight counts
  unfolding LanesRight
  lanes_right =
      by_place LanesRight (λ e. let m = last_one e in (m.many, m.net, m.on))
      (λ x xs e.
      let m = has_more x xs e in
      let h : CountsAll d start step (x ∷ xs) counters masks later_all later_past =
      subst (λ ys. CountsAll d start step ys counters masks later_all later_past) e (subst (λ ms. CountsAll d start step counts counters ms later_all later_past) (sym m) later) in
      (h.lanes, h.mask_nets, h.below))

  pub all_counted : CountsAll d start step (c ∷ counts) (one.counter ∷ counters) masks all past
  unfolding LanesRight
  all_counted = record {
    values = All-cons (IsCounter d) one.counter counters own.value_net later.values;
    lanes = lanes_right.0;
    mask_nets = lanes_right.1;
    all_net = all_stands;
    past_net = past_stands;
    each = λ s r. counted (counts_by s (is_on s start) (is_on s later_past) (λ t. is_on s step t && are_last s counts counters t) c one.counter (later.past_on s r) (own.counts s r)) (later.each s r);
    all_on = λ s r t. all_is s r t ∙ ap₂ (λ a b. a && b) (own.some s r t) (later.all_on s r t);
    past_on = λ s r t. past_is s r t ∙ ap₂ (λ a b. a && b) (later.past_on s r t) (own.last s r t) ∙ three (is_on s step t) (are_last s counts counters t) (is_last s c one.counter t);
    below = lanes_right.2;
  }
