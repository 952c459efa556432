-- Events that are alike are told by how much a list weighs, where each event like one counts 1 and all others 0.
use Rattle.std.proofs.Common.{◌≡◌, ℕ, zero, suc, ◌+◌, ◌<◌, ◌≤◌, ◌==◌, ◌&&◌, ◌⊎◌, inl, inr, Bool, true, false, if◌then◌else◌, List, [], ◌∷◌, sum_by, refl, sym, ap, subst, ◌∙◌, arith}
use Rattle.std.specs.List.{Contains}
use Rattle.std.proofs.lemmas.Bool.{and_parts, and_from, eqb-true, eq-eqb}
use Rattle.std.proofs.lemmas.List.Sums.{sum_by-append}
use Rattle.sp_core.specs.Events.{Act, reads, writes, puts, takes, resets, turns, Event, Moment, touches, slices, renews, keeps}
use Rattle.sp_machine.specs.Stamps.{Stamped}
use Rattle.sp_node_runs.specs.BodiesTold.{Happens}
use Rattle.sp_node_runs.proofs.BodiesListed.{here, there, none_there, first_or_later}
use Rattle.sp_tree_circuits.specs.Acts.{Alike, AreEventsOf}

-- acts as numbers
abbrev act_kind : Act → ℕ
act_kind (reads w) = 0
act_kind (writes w) = 1
act_kind (puts w) = 2
act_kind (takes w) = 3
act_kind resets = 4
act_kind turns = 5

abbrev act_word : Act → ℕ
act_word (reads w) = w
act_word (writes w) = w
act_word (puts w) = w
act_word (takes w) = w
act_word resets = 0
act_word turns = 0

abbrev act_from : (kind word : ℕ) → Act
act_from zero w = reads w
act_from (suc zero) w = writes w
act_from (suc (suc zero)) w = puts w
act_from (suc (suc (suc zero))) w = takes w
act_from (suc (suc (suc (suc zero)))) w = resets
act_from (suc (suc (suc (suc (suc n))))) w = turns

act_back : (a : Act) → act_from (act_kind a) (act_word a) ≡ a
act_back (reads w) = refl
act_back (writes w) = refl
act_back (puts w) = refl
act_back (takes w) = refl
act_back resets = refl
act_back turns = refl

abbrev same_act : Act → Act → Bool
same_act a b = (act_kind a == act_kind b) && (act_word a == act_word b)

same_act_is : (a b : Act) → same_act a b ≡ true → a ≡ b
same_act_is a b h =
    let p = and_parts (act_kind a == act_kind b) (act_word a == act_word b) h in
    sym (act_back a) ∙ ap (λ k. act_from k (act_word a)) (eqb-true (act_kind a) (act_kind b) p.0) ∙ ap (λ w. act_from (act_kind b) w) (eqb-true (act_word a) (act_word b) p.1) ∙ act_back b

same_act_self : (a b : Act) → a ≡ b → same_act a b ≡ true
same_act_self a b e = and_from (act_kind a == act_kind b) (act_word a == act_word b) (eq-eqb (act_kind a) (act_kind b) (ap act_kind e)) (eq-eqb (act_word a) (act_word b) (ap act_word e))

abbrev same_list : List ℕ → List ℕ → Bool
same_list [] [] = true
same_list [] (y ∷ ys) = false
same_list (x ∷ xs) [] = false
same_list (x ∷ xs) (y ∷ ys) = (x == y) && same_list xs ys

same_list_is : (xs ys : List ℕ) → same_list xs ys ≡ true → xs ≡ ys
same_list_is [] [] h = refl
same_list_is [] (y ∷ ys) h = absurd (cc (h))
same_list_is (x ∷ xs) [] h = absurd (cc (h))
same_list_is (x ∷ xs) (y ∷ ys) h =
    let p = and_parts (x == y) (same_list xs ys) h in
    ap (λ z. z ∷ xs) (eqb-true x y p.0) ∙ ap (λ zs. y ∷ zs) (same_list_is xs ys p.1)

same_list_self : (xs : List ℕ) → same_list xs xs ≡ true
same_list_self [] = refl
same_list_self (x ∷ xs) = and_from (x == x) (same_list xs xs) (eq-eqb x x refl) (same_list_self xs)

sum_first : {A : Type 0} (weigh : A → ℕ) (x : A) (xs : List A) → sum_by weigh (x ∷ xs) ≡ weigh x + sum_by weigh xs
sum_first weigh x xs = sum_by-append weigh (x ∷ []) xs ∙ ap (λ n. n + sum_by weigh xs) {x = 0 + weigh x} {y = weigh x} (omega arith)

module _ (number t : ℕ) (e : Event) where
  abbrev is_like : Event → Bool
  is_like x = (x.number == number) && (same_list x.indices e.indices && same_act x.act e.act)

  abbrev is_like_in : Moment → Bool
  is_like_in (touches x) = is_like x
  is_like_in (slices x) = false
  is_like_in (renews m) = false
  is_like_in (keeps m w) = false

  abbrev is_hit : Stamped → Bool
  is_hit x = (x.cycle == t) && is_like_in x.moment

  abbrev pub weigh : Stamped → ℕ
  weigh x = if is_hit x then 1 else 0

  if_hit : (x : Stamped) → is_hit x ≡ true → weigh x ≡ 1
  if_hit x h = ap (λ b. if b then 1 else 0) h

  one_or_none : (b : Bool) → 1 ≤ (if b then 1 else 0) → b ≡ true
  one_or_none true h = refl
  one_or_none false h = absurd (omega (arith, h))

  hit_weighs : (xs : List Stamped) (x : Stamped) → Contains xs x → is_hit x ≡ true → 1 ≤ sum_by weigh xs
  hit_weighs [] x c h = absurd (none_there x c)
  hit_weighs (y ∷ xs) x c h = by (first_or_later y x xs c) (hit_weighs xs x)
    where
      by : (y ≡ x) ⊎ Contains xs x → (Contains xs x → is_hit x ≡ true → 1 ≤ sum_by weigh xs) → 1 ≤ sum_by weigh (y ∷ xs)
      by (inl same) rest = let a = sum_first weigh y xs in let b = ap weigh same in let d = if_hit x h in omega (arith, a, b, d)
      by (inr later) rest = let a = sum_first weigh y xs in let b = rest later h in omega (arith, a, b)

  a_hit : (xs : List Stamped) → 1 ≤ sum_by weigh xs → (x : Stamped) × Contains xs x × (is_hit x ≡ true)
  a_hit [] h = absurd (omega (arith, h))
  a_hit (y ∷ xs) h = by (is_hit y) refl (a_hit xs)
    where
      by : (b : Bool) → is_hit y ≡ b → (1 ≤ sum_by weigh xs → (x : Stamped) × Contains xs x × (is_hit x ≡ true)) → (x : Stamped) × Contains (y ∷ xs) x × (is_hit x ≡ true)
      by true f rest = (y, here y xs, f)
      by false f rest =
          let a = sum_first weigh y xs in
          let b : weigh y ≡ 0 = ap (λ b. if b then 1 else 0) f in
          let r = rest (omega (arith, a, b, h)) in
          (r.0, there y r.0 xs r.1, r.2)

  -- what is hit is an event like it
  from_hit : (xs : List Stamped) (x : Stamped) → Contains xs x → is_hit x ≡ true → Alike xs number t e
  from_hit xs x c h =
      let p = and_parts (x.cycle == t) (is_like_in x.moment) h in
      by x.moment x.copy (subst (λ (y : ℕ). Contains xs (record { cycle = y; copy = x.copy; moment = x.moment })) (eqb-true x.cycle t p.0) c) p.1
    where
      by : (m : Moment) (copy : ℕ) → Contains xs (record { cycle = t; copy = copy; moment = m }) → is_like_in m ≡ true → Alike xs number t e
      by (touches x) copy c h =
          let p = and_parts (x.number == number) (same_list x.indices e.indices && same_act x.act e.act) h in
          let q = and_parts (same_list x.indices e.indices) (same_act x.act e.act) p.1 in
          (x, record { copy = copy; there = c; numbered = eqb-true x.number number p.0 }, same_list_is x.indices e.indices q.0, same_act_is x.act e.act q.1)
      by (slices x) copy c h = absurd (cc (h))
      by (renews m) copy c h = absurd (cc (h))
      by (keeps m w) copy c h = absurd (cc (h))

  pub some_like : (xs : List Stamped) → 1 ≤ sum_by weigh xs → Alike xs number t e
  some_like xs h = let r = a_hit xs h in from_hit xs r.0 r.1 r.2

  pub like_weighs : (xs : List Stamped) → Alike xs number t e → 1 ≤ sum_by weigh xs
  like_weighs xs (x, h, same, act) =
      hit_weighs xs (record { cycle = t; copy = h.copy; moment = touches x }) h.there
      (and_from (t == t) (is_like x) (eq-eqb t t refl)
      (and_from (x.number == number) (same_list x.indices e.indices && same_act x.act e.act) (eq-eqb x.number number h.numbered)
      (and_from (same_list x.indices e.indices) (same_act x.act e.act) (subst (λ ys. same_list x.indices ys ≡ true) same (same_list_self x.indices)) (same_act_self x.act e.act act))))

  -- a list without events of the number weighs nothing
  pub none_like : (xs : List Stamped) → ((x : Event) → Happens xs number t x → ⊥) → sum_by weigh xs ≡ 0
  none_like xs none = by (sum_by weigh xs) refl
    where
      by : (n : ℕ) → sum_by weigh xs ≡ n → sum_by weigh xs ≡ 0
      by zero f = f
      by (suc n) f = let r = some_like xs (omega (arith, f)) in absurd (none r.0 r.1)

pub itself : (events : List Stamped) (number t : ℕ) (e : Event) → Happens events number t e → Alike events number t e
itself events number t e h = (e, h, refl, refl)

pub likewise : (events : List Stamped) (number t : ℕ) (e x : Event) → x.indices ≡ e.indices → x.act ≡ e.act → Alike events number t x → Alike events number t e
likewise events number t e x i a (y, h, j, b) = (y, h, j ∙ i, b ∙ a)

-- all events of a list are those of its numbers, whichever these are
pub of_itself : (events : List Stamped) (n count : ℕ) → AreEventsOf events events n count
of_itself events n count = record { within = λ m t e h. itself events m t e h; all = λ m t e a b h. itself events m t e h }

-- a part of a list, where all else of the list has other numbers
pub by_weights : (whole part : List Stamped) (n count : ℕ) → ((m t : ℕ) (e : Event) → sum_by (weigh m t e) part ≤ sum_by (weigh m t e) whole)
    → ((m t : ℕ) (e : Event) → n ≤ m → m < n + count → sum_by (weigh m t e) whole ≤ sum_by (weigh m t e) part) → AreEventsOf whole part n count
by_weights whole part n count least most = record {
  within = λ m t e h. let a = least m t e in let b = like_weighs m t e part (itself part m t e h) in some_like m t e whole (omega (arith, a, b));
  all = λ m t e low high h. let a = most m t e low high in let b = like_weighs m t e whole (itself whole m t e h) in some_like m t e part (omega (arith, a, b));
}

pub of_part : (events whole part : List Stamped) (n count m few : ℕ) → AreEventsOf events whole n count → AreEventsOf whole part m few → n ≤ m → m + few ≤ n + count → AreEventsOf events part m few
of_part events whole part n count m few f g low high = record {
  within = λ i t e h. let a = g.within i t e h in likewise events i t e a.0 a.2 a.3 (f.within i t a.0 a.1);
  all = λ i t e l u h. let a = f.all i t e (omega (arith, low, l)) (omega (arith, high, u)) h in likewise part i t e a.0 a.2 a.3 (g.all i t a.0 l u a.1);
}
