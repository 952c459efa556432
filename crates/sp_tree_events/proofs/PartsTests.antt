-- A test that tells events apart by what they do, and sums of it.
use Rattle.std.proofs.Common.{◌≡◌, ℕ, zero, suc, ◌+◌, ◌<◌, ◌≤◌, ◌⊎◌, inl, inr, Bool, true, false, ◌&&◌, if◌then◌else◌, List, [], ◌∷◌, nat_eq, sum_by, refl, sym, ap, subst, ◌∙◌, arith}
use Rattle.std.specs.List.{Contains}
use Rattle.std.proofs.lemmas.Bool.{eqb-true, eq-eqb, and_parts, and_from, true≢false}
use Rattle.std.proofs.lemmas.List.Sums.{sum_by-append}
use Rattle.sp_core.specs.Events.{Act, reads, writes, puts, takes, resets, turns, Event, Moment, touches, slices, renews, keeps}
use Rattle.sp_time.specs.Lists.{Each}
use Rattle.sp_machine.specs.Stamps.{Stamped}
use Rattle.sp_node_runs.specs.BodiesTold.{Happens}
use Rattle.sp_tree_events.specs.ToldLaws.{IsWithin}
use Rattle.sp_tree_events.specs.PartsAgreeing.{IsLike}

-- lists of numbers
same_list : List ℕ → List ℕ → Bool
same_list [] [] = true
same_list [] (y ∷ ys) = false
same_list (x ∷ xs) [] = false
same_list (x ∷ xs) (y ∷ ys) = nat_eq x y && same_list xs ys

list_same : (xs ys : List ℕ) → same_list xs ys ≡ true → xs ≡ ys
unfolding same_list
list_same [] [] h = refl
list_same [] (y ∷ ys) h = absurd (true≢false (sym h))
list_same (x ∷ xs) [] h = absurd (true≢false (sym h))
list_same (x ∷ xs) (y ∷ ys) h =
    let p = and_parts (nat_eq x y) (same_list xs ys) h in
    let a : x ≡ y = eqb-true x y p.0 in
    let b : xs ≡ ys = list_same xs ys p.1 in
    λ i. a i ∷ b i

same_itself : (xs : List ℕ) → same_list xs xs ≡ true
unfolding same_list
same_itself [] = refl
same_itself (x ∷ xs) = and_from (nat_eq x x) (same_list xs xs) (eq-eqb x x refl) (same_itself xs)

-- an act as two numbers
act_kind : Act → ℕ
act_kind (reads w) = 0
act_kind (writes w) = 1
act_kind (puts w) = 2
act_kind (takes w) = 3
act_kind resets = 4
act_kind turns = 5

act_word : Act → ℕ
act_word (reads w) = w
act_word (writes w) = w
act_word (puts w) = w
act_word (takes w) = w
act_word resets = 0
act_word turns = 0

act_back : (kind word : ℕ) → Act
act_back zero w = reads w
act_back (suc zero) w = writes w
act_back (suc (suc zero)) w = puts w
act_back (suc (suc (suc zero))) w = takes w
act_back (suc (suc (suc (suc zero)))) w = resets
act_back (suc (suc (suc (suc (suc k))))) w = turns

back_is : (a : Act) → act_back (act_kind a) (act_word a) ≡ a
unfolding act_kind act_word act_back
back_is (reads w) = refl
back_is (writes w) = refl
back_is (puts w) = refl
back_is (takes w) = refl
back_is resets = refl
back_is turns = refl

-- what an event does at a copy in a cycle
pub key : (t c : ℕ) → Event → List ℕ
key t c e = t ∷ c ∷ e.number ∷ e.mem ∷ act_kind e.act ∷ act_word e.act ∷ e.indices

moment_key : (t c : ℕ) → Moment → List ℕ
moment_key t c (touches e) = key t c e
moment_key t c (slices x) = []
moment_key t c (renews m) = []
moment_key t c (keeps m w) = []

is_same : (t c : ℕ) → Event → Stamped → Bool
is_same t c e x = same_list (key t c e) (moment_key x.cycle x.copy x.moment)

pub weight : (t c : ℕ) → Event → Stamped → ℕ
weight t c e x = if is_same t c e x then 1 else 0

head_same : (x y : ℕ) (xs ys : List ℕ) → x ∷ xs ≡ y ∷ ys → (x ≡ y) × (xs ≡ ys)
head_same x y xs ys h = (cc (h), cc (h))

none_some : (x : ℕ) (xs : List ℕ) → x ∷ xs ≡ [] → ⊥
none_some x xs h = absurd (cc (h))

-- one that passes the test is such an event
passed : (n t c : ℕ) (e : Event) → e.number ≡ n → (xs : List Stamped) (x : Stamped) → Contains xs x → is_same t c e x ≡ true → (f : Event) × (k : Happens xs n t f) × IsLike e f × (k.copy ≡ c)
unfolding is_same key moment_key
passed n t c e at xs x there h = by x.moment refl
  where
    by : (m : Moment) → x.moment ≡ m → (f : Event) × (k : Happens xs n t f) × IsLike e f × (k.copy ≡ c)
    by (slices y) q = absurd (none_some t _ (list_same _ _ h ∙ ap (moment_key x.cycle x.copy) q))
    by (renews y) q = absurd (none_some t _ (list_same _ _ h ∙ ap (moment_key x.cycle x.copy) q))
    by (keeps y w) q = absurd (none_some t _ (list_same _ _ h ∙ ap (moment_key x.cycle x.copy) q))
    by (touches f) q =
        let z : key t c e ≡ key x.cycle x.copy f = list_same _ _ h ∙ ap (moment_key x.cycle x.copy) q in
        let a = head_same t x.cycle _ _ z in
        let b = head_same c x.copy _ _ a.1 in
        let d = head_same e.number f.number _ _ b.1 in
        let g = head_same e.mem f.mem _ _ d.1 in
        let i = head_same (act_kind e.act) (act_kind f.act) _ _ g.1 in
        let j = head_same (act_word e.act) (act_word f.act) _ _ i.1 in
        let act : f.act ≡ e.act = sym (back_is f.act) ∙ ap (λ v. act_back v (act_word f.act)) (sym i.0) ∙ ap (act_back (act_kind e.act)) (sym j.0) ∙ back_is e.act in
        let e1 : x.cycle ≡ t = sym a.0 in
        let e2 : x.copy ≡ c = sym b.0 in
        let is : x ≡ record { cycle = t; copy = c; moment = touches f } = λ l. record { cycle = e1 l; copy = e2 l; moment = q l } in
        (f, record { copy = c; there = subst (Contains xs) is there; numbered = sym d.0 ∙ at }, record { mem = sym g.0; indices = sym j.1; act = act }, refl)

-- and an event passes its own
passes : (t c : ℕ) (e : Event) → is_same t c e (record { cycle = t; copy = c; moment = touches e }) ≡ true
unfolding is_same moment_key
passes t c e = same_itself (key t c e)

-- one of another number doesn't pass
other_number : (t c : ℕ) (e : Event) (x : Stamped) (low high : ℕ) → IsWithin low high x.moment → (e.number < low) ⊎ (high ≤ e.number) → is_same t c e x ≡ false
unfolding is_same key moment_key
other_number t c e x low high within out = by x.moment refl
  where
    never : (b : Bool) → (b ≡ true → ⊥) → b ≡ false
    never true h = absurd (h refl)
    never false h = refl

    by : (m : Moment) → x.moment ≡ m → is_same t c e x ≡ false
    by (slices y) q = never _ (λ h. none_some t _ (list_same _ _ h ∙ ap (moment_key x.cycle x.copy) q))
    by (renews y) q = never _ (λ h. none_some t _ (list_same _ _ h ∙ ap (moment_key x.cycle x.copy) q))
    by (keeps y w) q = never _ (λ h. none_some t _ (list_same _ _ h ∙ ap (moment_key x.cycle x.copy) q))
    by (touches f) q = never _ (λ h.
        let z : key t c e ≡ key x.cycle x.copy f = list_same _ _ h ∙ ap (moment_key x.cycle x.copy) q in
        let a = head_same t x.cycle _ _ z in
        let b = head_same c x.copy _ _ a.1 in
        let d = head_same e.number f.number _ _ b.1 in
        let w : IsWithin low high (touches f) = subst (IsWithin low high) q within in
        absurd (apart e.number f.number low high d.0 w.0 w.1 out))
      where
        apart : (m n low high : ℕ) → m ≡ n → low ≤ n → n < high → (m < low) ⊎ (high ≤ m) → ⊥
        apart m n low high s a b (inl l) = absurd (omega (arith, s, a, l))
        apart m n low high s a b (inr l) = absurd (omega (arith, s, b, l))

-- sums
sum_first : (w : Stamped → ℕ) (x : Stamped) (xs : List Stamped) → sum_by w (x ∷ xs) ≡ w x + sum_by w xs
sum_first w x xs = let e = sum_by-append w (x ∷ []) xs in e ∙ (let z : sum_by w (x ∷ []) + sum_by w xs ≡ w x + sum_by w xs = ap (λ n. n + sum_by w xs) {x = 0 + w x} {y = w x} (omega arith) in z)

module _ (t c : ℕ) (e : Event) where
  weight_on : (x : Stamped) → is_same t c e x ≡ true → weight t c e x ≡ 1
  unfolding weight
  weight_on x h = ap (λ b. if b then 1 else 0) h

  weight_off : (x : Stamped) → is_same t c e x ≡ false → weight t c e x ≡ 0
  unfolding weight
  weight_off x h = ap (λ b. if b then 1 else 0) h

  pub some_weigh : (xs : List Stamped) → Contains xs (record { cycle = t; copy = c; moment = touches e }) → 1 ≤ sum_by (weight t c e) xs
  some_weigh [] (k, l, q) = absurd (omega (arith, l))
  some_weigh (x ∷ xs) (zero, l, q) =
      let w = weight_on x (subst (λ y. is_same t c e y ≡ true) (sym q) (passes t c e)) in
      let s = sum_first (weight t c e) x xs in
      omega (arith, w, s)
  some_weigh (x ∷ xs) (suc k, l, q) =
      let h = some_weigh xs (k, omega (arith, l), q) in
      let s = sum_first (weight t c e) x xs in
      omega (arith, h, s)

  pub weigh_some : (n : ℕ) → e.number ≡ n → (xs : List Stamped) → 1 ≤ sum_by (weight t c e) xs → (f : Event) × (k : Happens xs n t f) × IsLike e f × (k.copy ≡ c)
  weigh_some n at [] h = absurd (omega (arith, h))
  weigh_some n at (x ∷ xs) h = by (is_same t c e x) refl (weigh_some n at xs)
    where
      by : (b : Bool) → is_same t c e x ≡ b → (1 ≤ sum_by (weight t c e) xs → (f : Event) × (k : Happens xs n t f) × IsLike e f × (k.copy ≡ c)) → (f : Event) × (k : Happens (x ∷ xs) n t f) × IsLike e f × (k.copy ≡ c)
      by true q rest = passed n t c e at (x ∷ xs) x (zero, omega arith, refl) q
      by false q rest =
          let w = weight_off x q in
          let s = sum_first (weight t c e) x xs in
          let r = rest (omega (arith, h, w, s)) in
          (r.0, record { copy = r.1.copy; there = later r.1.there; numbered = r.1.numbered }, r.2, r.3)
        where
          later : {y : Stamped} → Contains xs y → Contains (x ∷ xs) y
          later (k, l, p) = (suc k, omega (arith, l), p)

  -- events of other numbers weigh nothing
  pub none_weigh : (low high : ℕ) → (e.number < low) ⊎ (high ≤ e.number) → (xs : List Stamped) → Each (λ x. IsWithin low high x.moment) xs → sum_by (weight t c e) xs ≡ 0
  none_weigh low high out [] h = refl
  none_weigh low high out (x ∷ xs) h =
      let w = weight_off x (other_number t c e x low high h.0 out) in
      let s = sum_first (weight t c e) x xs in
      let r = none_weigh low high out xs h.1 in
      omega (arith, w, s, r)
