-- The rules of stages suffice.
use Rattle.std.proofs.Common.{◌≡◌, ℕ, zero, suc, ◌+◌, ◌*◌, ◌/◌, ◌%◌, ◌<◌, ◌≤◌, ◌⊎◌, IsTrue, List, length, inl, inr, arith, refl, sym, subst, ap, ◌∙◌, mul-suc, mul-le-mul_left}
use Rattle.std.proofs.Math.Nat.{div-add-mod, mul-add-mod_self_right, mod-mod}
use Rattle.std.proofs.lemmas.Bool.{cases_lt}
use Rattle.sp_time.specs.Beats.{Slot, slot_at, Run, run_at}
use Rattle.sp_time.specs.Events.{Event}
use Rattle.sp_time.specs.Lists.{Each}
use Rattle.sp_time.specs.Places.{Place, Act, changes}
use Rattle.sp_time.specs.Copies.{Owned, copies_of, copy_in, in_group}
use Rattle.sp_time.specs.Orders.{Meet, MeetIn, Precedes, IsOuterSound, Share, AreStagesSound}
use Rattle.sp_time.proofs.ListLemmas.{each_all, each_map, each_map2}
use Rattle.sp_time.proofs.CopyLemmas.{copy_in-mem}

-- two numbers of one remainder are far apart
further : (m p q r k l : ℕ) → m * p + r ≡ k → m * q + r ≡ l → k < l → k + m ≤ l
further m p q r k l a b h = elim (cases_lt p q) [
  | inl lt ↦ let c : m * suc p ≤ m * q = mul-le-mul_left m lt in let d : m * suc p ≡ m * p + m = mul-suc m p in omega arith
  | inr ge ↦ let c : m * q ≤ m * p = mul-le-mul_left m ge in absurd (omega arith)
]

mod_apart : (k l n : ℕ) → k < l → k % suc n ≡ l % suc n → k + suc n ≤ l
mod_apart k l n h e = further (suc n) (k / suc n) (l / suc n) (l % suc n) k l (ap (λ x. suc n * (k / suc n) + x) (sym e) ∙ div-add-mod k (suc n)) (div-add-mod l (suc n)) h

copy_in-copy : (n a b k l : ℕ) → a * suc n + k % suc n ≡ b * suc n + l % suc n → k % suc n ≡ l % suc n
copy_in-copy n a b k l e = sym (mod-mod k (suc n)) ∙ sym (mul-add-mod_self_right a (suc n) (k % suc n)) ∙ ap (λ x. x % suc n) e ∙ mul-add-mod_self_right b (suc n) (l % suc n) ∙ mod-mod l (suc n)

module _ (Names Changes : (stage mem : ℕ) → Type 0) (owned : List Owned) (slots : List Slot) (runs : List (List (Run (Event Place Act)))) (sound : AreStagesSound Names Changes owned slots runs) where
  abbrev Named : ℕ → Event Place Act → Type 0
  Named s e = Names s e.place.mem × (IsTrue (changes e.act) → Changes s e.place.mem)

  shared : (s r : ℕ) (e f : Event Place Act) → Named s e → Named r f → e.place.mem ≡ f.place.mem → IsTrue (changes e.act) ⊎ IsTrue (changes f.act) → Share Names Changes s r e.place.mem
  shared s r e f a b m (inl c) = (a.0, subst (Names r) (sym m) b.0, inl (a.1 c))
  shared s r e f a b m (inr c) = (a.0, subst (Names r) (sym m) b.0, inr (subst (Changes r) (sym m) (b.1 c)))

  -- the places of two events that meet, by the copies of their memory
  far : (k s l r n : ℕ) (e f : Event Place Act) → k < l → s < length slots → r < length slots → Share Names Changes s r e.place.mem → copies_of owned e.place.mem ≡ n → copy_in n k e.place ≡ copy_in n l f.place
      → (copies_of owned e.place.mem ≡ 0 → e.place ≡ f.place → k + (slot_at slots s).slot < l + (slot_at slots r).slot) → k + (slot_at slots s).slot < l + (slot_at slots r).slot
  far k s l r zero e f h hs hr share c same other = other c same
  far k s l r (suc n) e f h hs hr share c same other =
      let a : k + suc n ≤ l = mod_apart k l n h (copy_in-copy n e.place.copy f.place.copy k l (ap (λ p. p.copy) same)) in
      let b : (slot_at slots s).slot ≤ n + (slot_at slots r).slot = sound.copies s r e.place.mem n hs hr share c in
      omega arith

  mem_same : (k l : ℕ) (e f : Event Place Act) → (in_group owned k e).place ≡ (in_group owned l f).place → e.place.mem ≡ f.place.mem
  mem_same k l e f at = sym (copy_in-mem (copies_of owned e.place.mem) k e.place) ∙ ap (λ p. p.mem) at ∙ copy_in-mem (copies_of owned f.place.mem) l f.place

  copy_same : (k l : ℕ) (e f : Event Place Act) → (in_group owned k e).place ≡ (in_group owned l f).place → copy_in (copies_of owned e.place.mem) k e.place ≡ copy_in (copies_of owned e.place.mem) l f.place
  copy_same k l e f at = at ∙ ap (λ m. copy_in (copies_of owned m) l f.place) (sym (mem_same k l e f at))

  same_group : (k s r : ℕ) → s < r → k < length runs → r < length slots → Each (λ e. Each (λ f. Meet (in_group owned k e) (in_group owned k f) → Precedes slots k s k r) (run_at runs k r).events) (run_at runs k s).events
  same_group k s r h hk hr = each_map _ _ (λ e row. each_map _ _ (λ f here meet. here (mem_same k k e f meet.0) meet.1) (run_at runs k r).events row) (run_at runs k s).events (sound.chained k s r h hk hr)

  pub stages_sound : IsOuterSound (MeetIn owned) slots runs
  stages_sound k s l r (inr same) hl hs hr = subst (λ x. Each (λ e. Each (λ f. Meet (in_group owned k e) (in_group owned x f) → Precedes slots k s x r) (run_at runs x r).events) (run_at runs k s).events) same.0
      (same_group k s r same.1 (subst (λ x. x < length runs) (sym same.0) hl) hr)
  stages_sound k s l r (inl lt) hl hs hr = elim (cases_lt (slot_at slots r).slot (slot_at slots s).slot) [
    | inl down ↦ each_map2 (Named s) _ _ (λ e a near. each_map2 (Named r) _ _ (λ f b here meet. inl
        (far k s l r (copies_of owned e.place.mem) e f lt hs hr (shared s r e f a b (mem_same k l e f meet.0) meet.1) refl (copy_same k l e f meet.0) (λ none at. here none (at, meet.1))))
        (run_at runs l r).events (sound.names l r) near) (run_at runs k s).events (sound.names k s) (sound.apart k s l r lt hl hs hr down)
    | inr up ↦ later_stage (omega arith)
  ]
    where
      later_stage : k + (slot_at slots s).slot < l + (slot_at slots r).slot → Each (λ e. Each (λ f. Meet (in_group owned k e) (in_group owned l f) → Precedes slots k s l r) (run_at runs l r).events) (run_at runs k s).events
      later_stage h = each_all _ (λ e. each_all _ (λ f meet. inl h) (run_at runs l r).events) (run_at runs k s).events
