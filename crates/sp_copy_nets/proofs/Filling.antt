-- Nets of numbers that are driven, slot by slot.
use Rattle.std.proofs.Common.{◌≡◌, ℕ, zero, suc, ◌<◌, ◌≤◌, ◌==◌, ◌||◌, if◌then◌else◌, Bool, true, false, List, [], ◌∷◌, ◌++◌, map, take, length, slice_index, Option, Some, refl, sym, subst, arith}
use Rattle.std.proofs.lemmas.Bool.{eqb-true}
use Rattle.std.proofs.lemmas.List.{take_all}
use Rattle.sp_netlist.specs.Draft.{Draft}
use Rattle.sp_netlist.specs.Signals.{Signals}
use Rattle.sp_gates.specs.Grows.{Grows}
use Rattle.sp_gates.specs.Runs.{RunsOn}
use Rattle.sp_gates.proofs.Growing.{HasNet-stays}
use Rattle.sp_gates.proofs.Running.{runs_earlier}
use Rattle.sp_core.specs.Declarations.{is_among}
use Rattle.sp_plan.specs.PlainPlan.{PlainPlan, mem_plan}
use Rattle.sp_tree_events.specs.CopiesStanding.{IsNumber, HaveNumbers}
use Rattle.sp_copy_nets.specs.declared.part.SlotNumbers.{SlotNumbers}
use Rattle.sp_copy_nets.specs.Numbers.{AreDepths, IsComing, HaveComing, StandNumbers, IsNumbered, AllNumbered, no_number, one_number, AllSlotsNumbered, no_slot, one_slot}
use Rattle.sp_copy_nets.specs.Table.{own_numbers, slot_numbers}

-- what is known stays known
numbered_later : (a b : Draft) (start first n : ℕ) (net coming : Option ℕ) → Grows a b → IsNumbered a start first n net coming → IsNumbered b start first n net coming
numbered_later a b start first n net coming g h = record {
  stands = λ m e. HasNet-stays a b m 32 g (h.stands m e);
  number = λ s r. h.number s (runs_earlier a b s g r);
  comes = λ s r. h.comes s (runs_earlier a b s g r);
}

pub all_later : (a b : Draft) (start first : ℕ) (copies : List ℕ) (nets coming : List (Option ℕ)) → Grows a b → AllNumbered a start first copies nets coming → AllNumbered b start first copies nets coming
all_later a b start first _ _ _ g no_number = no_number
all_later a b start first _ _ _ g (one_number h rest) = one_number (numbered_later a b start first _ _ _ g h) (all_later a b start first _ _ _ g rest)

pub slots_later : (a b : Draft) (start : ℕ) (copies firsts : List ℕ) (slots coming : List SlotNumbers) → Grows a b → AllSlotsNumbered a start copies firsts slots coming → AllSlotsNumbered b start copies firsts slots coming
slots_later a b start copies _ _ _ g no_slot = no_slot
slots_later a b start copies _ _ _ g (one_slot h rest) = one_slot (all_later a b start _ _ _ _ g h) (slots_later a b start copies _ _ _ g rest)

-- one more
pub numbers_end : (d : Draft) (start first : ℕ) (copies : List ℕ) (nets coming : List (Option ℕ)) (n : ℕ) (net comes : Option ℕ) → AllNumbered d start first copies nets coming → IsNumbered d start first n net comes
    → AllNumbered d start first (copies ++ n ∷ []) (nets ++ net ∷ []) (coming ++ comes ∷ [])
numbers_end d start first _ _ _ n net comes no_number h = one_number h no_number
numbers_end d start first _ _ _ n net comes (one_number g rest) h = one_number g (numbers_end d start first _ _ _ n net comes rest h)

pub slots_end : (d : Draft) (start : ℕ) (copies firsts : List ℕ) (slots coming : List SlotNumbers) (first : ℕ) (slot comes : SlotNumbers) → AllSlotsNumbered d start copies firsts slots coming
    → AllNumbered d start first copies slot.nets.items comes.nets.items → AllSlotsNumbered d start copies (firsts ++ first ∷ []) (slots ++ slot ∷ []) (coming ++ comes ∷ [])
slots_end d start copies _ _ _ first slot comes no_slot h = one_slot h no_slot
slots_end d start copies _ _ _ first slot comes (one_slot g rest) h = one_slot g (slots_end d start copies _ _ _ first slot comes rest h)

-- by the plan
cons_parts : (a b : ℕ) (xs ys : List ℕ) → a ∷ xs ≡ b ∷ ys → (a ≡ b) × (xs ≡ ys)
cons_parts a b xs ys e = (cc, cc)

chosen : (P : Option ℕ → ℕ → Type 0) (plan : PlainPlan) (b rest : Bool) (m o : ℕ) (net other : Option ℕ) → (m == o) ≡ b → P net (mem_plan plan o).depth → (rest ≡ true → P other (mem_plan plan m).depth) → (b || rest) ≡ true → P (if b then net else other) (mem_plan plan m).depth
chosen P plan true rest m o net other e h g t = subst (λ x. P net (mem_plan plan x).depth) (sym (eqb-true m o e)) h
chosen P plan false rest m o net other e h g t = g t

module _ (plan : PlainPlan) (d : Draft) (start first : ℕ) (s : Signals) (run : RunsOn s d.cells) where
  pub all_have : (owned copies : List ℕ) (nets coming : List (Option ℕ)) → AreDepths plan owned copies → AllNumbered d start first copies nets coming → HaveNumbers plan s start first owned (own_numbers owned nets)
  all_have [] _ _ _ e h m t = absurd (cc)
  all_have (o ∷ owned) _ _ _ e no_number m t = absurd (cc)
  all_have (o ∷ owned) _ _ _ e (one_number {n = n} {net = net} {copies = copies} {nets = nets} {coming = coming} h rest) m t =
      let p = cons_parts (mem_plan plan o).depth n (map (λ m. (mem_plan plan m).depth) owned) copies e in
      chosen (λ x c. IsNumber s start first c x) plan (m == o) (is_among m owned) m o net (own_numbers owned nets m) refl (subst (λ c. IsNumber s start first c net) (sym p.0) (h.number s run)) (λ u. all_have owned copies nets coming p.1 rest m u) t

  pub all_come : (owned copies : List ℕ) (nets coming : List (Option ℕ)) → AreDepths plan owned copies → AllNumbered d start first copies nets coming → HaveComing plan s start first owned (own_numbers owned coming)
  all_come [] _ _ _ e h m t = absurd (cc)
  all_come (o ∷ owned) _ _ _ e no_number m t = absurd (cc)
  all_come (o ∷ owned) _ _ _ e (one_number {n = n} {net = net} {comes = comes} {copies = copies} {nets = nets} {coming = coming} h rest) m t =
      let p = cons_parts (mem_plan plan o).depth n (map (λ m. (mem_plan plan m).depth) owned) copies e in
      chosen (λ x c. IsComing s start first c x) plan (m == o) (is_among m owned) m o comes (own_numbers owned coming m) refl (subst (λ c. IsComing s start first c comes) (sym p.0) (h.comes s run)) (λ u. all_come owned copies nets coming p.1 rest m u) t

pub all_stand : (d : Draft) (start first : ℕ) (copies : List ℕ) (nets coming : List (Option ℕ)) → AllNumbered d start first copies nets coming → StandNumbers d coming
all_stand d start first _ _ _ no_number n k = absurd (let l = k.1 in omega (arith, l))
all_stand d start first _ _ _ (one_number h rest) n (zero, l, e) = h.stands n e
all_stand d start first _ _ _ (one_number {copies = copies} {nets = nets} {coming = coming} h rest) n (suc k, l, e) = all_stand d start first copies nets coming rest n (k, omega (arith, l), e)

-- at a slot
pub record SlotNumbered (d : Draft) (start : ℕ) (copies firsts : List ℕ) (slots coming : List SlotNumbers) (x : ℕ) : Type 0 where
  pub all : AllNumbered d start (slice_index firsts x) copies (slot_numbers slots x) (slot_numbers coming x)

pub at_slot : (d : Draft) (start : ℕ) (copies firsts : List ℕ) (slots coming : List SlotNumbers) (x : ℕ) → x < length firsts → AllSlotsNumbered d start copies firsts slots coming → SlotNumbered d start copies firsts slots coming x
at_slot d start copies _ _ _ x lt no_slot = absurd (omega (arith, lt))
at_slot d start copies _ _ _ zero lt (one_slot h rest) = record { all = h }
at_slot d start copies _ _ _ (suc x) lt (one_slot {firsts = firsts} {slots = slots} {coming = coming} h rest) = (let r = at_slot d start copies firsts slots coming x (omega (arith, lt)) rest in record { all = r.all })

pub some_is : (x y : ℕ) → Some x ≡ Some y → x ≡ y
some_is x y e = cc

-- where all slots were gone through
pub at_end : (d : Draft) (start : ℕ) (copies firsts : List ℕ) (slots coming : List SlotNumbers) (n x : ℕ) → length firsts ≡ length slots → length slots ≤ n → x < length firsts → AllSlotsNumbered d start copies (take n firsts) (take n slots) coming
    → SlotNumbered d start copies firsts slots coming x
at_end d start copies firsts slots coming n x e le lt h =
    at_slot d start copies firsts slots coming x lt (subst (λ ss. AllSlotsNumbered d start copies firsts ss coming) (take_all n slots le) (subst (λ fs. AllSlotsNumbered d start copies fs (take n slots) coming) (take_all n firsts (omega (arith, e, le))) h))
