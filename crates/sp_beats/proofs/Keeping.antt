-- Whether a slot has a group, and slots one more before some.
use Rattle.std.proofs.Common.{◌≡◌, ℕ, zero, suc, Bool, false, ◌&&◌, ◌||◌, not, List, [], ◌∷◌, sym, ap, ap₂, subst, ◌∙◌}
use mathlib.Core.Path.{fun_ext}
use Rattle.sp_netlist.specs.Draft.{Draft}
use Rattle.sp_netlist.specs.Signals.{Signals}
use Rattle.sp_gates.specs.Nets.{HasNet, Awaits}
use Rattle.sp_gates.specs.Tested.{is_on}
use Rattle.std.proofs.Common.{inl}
use Rattle.sp_sequence.specs.declared.part.Slot.{Slot}
use Rattle.sp_sequence.specs.Joins.{chains_over, is_end}
use Rattle.sp_sequence.specs.Members.{IsAfter}
use Rattle.sp_beats.specs.Beats.{has_group, some_comes, slots_over, StartsSlots, no_slot, one_slot, RunsSlot}

-- a flag that is driven so
pub keeps : (has next start step comes : ℕ → Bool) → has 0 ≡ false → ((t : ℕ) → has (suc t) ≡ next t) → ((t : ℕ) → next t ≡ (((step t && comes t) || (not (step t) && has t)) && not (start t))) → (t : ℕ) → has t ≡ has_group start step comes t
unfolding has_group
keeps has next start step comes off on e zero = off
keeps has next start step comes off on e (suc t) = on t ∙ e t ∙ ap (λ b. ((step t && comes t) || (not (step t) && b)) && not (start t)) (keeps has next start step comes off on e t)

-- a net that is to be driven is there
pub awaited : (d : Draft) (net width : ℕ) → Awaits d net width → HasNet d net width
awaited d net width h = record { wide = h.wide; ready = inl h.kept }

module _ (s : Signals) (start step comes : ℕ → Bool) (slot : Slot) (slots : List Slot) (first has over : ℕ) (own : RunsSlot s start step comes slot first has over) where
  pub more_comes : (others some : ℕ) → ((t : ℕ) → is_on s others t ≡ some_comes start step (is_on s has) slots t) → ((t : ℕ) → is_on s some t ≡ (comes t || is_on s others t)) → (t : ℕ) → is_on s some t ≡ some_comes start step comes (slot ∷ slots) t
  more_comes others some e f t = f t ∙ ap (λ b. comes t || b) (e t ∙ ap (λ w. some_comes start step w slots t) (fun_ext own.keeps))

  pub more_over : (others all : ℕ) → ((t : ℕ) → is_on s others t ≡ slots_over start step s (is_on s has) slots t) → ((t : ℕ) → is_on s all t ≡ (is_on s over t && is_on s others t)) → (t : ℕ) → is_on s all t ≡ slots_over start step s comes (slot ∷ slots) t
  more_over others all e f t =
      f t ∙ ap₂ (λ a b. a && b) (own.ends t ∙ ap (λ w. chains_over s w slot.chains.items t || not (has_group start step comes t)) (fun_ext own.gets)) (e t ∙ ap (λ w. slots_over start step s w slots t) (fun_ext own.keeps))

  pub more_starts : (firsts : List ℕ) → StartsSlots start step s (is_on s has) slots firsts → StartsSlots start step s comes (slot ∷ slots) (first ∷ firsts)
  more_starts firsts h = one_slot own.gets own.starts (subst (λ w. StartsSlots start step s w slots firsts) (fun_ext own.keeps) h)

pub no_starts : (s : Signals) (start step comes : ℕ → Bool) (slots : List Slot) (firsts : List ℕ) → slots ≡ [] → firsts ≡ [] → StartsSlots start step s comes slots firsts
no_starts s start step comes slots firsts e f = subst (λ xs. StartsSlots start step s comes xs firsts) (sym e) (subst (λ ns. StartsSlots start step s comes [] ns) (sym f) no_slot)

-- the step that is driven
pub steps_on : (start step some all comes over first end next : ℕ → Bool) → ((t : ℕ) → comes t ≡ some t) → ((t : ℕ) → over t ≡ all t) → ((t : ℕ) → first t ≡ (step t && comes t)) → ((t : ℕ) → end t ≡ is_end first over t)
    → ((t : ℕ) → next t ≡ (start t || end t)) → step 0 ≡ false → ((t : ℕ) → step (suc t) ≡ next t) → IsAfter step (λ t. start t || is_end (λ u. step u && some u) all t)
steps_on start step some all comes over first end next c o f e n off on zero = off
steps_on start step some all comes over first end next c o f e n off on (suc t) =
    on t ∙ n t ∙ ap (λ b. start t || b) (e t ∙ ap (λ w. is_end w over t) (fun_ext (λ u. f u ∙ ap (λ b. step u && b) (c u))) ∙ ap (λ w. is_end (λ u. step u && some u) w t) (fun_ext o))
