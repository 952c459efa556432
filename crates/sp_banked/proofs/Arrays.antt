-- The arrays that a memory holds.
use Rattle.std.proofs.Common.{◌≡◌, ℕ, zero, suc, ◌<◌, true, List, All, ap, ◌∙◌, arith}
use Rattle.sp_bank.specs.Places.{IsInside}
use Rattle.sp_netlist.specs.Signals.{Signals}
use Rattle.sp_gates.specs.Tested.{is_on}
use Rattle.sp_mem.specs.Copies.{copy_at}
use Rattle.sp_requests.specs.Elements.{element_at, element_after, AreServed}
use Rattle.sp_banked.specs.declared.part.Banked.{Banked}
use Rattle.sp_banked.specs.Runs.{element_word, reads_of, RunsBanked}
use Rattle.sp_banked.specs.Laws.{contents, WritesServed}

module _ (s : Signals) (part : Banked) (h : RunsBanked s part) where
  pub holds : (t : ℕ) → WritesServed s part t → (n copy : ℕ) (x : List ℕ) → n < part.duplicates → copy < part.copies → IsInside part.layout.dims.items x → element_word s t part n copy x ≡ contents s part copy t x
  holds zero served n copy x a b inside = h.begins n copy x a b inside
  holds (suc t) served n copy x a b inside =
      h.goes t (served t (omega arith)) n copy x a b inside ∙ ap (element_after s t copy part.writes.items x) (holds t (λ u l. served u (omega (arith, l))) n copy x a b inside)

  pub finds : (t n : ℕ) → n < part.duplicates → WritesServed s part t → AreServed s t part.layout (reads_of n part.reads.items)
      → All (λ r. is_on s r.enable t ≡ true → copy_at s t r.copy < part.copies → s.net (suc (suc t)) r.word ≡ contents s part (copy_at s t r.copy) t (element_at s t r)) (reads_of n part.reads.items)
  finds t n n_below served reads k d l on at = h.finds t n reads k d l on at ∙ holds t served n _ _ n_below at (reads.inside k d l on)
