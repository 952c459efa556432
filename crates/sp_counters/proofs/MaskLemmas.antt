-- Masks, one more at a time.
use Rattle.std.proofs.Common.{◌≡◌, ℕ, ◌+◌, ◌*◌, ◌<◌, ◌⊎◌, inl, inr, pos, ◌+ℤ◌, List, [], ◌∷◌, ◌++◌, length, slice_index, sym, ap, subst, ◌∙◌, arith}
use Rattle.std.specs.Prelude.{int_lt}
use Rattle.std.proofs.lemmas.List.{length_push, get_or_append_left, get_or_push}
use Rattle.sp_netlist.specs.Draft.{Draft}
use Rattle.sp_netlist.specs.Signals.{Signals}
use Rattle.sp_gates.specs.Grows.{Grows}
use Rattle.sp_gates.specs.Nets.{HasNet}
use Rattle.sp_gates.specs.Runs.{RunsOn}
use Rattle.sp_gates.specs.Tested.{is_on}
use Rattle.sp_gates.proofs.Growing.{HasNet-stays}
use Rattle.sp_gates.proofs.Running.{runs_earlier}
use Rattle.sp_counters.specs.declared.part.Count.{Count}
use Rattle.sp_counters.specs.declared.part.Counter.{Counter}
use Rattle.sp_counters.specs.Counting.{number}
use Rattle.sp_counters.specs.Pieces.{AreMasks, HasInt}

pub has_int_stays : (a b : Draft) (net : ℕ) → Grows a b → HasInt a net → HasInt b net
has_int_stays a b net g h = record { net_stands = HasNet-stays a b net 32 g h.net_stands; fits = λ s r. h.fits s (runs_earlier a b s g r) }

pub no_masks : (d : Draft) (c : Count) (n : Counter) (masks : List ℕ) → masks ≡ [] → AreMasks d c n masks 0
no_masks d c n masks e = record { many = ap length e; net = λ lane l. absurd (omega (arith, l)); on = λ s r lane t l. absurd (omega (arith, l)) }

pub masks_stay : (a b : Draft) (c : Count) (n : Counter) (masks : List ℕ) (lanes : ℕ) → Grows a b → AreMasks a c n masks lanes → AreMasks b c n masks lanes
masks_stay a b c n masks lanes g h = record {
  many = h.many;
  net = λ lane l. HasNet-stays a b (slice_index masks lane) 1 g (h.net lane l);
  on = λ s r. h.on s (runs_earlier a b s g r);
}

module _ (d : Draft) (c : Count) (n : Counter) (masks : List ℕ) (lanes net : ℕ) (h : AreMasks d c n masks lanes) (stands : HasNet d net 1)
    (on : (s : Signals) → RunsOn s d.cells → (t : ℕ) → is_on s net t ≡ int_lt (number s n.value t +ℤ pos (lanes * c.by)) (number s n.until t)) where
  split : (i : ℕ) → i < lanes + 1 → (i < lanes) ⊎ (i ≡ lanes)
  split i l = grind arith

  place : (P : ℕ → ℕ → Type 0) → P net lanes → ((i : ℕ) → i < lanes → P (slice_index masks i) i) → (i : ℕ) → (i < lanes) ⊎ (i ≡ lanes) → P (slice_index (masks ++ net ∷ []) i) i
  place P new old i (inl below) = subst (λ x. P x i) (sym (get_or_append_left masks (net ∷ []) 0 i (let e = h.many in omega (arith, e, below)))) (old i below)
  place P new old i (inr same) = subst (λ x. P x i) (sym (get_or_push masks net 0 i (h.many ∙ sym same))) (subst (P net) (sym same) new)

  pub mask_pushed : AreMasks d c n (masks ++ net ∷ []) (lanes + 1)
  mask_pushed = record {
    many = length_push masks net ∙ ap (λ k. k + 1) h.many;
    net = λ lane l. place (λ x i. HasNet d x 1) stands h.net lane (split lane l);
    on = λ s r lane t l. place (λ x i. is_on s x t ≡ int_lt (number s n.value t +ℤ pos (i * c.by)) (number s n.until t)) (on s r t) (λ i m. h.on s r i t m) lane (split lane l);
  }
