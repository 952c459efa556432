-- Registers of words with 32 bits, and what is known of pieces as the draft grows.
use Rattle.std.proofs.Common.{◌≡◌, ℕ, zero, suc, ◌<◌, ◌^◌, ◌==◌, Bool, true, false, if◌then◌else◌, refl, sym, ap, subst, ◌∙◌, arith}
use Rattle.sp_words.specs.Types.{int_type}
use Rattle.sp_words.specs.Words.{wrap}
use Rattle.sp_words.proofs.LawLemmas.{wrap-lt}
use Rattle.sp_netlist.specs.Draft.{Draft}
use Rattle.sp_netlist.specs.Signals.{Signals, Holds}
use Rattle.sp_gates.specs.Grows.{Grows}
use Rattle.sp_gates.specs.Tested.{is_on}
use Rattle.sp_gates.proofs.Growing.{HasNet-stays}
use Rattle.sp_gates.proofs.Running.{runs_earlier}
use Rattle.sp_core.specs.Elements.{index_value}
use Rattle.sp_counters.specs.declared.part.Count.{Count}
use Rattle.sp_counters.specs.declared.bounds.Bounds.{Bounds}
use Rattle.sp_counters.specs.Pieces.{KeepsLow, TakesBounds}

chosen_below : (b : Bool) (x y m : ℕ) → x < m → y < m → (if b then x else y) < m
chosen_below true x y m h k = h
chosen_below false x y m h k = k

-- a register of small words has small words
pub held_below : (own enable next : ℕ → ℕ) (m : ℕ) → 0 < m → Holds own 0 enable next → ((t : ℕ) → next t < m) → (t : ℕ) → own t < m
held_below own enable next m p h small zero = let e = h.0 in omega (arith, e, p)
held_below own enable next m p h small (suc t) = subst (λ w. w < m) (sym (h.1 t)) (chosen_below (enable t == 1) (next t) (own t) m (small t) (held_below own enable next m p h small t))

pub low_below : (w : ℕ) → wrap int_type (index_value w) < 2 ^ 32
low_below w = wrap-lt int_type (index_value w)

-- a choice of words is one of numbers
pub index_of_choice : (b : Bool) (x y : ℕ) → index_value (if b then x else y) ≡ (if b then index_value x else index_value y)
index_of_choice true x y = refl
index_of_choice false x y = refl

pub keeps_low_stays : (a b : Draft) (start net now held : ℕ) → Grows a b → KeepsLow a start net now held → KeepsLow b start net now held
keeps_low_stays a b start net now held g k = record {
  now_net = HasNet-stays a b now 32 g k.now_net;
  held_net = HasNet-stays a b held 32 g k.held_net;
  now_word = λ s r. k.now_word s (runs_earlier a b s g r);
  held_fits = λ s r. k.held_fits s (runs_earlier a b s g r);
  held_word = λ s r. k.held_word s (runs_earlier a b s g r);
}

pub takes_bounds_stays : (a b : Draft) (start : ℕ) (c : Count) (bounds : Bounds) → Grows a b → TakesBounds a start c bounds → TakesBounds b start c bounds
takes_bounds_stays a b start c bounds g k = record {
  from = keeps_low_stays a b start c.from bounds.first bounds.from g k.from;
  until_net = HasNet-stays a b bounds.until 32 g k.until_net;
  until_fits = λ s r. k.until_fits s (runs_earlier a b s g r);
  until_word = λ s r. k.until_word s (runs_earlier a b s g r);
  some_net = HasNet-stays a b bounds.some 1 g k.some_net;
  some = λ s r. k.some s (runs_earlier a b s g r);
}

-- whether a choice of bits is 1
pub on_choice : (s : Signals) (net choice a b t : ℕ) → s.net t net ≡ (if s.net t choice == 1 then s.net t a else s.net t b) → is_on s net t ≡ (if is_on s choice t then is_on s a t else is_on s b t)
on_choice s net choice a b t e = ap (λ n. n == 1) e ∙ each (is_on s choice t)
  where
    each : (c : Bool) → ((if c then s.net t a else s.net t b) == 1) ≡ (if c then is_on s a t else is_on s b t)
    each true = refl
    each false = refl
