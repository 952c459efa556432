-- Words under masks.
use Rattle.std.proofs.Common.{◌≡◌, ℕ, ◌+◌, ◌-◌, ◌≤◌, ◌==◌, if◌then◌else◌, IfSome, List, Option, Some, None, slice_index, refl, sym, ap, ◌∙◌, subst, arith}
use Rattle.sp_netlist.specs.Signals.{Signals}
use Rattle.sp_pipe.specs.declared.part.Act.{Act}
use Rattle.sp_pipe.specs.declared.part.Act.TheVariants.{Given, Word, One, Two, Shift, Mux, Cast, Read, Deq, Write, Enq, Reset}
use Rattle.sp_pipe.specs.declared.part.PipeOp.{PipeOp}
use Rattle.sp_pipe.specs.Right.{IsTaken}
use Rattle.sp_pipe.specs.Values.{word_time, masked_time, time_of, is_wanted, words_of}

-- under a mask a word stands no earlier, and no earlier than at the operation's time
no_earlier_masked : (act : Act) (time : ℕ) → (word_time act time ≤ masked_time act time) × (time ≤ masked_time act time)
no_earlier_masked (Given net) time = (omega arith, omega arith)
no_earlier_masked (Word w) time = (omega arith, omega arith)
no_earlier_masked (One op) time = (omega arith, omega arith)
no_earlier_masked (Two op) time = (omega arith, omega arith)
no_earlier_masked (Shift left by) time = (omega arith, omega arith)
no_earlier_masked Mux time = (omega arith, omega arith)
no_earlier_masked (Cast to) time = (omega arith, omega arith)
no_earlier_masked (Read net after) time = (omega arith, omega arith)
no_earlier_masked (Deq net after) time = (omega arith, omega arith)
no_earlier_masked Write time = (omega arith, omega arith)
no_earlier_masked Enq time = (omega arith, omega arith)
no_earlier_masked Reset time = (omega arith, omega arith)

pub no_earlier : (act : Act) (mask : Option ℕ) (time : ℕ) → word_time act time ≤ time_of act mask time
no_earlier act None time = omega arith
no_earlier act (Some m) time = (no_earlier_masked act time).0

-- the mask is taken where the word stands
pub mask_taken : (earlier : List PipeOp) (act : Act) (mask : Option ℕ) (m time at : ℕ) → mask ≡ Some m → IfSome mask (λ k. IsTaken earlier k 1 time) → at ≡ time_of act mask time → IsTaken earlier m 1 at
mask_taken earlier act None m time at e h f = absurd (cc)
mask_taken earlier act (Some k) m time at e h f =
    let same : k ≡ m = cc in
    let l = (no_earlier_masked act time).1 in
    let i = h.in_time in
    subst (λ x. IsTaken earlier x 1 at) same (record { op = h.op; at = h.at; gives = h.gives; wide = h.wide; in_time = omega (arith, l, i, f) })

-- the choice by the mask
pub masked_word : (s : Signals) (u : ℕ) (ops : List PipeOp) (mask : Option ℕ) (m : ℕ) → mask ≡ Some m → (stands given now before : ℕ) → now ≡ stands → before ≡ given → given ≤ stands → (word wanted late net zero : ℕ)
    → s.net (u + now) word ≡ (if s.net (u + now) wanted == 1 then s.net (u + now) late else s.net (u + now) zero) → s.net (u + now) wanted ≡ slice_index (words_of s u ops) m → ((t : ℕ) → s.net (t + (now - before)) late ≡ s.net t net) → s.net (u + now) zero ≡ 0
    → s.net (u + stands) word ≡ (if is_wanted (words_of s u ops) mask then s.net (u + given) net else 0)
masked_word s u ops mask m e stands given now before at from order word wanted late net zero is by later none =
    ap (λ t. s.net (u + t) word) (sym at) ∙ is
    ∙ ap (λ w. if w == 1 then s.net (u + now) late else s.net (u + now) zero) by
    ∙ ap (λ w. if slice_index (words_of s u ops) m == 1 then s.net (u + now) late else w) none
    ∙ ap (λ w. if slice_index (words_of s u ops) m == 1 then w else 0) (ap (λ t. s.net t late) shifted ∙ later (u + given))
    ∙ ap (λ k. if is_wanted (words_of s u ops) k then s.net (u + given) net else 0) (sym e)
  where
    shifted : u + now ≡ (u + given) + (now - before)
    shifted = omega (arith, at, from, order)
