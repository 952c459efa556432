-- Two accesses share a port of a memory that alone has a scheme exactly where both are accesses to it, by one port.
use Rattle.std.proofs.Common.{◌≡◌, ℕ, zero, suc, ◌⊎◌, inl, inr, Bool, true, false, cond, Option, Some, None, List, [], ◌∷◌, ◌++◌, replicate, refl, sym, ap, ◌∙◌, subst}
use Rattle.std.proofs.lemmas.Bool.{and_parts, and_from, eqb-true, eq-eqb, false≢true, true≢false, cases_eq}
use Rattle.std.specs.Prelude.{◌&&◌, ◌==◌, not, is_some, slice_index_or, if◌then◌else◌}
use Rattle.sp_bank.specs.Banking.{Banking}
use Rattle.sp_core.specs.declared.operation.OpKind.{OpKind}
use Rattle.sp_core.specs.declared.operation.OpKind.TheVariants.{Word, Count, Live, Read, Write, Enq, Deq, Reset, One, Two, Shift, Mux, Cast}
use Rattle.sp_core.specs.Declarations.{mem}
use Rattle.sp_core.specs.PlainCore.{PlainOp, PlainCore}
use Rattle.sp_plan.specs.Ports.{has_banks, is_one_port, is_one_mem, is_in_banks, share_port, scheme_at, is_serial}
use Rattle.sp_schemes.specs.Accesses.{port_of, port_to}
use Rattle.sp_schemes.specs.Chosen.{only}

abbrev pub kind_of_port : Bool → OpKind
kind_of_port true = Read
kind_of_port false = Write

-- the scheme of the only memory that has one
pub only_here : (m : ℕ) (b : Banking) → slice_index_or (only m b) m None ≡ Some b
only_here zero b = refl
only_here (suc m) b = only_here m b

pub only_there : (m s : ℕ) (b : Banking) → (s ≡ m → ⊥) → slice_index_or (only m b) s None ≡ None
only_there zero zero b ne = absurd (ne refl)
only_there zero (suc s) b ne = refl
only_there (suc m) zero b ne = refl
only_there (suc m) (suc s) b ne = only_there m s b (λ e. ne (ap suc e))

port_is : (k : OpKind) (p : Bool) → port_of k ≡ Some p → k ≡ kind_of_port p
port_is Read true e = refl
port_is Read false e = cc
port_is Write true e = cc
port_is Write false e = refl
port_is (Word w) p e = cc
port_is (Count c l) p e = cc
port_is (Live c f l) p e = cc
port_is Enq p e = cc
port_is Deq p e = cc
port_is Reset p e = cc
port_is (One o) p e = cc
port_is (Two o) p e = cc
port_is (Shift l n) p e = cc
port_is Mux p e = cc
port_is (Cast t) p e = cc

reads_alone : (l : OpKind) → is_one_port Read l ≡ true → l ≡ Read
reads_alone Read e = refl
reads_alone Write e = absurd (false≢true e)
reads_alone (Word w) e = absurd (false≢true e)
reads_alone (Count c l) e = absurd (false≢true e)
reads_alone (Live c f l) e = absurd (false≢true e)
reads_alone Enq e = absurd (false≢true e)
reads_alone Deq e = absurd (false≢true e)
reads_alone Reset e = absurd (false≢true e)
reads_alone (One o) e = absurd (false≢true e)
reads_alone (Two o) e = absurd (false≢true e)
reads_alone (Shift l n) e = absurd (false≢true e)
reads_alone Mux e = absurd (false≢true e)
reads_alone (Cast t) e = absurd (false≢true e)

writes_alone : (l : OpKind) → is_one_port Write l ≡ true → l ≡ Write
writes_alone Write e = refl
writes_alone Read e = absurd (false≢true e)
writes_alone (Word w) e = absurd (false≢true e)
writes_alone (Count c l) e = absurd (false≢true e)
writes_alone (Live c f l) e = absurd (false≢true e)
writes_alone Enq e = absurd (false≢true e)
writes_alone Deq e = absurd (false≢true e)
writes_alone Reset e = absurd (false≢true e)
writes_alone (One o) e = absurd (false≢true e)
writes_alone (Two o) e = absurd (false≢true e)
writes_alone (Shift l n) e = absurd (false≢true e)
writes_alone Mux e = absurd (false≢true e)
writes_alone (Cast t) e = absurd (false≢true e)

one_port : (k l : OpKind) → is_one_port k l ≡ true → (p : Bool) × (k ≡ kind_of_port p) × (l ≡ kind_of_port p)
one_port Read l e = (true, refl, reads_alone l e)
one_port Write l e = (false, refl, writes_alone l e)
one_port (Word w) l e = absurd (false≢true e)
one_port (Count c n) l e = absurd (false≢true e)
one_port (Live c f n) l e = absurd (false≢true e)
one_port Enq l e = absurd (false≢true e)
one_port Deq l e = absurd (false≢true e)
one_port Reset l e = absurd (false≢true e)
one_port (One o) l e = absurd (false≢true e)
one_port (Two o) l e = absurd (false≢true e)
one_port (Shift d n) l e = absurd (false≢true e)
one_port Mux l e = absurd (false≢true e)
one_port (Cast t) l e = absurd (false≢true e)

same_port : (p : Bool) → is_one_port (kind_of_port p) (kind_of_port p) ≡ true
same_port true = refl
same_port false = refl

port_kind : (p : Bool) → port_of (kind_of_port p) ≡ Some p
port_kind true = refl
port_kind false = refl

-- an access to a memory by a port
pub record Touches (m : ℕ) (op : PlainOp) (p : Bool) : Type 0 where
  pub kind_is : op.kind ≡ kind_of_port p
  pub mem_is : op.mem ≡ Some m

pub touches_from : (m : ℕ) (op : PlainOp) (p : Bool) → port_to m op ≡ Some p → Touches m op p
touches_from m op p e = go op.mem refl
  where
    named : (x : Option ℕ) → op.mem ≡ x → (if is_one_mem x (Some m) then port_of op.kind else None) ≡ Some p
    named x q = ap (λ y. if is_one_mem y (Some m) then port_of op.kind else None) (sym q) ∙ e

    go : (x : Option ℕ) → op.mem ≡ x → Touches m op p
    go None q = let h = named None q in absurd (none_some h)
      where
        none_some : None ≡ Some p → ⊥
        none_some h = cc
    go (Some x) q = by (x == m) refl (named (Some x) q)
      where
        by : (t : Bool) → (x == m) ≡ t → (if t then port_of op.kind else None) ≡ Some p → Touches m op p
        by true s h = record { kind_is = port_is op.kind p h; mem_is = q ∙ ap Some (eqb-true x m s) }
        by false s h = absurd (let z : None ≡ Some p = h in cc)

pub port_from : (m : ℕ) (op : PlainOp) (p : Bool) → Touches m op p → port_to m op ≡ Some p
port_from m op p h =
    ap (λ x. if is_one_mem x (Some m) then port_of op.kind else None) h.mem_is
    ∙ ap (λ t. if t then port_of op.kind else None) (eq-eqb m m refl)
    ∙ ap port_of h.kind_is ∙ port_kind p

module _ (core : PlainCore) (m : ℕ) (banks : has_banks (mem core m).kind ≡ true) (b : Banking) where
  abbrev pub shares : PlainOp → PlainOp → Bool
  shares a c = share_port core a c && not (is_serial (only m b) a.mem)

  pub shared_port : (a c : PlainOp) → shares a c ≡ true → (p : Bool) × Touches m a p × Touches m c p
  shared_port a c h =
      let parts = and_parts (share_port core a c) (not (is_serial (only m b) a.mem)) h in
      let ports = and_parts (is_one_port a.kind c.kind && is_one_mem a.mem c.mem) (is_in_banks core a.mem) parts.0 in
      let both = and_parts (is_one_port a.kind c.kind) (is_one_mem a.mem c.mem) ports.0 in
      let k = one_port a.kind c.kind both.0 in
      mems k.0 (k.1, k.2) a.mem c.mem refl refl both.1 parts.1
    where
      mems : (p : Bool) → (a.kind ≡ kind_of_port p) × (c.kind ≡ kind_of_port p) → (x y : Option ℕ) → a.mem ≡ x → c.mem ≡ y → is_one_mem a.mem c.mem ≡ true → not (is_serial (only m b) a.mem) ≡ true → (p : Bool) × Touches m a p × Touches m c p
      mems p k (Some x) (Some y) q r e s =
          let is : x ≡ m = here (cases_eq x m) in
          let xy : x ≡ y = eqb-true x y (sym (ap (λ z. is_one_mem z c.mem) q ∙ ap (is_one_mem (Some x)) r) ∙ e) in
          (p, record { kind_is = k.0; mem_is = q ∙ ap Some is }, record { kind_is = k.1; mem_is = r ∙ ap Some (sym xy ∙ is) })
        where
          here : (x ≡ m) ⊎ (x ≡ m → ⊥) → x ≡ m
          here (inl e) = e
          here (inr ne) = absurd (false≢true (sym (ap (λ z. not (is_serial (only m b) z)) q ∙ ap (λ z. not (not (is_some z))) (only_there m x b ne)) ∙ s))
      mems p k None y q r e s = absurd (false≢true (sym (ap (λ z. is_one_mem z c.mem) q) ∙ e))
      mems p k (Some x) None q r e s = absurd (false≢true (sym (ap (λ z. is_one_mem z c.mem) q ∙ ap (is_one_mem (Some x)) r) ∙ e))

  pub port_shared : (a c : PlainOp) (p : Bool) → Touches m a p → Touches m c p → shares a c ≡ true
  port_shared a c p h k =
      ap (λ x. ((is_one_port x c.kind && is_one_mem a.mem c.mem) && is_in_banks core a.mem) && not (is_serial (only m b) a.mem)) h.kind_is
      ∙ ap (λ x. ((is_one_port (kind_of_port p) x && is_one_mem a.mem c.mem) && is_in_banks core a.mem) && not (is_serial (only m b) a.mem)) k.kind_is
      ∙ ap (λ t. ((t && is_one_mem a.mem c.mem) && is_in_banks core a.mem) && not (is_serial (only m b) a.mem)) (same_port p)
      ∙ ap (λ x. (is_one_mem x c.mem && is_in_banks core x) && not (is_serial (only m b) x)) h.mem_is
      ∙ ap (λ x. (is_one_mem (Some m) x && has_banks (mem core m).kind) && not (is_serial (only m b) (Some m))) k.mem_is
      ∙ ap (λ t. (t && has_banks (mem core m).kind) && not (is_serial (only m b) (Some m))) (eq-eqb m m refl)
      ∙ ap (λ t. t && not (is_serial (only m b) (Some m))) banks
      ∙ ap (λ z. not (not (is_some z))) (only_here m b)
