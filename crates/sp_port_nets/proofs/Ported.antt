-- Ports that are those of memories.
use Rattle.std.proofs.Common.{◌≡◌, ℕ, zero, suc, ◌<◌, ◌==◌, Bool, true, false, ◌&&◌, List, [], ◌∷◌, length, slice_index, slice_index_or, refl, sym, ap, subst, ◌∙◌, arith}
use Rattle.std.specs.List.{filter}
use Rattle.std.specs.Str.{bytes_eq}
use Rattle.std.proofs.lemmas.Bool.{false≢true, and_parts, eqb-true}
use Rattle.std.proofs.lemmas.Slice.Eq.{bytes_eq-Decides}
use Rattle.sp_words.specs.declared.kind.Kind.{Kind}
use Rattle.sp_words.specs.declared.kind.Kind.TheVariants.{Reg, Sram, Fifo, LineBuf, Dram, ArgIn, ArgOut}
use Rattle.sp_words.specs.declared.types.Ty.{Ty}
use Rattle.sp_words.specs.declared.types.Ty.TheVariants.{Bit, Fix}
use Rattle.sp_words.specs.Ports.{PlainPort}
use Rattle.sp_words.proofs.TypeLemmas.{same_fix}
use Rattle.sp_core.specs.Declarations.{mem}
use Rattle.sp_core.specs.Meaning.{is_arg, is_out, numbers_of}
use Rattle.sp_core.specs.MemoryRules.{are_port_names, names_of, are_ports_of}
use Rattle.sp_core.specs.PlainCore.{PlainMem, no_mem, no_port, PlainCore}
use Rattle.sp_core.specs.Typed.{is_same_flag, is_type}
use Rattle.sp_port_nets.specs.Laws.{IsPortOf, IsPortAt, ArePorts}
use Rattle.sp_port_nets.proofs.Numbers.{as_many_numbers, number_at}

-- types that the test calls one are one
flag_is : (a b : Bool) → is_same_flag a b ≡ true → a ≡ b
flag_is true true e = refl
flag_is true false e = absurd (false≢true e)
flag_is false true e = absurd (false≢true e)
flag_is false false e = refl

type_is : (t u : Ty) → is_type t u ≡ true → t ≡ u
type_is Bit Bit e = refl
type_is Bit (Fix b) e = absurd (false≢true e)
type_is (Fix a) Bit e = absurd (false≢true e)
type_is (Fix a) (Fix b) e =
    let parts = and_parts (is_same_flag a.signed b.signed) ((a.whole == b.whole) && (a.frac == b.frac)) e in
    let bits = and_parts (a.whole == b.whole) (a.frac == b.frac) parts.1 in
    ap Fix (same_fix a b (flag_is a.signed b.signed parts.0) (eqb-true a.whole b.whole bits.0) (eqb-true a.frac b.frac bits.1))

none_in : {A : Type 0} (xs : List A) → length xs ≡ 0 → xs ≡ []
none_in [] e = refl
none_in (x ∷ xs) e = absurd (omega (arith, e))

-- the parts of the test of ports and memories, at their first ones
module _ (p : PlainPort) (ports : List PlainPort) (m : PlainMem) (mems : List PlainMem) (e : are_ports_of (p ∷ ports) (m ∷ mems) ≡ true) where
  first_port : IsPortOf p m
  first_port =
      let parts = and_parts (bytes_eq p.name m.name && (is_type p.ty m.ty && (length p.dims == 0))) (are_ports_of ports mems) e in
      let own = and_parts (bytes_eq p.name m.name) (is_type p.ty m.ty && (length p.dims == 0)) parts.0 in
      let plain = and_parts (is_type p.ty m.ty) (length p.dims == 0) own.1 in
      record { name = (bytes_eq-Decides p.name m.name).0 own.0; ty = type_is p.ty m.ty plain.0; dims = none_in p.dims (eqb-true (length p.dims) 0 plain.1) }

  other_ports : are_ports_of ports mems ≡ true
  other_ports = (and_parts (bytes_eq p.name m.name && (is_type p.ty m.ty && (length p.dims == 0))) (are_ports_of ports mems) e).1

as_many_ports : (ports : List PlainPort) (mems : List PlainMem) → are_ports_of ports mems ≡ true → length ports ≡ length mems
as_many_ports [] [] e = refl
as_many_ports [] (m ∷ mems) e = absurd (false≢true e)
as_many_ports (p ∷ ports) [] e = absurd (false≢true e)
as_many_ports (p ∷ ports) (m ∷ mems) e = ap suc (as_many_ports ports mems (other_ports p ports m mems e))

port_at : (ports : List PlainPort) (mems : List PlainMem) → are_ports_of ports mems ≡ true → (k : ℕ) → k < length ports → IsPortOf (slice_index_or ports k no_port) (slice_index_or mems k no_mem)
port_at [] mems e k l = absurd (omega (arith, l))
port_at (p ∷ ports) [] e k l = absurd (false≢true e)
port_at (p ∷ ports) (m ∷ mems) e zero l = first_port p ports m mems e
port_at (p ∷ ports) (m ∷ mems) e (suc k) l = port_at ports mems (other_ports p ports m mems e) k (omega (arith, l))

-- the kinds of arguments and of outputs
pub arg_is : (kind : Kind) → is_arg kind ≡ true → kind ≡ ArgIn
arg_is ArgIn e = refl
arg_is Reg e = absurd (false≢true e)
arg_is Sram e = absurd (false≢true e)
arg_is Fifo e = absurd (false≢true e)
arg_is LineBuf e = absurd (false≢true e)
arg_is Dram e = absurd (false≢true e)
arg_is ArgOut e = absurd (false≢true e)

pub out_is : (kind : Kind) → is_out kind ≡ true → kind ≡ ArgOut
out_is ArgOut e = refl
out_is Reg e = absurd (false≢true e)
out_is Sram e = absurd (false≢true e)
out_is Fifo e = absurd (false≢true e)
out_is LineBuf e = absurd (false≢true e)
out_is Dram e = absurd (false≢true e)
out_is ArgIn e = absurd (false≢true e)

module _ (core : PlainCore) (is : Kind → Bool) (kind : Kind) (only : (k : Kind) → is k ≡ true → k ≡ kind) (ports : List PlainPort) (e : are_ports_of ports (filter (λ (m : PlainMem). is m.kind) core.mems) ≡ true) where
  pub as_many : length (numbers_of is 0 core.mems) ≡ length ports
  as_many = as_many_numbers is core.mems 0 ∙ sym (as_many_ports ports _ e)

  pub port_is_at : (k : ℕ) → k < length ports → IsPortAt core kind ports (numbers_of is 0 core.mems) k (slice_index (numbers_of is 0 core.mems) k)
  port_is_at k l =
      let n = number_at is core.mems 0 k (let q = as_many in omega (arith, q, l)) in
      let m = slice_index_or (filter (λ (m : PlainMem). is m.kind) core.mems) k no_mem in
      let at : n.place ≡ slice_index (numbers_of is 0 core.mems) k = (let q = n.number in omega (arith, q)) in
      let same : m ≡ mem core (slice_index (numbers_of is 0 core.mems) k) = n.same ∙ ap (mem core) at in
      record {
        place = l;
        number = refl;
        within = subst (λ j. j < length core.mems) at n.within;
        of_kind = sym (ap (λ (x : PlainMem). x.kind) same) ∙ only m.kind n.passes;
        port = subst (IsPortOf (slice_index_or ports k no_port)) same (port_at ports _ e k l);
      }

  pub are_ports : are_port_names (names_of ports) ≡ true → ArePorts core kind ports (numbers_of is 0 core.mems)
  are_ports names = record { names = names; each = as_many; at = port_is_at }
