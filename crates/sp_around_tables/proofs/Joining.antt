-- The entries of counters, one after the other.
use Rattle.std.proofs.Common.{◌≡◌, ℕ, zero, suc, ◌-◌, ◌<◌, ◌≤◌, ◌==◌, false, List, [], ◌∷◌, length, take, drop, slice_index_or, Contains, refl, sym, ◌∙◌, ap, subst, arith}
use Rattle.std.proofs.lemmas.Bool.{true≢false}
use Rattle.std.proofs.Math.Path.{fun_ext}
use Rattle.sp_core.specs.Around.{lanes_of}
use Rattle.sp_core.specs.PlainCore.{PlainCounter}
use Rattle.sp_core.specs.Store.{changed}
use Rattle.sp_node_runs.specs.BodiesGiven.{Nets, with_nets}
use Rattle.sp_op_nets.specs.declared.table.AroundNets.{AroundNets}
use Rattle.sp_op_nets.specs.Table.{nets_at}
use Rattle.sp_around_tables.specs.Inside.{HasEntries, entry_of}

pub one_inside : (c : PlainCounter) (cs : List PlainCounter) (v : ℕ) (vs masks : List ℕ) (around next table : List AroundNets) → ((n : ℕ) → nets_at next n ≡ changed (nets_at around) c.number (entry_of c cs v masks) n) → length around ≤ length next → suc c.number ≤ length next
    → HasEntries cs next vs masks table → HasEntries (c ∷ cs) around (v ∷ vs) masks table
one_inside c cs v vs masks around next table set longer within inside = record {
  many = ap suc inside.many;
  nets = λ n. inside.nets n ∙ ap (λ (env : Nets). with_nets env cs vs masks n) (fun_ext set);
  longer = (let l = inside.longer in omega (arith, longer, l));
  within = λ x there. at x there.0 there.1 there.2;
}
  where
    at : (x : PlainCounter) (k : ℕ) → k < length (c ∷ cs) → slice_index_or (c ∷ cs) k x ≡ x → x.number < length table
    at x zero lt e = subst (λ (y : PlainCounter). y.number < length table) e (let l = inside.longer in omega (arith, within, l))
    at x (suc k) lt e = inside.within x (k, omega (arith, lt), e)

-- a list by its first item and the others
pub first_and_rest : {X : Type 0} (xs : List X) (x : X) → 1 ≤ length xs → x ≡ slice_index_or xs 0 x → xs ≡ x ∷ take (length xs - 1) (drop 1 xs)
first_and_rest [] x some is = absurd (omega (arith, some))
first_and_rest (y ∷ ys) x some is = ap (λ z. z ∷ ys) (sym is) ∙ ap (λ zs. x ∷ zs) (sym (all ys) ∙ ap (λ n. take n ys) (count (length ys)))
  where
    all : {X : Type 0} (ys : List X) → take (length ys) ys ≡ ys
    all [] = refl
    all (y ∷ ys) = ap (λ zs. y ∷ zs) (all ys)

    count : (n : ℕ) → n ≡ suc n - 1
    count n = omega arith

-- the lanes of counters are those of the ones behind the first
pub lanes_behind : (c : PlainCounter) (cs : List PlainCounter) (n : ℕ) → 1 ≤ length cs → ((x : PlainCounter) → Contains cs x → lanes_of cs ≡ n) → lanes_of (c ∷ cs) ≡ n
lanes_behind c [] n some h = absurd (omega (arith, some))
lanes_behind c (x ∷ cs) n some h = h x (0, omega arith, refl)

pub not_empty : (n : ℕ) → false ≡ (n == 0) → 1 ≤ n
not_empty zero e = absurd (true≢false (sym e))
not_empty (suc n) e = omega arith
