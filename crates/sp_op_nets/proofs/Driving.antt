-- Reserved nets of which some are driven, and those of the answers of operations.
use Rattle.std.proofs.Common.{◌≡◌, ℕ, zero, suc, ◌≤◌, ⊎_elim, Bool, true, false, if◌then◌else◌, List, [], ◌∷◌, ◌++◌, length, Contains, refl, ◌∙◌, ap, arith}
use Rattle.std.proofs.lemmas.List.Elements.{Contains-append_right, Contains-append_left, Contains-append_cases}
use Rattle.sp_netlist.specs.Draft.{Draft}
use Rattle.sp_gates.proofs.Growing.{Grows-join, Awaits-stays, more_gates}
use Rattle.sp_core.specs.declared.operation.OpKind.{OpKind}
use Rattle.sp_core.specs.Plain.{plain_ops}
use Rattle.sp_core.specs.PlainCore.{PlainOp}
use Rattle.sp_pipe.specs.declared.part.Act.{Act}
use Rattle.sp_pipe.specs.declared.part.PipeOp.{PipeOp}
use Rattle.sp_pipe.specs.Right.{IsAt}
use Rattle.sp_part_runs.specs.ActsCircuits.{IsActOf, of_word, of_count, of_live, of_read, of_write, of_enq, of_deq, of_reset, of_one, of_two, of_shift, of_mux, of_cast, is_answered, net_of}
use Rattle.sp_part_runs.specs.ActsEntries.{IsOpAt}
use Rattle.sp_circuit_ops.specs.declared.ops.WordNet.{WordNet}
use Rattle.sp_circuit_ops.specs.Nets.{net_at}
use Rattle.sp_op_nets.specs.declared.table.AroundNets.{AroundNets}
use Rattle.sp_op_nets.specs.Acted.{answers_of}
use Rattle.sp_op_nets.specs.Laws.{SomeReservedAreDriven, ReservedComeTogether, PromisedAreReserved, FillsAreReserved, AnswersAreReserved, ReservedStay}
use Rattle.sp_op_nets.specs.Nets.{AreNetsOf, no_op, more_ops}
use Rattle.sp_op_nets.specs.Reserved.{Rise, is_reserved, reserved_by, reserved_of}
use Rattle.sp_op_nets.proofs.Giving.{above}
use Rattle.sp_op_nets.proofs.Reserving.{awaits_open, none_reserved, one_reserved, reserved_join}

rise_right : (from : ℕ) (xs ys : List ℕ) → Rise from (xs ++ ys) → (to : ℕ) → to ≤ from → Rise to ys
rise_right from [] [] r to le = tt
rise_right from [] (y ∷ ys) r to le = ((let l = r.0 in omega (arith, l, le)), r.1)
rise_right from (x ∷ xs) ys r to le = rise_right (suc x) xs ys r.1 to (let l = r.0 in omega (arith, l, le))

-- nothing is in both halves
apart : (from : ℕ) (xs ys : List ℕ) (n : ℕ) → Rise from (xs ++ ys) → Contains xs n → Contains ys n → ⊥
apart from [] ys n r k m = (let l = k.1 in omega (arith, l))
apart from (x ∷ xs) ys n r (zero, l, e) m = (let up = above (suc x) (xs ++ ys) n r.1 (Contains-append_right xs ys n m) in omega (arith, up, e))
apart from (x ∷ xs) ys n r (suc k, l, e) m = apart (suc x) xs ys n r.1 (k, omega (arith, l), e) m

pub some_driven : SomeReservedAreDriven
some_driven a b c nets left driven r f there back = record {
  grows = Grows-join a b c r.grows f.grows;
  gates = more_gates a b c r.gates f.gates;
  rise = rise_right (length a.promised) nets left r.rise (length a.promised) (omega arith);
  are_open = λ n k. f.still_open n (r.are_open n (Contains-append_right nets left n k)) (λ d. apart (length a.promised) nets left n r.rise (back n d) k);
  still_open = λ n o.
      f.still_open n (r.still_open n o) (λ d. (let low = o.within in let up = above (length a.promised) (nets ++ left) n r.rise (Contains-append_left nets left n (back n d)) in omega (arith, low, up)));
  no_other = λ n o out. (let before = f.no_other n o in r.no_other n before.0 (λ k. ⊎_elim (λ l. before.1 (there n l)) out (Contains-append_cases nets left n k)));
}

pub together : ReservedComeTogether
together = reserved_join

pub promised : PromisedAreReserved
promised = one_reserved

pub filled : FillsAreReserved
filled = none_reserved

pub stay : ReservedStay
stay a b net width nets h r = Awaits-stays a b net width r.grows (r.still_open net (awaits_open a net width h)) h

answered_so : (k : OpKind) (a : Act) → IsActOf k a → is_answered a ≡ is_reserved k
answered_so _ _ (of_word w) = refl
answered_so _ _ (of_count c lane net) = refl
answered_so _ _ (of_live c first last net) = refl
answered_so _ _ (of_read net after) = refl
answered_so _ _ of_write = refl
answered_so _ _ of_enq = refl
answered_so _ _ (of_deq net after) = refl
answered_so _ _ of_reset = refl
answered_so _ _ (of_one op) = refl
answered_so _ _ (of_two op) = refl
answered_so _ _ (of_shift left by) = refl
answered_so _ _ of_mux = refl
answered_so _ _ (of_cast to) = refl

-- one operation's
one_answer : (a : Act) (k : OpKind) (net : ℕ) → is_answered a ≡ is_reserved k → (is_answered a ≡ true → net_of a ≡ net) → (if is_answered a then net_of a ∷ [] else []) ≡ reserved_by k net
one_answer a k net e h = by_case (is_answered a) (is_reserved k) refl e
  where
    by_case : (x y : Bool) → is_answered a ≡ x → x ≡ y → (if x then net_of a ∷ [] else []) ≡ (if y then net ∷ [] else [])
    by_case true true is same = ap (λ n. n ∷ []) (h is)
    by_case false false is same = refl
    by_case true false is same = absurd (cc)
    by_case false true is same = absurd (cc)

-- and those of all
all_answers : (ops : List PlainOp) (nets : List WordNet) (ps : List PipeOp) → length nets ≡ length ops → length ps ≡ length ops
    → ((k : ℕ) (op : PlainOp) (p : PipeOp) → IsOpAt ops k op → IsAt ps k p → (is_answered p.act ≡ is_reserved op.kind) × (is_answered p.act ≡ true → net_of p.act ≡ net_at nets k)) → answers_of ps ≡ reserved_of ops nets
all_answers [] nets [] long each h = refl
all_answers [] nets (p ∷ ps) long each h = absurd (omega (arith, each))
all_answers (op ∷ ops) nets [] long each h = absurd (omega (arith, each))
all_answers (op ∷ ops) [] (p ∷ ps) long each h = absurd (omega (arith, long))
all_answers (op ∷ ops) (n ∷ nets) (p ∷ ps) long each h =
    let here = h 0 op p (record { within = omega arith; is = λ o. refl }) (record { within = omega arith; is = λ o. refl }) in
    let rest = all_answers ops nets ps (omega (arith, long)) (omega (arith, each)) (λ k o q there at. h (suc k) o q (record { within = (let l = there.within in omega (arith, l)); is = there.is }) (record { within = (let l = at.within in omega (arith, l)); is = at.is })) in
    ap (λ xs. xs ++ answers_of ps) (one_answer p.act op.kind n.net here.0 here.1) ∙ ap (λ xs. reserved_by op.kind n.net ++ xs) rest

nets_each : (d : Draft) (table : List AroundNets) (ops : List PlainOp) (afters : List ℕ) (nets : List WordNet) → AreNetsOf d table ops afters nets → length nets ≡ length ops
nets_each d table _ _ _ no_op = refl
nets_each d table _ _ _ (more_ops op ops after afters n nets here rest) = ap suc (nets_each d table ops afters nets rest)

pub answers : AnswersAreReserved
answers d table ops times afters nets ps all placed =
    all_answers (plain_ops ops) nets ps (nets_each d table (plain_ops ops) afters nets all) placed.ops_of.each (λ k op p there at. (answered_so op.kind p.act (placed.ops_of.alike k op p there at).kinds, placed.answered k p at))
