-- What the rules of cores say of a combination, and of the list before it.
use Rattle.std.proofs.Common.{◌≡◌, ℕ, zero, suc, ◌+◌, ◌<◌, Bool, true, ◌&&◌, ◌||◌, List, [], ◌∷◌, ◌++◌, length, Option, Some, None, refl, sym, ◌∙◌, ap, subst, arith, nat_lt}
use Rattle.std.proofs.lemmas.Bool.{and_parts, and_from, true≢false}
use Rattle.std.proofs.lemmas.List.{append_assoc, length-append}
use Rattle.std.specs.Prelude.{if◌then◌else◌}
use Rattle.std.specs.Option.{unwrap_or}
use Rattle.sp_words.specs.declared.kind.Kind.TheVariants.{Dram}
use Rattle.sp_words.specs.declared.types.Ty.{Ty}
use Rattle.sp_words.specs.declared.types.Ty.TheVariants.{Bit}
use Rattle.sp_words.specs.Words.{IsWord}
use Rattle.sp_tree.specs.declared.statement.Comb.{Comb}
use Rattle.sp_core.specs.declared.operation.OpKind.{OpKind}
use Rattle.sp_core.specs.declared.operation.OpKind.TheVariants.{Read, Write, Two, Mux}
use Rattle.sp_core.specs.Around.{Around, is_port_kind, is_usable}
use Rattle.sp_core.specs.Declarations.{mem, kind_of, is_among}
use Rattle.sp_core.specs.History.{Entry, word_of, word_at}
use Rattle.sp_core.specs.OperationRules.{can, can_read, can_write, is_access, names_rightly, is_operation_right, are_operations_right_after}
use Rattle.sp_core.specs.PlainCore.{PlainOp, PlainCore}
use Rattle.sp_core.specs.Typed.{Given, is_type, given_type, is_given, gives}
use Rattle.sp_sugar.specs.Combination.{operator_of}
use Rattle.sp_sugar.specs.Operations.{computes, read_op, write_op, literal_op, under}
use Rattle.sp_fitting.specs.Fitting.{EntriesFit, MasksAreBits}
use Rattle.sp_fitting.proofs.Contents.{same_word}
use Rattle.sp_fitting.proofs.Lists.{first_right}
use Rattle.sp_lane_groups.specs.Waiting.{waits_after, ResetsFirst}
use Rattle.sp_lane_groups.specs.LiveStores.{ArePlain}
use Rattle.sp_lane_rules.specs.UnrolledMeetings.{given_of}
use Rattle.sp_lane_rules.proofs.UnrolledGivens.{append_none}
use Rattle.sp_lane_trees.proofs.CombinationsCombining.{combining}
use Rattle.sp_lane_trees.proofs.CombinationsRegisters.{IsBoth}

-- the front of a list
pub plain_front : (xs ys : List PlainOp) → ArePlain (xs ++ ys) → ArePlain xs
plain_front [] ys h = tt
plain_front (x ∷ xs) ys h = (h.0, plain_front xs ys h.1)

pub resets_front : (xs ys : List PlainOp) (waits : ℕ → Bool) → ResetsFirst waits (xs ++ ys) → ResetsFirst waits xs
resets_front [] ys waits h = tt
resets_front (x ∷ xs) ys waits h = (h.0, resets_front xs ys (waits_after x waits) h.1)

pub masks_back : (xs ys : List PlainOp) (es : List Entry) → MasksAreBits (xs ++ ys) es → MasksAreBits ys es
masks_back [] ys es h = h
masks_back (x ∷ xs) ys es h = masks_back xs ys es h.1

pub right_parts : (core : PlainCore) (around : Around) (g : Given) (xs ys : List PlainOp) → are_operations_right_after core around g (xs ++ ys) ≡ true
    → (are_operations_right_after core around g xs ≡ true) × (are_operations_right_after core around (g ++ given_of xs) ys ≡ true)
right_parts core around g [] ys e = (refl, ap (λ l. are_operations_right_after core around l ys) (append_none g) ∙ e)
right_parts core around g (x ∷ xs) ys e =
    let a = and_parts (is_operation_right core around g x) (are_operations_right_after core around (g ++ given_type x.kind x.ty ∷ []) (xs ++ ys)) e in
    let r = right_parts core around (g ++ given_type x.kind x.ty ∷ []) xs ys a.1 in
    (and_from _ _ a.0 r.0, ap (λ l. are_operations_right_after core around l ys) (sym (append_assoc g (given_type x.kind x.ty ∷ []) (given_of xs))) ∙ r.1)

pub gives_front : (g x : Given) (k : ℕ) (ty : Ty) → k < length g → gives (g ++ x) k ty ≡ true → gives g k ty ≡ true
gives_front [] x k ty lt e = absurd (omega (arith, lt))
gives_front (t ∷ g) x zero ty lt e = e
gives_front (t ∷ g) x (suc k) ty lt e = gives_front g x k ty (omega (arith, lt)) e

-- the word at a place fits the type that it is given with
given_word : (t : Option Ty) (own ty : Ty) (w : ℕ) → is_given t ty ≡ true → IsWord (unwrap_or t own) w → IsWord ty w
given_word None own ty w e h = absurd (true≢false (sym e))
given_word (Some u) own ty w e h = same_word u ty w e h

pub word_fits : (ops : List PlainOp) (es : List Entry) (k : ℕ) (ty : Ty) → EntriesFit ops es → gives (given_of ops) k ty ≡ true → IsWord ty (word_at es k)
word_fits [] [] k ty h e = absurd (true≢false (sym e))
word_fits [] (x ∷ es) k ty h e = absurd h
word_fits (op ∷ ops) [] k ty h e = absurd h
word_fits (op ∷ ops) (x ∷ es) zero ty h e = given_word (given_type op.kind op.ty) op.ty ty (word_of x) e h.0
word_fits (op ∷ ops) (x ∷ es) (suc k) ty h e = word_fits ops es k ty h.1 e

module _ (core : PlainCore) (around : Around) where
  -- a memory that is read and written
  pub record IsRegister (ty : Ty) (m : ℕ) : Type 0 where
    pub read : names_rightly core around Read ty (Some m) ≡ true
    pub write : names_rightly core around Write ty (Some m) ≡ true

  usable_by : (kind : OpKind) (ty : Ty) (m : ℕ) → names_rightly core around kind ty (Some m) ≡ true → (is_usable core around m ≡ true) × (can kind (mem core m).kind (mem core m).start ≡ true)
  usable_by kind ty m e =
      let a = and_parts (is_access kind && is_usable core around m) (can kind (mem core m).kind (mem core m).start && is_type ty (mem core m).ty) e in
      ((and_parts (is_access kind) (is_usable core around m) a.0).1, (and_parts (can kind (mem core m).kind (mem core m).start) (is_type ty (mem core m).ty) a.1).0)

  pub register_usable : (ty : Ty) (m : ℕ) → IsRegister ty m → is_usable core around m ≡ true
  register_usable ty m h = (usable_by Read ty m h.read).0

  pub register_both : (ty : Ty) (m : ℕ) → IsRegister ty m → IsBoth (kind_of core m)
  register_both ty m h =
      let r = usable_by Read ty m h.read in
      let w = usable_by Write ty m h.write in
      let there : nat_lt m (length core.mems) ≡ true = (and_parts (nat_lt m (length core.mems)) (is_port_kind (mem core m).kind || is_among m around.owned) r.0).0 in
      let same : kind_of core m ≡ (mem core m).kind = ap (λ c. if c then (mem core m).kind else Dram) there in
      (ap can_read same ∙ r.1, ap can_write same ∙ w.1)

  -- what the rules say of a combination after other operations
  pub record CombinesRight (g : Given) (begun : Option ℕ) (word acc : ℕ) (ty : Ty) : Type 0 where
    pub accumulator : IsRegister ty acc
    pub flag : (b : ℕ) → begun ≡ Some b → IsRegister Bit b
    pub given : gives g word ty ≡ true

  pub combines_right : (g : Given) (begun : Option ℕ) (at word acc : ℕ) (ty : Ty) (comb : Comb) → word < length g → are_operations_right_after core around g (combining begun at word acc ty comb) ≡ true → CombinesRight g begun word acc ty
  combines_right g None at word acc ty comb lt e =
      let two : PlainOp = computes (Two (operator_of comb)) ty (at ∷ word ∷ []) in
      let last : PlainOp = write_op ty acc ((at + 1) ∷ []) in
      let g1 : Given = g ++ Some ty ∷ [] in
      let g2 : Given = g1 ++ given_type (Two (operator_of comb)) ty ∷ [] in
      let o1 = first_right core around g (read_op ty acc []) (two ∷ last ∷ []) e in
      let o2 = first_right core around g1 two (last ∷ []) o1.1 in
      let o3 = first_right core around g2 last [] o2.1 in
      record {
        accumulator = record { read = o1.0.names; write = o3.0.names };
        flag = λ b i. absurd (nothing b i);
        given = gives_front g (Some ty ∷ []) word ty lt (and_parts (gives (g ++ Some ty ∷ []) word ty) true (and_parts (gives (g ++ Some ty ∷ []) at ty) (gives (g ++ Some ty ∷ []) word ty && true) o2.0.takes).1).0;
      }
    where
      nothing : (b : ℕ) → ◌≡◌ {A = Option ℕ} None (Some b) → ⊥
      nothing b i = cc
  combines_right g (Some b) at word acc ty comb lt e =
      let p2 : PlainOp = under at (read_op ty acc []) in
      let p3 : PlainOp = computes (Two (operator_of comb)) ty ((at + 1) ∷ word ∷ []) in
      let p4 : PlainOp = computes Mux ty (at ∷ (at + 2) ∷ word ∷ []) in
      let p5 : PlainOp = write_op ty acc ((at + 3) ∷ []) in
      let p6 : PlainOp = literal_op Bit 1 in
      let p7 : PlainOp = write_op Bit b ((at + 5) ∷ []) in
      let g1 : Given = g ++ Some Bit ∷ [] in
      let g2 : Given = g1 ++ Some ty ∷ [] in
      let g3 : Given = g2 ++ given_type (Two (operator_of comb)) ty ∷ [] in
      let g4 : Given = g3 ++ Some ty ∷ [] in
      let g5 : Given = g4 ++ None ∷ [] in
      let g6 : Given = g5 ++ Some Bit ∷ [] in
      let o1 = first_right core around g (read_op Bit b []) (p2 ∷ p3 ∷ p4 ∷ p5 ∷ p6 ∷ p7 ∷ []) e in
      let o2 = first_right core around g1 p2 (p3 ∷ p4 ∷ p5 ∷ p6 ∷ p7 ∷ []) o1.1 in
      let o3 = first_right core around g2 p3 (p4 ∷ p5 ∷ p6 ∷ p7 ∷ []) o2.1 in
      let o4 = first_right core around g3 p4 (p5 ∷ p6 ∷ p7 ∷ []) o3.1 in
      let o5 = first_right core around g4 p5 (p6 ∷ p7 ∷ []) o4.1 in
      let o6 = first_right core around g5 p6 (p7 ∷ []) o5.1 in
      let o7 = first_right core around g6 p7 [] o6.1 in
      let third : Given = (g ++ Some Bit ∷ []) ++ Some ty ∷ [] in
      record {
        accumulator = record { read = o2.0.names; write = o5.0.names };
        flag = λ c i. subst (IsRegister Bit) (only c i) (record { read = o1.0.names; write = o7.0.names });
        given = gives_front g (Some Bit ∷ []) word ty lt
            (gives_front (g ++ Some Bit ∷ []) (Some ty ∷ []) word ty (longer g word lt)
            (and_parts (gives third word ty) true (and_parts (gives third (at + 1) ty) (gives third word ty && true) o3.0.takes).1).0);
      }
    where
      longer : (g : Given) (n : ℕ) → n < length g → n < length (g ++ Some Bit ∷ [])
      longer g n lt = omega (arith, lt, length-append g (Some Bit ∷ []))

      only : (c : ℕ) → Some b ≡ Some c → b ≡ c
      only c i = cc
