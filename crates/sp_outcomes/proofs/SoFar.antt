-- Operations of a list that have gone on so far, with those that are left.
use Rattle.std.proofs.Common.{◌≡◌, ℕ, ◌+◌, List, [], ◌∷◌, ◌++◌, refl, ◌∙◌, ap, arith, length-append}
use Rattle.std.specs.Prelude.{length, map}
use Rattle.sp_tree.specs.PlainProgram.{PlainProgram}
use Rattle.sp_tree.specs.Store as program_store
use Rattle.sp_core.specs.History.{Entry, word_of, word_at}
use Rattle.sp_core.specs.Operations.{operation, operations_after}
use Rattle.sp_core.specs.PlainCore.{PlainOp, PlainCore}
use Rattle.sp_core.specs.Step.{went}
use Rattle.sp_core.specs.Store as store
use Rattle.sp_sugar.specs.Agreement.{View, Agree, GiveAt, GoOn}
use Rattle.sp_sugar.proofs.GoOnLemmas.{keeps_front, at_end, agree_still, give_still, ops_append}
use Rattle.sp_sugar.proofs.StepLemmas.{then_on}

pub words_given : (all : List Entry) (places words : List ℕ) → GiveAt all places words → map (word_at all) places ≡ words
words_given all [] [] g = refl
words_given all [] (w ∷ words) g = absurd g
words_given all (k ∷ places) [] g = absurd g
words_given all (k ∷ places) (w ∷ words) g = ap (λ x. x ∷ map (word_at all) places) g.1 ∙ ap (λ xs. w ∷ xs) (words_given all places words g.2)

pub and_word : (all : List Entry) (places words : List ℕ) (k w : ℕ) → GiveAt all places words → word_at all k ≡ w → map (word_at all) (places ++ k ∷ []) ≡ words ++ w ∷ []
and_word all [] [] k w g e = ap (λ x. x ∷ []) e
and_word all [] (v ∷ words) k w g e = absurd g
and_word all (l ∷ places) [] k w g e = absurd g
and_word all (l ∷ places) (v ∷ words) k w g e = ap (λ x. x ∷ map (word_at all) (places ++ k ∷ [])) g.1 ∙ ap (λ xs. v ∷ xs) (and_word all places words k w g.2 e)

module _ (p : PlainProgram) (core : PlainCore) (view : View) (whole : List PlainOp) (t : store.Store) where
  -- so many are done, and these places have these words
  pub record SoFar (rest : List PlainOp) (s : program_store.Store) (n : ℕ) (ks ws : List ℕ) : Type 0 where
    pub all : List Entry
    pub after : store.Store
    pub goes : operations_after core view.around [] whole t ≡ operations_after core view.around all rest after
    pub long : length all ≡ n
    pub agree : Agree p core view all s after
    pub give : GiveAt all ks ws

  pub one_op : (op : PlainOp) (rest : List PlainOp) (s u : program_store.Store) (n place : ℕ) (ks ws : List ℕ) (g : SoFar (op ∷ rest) s n ks ws) (e : Entry) (after : store.Store) → place ≡ n
      → operation core view.around op g.all g.after ≡ went e after → Agree p core view g.all u after → SoFar rest u (n + 1) (place ∷ ks) (word_of e ∷ ws)
  unfolding operations_after
  one_op op rest s u n place ks ws g e after at goes a = record {
    all = g.all ++ e ∷ [];
    after = after;
    goes = g.goes ∙ then_on (operation core view.around op g.all) (λ x. operations_after core view.around (g.all ++ x ∷ []) rest) g.after e after goes;
    long = omega (arith, length-append g.all (e ∷ []), g.long);
    agree = agree_still p core view g.all (g.all ++ e ∷ []) u after (keeps_front g.all (e ∷ [])) a;
    give = (
      omega (arith, g.long, length-append g.all (e ∷ []), at),
      ap (λ k. word_at (g.all ++ e ∷ []) k) {x = place} {y = length g.all} (omega (arith, g.long, at)) ∙ at_end g.all e,
      give_still p core view g.all (g.all ++ e ∷ []) ks ws (keeps_front g.all (e ∷ [])) g.give,
    );
  }

  pub some_ops : (ops rest : List PlainOp) (s u : program_store.Store) (n : ℕ) (ks ws ls us : List ℕ) (g : SoFar (ops ++ rest) s n ks ws) → GoOn p core view g.all ops g.after u ls us
      → (x : SoFar rest u (n + length ops) ks ws) × GiveAt x.all ls us
  some_ops ops rest s u n ks ws ls us g more = (
    record {
      all = more.all;
      after = more.after;
      goes = g.goes ∙ ops_append p core view ops rest g.all g.after more.all more.after more.goes;
      long = omega (arith, g.long, more.counted);
      agree = more.agree;
      give = give_still p core view g.all more.all ks ws (omega (arith, more.counted), more.kept) g.give;
    },
    more.give,
  )

  -- one word more is known
  pub noted : (rest : List PlainOp) (s : program_store.Store) (n k w : ℕ) (ks ws : List ℕ) (g : SoFar rest s n ks ws) → GiveAt g.all (k ∷ []) (w ∷ []) → SoFar rest s n (k ∷ ks) (w ∷ ws)
  noted rest s n k w ks ws g f = record { all = g.all; after = g.after; goes = g.goes; long = g.long; agree = g.agree; give = (f.0, f.1, g.give) }
