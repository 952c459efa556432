-- Operations that go on, one after the other.
use Rattle.std.proofs.Common.{◌≡◌, ℕ, ◌+◌, ◌<◌, ◌≤◌, List, [], ◌∷◌, ◌++◌, Option, None, refl, sym, ◌∙◌, ap, subst, arith, length-append}
use Rattle.std.proofs.lemmas.List.{get_or_append_left}
use Rattle.std.specs.Prelude.{length, map}
use Rattle.sp_words.specs.declared.types.Ty.{Ty}
use Rattle.sp_tree.specs.PlainProgram.{PlainProgram}
use Rattle.sp_tree.specs.Store as program
use Rattle.sp_tree.specs.Typing.{Scope}
use Rattle.sp_core.specs.declared.operation.OpKind.{OpKind}
use Rattle.sp_core.specs.History.{Entry, left_out, word_of, word_at}
use Rattle.sp_core.specs.Operations.{done_by, operation, operations_after}
use Rattle.sp_core.specs.PlainCore.{PlainOp, PlainCore}
use Rattle.sp_core.specs.Step.{went, pure}
use Rattle.sp_core.specs.Store as store
use Rattle.sp_sugar.specs.Agreement.{View, Finds, Agree, GiveAt, GoOn}
use Rattle.sp_sugar.specs.Values.{Source, at_place, in_register, constant, count}
use Rattle.sp_sugar.proofs.StepLemmas.{then_on, same_core_answer, same_core_store, core_apart}

-- the words at places stay as the list of entries grows
abbrev pub Keeps : (done all : List Entry) → Type 0
Keeps done all = (length done ≤ length all) × ((k : ℕ) → k < length done → word_at all k ≡ word_at done k)

pub keeps_front : (done es : List Entry) → Keeps done (done ++ es)
keeps_front done es = (omega (arith, length-append done es), λ k lt. ap word_of (get_or_append_left done es left_out k lt))

pub at_end : (xs : List Entry) (e : Entry) → word_at (xs ++ e ∷ []) (length xs) ≡ word_of e
at_end [] e = refl
at_end (x ∷ xs) e = at_end xs e

module _ (p : PlainProgram) (core : PlainCore) (view : View) where
  finds_still : (done all : List Entry) (t : store.Store) (source : Source) (w : ℕ) → Keeps done all → Finds p core view.around done t source w → Finds p core view.around all t source w
  finds_still done all t (at_place k) w h f = (omega (arith, h.0, f.0), h.1 k f.0 ∙ f.1)
  finds_still done all t (in_register r) w h f = f
  finds_still done all t (constant c) w h f = f
  finds_still done all t (count c) w h f = f

  pub agree_still : (done all : List Entry) (s : program.Store) (t : store.Store) → Keeps done all → Agree p core view done s t → Agree p core view all s t
  agree_still done all s t h a = record {
    mems = a.mems;
    vals = λ v c. finds_still done all t (view.sources v.0) (s.values v.0) h (a.vals v c);
    counts = a.counts;
    waiting = a.waiting;
    registers = a.registers;
  }

  pub agree_in : (scope : Scope) (waiting : List ℕ) (done all : List Entry) (s : program.Store) (t : store.Store) → Keeps done all → Agree p core (record view { scope = scope; waiting = waiting }) done s t → Agree p core (record view { scope = scope; waiting = waiting }) all s t
  agree_in scope waiting done all s t h a = record {
    mems = a.mems;
    vals = λ v c. finds_still done all t (view.sources v.0) (s.values v.0) h (a.vals v c);
    counts = a.counts;
    waiting = a.waiting;
    registers = a.registers;
  }

  pub give_still : (done all : List Entry) (places words : List ℕ) → Keeps done all → GiveAt done places words → GiveAt all places words
  give_still done all [] [] h g = tt
  give_still done all [] (w ∷ words) h g = absurd g
  give_still done all (k ∷ places) [] h g = absurd g
  give_still done all (k ∷ places) (w ∷ words) h g = (omega (arith, h.0, g.0), h.1 k g.0 ∙ g.1, give_still done all places words h g.2)

  give_both : (all : List Entry) (ks ls ws us : List ℕ) → GiveAt all ks ws → GiveAt all ls us → GiveAt all (ks ++ ls) (ws ++ us)
  give_both all [] ls [] us g h = h
  give_both all [] ls (w ∷ ws) us g h = absurd g
  give_both all (k ∷ ks) ls [] us g h = absurd g
  give_both all (k ∷ ks) ls (w ∷ ws) us g h = (g.0, g.1, give_both all ks ls ws us g.2 h)

  words_given : (all : List Entry) (places words : List ℕ) → GiveAt all places words → map (word_at all) places ≡ words
  words_given all [] [] g = refl
  words_given all [] (w ∷ words) g = absurd g
  words_given all (k ∷ places) [] g = absurd g
  words_given all (k ∷ places) (w ∷ words) g = ap (λ x. x ∷ map (word_at all) places) g.1 ∙ ap (λ xs. w ∷ xs) (words_given all places words g.2)

  -- one list of operations after another
  pub ops_append : (ops more : List PlainOp) (done : List Entry) (t : store.Store) (all : List Entry) (u : store.Store)
      → operations_after core view.around done ops t ≡ went all u → operations_after core view.around done (ops ++ more) t ≡ operations_after core view.around all more u
  unfolding operations_after pure
  ops_append [] more done t all u e =
      ap (λ x. operations_after core view.around x more t) (same_core_answer done all t u e) ∙ ap (λ x. operations_after core view.around all more x) (same_core_store done all t u e)
  ops_append (op ∷ ops) more done t all u e =
      let b = core_apart (operation core view.around op done) (λ x. operations_after core view.around (done ++ x ∷ []) ops) t all u e in
      then_on (operation core view.around op done) (λ x. operations_after core view.around (done ++ x ∷ []) (ops ++ more)) t b.answer b.store b.first ∙ ops_append ops more (done ++ b.answer ∷ []) b.store all u b.second

  -- one operation, by the words of its operands
  only : (kind : OpKind) (ty : Ty) (ks ws : List ℕ) (m : Option ℕ) (e : Entry) (done : List Entry) (t after : store.Store) → map (word_at done) ks ≡ ws → done_by core view.around kind ty m ws t ≡ went e after
      → operations_after core view.around done (record { kind = kind; ty = ty; args = ks; mem = m; mask = None } ∷ []) t ≡ went (done ++ e ∷ []) after
  unfolding operations_after pure
  only kind ty ks ws m e done t after same h =
      then_on (operation core view.around (record { kind = kind; ty = ty; args = ks; mem = m; mask = None }) done) (λ x. operations_after core view.around (done ++ x ∷ []) []) t e after
      (subst (λ xs. done_by core view.around kind ty m xs t ≡ went e after) (sym same) h)

  -- nothing to do
  unfoldable pub at_rest : (done : List Entry) (s : program.Store) (t : store.Store) → Agree p core view done s t → GoOn p core view done [] t s [] []
  unfolding operations_after pure
  at_rest done s t a = record { all = done; after = t; goes = refl; counted = omega arith; kept = λ k lt. refl; agree = a; give = tt }

  -- nothing to do for a word that stands already
  pub in_place : (done : List Entry) (s : program.Store) (t : store.Store) (k w : ℕ) → Agree p core view done s t → (k < length done) × (word_at done k ≡ w) → GoOn p core view done [] t s (k ∷ []) (w ∷ [])
  unfolding operations_after pure
  in_place done s t k w a f = record { all = done; after = t; goes = refl; counted = omega arith; kept = λ k lt. refl; agree = a; give = (f.0, f.1, tt) }

  -- some operations, and then others
  pub then_others : (done : List Entry) (ops more : List PlainOp) (t : store.Store) (s u : program.Store) (ks ls ws us : List ℕ)
      → (one : GoOn p core view done ops t s ks ws) → GoOn p core view one.all more one.after u ls us
      → GoOn p core view done (ops ++ more) t u (ks ++ ls) (ws ++ us)
  then_others done ops more t s u ks ls ws us one two = record {
    all = two.all;
    after = two.after;
    goes = ops_append ops more done t one.all one.after one.goes ∙ two.goes;
    counted = omega (arith, one.counted, two.counted, length-append ops more);
    kept = λ k lt. two.kept k (omega (arith, one.counted)) ∙ one.kept k lt;
    agree = two.agree;
    give = give_both two.all ks ls ws us (give_still one.all two.all ks ws (omega (arith, two.counted), two.kept) one.give) two.give;
  }

  -- some operations, and then one by their words, after which other memories may be visible
  pub then_one_in : (scope : Scope) (waiting : List ℕ) (done : List Entry) (ops : List PlainOp) (t : store.Store) (s u : program.Store) (ks ws : List ℕ) (kind : OpKind) (ty : Ty) (m : Option ℕ) (e : Entry) (after : store.Store) (place : ℕ)
      → (one : GoOn p core view done ops t s ks ws) → done_by core view.around kind ty m ws one.after ≡ went e after → Agree p core (record view { scope = scope; waiting = waiting }) one.all u after → place ≡ length done + length ops
      → GoOn p core (record view { scope = scope; waiting = waiting }) done (ops ++ record { kind = kind; ty = ty; args = ks; mem = m; mask = None } ∷ []) t u (place ∷ []) (word_of e ∷ [])
  then_one_in scope waiting done ops t s u ks ws kind ty m e after place one h a at = record {
    all = one.all ++ e ∷ [];
    after = after;
    goes = ops_append ops (record { kind = kind; ty = ty; args = ks; mem = m; mask = None } ∷ []) done t one.all one.after one.goes ∙ only kind ty ks ws m e one.all one.after after (words_given one.all ks ws one.give) h;
    counted = omega (arith, one.counted, length-append one.all (e ∷ []), length-append ops (record { kind = kind; ty = ty; args = ks; mem = m; mask = None } ∷ []));
    kept = λ k lt. (keeps_front one.all (e ∷ [])).1 k (omega (arith, one.counted)) ∙ one.kept k lt;
    agree = agree_in scope waiting one.all (one.all ++ e ∷ []) u after (keeps_front one.all (e ∷ [])) a;
    give = (omega (arith, one.counted, length-append one.all (e ∷ [])), ap (λ k. word_at (one.all ++ e ∷ []) k) (at ∙ sym one.counted) ∙ at_end one.all e, tt);
  }

  pub then_one : (done : List Entry) (ops : List PlainOp) (t : store.Store) (s u : program.Store) (ks ws : List ℕ) (kind : OpKind) (ty : Ty) (m : Option ℕ) (e : Entry) (after : store.Store) (place : ℕ)
      → (one : GoOn p core view done ops t s ks ws) → done_by core view.around kind ty m ws one.after ≡ went e after → Agree p core view one.all u after → place ≡ length done + length ops
      → GoOn p core view done (ops ++ record { kind = kind; ty = ty; args = ks; mem = m; mask = None } ∷ []) t u (place ∷ []) (word_of e ∷ [])
  then_one = then_one_in view.scope view.waiting

  -- one operation alone
  pub alone_on : (done : List Entry) (t : store.Store) (s u : program.Store) (kind : OpKind) (ty : Ty) (m : Option ℕ) (e : Entry) (after : store.Store) (place : ℕ)
      → Agree p core view done s t → done_by core view.around kind ty m [] t ≡ went e after → Agree p core view done u after → place ≡ length done
      → GoOn p core view done (record { kind = kind; ty = ty; args = []; mem = m; mask = None } ∷ []) t u (place ∷ []) (word_of e ∷ [])
  unfolding at_rest
  alone_on done t s u kind ty m e after place a h b at = then_one done [] t s u [] [] kind ty m e after place (at_rest done s t a) h b (omega (arith, at))
