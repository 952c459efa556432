-- How statements go that are neither controllers nor transfers.
use Rattle.std.proofs.Common.{◌≡◌, ◌≢◌, ℕ, zero, suc, ◌<◌, ◌⊎◌, inl, inr, ⊎_elim, true, List, [], ◌∷◌, ◌++◌, map, length, get_or, set, refl, sym, ◌∙◌, ap, subst, arith, Contains}
use Rattle.std.specs.Prelude.{Result, Ok, Err}
use Rattle.std.specs.Result.{IsErrAnd, OnOk}
use Rattle.std.proofs.lemmas.List.{get_or-map, length-map, length-set, get_or-set_same, get_or-set_other}
use Rattle.std.proofs.lemmas.List.Elements.{Contains-append_left, Contains-append_right}
use Rattle.sp_words.specs.declared.types.Ty.{Ty}
use Rattle.sp_words.specs.Memory.{fresh_of}
use Rattle.sp_words.specs.Types.{int_type}
use Rattle.sp_words.specs.Words.{IsWord}
use Rattle.sp_tree.specs.Accesses.{write_cell, write_word, enqueue}
use Rattle.sp_tree.specs.Expressions.{mem, dims, word, words, element}
use Rattle.sp_tree.specs.PlainExpression.{PlainExpr, PlainExprs}
use Rattle.sp_tree.specs.PlainProgram.{PlainMem, PlainProgram}
use Rattle.sp_tree.specs.PlainStatement.{declare, name, set_reg, set_out, set_sram, enq}
use Rattle.sp_tree.specs.Sequential.{run, run_kind, name_now}
use Rattle.sp_tree.specs.Shape.{Shape}
use Rattle.sp_tree.specs.Step.{Step, Went, went, ◌>>=◌, ◌>>◌, pure, change}
use Rattle.sp_tree.specs.Store.{Store, hold, name_value}
use Rattle.sp_tree.specs.Streams.{room}
use Rattle.sp_tree.specs.Typing.{Scope, mem_at, with_mem, with_val, IsFreshVal}
use Rattle.sp_seq.specs.declared.state.State.{State}
use Rattle.sp_seq.specs.declared.state.Stop.{Stop}
use Rattle.sp_seq.specs.Running.{Stands, Finished}
use Rattle.sp_seq.specs.States.{store_of, memory_of, halted, Ran, Sees, Keeps, IsStorage, no_memory}
use Rattle.sp_seq.proofs.SeesLemmas.{sees_later}
use Rattle.sp_seq.proofs.StepLemmas.{bind_went, bind_halted}

module _ {A : Type 0} (mems : List PlainMem) (roomy : List ℕ) (scope : Scope) (s : State) where
  pub finished_stop : (w : Went A) (r : Result (Unit {0}) Stop) (t : State) (stop : Stop) → IsErrAnd r (λ y. y ≡ stop) → w ≡ halted stop → Finished mems roomy scope s w r t
  finished_stop w (Ok u) t stop h e = absurd h
  finished_stop w (Err y) t stop h e = e ∙ ap halted (sym h)

pub stands_kept : {mems : List PlainMem} {roomy : List ℕ} {scope : Scope} {s t : State} → Sees mems roomy scope s → Keeps s t → Stands mems roomy scope s t
stands_kept h k = record { sees = sees_later h k; values = ap length k.values; counts = ap length k.counts; left = k.left }

-- the last step of a statement, and nothing after it
pub finished_last : (mems : List PlainMem) (roomy : List ℕ) (scope : Scope) (s now t : State) (w : Went (List Shape)) (step : Step (Unit {0})) (r : Result (Unit {0}) Stop) → Sees mems roomy scope s → Keeps s now
    → w ≡ (step >> pure []) now.left (store_of now) → Ran (step now.left (store_of now)) r t → OnOk r (Keeps now t) → ((x y : State) → Keeps s x → Keeps x y → Keeps s y) → Finished mems roomy scope s w r t
unfolding pure
finished_last mems roomy scope s now t w step (Ok u) h k e ran keeps both = ([], e ∙ bind_went step (λ _. pure []) now.left (store_of now) u t.left (store_of t) ran, stands_kept h (both now t k keeps))
finished_last mems roomy scope s now t w step (Err stop) h k e ran keeps both = e ∙ bind_halted step (λ _. pure []) now.left (store_of now) stop ran

module _ (mems : List PlainMem) (roomy : List ℕ) (place left : ℕ) (s : Store) where
  pub declare_went : (m : ℕ) → run_kind mems roomy (declare m) place left s ≡ went [] left (hold s m (fresh_of (mem mems m).kind (dims mems m) (mem mems m).start []))
  unfolding run ◌>>=◌ pure change
  declare_went m = refl

  pub name_went : (v : ℕ) (e : PlainExpr) (w l : ℕ) (t : Store) → word mems e left s ≡ went w l t → run_kind mems roomy (name v e) place left s ≡ went [] l (name_value t v w)
  unfolding run ◌>>=◌ pure change
  name_went v e w l t r = bind_went (word mems e) (λ w. name_now v w >> pure []) left s w l t r

  pub name_halted : (v : ℕ) (e : PlainExpr) (stop : Stop) → word mems e left s ≡ halted stop → run_kind mems roomy (name v e) place left s ≡ halted stop
  unfolding run
  name_halted v e stop r = bind_halted (word mems e) _ left s stop r

  pub set_reg_went : (m : ℕ) (e : PlainExpr) (w l : ℕ) (t : Store) → word mems e left s ≡ went w l t → (n : ℕ) (u : Store) → write_cell m 0 w l t ≡ went tt n u → run_kind mems roomy (set_reg m e) place left s ≡ went [] n u
  unfolding run pure
  set_reg_went m e w l t r n u q = bind_went (word mems e) (λ w. write_cell m 0 w >> pure []) left s w l t r ∙ bind_went (write_cell m 0 w) (λ _. pure []) l t tt n u q

  pub set_reg_halted : (m : ℕ) (e : PlainExpr) (stop : Stop) → word mems e left s ≡ halted stop → run_kind mems roomy (set_reg m e) place left s ≡ halted stop
  unfolding run
  set_reg_halted m e stop r = bind_halted (word mems e) _ left s stop r

  pub set_out_went : (m : ℕ) (e : PlainExpr) (w l : ℕ) (t : Store) → word mems e left s ≡ went w l t → (n : ℕ) (u : Store) → write_word m 0 w l t ≡ went tt n u → run_kind mems roomy (set_out m e) place left s ≡ went [] n u
  unfolding run pure
  set_out_went m e w l t r n u q = bind_went (word mems e) (λ w. write_word m 0 w >> pure []) left s w l t r ∙ bind_went (write_word m 0 w) (λ _. pure []) l t tt n u q

  pub set_out_halted : (m : ℕ) (e : PlainExpr) (stop : Stop) → word mems e left s ≡ halted stop → run_kind mems roomy (set_out m e) place left s ≡ halted stop
  unfolding run
  set_out_halted m e stop r = bind_halted (word mems e) _ left s stop r

  pub enq_is : (m : ℕ) (e : PlainExpr) (w l : ℕ) (t : Store) → word mems e left s ≡ went w l t → run_kind mems roomy (enq m e) place left s ≡ (enqueue m (room mems roomy m) w place >> pure []) l t
  unfolding run
  enq_is m e w l t r = bind_went (word mems e) (λ w. enqueue m (room mems roomy m) w place >> pure []) left s w l t r

  pub enq_halted : (m : ℕ) (e : PlainExpr) (stop : Stop) → word mems e left s ≡ halted stop → run_kind mems roomy (enq m e) place left s ≡ halted stop
  unfolding run
  enq_halted m e stop r = bind_halted (word mems e) _ left s stop r

  module _ (m : ℕ) (es : PlainExprs) (e : PlainExpr) where
    pub set_sram_is : (is : List ℕ) (l : ℕ) (t : Store) → words mems es left s ≡ went is l t → (w n : ℕ) (u : Store) → word mems e l t ≡ went w n u → run_kind mems roomy (set_sram m es e) place left s ≡ (element mems m place is >>= (λ at. write_cell m at w >> pure [])) n u
    unfolding run
    set_sram_is is l t r w n u q =
        bind_went (words mems es) (λ is. word mems e >>= (λ w. element mems m place is >>= (λ at. write_cell m at w >> pure []))) left s is l t r
        ∙ bind_went (word mems e) (λ w. element mems m place is >>= (λ at. write_cell m at w >> pure [])) l t w n u q

    pub set_sram_halted : (stop : Stop) → words mems es left s ≡ halted stop → run_kind mems roomy (set_sram m es e) place left s ≡ halted stop
    unfolding run
    set_sram_halted stop r = bind_halted (words mems es) _ left s stop r

    pub set_sram_halted_later : (is : List ℕ) (l : ℕ) (t : Store) (stop : Stop) → words mems es left s ≡ went is l t → word mems e l t ≡ halted stop → run_kind mems roomy (set_sram m es e) place left s ≡ halted stop
    unfolding run
    set_sram_halted_later is l t stop r q = bind_went (words mems es) _ left s is l t r ∙ bind_halted (word mems e) _ l t stop q

-- one more that is visible
pub first_or_rest : {A : Type 0} (x y : A) (xs : List A) → Contains (x ∷ xs) y → (x ≡ y) ⊎ Contains xs y
first_or_rest x y xs h = go h.0 h.1 h.2
  where
    go : (k : ℕ) → k < length (x ∷ xs) → get_or (x ∷ xs) k y ≡ y → (x ≡ y) ⊎ Contains xs y
    go zero l e = inl e
    go (suc k) l e = inr (k, omega arith, e)

pub contained_first : {A : Type 0} (x : A) (xs : List A) → Contains (x ∷ xs) x
contained_first x xs = (0, omega arith, refl)

pub sees_mem : {mems : List PlainMem} {roomy : List ℕ} {scope : Scope} {t : State} (m : ℕ) → Sees mems roomy scope t → m < length mems → (memory_of t m).live ≡ true → Sees mems roomy (with_mem scope m) t
sees_mem {mems = mems} {roomy = roomy} {scope = scope} {t = t} m h l live = record {
  declared = h.declared;
  sizes = h.sizes;
  memories = h.memories;
  stored = h.stored;
  live = λ k c. ⊎_elim (λ e. subst (λ j. (j < length mems) × ((memory_of t j).live ≡ true)) e (l, live)) (λ r. h.live k r) (first_or_rest m k scope.mems c);
  values = h.values;
  counters = h.counters;
}

contained-map : {A B : Type 0} (f : A → B) (xs : List A) (x : A) → Contains xs x → Contains (map f xs) (f x)
contained-map f xs x h = (h.0, omega (arith, h.1, length-map xs f), get_or-map f xs h.0 x (f x) h.1 ∙ ap f h.2)

-- a value that has a fresh name is not visible yet
fresh_val : (p : PlainProgram) (scope : Scope) (v : ℕ) (ty : Ty) → IsFreshVal p scope v → Contains scope.vals (v, ty) → ⊥
fresh_val p scope v ty fresh h =
    let mems = map (λ m. (mem_at p m).name) scope.mems in
    let vals = map (λ (x : ℕ × Ty). get_or p.vals x.0 []) scope.vals in
    let counters = map (λ c. get_or p.counters c []) scope.counters in
    fresh (Contains-append_left (mems ++ vals) counters _ (Contains-append_right mems vals _ (contained-map (λ (x : ℕ × Ty). get_or p.vals x.0 []) scope.vals (v, ty) h)))

abbrev Good : ℕ → Ty → List ℕ → Type 0
Good k t2 ws = (k < length ws) × IsWord t2 (get_or ws k 0)

-- a value stands for a word
pub sees_named : {mems : List PlainMem} {roomy : List ℕ} {scope : Scope} {s t : State} (p : PlainProgram) (v : ℕ) (ty : Ty) (w : ℕ) → Sees mems roomy scope s → IsFreshVal p scope v → v < length s.values.items → IsWord ty w
    → t.values.items ≡ set s.values.items v w → t.counts.items ≡ s.counts.items → t.memories.items ≡ s.memories.items → Sees mems roomy (with_val scope v ty) t
sees_named {mems = mems} {roomy = roomy} {scope = scope} {s = s} {t = t} p v ty w h fresh l is e c m = record {
  declared = h.declared;
  sizes = h.sizes;
  memories = ap length m ∙ h.memories;
  stored = λ k b. subst (λ ms. IsStorage (mem mems k) (room mems roomy k) (mem mems k).kind (get_or ms k no_memory).storage) (sym m) (h.stored k b);
  live = λ k b. let x = h.live k b in (x.0, ap (λ ms. (get_or ms k no_memory).live) m ∙ x.1);
  values = λ k t2 b. ⊎_elim (λ q. named k t2 q) (λ r. other k t2 r) (first_or_rest (v, ty) (k, t2) scope.vals b);
  counters = λ k b. subst (λ ws. (k < length ws) × IsWord int_type (get_or ws k 0)) (sym c) (h.counters k b);
}
  where
    named : (k : ℕ) (t2 : Ty) → ◌≡◌ {A = ℕ × Ty} (v, ty) (k, t2) → Good k t2 t.values.items
    named k t2 q = subst (Good k t2) (sym e)
        (subst (λ (x : ℕ × Ty). Good x.0 x.1 (set s.values.items v w)) q (omega (arith, length-set s.values.items v w), subst (IsWord ty) (sym (get_or-set_same s.values.items v w 0 l)) is))

    other : (k : ℕ) (t2 : Ty) → Contains scope.vals (k, t2) → Good k t2 t.values.items
    other k t2 r =
        let x = h.values k t2 r in
        let d : k ≢ v = λ q. fresh_val p scope v t2 fresh (subst (λ j. Contains scope.vals (j, t2)) q r) in
        subst (Good k t2) (sym e) (omega (arith, length-set s.values.items v w, x.0), subst (IsWord t2) (sym (get_or-set_other s.values.items v k w 0 d)) x.1)

-- a write at the end
pub wrote : (m at w left : ℕ) (s : Store) (l : ℕ) (t : Store) → write_cell m at w left s ≡ went tt l t → (write_cell m at w >> pure {A = List Shape} []) left s ≡ went [] l t
unfolding pure
wrote m at w left s l t e = bind_went (write_cell m at w) (λ _. pure []) left s tt l t e
