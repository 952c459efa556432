-- How slices are evaluated, and how their words move.
use Rattle.std.proofs.Common.{◌≡◌, ℕ, zero, suc, ◌+◌, ◌<◌, Bool, true, false, cond, List, [], ◌∷◌, ◌++◌, map, length, get_or, set, take, drop, refl, sym, ◌∙◌, ap, subst, arith}
use Rattle.std.specs.Prelude.{Result, Ok, Err, ◌==◌, ◌||◌}
use Rattle.std.specs.Result.{IsErrAnd, OnOk}
use Rattle.std.proofs.lemmas.List.{take_more, take_more_set}
use Rattle.sp_tree.specs.declared.statement.Span.{Span}
use Rattle.sp_tree.specs.declared.statement.Span.TheVariants.{One, Range}
use Rattle.sp_words.specs.Interface.{word_count}
use Rattle.std.proofs.Math.Nat.{mul-pos}
use Rattle.sp_tree.specs.declared.statement.FaultKind.{FaultKind}
use Rattle.sp_tree.specs.declared.statement.FaultKind.TheVariants.{Bounds, DramBounds}
use Rattle.sp_seq.specs.declared.state.Stop.TheVariants.{Fault}
use Rattle.sp_tree.specs.Accesses.{read_cell, write_cell, read_word, write_word}
use Rattle.sp_tree.specs.Elements.{index_value, row_major}
use Rattle.sp_tree.specs.Expressions.{dims, word}
use Rattle.sp_tree.specs.PlainExpression.{PlainExpr}
use Rattle.sp_tree.specs.PlainProgram.{PlainMem, PlainProgram}
use Rattle.sp_tree.specs.PlainStatement.{PlainSpan, single, range, load_sram, store}
use Rattle.sp_tree.specs.PlainTree.{plain_span}
use Rattle.sp_tree.specs.Sequential.{part, run, run_kind}
use Rattle.sp_tree.specs.Shape.{Shape, moved}
use Rattle.sp_tree.specs.Structure.{slice_lanes}
use Rattle.sp_tree.specs.Step.{Step, Went, went, ◌>>=◌, ◌>>◌, pure, fault, ensure, turn, in_order}
use Rattle.sp_tree.specs.Store.{Store}
use Rattle.sp_tree.specs.Transfers as transfers
use Rattle.sp_tree.specs.Transfers.{has_none}
use Rattle.sp_tree.specs.Typing.{Scope, SpansTyped, range_count}
use Rattle.sp_seq.specs.declared.slice.Part.{Part}
use Rattle.sp_seq.specs.declared.state.State.{State}
use Rattle.sp_seq.specs.declared.state.Stop.{Stop}
use Rattle.sp_seq.specs.Slices.{plain_part, plain_parts, ranges_in, shown, extent_of, offsets_at, CanSlice, RanSome, loaded, stored}
use Rattle.sp_seq.specs.Running.{Finished}
use Rattle.sp_seq.specs.States.{store_of, halted, Ran, Sees, Keeps}
use Rattle.sp_seq.proofs.LoopLemmas.{left_of}
use Rattle.sp_seq.proofs.RunningLemmas.{stands_kept}
use Rattle.sp_seq.proofs.SeesLemmas.{setting_later, keeps_on}
use Rattle.sp_seq.proofs.StepLemmas.{bind_went, bind_halted}

pub ran_stop_shown : (w : Went transfers.Part) (r : Result Part Stop) (t : State) (stop : Stop) → IsErrAnd r (λ y. y ≡ stop) → w ≡ halted stop → Ran w (shown r) t
ran_stop_shown w (Ok p) t stop h e = absurd h
ran_stop_shown w (Err y) t stop h e = e ∙ ap halted (sym h)

module _ (mems : List PlainMem) (left : ℕ) (s : Store) where
  pub single_went : (e : PlainExpr) (w l : ℕ) (t : Store) → word mems e left s ≡ went w l t → part mems (single e) left s ≡ went (transfers.index (index_value w)) l t
  unfolding pure
  single_went e w l t r = bind_went (word mems e) _ left s w l t r

  pub single_halted : (e : PlainExpr) (stop : Stop) → word mems e left s ≡ halted stop → part mems (single e) left s ≡ halted stop
  single_halted e stop r = bind_halted (word mems e) _ left s stop r

  module _ (a b : PlainExpr) (par : ℕ) where
    pub range_halted : (stop : Stop) → word mems a left s ≡ halted stop → part mems (range a b par) left s ≡ halted stop
    range_halted stop r = bind_halted (word mems a) _ left s stop r

    pub range_halted_later : (w l : ℕ) (t : Store) (stop : Stop) → word mems a left s ≡ went w l t → word mems b l t ≡ halted stop → part mems (range a b par) left s ≡ halted stop
    range_halted_later w l t stop r q = bind_went (word mems a) _ left s w l t r ∙ bind_halted (word mems b) _ l t stop q

    pub range_went : (w l : ℕ) (t : Store) (v n : ℕ) (u : Store) → word mems a left s ≡ went w l t → word mems b l t ≡ went v n u → part mems (range a b par) left s ≡ went (transfers.between (index_value w) (index_value v)) n u
    unfolding pure
    range_went w l t v n u r q = bind_went (word mems a) _ left s w l t r ∙ bind_went (word mems b) _ l t v n u q

-- each span is typed
first_typed : (p : PlainProgram) (scope : Scope) (y : Span) (ys : List PlainSpan) → SpansTyped p scope (plain_span y ∷ ys) → SpansTyped p scope (plain_span y ∷ [])
first_typed p scope (One e) ys h = (h.0, tt)
first_typed p scope (Range a b par) ys h = (h.0, h.1, h.2, tt)

rest_typed : (p : PlainProgram) (scope : Scope) (y : Span) (ys : List PlainSpan) → SpansTyped p scope (plain_span y ∷ ys) → SpansTyped p scope ys
rest_typed p scope (One e) ys h = h.1
rest_typed p scope (Range a b par) ys h = h.3

pub span_typed : (p : PlainProgram) (scope : Scope) (spans : List Span) → SpansTyped p scope (map plain_span spans) → (k : ℕ) (x : Span) → k < length spans → x ≡ get_or spans k x → SpansTyped p scope (plain_span x ∷ [])
span_typed p scope [] h k x l e = absurd (omega arith)
span_typed p scope (y ∷ ys) h zero x l e = subst (λ z. SpansTyped p scope (plain_span z ∷ [])) (sym e) (first_typed p scope y (map plain_span ys) h)
span_typed p scope (y ∷ ys) h (suc k) x l e = span_typed p scope ys (rest_typed p scope y (map plain_span ys) h) k x (omega arith) e

pub parts-push : (ps : List Part) (p : Part) → plain_parts (ps ++ p ∷ []) ≡ plain_parts ps ++ plain_part p ∷ []
parts-push [] p = refl
parts-push (q ∷ ps) p = ap (λ xs. plain_part q ∷ xs) (parts-push ps p)

pub record PartsGo (mems : List PlainMem) (start : State) (spans : List Span) (now : State) (found : List Part) (k : ℕ) : Type 0 where
  pub so_far : in_order (part mems) (map plain_span spans) start.left (store_of start) ≡ left_of (part mems) (plain_parts (take k found)) (drop k (map plain_span spans)) now.left (store_of now)
  pub keeps : Keeps start now
  pub ranges : length (transfers.lengths (plain_parts (take k found))) ≡ range_count (map plain_span (take k spans))

lengths-push : (ps : List transfers.Part) (p : transfers.Part) → length (transfers.lengths (ps ++ p ∷ [])) ≡ length (transfers.lengths ps) + ranges_in p
lengths-push [] (transfers.index i) = refl
lengths-push [] (transfers.between a b) = refl
lengths-push (transfers.index i ∷ ps) p = lengths-push ps p
lengths-push (transfers.between a b ∷ ps) p = let h = lengths-push ps p in omega arith

ranges-push : (xs : List Span) (x : Span) → range_count (map plain_span (xs ++ x ∷ [])) ≡ range_count (map plain_span xs) + range_count (plain_span x ∷ [])
ranges-push [] x = omega arith
ranges-push (One e ∷ xs) x = ranges-push xs x
ranges-push (Range a b par ∷ xs) x = let h = ranges-push xs x in omega arith

pub one_more_range : (found : List Part) (k : ℕ) (p : Part) (spans : List Span) (x : Span) → k < length spans → k < length found → x ≡ get_or spans k x
    → length (transfers.lengths (plain_parts (take k found))) ≡ range_count (map plain_span (take k spans)) → ranges_in (plain_part p) ≡ range_count (plain_span x ∷ [])
    → length (transfers.lengths (plain_parts (take (k + 1) (set found k p)))) ≡ range_count (map plain_span (take (k + 1) spans))
one_more_range found k p spans x l m e h r =
    let left = ap (λ ps. length (transfers.lengths (plain_parts ps))) (take_more_set found k p m) ∙ ap (λ qs. length (transfers.lengths qs)) (parts-push (take k found) p) ∙ lengths-push (plain_parts (take k found)) (plain_part p) in
    let right = ap (λ xs. range_count (map plain_span xs)) (take_more spans k x l) ∙ ap (λ y. range_count (map plain_span (take k spans ++ y ∷ []))) (sym e) ∙ ranges-push (take k spans) x in
    omega (arith, left, right, h, r)

-- one word
module _ (mems : List PlainMem) (place sram dram : ℕ) (parts : List transfers.Part) (offsets : List ℕ) (left : ℕ) (s : Store) (d c : ℕ) (e : d ≡ row_major (dims mems dram) (transfers.places_of parts offsets)) (f : c ≡ row_major (dims mems sram) offsets) where
  loaded_read : (w : ℕ) → read_word dram d left s ≡ went w left s → loaded mems place sram dram parts offsets left s ≡ (turn >> write_cell sram c w) left s
  loaded_read w r =
      bind_went (read_word dram (row_major (dims mems dram) (transfers.places_of parts offsets))) _ left s w left s (ap (λ x. read_word dram x left s) (sym e) ∙ r) ∙ ap (λ x. (turn >> write_cell sram x w) left s) (sym f)

  pub loaded_spent : (w : ℕ) (stop : Stop) → read_word dram d left s ≡ went w left s → turn left s ≡ halted stop → loaded mems place sram dram parts offsets left s ≡ halted stop
  loaded_spent w stop r q = loaded_read w r ∙ bind_halted turn _ left s stop q

  pub loaded_went : (w l : ℕ) (t : Store) (n : ℕ) (u : Store) → read_word dram d left s ≡ went w left s → turn left s ≡ went tt l t → write_cell sram c w l t ≡ went tt n u → loaded mems place sram dram parts offsets left s ≡ went tt n u
  loaded_went w l t n u r q x = loaded_read w r ∙ bind_went turn _ left s tt l t q ∙ x

  stored_read : (w : ℕ) → read_cell sram c place left s ≡ went w left s → stored mems place sram dram parts offsets left s ≡ (turn >> write_word dram d w) left s
  stored_read w r =
      bind_went (read_cell sram (row_major (dims mems sram) offsets) place) _ left s w left s (ap (λ x. read_cell sram x place left s) (sym f) ∙ r) ∙ ap (λ x. (turn >> write_word dram x w) left s) (sym e)

  pub stored_unread : (stop : Stop) → read_cell sram c place left s ≡ halted stop → stored mems place sram dram parts offsets left s ≡ halted stop
  stored_unread stop r = bind_halted (read_cell sram (row_major (dims mems sram) offsets) place) _ left s stop (ap (λ x. read_cell sram x place left s) (sym f) ∙ r)

  pub stored_spent : (w : ℕ) (stop : Stop) → read_cell sram c place left s ≡ went w left s → turn left s ≡ halted stop → stored mems place sram dram parts offsets left s ≡ halted stop
  stored_spent w stop r q = stored_read w r ∙ bind_halted turn _ left s stop q

  pub stored_went : (w l : ℕ) (t : Store) (n : ℕ) (u : Store) → read_cell sram c place left s ≡ went w left s → turn left s ≡ went tt l t → write_word dram d w l t ≡ went tt n u → stored mems place sram dram parts offsets left s ≡ went tt n u
  stored_went w l t n u r q x = stored_read w r ∙ bind_went turn _ left s tt l t q ∙ x

some_words : (ns : List ℕ) → has_none ns ≡ false → 0 < word_count ns
some_words [] e = omega arith
some_words (n ∷ ns) e = mul-pos {m = n} {n = word_count ns} (not_zero n (has_none ns) e) (some_words ns (not_none (n == 0) (has_none ns) e))
  where
    not_none : (a b : Bool) → (a || b) ≡ false → b ≡ false
    not_none true b e = absurd (cc)
    not_none false b e = e

    not_zero : (n : ℕ) (b : Bool) → ((n == 0) || b) ≡ false → 0 < n
    not_zero zero b e = absurd (cc)
    not_zero (suc n) b e = omega arith

-- a transfer by its extent
module _ {A : Type 0} (place : ℕ) (dims : List ℕ) (parts : List transfers.Part) (too_long : FaultKind) (limits : List ℕ) (move : Step A) (left : ℕ) (s : Store) where
  by_tests : (none inside fit : Bool) → Result ℕ Stop
  by_tests none inside fit = cond none (Ok 0) (cond inside (cond fit (Ok (word_count (transfers.lengths parts))) (Err (Fault too_long place))) (Err (Fault DramBounds place)))

  moved_by : (none inside fit : Bool) → Went (Unit {0})
  moved_by none inside fit = (elim none as (λ _. Step (Unit {0})) [ true ↦ pure tt | false ↦ (ensure inside DramBounds place >> (ensure fit too_long place >> (move >>= (λ _. pure tt)))) ]) left s

  stops : (none inside fit : Bool) (stop : Stop) → by_tests none inside fit ≡ Err stop → moved_by none inside fit ≡ halted stop
  unfolding by_tests moved_by ◌>>=◌ pure fault
  stops true inside fit stop e = absurd (cc)
  stops false true true stop e = absurd (cc)
  stops false true false stop e = let same : Fault too_long place ≡ stop = cc in ap halted same
  stops false false fit stop e = let same : Fault DramBounds place ≡ stop = cc in ap halted same

  nothing : (none inside fit : Bool) → none ≡ has_none (transfers.lengths parts) → by_tests none inside fit ≡ Ok 0 → moved_by none inside fit ≡ went tt left s
  unfolding by_tests moved_by pure
  nothing true inside fit q e = refl
  nothing false true true q e = absurd (omega (arith, some_words (transfers.lengths parts) (sym q), zero_of _ e))
    where
      zero_of : (n : ℕ) → ◌≡◌ {A = Result ℕ Stop} (Ok n) (Ok 0) → n ≡ 0
      zero_of n e = cc
  nothing false true false q e = absurd (cc)
  nothing false false fit q e = absurd (cc)

  pub extent_stops : (stop : Stop) → extent_of dims parts too_long limits place ≡ Err stop → transfers.transfer place dims parts too_long limits move left s ≡ halted stop
  unfolding by_tests moved_by
  extent_stops stop e = stops (has_none (transfers.lengths parts)) (transfers.are_parts_inside dims parts) (transfers.do_fit limits (transfers.lengths parts)) stop e

  pub extent_nothing : extent_of dims parts too_long limits place ≡ Ok 0 → transfers.transfer place dims parts too_long limits move left s ≡ went tt left s
  unfolding by_tests moved_by
  extent_nothing e = nothing (has_none (transfers.lengths parts)) (transfers.are_parts_inside dims parts) (transfers.do_fit limits (transfers.lengths parts)) refl e

  moves : (none inside fit : Bool) (n : ℕ) → by_tests none inside fit ≡ Ok n → 0 < n → (inside ≡ true) × (fit ≡ true) × (n ≡ word_count (transfers.lengths parts)) × (moved_by none inside fit ≡ (move >>= (λ _. pure tt)) left s)
  unfolding by_tests moved_by ◌>>=◌ pure
  moves true inside fit n e l = absurd (omega (arith, zero_of n e))
    where
      zero_of : (n : ℕ) → ◌≡◌ {A = Result ℕ Stop} (Ok 0) (Ok n) → n ≡ 0
      zero_of n e = cc
  moves false true true n e l = (refl, refl, cc, refl)
  moves false true false n e l = absurd (cc)
  moves false false fit n e l = absurd (cc)

  pub extent_moves : (n : ℕ) → extent_of dims parts too_long limits place ≡ Ok n → 0 < n
      → (transfers.are_parts_inside dims parts ≡ true) × (transfers.do_fit limits (transfers.lengths parts) ≡ true) × (n ≡ word_count (transfers.lengths parts)) × (transfers.transfer place dims parts too_long limits move left s ≡ (move >>= (λ _. pure tt)) left s)
  unfolding by_tests moved_by
  extent_moves n e l = moves (has_none (transfers.lengths parts)) (transfers.are_parts_inside dims parts) (transfers.do_fit limits (transfers.lengths parts)) n e l

pub ran_stop_some : {A : Type 0} (w : Went A) (r : Result (Unit {0}) Stop) (t : State) (stop : Stop) → IsErrAnd r (λ y. y ≡ stop) → w ≡ halted stop → RanSome w r t
ran_stop_some w (Ok u) t stop h e = absurd h
ran_stop_some w (Err y) t stop h e = e ∙ ap halted (sym h)

pub slice_later : {mems : List PlainMem} {s t : State} {sram dram : ℕ} {parts : List transfers.Part} → CanSlice mems s sram dram parts → Keeps s t → CanSlice mems t sram dram parts
slice_later h k = record { setting = setting_later h.setting k; ty = h.ty; on_chip = h.on_chip; outside = h.outside; inside = h.inside; limited = h.limited }

pub offset_get : (parts : List transfers.Part) (k : ℕ) → get_or (transfers.all_offsets parts) k [] ≡ offsets_at parts k
unfolding offsets_at
offset_get parts k = refl

-- the whole of a load, and of a store
module _ (mems : List PlainMem) (roomy : List ℕ) (place left : ℕ) (s : Store) (sram dram : ℕ) (spans : List PlainSpan) where
  pub load_halted : (stop : Stop) → in_order (part mems) spans left s ≡ halted stop → run_kind mems roomy (load_sram sram dram spans) place left s ≡ halted stop
  unfolding run
  load_halted stop r = bind_halted (in_order (part mems) spans) _ left s stop r

  pub store_halted : (stop : Stop) → in_order (part mems) spans left s ≡ halted stop → run_kind mems roomy (store dram spans sram) place left s ≡ halted stop
  unfolding run
  store_halted stop r = bind_halted (in_order (part mems) spans) _ left s stop r

  module _ (parts : List transfers.Part) (l : ℕ) (t : Store) (r : in_order (part mems) spans left s ≡ went parts l t) where
    abbrev pub the_load : Step (Unit {0})
    the_load = transfers.transfer place (dims mems dram) parts Bounds (dims mems sram) (transfers.load_words sram (dims mems sram) dram (dims mems dram) parts)

    abbrev pub the_store : Step (Unit {0})
    the_store = transfers.transfer place (dims mems dram) parts Bounds (dims mems sram) (transfers.store_words place sram (dims mems sram) dram (dims mems dram) parts)

    pub load_stops : (stop : Stop) → the_load l t ≡ halted stop → run_kind mems roomy (load_sram sram dram spans) place left s ≡ halted stop
    unfolding run
    load_stops stop q = bind_went (in_order (part mems) spans) _ left s parts l t r ∙ bind_halted the_load _ l t stop q

    pub load_done : (n : ℕ) (u : Store) → the_load l t ≡ went tt n u → run_kind mems roomy (load_sram sram dram spans) place left s ≡ went (moved (transfers.words_by_lane (slice_lanes spans) (transfers.lengths parts)) ∷ []) n u
    unfolding run pure
    load_done n u q = bind_went (in_order (part mems) spans) _ left s parts l t r ∙ bind_went the_load _ l t tt n u q

    pub store_stops : (stop : Stop) → the_store l t ≡ halted stop → run_kind mems roomy (store dram spans sram) place left s ≡ halted stop
    unfolding run
    store_stops stop q = bind_went (in_order (part mems) spans) _ left s parts l t r ∙ bind_halted the_store _ l t stop q

    pub store_done : (n : ℕ) (u : Store) → the_store l t ≡ went tt n u → run_kind mems roomy (store dram spans sram) place left s ≡ went (moved (transfers.words_by_lane (slice_lanes spans) (transfers.lengths parts)) ∷ []) n u
    unfolding run pure
    store_done n u q = bind_went (in_order (part mems) spans) _ left s parts l t r ∙ bind_went the_store _ l t tt n u q

-- what is moved, and nothing after it
pub finished_moved : {A : Type 0} (mems : List PlainMem) (roomy : List ℕ) (scope : Scope) (s u t : State) (whole : Went (List Shape)) (shape : List Shape) (move : Step A) (r : Result (Unit {0}) Stop)
    → Sees mems roomy scope s → Keeps s u → RanSome (move u.left (store_of u)) r t → OnOk r (Keeps u t)
    → ((stop : Stop) → (move >>= (λ (x : A). pure {A = Unit {0}} tt)) u.left (store_of u) ≡ halted stop → whole ≡ halted stop)
    → ((n : ℕ) (v : Store) → (move >>= (λ (x : A). pure {A = Unit {0}} tt)) u.left (store_of u) ≡ went (tt {0}) n v → whole ≡ went shape n v)
    → Finished mems roomy scope s whole r t
unfolding pure
finished_moved {A = A} mems roomy scope s u t whole shape move (Ok x) h k ran keeps stops done =
    (shape, done t.left (store_of t) (bind_went move (λ (x : A). pure {A = Unit {0}} tt) u.left (store_of u) ran.0 t.left (store_of t) ran.1), stands_kept h (keeps_on s u t k keeps))
finished_moved {A = A} mems roomy scope s u t whole shape move (Err stop) h k ran keeps stops done = stops stop (bind_halted move (λ (x : A). pure {A = Unit {0}} tt) u.left (store_of u) stop ran)

pub length-parts : (ps : List Part) → length (plain_parts ps) ≡ length ps
length-parts [] = refl
length-parts (p ∷ ps) = let h = length-parts ps in omega arith
