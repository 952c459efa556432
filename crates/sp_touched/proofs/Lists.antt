-- The accesses of a list of operations, as targets of their spots.
use Rattle.std.proofs.Common.{◌≡◌, ℕ, suc, ◌+◌, true, ℤ, pos, negsuc, List, [], ◌∷◌, ◌++◌, length, map, take, append_assoc, append-nil, Option, Some, None, refl, sym, ap, ◌∙◌, subst, arith, zero-add, if◌then◌else◌}
use Rattle.std.specs.Prelude.{slice_index_or, nat_lt}
use Rattle.std.specs.List.{list_all, Contains}
use Rattle.std.proofs.lemmas.Bool.{and_parts, and_from, false≢true}
use Rattle.std.proofs.lemmas.List.Elements.{Contains-append_left, Contains-append_right}
use Rattle.std.proofs.Math.Seq.{get_or-append_seam}
use Rattle.sp_words.specs.declared.kind.Kind.{Kind}
use Rattle.sp_words.specs.declared.kind.Kind.TheVariants.{Reg, Sram, Fifo, LineBuf, Dram, ArgIn, ArgOut}
use Rattle.sp_words.specs.declared.types.Ty.{Ty}
use Rattle.sp_affine.specs.Affine.{Affine}
use Rattle.sp_core.specs.declared.operation.OpKind.{OpKind}
use Rattle.sp_core.specs.declared.operation.OpKind.TheVariants.{Read, Write, Enq, Deq, Reset}
use Rattle.sp_core.specs.Accesses.{read_in, write_in, inside}
use Rattle.sp_core.specs.Around.{Around}
use Rattle.sp_core.specs.Declarations.{mem, kind_of, dims}
use Rattle.sp_core.specs.Elements.{index_value, natural, is_below, are_inside}
use Rattle.sp_core.specs.Events.{Act, reads, writes, act_of, Standing, Event, Moment, touches, event_of, entry_moments, list_moments}
use Rattle.sp_core.specs.Forms.{symbol_in, are_indices, are_known_indices, form_at, holds_of_event, hold_in}
use Rattle.sp_core.specs.History.{Entry, left_out, gave, touched, word_at}
use Rattle.sp_core.specs.Meeting.{changes}
use Rattle.sp_core.specs.Numbered.{plain, accesses, numbered}
use Rattle.sp_core.specs.OperationRules.{is_access, can, can_write, are_operations_right}
use Rattle.sp_core.specs.Operations.{done_by, operation, operations}
use Rattle.sp_core.specs.PlainCore.{PlainOp, PlainCore}
use Rattle.sp_core.specs.Replay.{after_moment}
use Rattle.sp_core.specs.Scope.{Scope}
use Rattle.sp_core.specs.Step.{went}
use Rattle.sp_core.specs.Store.{Store}
use Rattle.sp_core.specs.Typed.{rank_of}
use Rattle.sp_deps.specs.declared.access.LoopRange.{LoopRange}
use Rattle.sp_deps.specs.Groups.{HaveValues, HaveLength}
use Rattle.sp_hold.proofs.ListSteps.{at_place}
use Rattle.sp_hold.proofs.Orderly.{all_allowed}
use Rattle.sp_hold.proofs.Steady.{unmasked}
use Rattle.sp_hold.proofs.Steps.{bound, was_pure, was_ensured}
use Rattle.sp_hold.specs.Values.{AreValues, is_allowed, is_allowed_at}
use Rattle.sp_patterns.specs.Indices.{known_after, indices_at, access_forms, index_form}
use Rattle.sp_patterns.specs.Forms.{forms_of}
use Rattle.sp_patterns.specs.Patterns.{patterns_of}
use Rattle.sp_patterns.specs.Ranges.{PlainAround}
use Rattle.sp_forms_hold.specs.RunsLaws.{IsPlaced}
use Rattle.sp_forms_hold.specs.RunsStanding.{ListStands, PartsStand}
use Rattle.sp_meets.specs.Around.{PlainLevel}
use Rattle.sp_meets.specs.Sites.{counters_of, indices_by}
use Rattle.sp_meets.specs.Spots.{PlainSpot, is_write, operand_places, op_targets, op_spots, list_spots, spots}
use Rattle.sp_along.specs.AlongSymbols.{EachIn}
use Rattle.sp_touched.specs.Touched.{AreSteps, IsInside, IsTouched, Touches}
use Rattle.sp_touched.proofs.Lengths.{access_have}
use Rattle.sp_touched.proofs.OfSymbols.{RowHas, access_symbols, its_symbols}

-- the counters of the controllers around, with their ranges
pub record IsAround (path : List PlainLevel) (around : PlainAround) : Type 0 where
  pub ranges : around.ranges ≡ map (λ (l : LoopRange). l.from) (counters_of path)
  pub size : length around.places ≡ length (counters_of path)
  pub go_on : AreSteps (counters_of path)

have_values : (ls : List LoopRange) (vs : List ℤ) → AreValues (map (λ (l : LoopRange). l.from) ls) vs → HaveValues ls vs
have_values [] [] h = tt
have_values [] (v ∷ vs) h = absurd h
have_values (l ∷ ls) [] h = absurd h
have_values (l ∷ ls) (v ∷ vs) (in_range, int, rest) = (in_range, have_values ls vs rest)

pub values_around : (path : List PlainLevel) (around : PlainAround) (scope : Scope) (vs : List ℤ) → IsAround path around → IsPlaced scope around vs → HaveValues (counters_of path) vs
values_around path around scope vs a p = have_values (counters_of path) vs (subst (λ r. AreValues r vs) a.ranges p.in_ranges)

-- the words of indices that are inside
inside_numbers : (ds ws : List ℕ) → are_inside ds (map index_value ws) ≡ true → are_inside ds (map pos (map (λ i. natural (index_value i)) ws)) ≡ true
inside_numbers [] [] h = refl
inside_numbers [] (w ∷ ws) h = h
inside_numbers (d ∷ ds) [] h = h
inside_numbers (d ∷ ds) (w ∷ ws) h =
    let a = and_parts (is_below (index_value w) d) (are_inside ds (map index_value ws)) h in
    and_from (is_below (pos (natural (index_value w))) d) (are_inside ds (map pos (map (λ i. natural (index_value i)) ws))) (its_number (index_value w) d a.0) (inside_numbers ds ws a.1)
  where
    its_number : (z : ℤ) (d : ℕ) → is_below z d ≡ true → is_below (pos (natural z)) d ≡ true
    its_number (pos n) d h = h
    its_number (negsuc n) d h = absurd (false≢true h)

same_indices : (is js : List ℕ) (w x : ℕ) → touched is w ≡ touched js x → is ≡ js
same_indices is js w x h = cc

-- an access without indices has none
no_indices : (core : PlainCore) (is : List ℕ) (counters : List ℤ) (symbols : ℕ → ℤ) → are_indices core (patterns_of core) [] (map pos is) counters symbols ≡ true → is ≡ []
no_indices core [] counters symbols h = refl
no_indices core (i ∷ is) counters symbols h = absurd (false≢true h)

none_taken : {A : Type 0} (xs : List A) → take 0 xs ≡ []
none_taken [] = refl
none_taken (x ∷ xs) = refl

module _ (core : PlainCore) where
  -- where a read or a write took its indices
  abbrev AreThere : (m : ℕ) → (is : List ℕ) → Type 0
  AreThere m is = are_inside (dims core m) (map pos is) ≡ true

  module _ (scope : Scope) where
    took_inside : (m : ℕ) (args is : List ℕ) (s t : Store) → inside core m args s ≡ went is t → AreThere m is
    took_inside m args is s t h =
        let b = bound _ _ s is t h in
        let within = (was_ensured _ b.value s b.middle b.first).0 in
        let given = (was_pure _ is b.middle t b.later).value in
        subst (λ js. are_inside (dims core m) (map pos js) ≡ true) given (inside_numbers (dims core m) args within)

    read_inside : (ty : Ty) (m : ℕ) (words is : List ℕ) (w : ℕ) (s t : Store) → done_by core scope Read ty (Some m) words s ≡ went (touched is w) t → AreThere m is
    read_inside ty m words is w s t h =
        let b = bound (inside core m words) _ s (touched is w) t h in
        let c = bound (read_in core m b.value) _ b.middle (touched is w) t b.later in
        let p = was_pure (touched b.value c.value) (touched is w) c.middle t c.later in
        subst (AreThere m) (same_indices b.value is c.value w p.value) (took_inside m words b.value s b.middle b.first)

    write_inside : (ty : Ty) (m : ℕ) (words is : List ℕ) (w : ℕ) (s t : Store) → done_by core scope Write ty (Some m) words s ≡ went (touched is w) t → AreThere m is
    write_inside ty m words is w s t h =
        let b = bound (inside core m _) _ s (touched is w) t h in
        let c = bound (write_in core m b.value _) _ b.middle (touched is w) t b.later in
        let p = was_pure (touched b.value _) (touched is w) c.middle t c.later in
        subst (AreThere m) (same_indices b.value is _ w p.value) (took_inside m _ b.value s b.middle b.first)

  -- by the kind of memory
  read_is : (k : Kind) (m : ℕ) (is : List ℕ) (word : ℕ) → AreThere m is → IsInside k (dims core m) is (reads word)
  read_is Sram m is word h = h
  read_is Dram m is word h = h
  read_is Reg m is word h = λ e. absurd (false≢true e)
  read_is Fifo m is word h = λ e. absurd (false≢true e)
  read_is LineBuf m is word h = λ e. absurd (false≢true e)
  read_is ArgIn m is word h = λ e. absurd (false≢true e)
  read_is ArgOut m is word h = λ e. absurd (false≢true e)

  write_is : (k : Kind) (m : ℕ) (is : List ℕ) (word : ℕ) → can_write k ≡ true → AreThere m is → (k ≡ Reg → is ≡ []) → (k ≡ ArgOut → is ≡ []) → IsInside k (dims core m) is (writes word)
  write_is Sram m is word c h a b = h
  write_is Dram m is word c h a b = h
  write_is Reg m is word c h a b = λ e. a refl
  write_is ArgOut m is word c h a b = λ e. b refl
  write_is Fifo m is word c h a b = absurd (false≢true c)
  write_is LineBuf m is word c h a b = absurd (false≢true c)
  write_is ArgIn m is word c h a b = absurd (false≢true c)

  -- a register has no index
  no_index : (around : PlainAround) (ops : List PlainOp) (op : PlainOp) (m : ℕ) (is : List ℕ) (counters : List ℤ) (symbols : ℕ → ℤ) → op.mem ≡ Some m → indices_at core.mems (Some m) ≡ 0 →
      are_known_indices core (patterns_of core) (access_forms core.mems around ops op) (map pos is) counters symbols ≡ true → is ≡ []
  no_index around ops op m is counters symbols names none h =
      no_indices core is counters symbols (subst (λ (xs : List ℕ). are_known_indices core (patterns_of core) (known_after [] (map (λ a. index_form around.ranges (slice_index_or (forms_of core.mems ops op.mask around.places) a None)) xs)) (map pos is) counters symbols ≡ true) nothing h)
    where
      nothing : take (indices_at core.mems op.mem) op.args ≡ []
      nothing = ap (λ (o : Option ℕ). take (indices_at core.mems o) op.args) names ∙ ap (λ n. take n op.args) none ∙ none_taken op.args

act_access : (kind : OpKind) (w : ℕ) (act : Act) → act_of kind w ≡ Some act → is_access kind ≡ true
act_access Read w act e = refl
act_access Write w act e = refl
act_access Enq w act e = refl
act_access Deq w act e = refl
act_access Reset w act e = refl
act_access kind w act e = absurd (cc)

-- what a target of an operation says
writes_so : (k : OpKind) (w : ℕ) (act : Act) → act_of k w ≡ Some act → changes act ≡ true → is_write k ≡ true
writes_so Read w act e h = let same : reads w ≡ act = cc in absurd (false≢true (subst (λ a. changes a ≡ true) (sym same) h))
writes_so k w act e h = refl

forms_so : (core : PlainCore) (k : OpKind) (size : ℕ) (row : Option (List Affine)) (is : List ℕ) (counters : List ℤ) (symbols : ℕ → ℤ) → are_known_indices core (patterns_of core) row (map pos is) counters symbols ≡ true →
    are_known_indices core (patterns_of core) (indices_by [] size row (operand_places k) 0) (map pos is) (counters ++ []) symbols ≡ true
forms_so core Read size row is counters symbols h = subst (λ cs. are_known_indices core (patterns_of core) row (map pos is) cs symbols ≡ true) (sym (append-nil counters)) h
forms_so core Write size row is counters symbols h = subst (λ cs. are_known_indices core (patterns_of core) row (map pos is) cs symbols ≡ true) (sym (append-nil counters)) h
forms_so core k size row is counters symbols h = refl

lengths_so : (k : OpKind) (size : ℕ) (row : Option (List Affine)) → HaveLength size row → HaveLength (size + 0) (indices_by [] size row (operand_places k) 0)
lengths_so Read size row h = subst (λ n. HaveLength n row) (plus_none size) h
  where
    plus_none : (n : ℕ) → n ≡ n + 0
    plus_none n = omega arith
lengths_so Write size row h = subst (λ n. HaveLength n row) (plus_none size) h
  where
    plus_none : (n : ℕ) → n ≡ n + 0
    plus_none n = omega arith
lengths_so k size row h = tt

symbols_so : (core : PlainCore) (k : OpKind) (size : ℕ) (row : Option (List Affine)) → RowHas core row → RowHas core (indices_by [] size row (operand_places k) 0)
symbols_so core Read size row h = h
symbols_so core Write size row h = h
symbols_so core k size row h = tt

module _ (core : PlainCore) (scope : Scope) where
  inside_so : (k : OpKind) (ty : Ty) (m size : ℕ) (row : Option (List Affine)) (words is : List ℕ) (w : ℕ) (act : Act) (from to : Store) → done_by core scope k ty (Some m) words from ≡ went (touched is w) to → can k (kind_of core m) (mem core m).start ≡ true →
      act_of k w ≡ Some act → (kind_of core m ≡ Reg → is ≡ []) → (kind_of core m ≡ ArgOut → is ≡ []) → (fs : List Affine) → indices_by [] size row (operand_places k) 0 ≡ Some fs → IsInside (kind_of core m) (dims core m) is act
  inside_so Read ty m size row words is w act from to d c e a b fs f =
      let same : reads w ≡ act = cc in subst (IsInside (kind_of core m) (dims core m) is) same (read_is core (kind_of core m) m is w (read_inside core scope ty m words is w from to d))
  inside_so Write ty m size row words is w act from to d c e a b fs f =
      let same : writes w ≡ act = cc in subst (IsInside (kind_of core m) (dims core m) is) same (write_is core (kind_of core m) m is w c (write_inside core scope ty m words is w from to d) a b)
  inside_so k ty m size row words is w act from to d c e a b fs f = absurd (cc)

allowed_there : (core : PlainCore) (before : List PlainOp) (op : PlainOp) (after : List PlainOp) → list_all (is_allowed core) (before ++ op ∷ after) ≡ true → is_allowed core op ≡ true
allowed_there core [] op after h = (and_parts (is_allowed core op) (list_all (is_allowed core) after) h).0
allowed_there core (b ∷ before) op after h = allowed_there core before op after (and_parts (is_allowed core b) (list_all (is_allowed core) (before ++ op ∷ after)) h).1

-- the spot of an operation of a list

has_spot : (path : List PlainLevel) (n : ℕ) (before : List PlainOp) (op : PlainOp) (after : List PlainOp) → is_access op.kind ≡ true → Contains (list_spots path n (before ++ op ∷ after)) (record { number = n + length before; path = path; targets = op_targets op.kind op.mem; spans = []; lengths = 0 })
has_spot path n [] op after e =
    subst (λ k. Contains (list_spots path n (op ∷ after)) (record { number = k; path = path; targets = op_targets op.kind op.mem; spans = []; lengths = 0 })) (plus_none n)
    (Contains-append_left (op_spots path n op) (list_spots path (n + 1) after) here (subst (λ b. Contains (if b then here ∷ [] else []) here) (sym e) (0, omega arith, refl)))
  where
    here : PlainSpot
    here = record { number = n; path = path; targets = op_targets op.kind op.mem; spans = []; lengths = 0 }

    plus_none : (n : ℕ) → n ≡ n + 0
    plus_none n = omega arith
has_spot path n (b ∷ before) op after e =
    subst (λ k. Contains (list_spots path n (b ∷ before ++ op ∷ after)) (record { number = k; path = path; targets = op_targets op.kind op.mem; spans = []; lengths = 0 })) (plus_one n (length before))
    (Contains-append_right (op_spots path n b) (list_spots path (n + 1) (before ++ op ∷ after)) _ (has_spot path (n + 1) before op after e))
  where
    plus_one : (n k : ℕ) → (n + 1) + k ≡ n + suc k
    plus_one n k = omega arith

kind_there : (core : PlainCore) (m : ℕ) → nat_lt m (length core.mems) ≡ true → kind_of core m ≡ (mem core m).kind
kind_there core m h = ap (λ b. if b then (mem core m).kind else Dram) h

reg_rank : (core : PlainCore) (m : ℕ) → (mem core m).kind ≡ Reg → indices_at core.mems (Some m) ≡ 0
reg_rank core m e = ap (λ k. rank_of k (length (mem core m).dims)) e

out_rank : (core : PlainCore) (m : ℕ) → (mem core m).kind ≡ ArgOut → indices_at core.mems (Some m) ≡ 0
out_rank core m e = ap (λ k. rank_of k (length (mem core m).dims)) e

did_nothing : {P : Type 0} (indices : List ℕ) (word : ℕ) → left_out ≡ touched indices word → P
did_nothing indices word h = cc

module _ (core : PlainCore) (parts : PartsStand core) (outside : Around) (around : PlainAround) (scope : Scope) (st : Standing) (placed : IsPlaced scope around st.counters) (path : List PlainLevel) (is_around : IsAround path around) where
  record ListOf (n : ℕ) (ops : List PlainOp) (s : Store) (es : List Entry) (t : Store) : Type 0 where
    right : are_operations_right core outside ops ≡ true
    stands : ListStands core n around ops
    spotted : (x : PlainSpot) → Contains (list_spots path n ops) x → Contains (spots core) x
    ran : operations core scope ops s ≡ went es t

  abbrev event_at : ℕ → ℕ → List ℕ → Act → Event
  event_at k m is act = record { number = k; standing = st; mem = m; indices = is; act = act }

  op_touched : (n : ℕ) (before : List PlainOp) (op : PlainOp) (after : List PlainOp) (s t : Store) (es : List Entry) → ListOf n (before ++ op ∷ after) s es t → (is : List ℕ) (w m : ℕ) (act : Act) → slice_index_or es (length before) left_out ≡ touched is w → op.mem ≡ Some m → act_of op.kind w ≡ Some act →
      (u : Store) → holds_of_event core (patterns_of core) (numbered core (n + length before)) (event_at (n + length before) m is act) u ≡ true → IsTouched core u (event_at (n + length before) m is act)
  op_touched n before op after s t es l is w m act entry names acts u holds =
      let access = act_access op.kind w act acts in
      let stand = parts.operation n around before op after l.stands in
      let is_numbered : numbered core (n + length before) ≡ accesses = stand.number ∙ ap (λ b. if b then accesses else plain) access in
      let row_is = stand.form access in
      let size = length (counters_of path) in
      let row = form_at core (patterns_of core) (n + length before) in
      let holds_so : are_known_indices core (patterns_of core) row (map pos is) st.counters (symbol_in core (patterns_of core) u) ≡ true = ap (λ x. holds_of_event core (patterns_of core) x (event_at (n + length before) m is act) u) (sym is_numbered) ∙ holds in
      let row_holds = subst (λ r. are_known_indices core (patterns_of core) r (map pos is) st.counters (symbol_in core (patterns_of core) u) ≡ true) row_is holds_so in
      let allowed = (and_parts (is_allowed_at core op.kind op.mem) _ (allowed_there core before op after (all_allowed core outside (before ++ op ∷ after) [] l.right))).0 in
      let allowed_so = and_parts (nat_lt m (length core.mems)) (can op.kind (mem core m).kind (mem core m).start) (subst (λ (x : Option ℕ). is_allowed_at core op.kind x ≡ true) names allowed) in
      let kind_is = kind_there core m allowed_so.0 in
      let place = at_place core scope before op after [] s es t l.ran in
      let where_is : length place.earlier ≡ length before = place.place ∙ zero-add (length before) in
      let entry_is : place.entry ≡ touched is w = sym place.stands_there ∙ ap (λ k. slice_index_or es k left_out) where_is ∙ entry in
      let here = subst (λ (e : Entry). operation core scope op place.earlier place.from ≡ went e place.to) entry_is place.here in
      record {
        spot = record { number = n + length before; path = path; targets = op_targets op.kind op.mem; spans = []; lengths = 0 };
        has = l.spotted _ (has_spot path n before op after access);
        is_number = refl;
        values = values_around path around scope st.counters is_around placed;
        go_on = is_around.go_on;
        target = record { mem = m; writes = is_write op.kind; places = operand_places op.kind; sizes = [] };
        has_target = subst (λ (o : Option ℕ). Contains (op_targets op.kind o) (record { mem = m; writes = is_write op.kind; places = operand_places op.kind; sizes = [] })) (sym names) (0, omega arith, refl);
        is_mem = refl;
        writes = writes_so op.kind w act acts;
        own = [];
        own_values = tt;
        lengths = lengths_so op.kind size row (subst (λ r. HaveLength size r) (sym row_is) (subst (λ k. HaveLength k (access_forms core.mems around (before ++ op ∷ after) op)) is_around.size (access_have core.mems around (before ++ op ∷ after) op)));
        forms = forms_so core op.kind size row is st.counters (symbol_in core (patterns_of core) u) holds_so;
        symbols = its_symbols core (indices_by [] size row (operand_places op.kind) 0) (symbols_so core op.kind size row (subst (RowHas core) (sym row_is) (access_symbols core around (before ++ op ∷ after) op (all_allowed core outside (before ++ op ∷ after) [] l.right))));
        inside = λ fs known. unmasked core scope (before ++ op ∷ after) op place.earlier (touched is w) place.from place.to here (λ left same. did_nothing is w left)
            (λ d. inside_so core scope op.kind op.ty m size row _ is w act place.from place.to (subst (λ (x : Option ℕ). done_by core scope op.kind op.ty x (map (word_at place.earlier) op.args) place.from ≡ went (touched is w) place.to) names d)
            (ap (λ k. can op.kind k (mem core m).start) kind_is ∙ allowed_so.1) acts
            (λ e. no_index core around (before ++ op ∷ after) op m is st.counters (symbol_in core (patterns_of core) u) names (reg_rank core m (sym kind_is ∙ e)) row_holds)
            (λ e. no_index core around (before ++ op ∷ after) op m is st.counters (symbol_in core (patterns_of core) u) names (out_rank core m (sym kind_is ∙ e)) row_holds) fs known);
      }

  -- the rest of a list, after some of it
  abbrev Onward : Store → List Moment → Type 0
  Onward u ms = hold_in core (patterns_of core) u ms ≡ true → EachIn core (Touches core) u ms

  event_each : (k : ℕ) (m : Option ℕ) (is : List ℕ) (act : Option Act) (rest : List Moment) → ((x : ℕ) (a : Act) → m ≡ Some x → act ≡ Some a → (u : Store) → holds_of_event core (patterns_of core) (numbered core k) (event_at k x is a) u ≡ true → IsTouched core u (event_at k x is a)) →
      ((u : Store) → Onward u rest) → (u : Store) → Onward u (event_of k st m is act ++ rest)
  event_each k None is None rest f g u h = g u h
  event_each k None is (Some act) rest f g u h = g u h
  event_each k (Some m) is None rest f g u h = g u h
  event_each k (Some m) is (Some act) rest f g u h =
      let e = event_at k m is act in
      let a = and_parts (holds_of_event core (patterns_of core) (numbered core k) e u) (hold_in core (patterns_of core) (after_moment core (touches e) u) rest) h in
      (f m act refl refl u a.0, g (after_moment core (touches e) u) a.1)

  entry_each : (k : ℕ) (op : PlainOp) (y : Entry) (rest : List Moment) → ((is : List ℕ) (w x : ℕ) (a : Act) → y ≡ touched is w → op.mem ≡ Some x → act_of op.kind w ≡ Some a → (u : Store) → holds_of_event core (patterns_of core) (numbered core k) (event_at k x is a) u ≡ true → IsTouched core u (event_at k x is a)) →
      ((u : Store) → Onward u rest) → (u : Store) → Onward u (entry_moments k st op.kind op.mem y ++ rest)
  entry_each k op left_out rest f g u h = g u h
  entry_each k op (gave w) rest f g u h = g u h
  entry_each k op (touched is w) rest f g u h = event_each k op.mem is (act_of op.kind w) rest (λ x a names acts. f is w x a refl names acts) g u h

  one_longer : {A : Type 0} (xs : List A) (x : A) → length (xs ++ x ∷ []) ≡ suc (length xs)
  one_longer [] x = refl
  one_longer (y ∷ xs) x = ap suc (one_longer xs x)

  next_number : (n a b : ℕ) → b ≡ suc a → n + b ≡ suc (n + a)
  next_number n a b e = omega (arith, e)

  rest_each : (n : ℕ) (ops : List PlainOp) (s t : Store) (es : List Entry) → ListOf n ops s es t → (before after : List PlainOp) → ops ≡ before ++ after → (done ys : List Entry) → es ≡ done ++ ys → length done ≡ length before → (u : Store) → Onward u (list_moments (n + length before) st after ys)
  rest_each n ops s t es l before [] e done ys f same u h = tt
  rest_each n ops s t es l before (op ∷ after) e done [] f same u h = tt
  rest_each n ops s t es l before (op ∷ after) e done (y ∷ ys) f same u h =
      entry_each (n + length before) op y (list_moments (suc (n + length before)) st after ys)
      (λ is w x a is_touched names acts v k. op_touched n before op after s t es (subst (λ z. ListOf n z s es t) e l) is w x a (stands_there ∙ is_touched) names acts v k)
      (λ v. subst (λ j. Onward v (list_moments j st after ys)) (next_number n (length before) (length (before ++ op ∷ [])) (one_longer before op))
      (rest_each n ops s t es l (before ++ op ∷ []) after (e ∙ sym (append_assoc before (op ∷ []) after)) (done ++ y ∷ []) ys (f ∙ sym (append_assoc done (y ∷ []) ys)) (one_longer done y ∙ ap suc same ∙ sym (one_longer before op)) v)) u h
    where
      stands_there : slice_index_or es (length before) left_out ≡ y
      stands_there = ap (λ z. slice_index_or z (length before) left_out) f ∙ ap (λ j. slice_index_or (done ++ y ∷ ys) j left_out) (sym same) ∙ get_or-append_seam done y ys left_out

  pub list_each : (n : ℕ) (ops : List PlainOp) (s t : Store) (es : List Entry) → are_operations_right core outside ops ≡ true → ListStands core n around ops → ((x : PlainSpot) → Contains (list_spots path n ops) x → Contains (spots core) x) → operations core scope ops s ≡ went es t →
      hold_in core (patterns_of core) s (list_moments n st ops es) ≡ true → EachIn core (Touches core) s (list_moments n st ops es)
  list_each n ops s t es right stands spotted ran h =
      subst (λ k. Onward s (list_moments k st ops es)) (plus_none n) (rest_each n ops s t es (record { right = right; stands = stands; spotted = spotted; ran = ran }) [] ops refl [] es refl refl s) h
    where
      plus_none : (n : ℕ) → n + 0 ≡ n
      plus_none n = omega arith
