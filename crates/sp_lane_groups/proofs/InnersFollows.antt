-- Steps of a core, and steps of its lanes that follow them.
use Rattle.std.proofs.Common.{◌≡◌, ℕ, ◌+◌, ◌<◌, Bool, true, false, ◌&&◌, ◌||◌, List, [], ◌∷◌, ◌++◌, length, Option, Some, None, refl, sym, ◌∙◌, ap, subst, arith, nat_lt}
use Rattle.std.proofs.lemmas.Bool.{and_parts, ltb-true, ne_eqb}
use Rattle.sp_core.specs.Around.{Around, is_port_kind, is_usable}
use Rattle.sp_core.specs.Declarations.{mem, dram_number, is_among}
use Rattle.sp_core.specs.MemoryRules.{are_memories_right}
use Rattle.sp_core.specs.OperationRules.{is_access, can, is_in_range, names_rightly, indices_of, is_mask, is_operation_right, are_operations_right, are_operations_right_after}
use Rattle.sp_core.specs.Operations.{operations}
use Rattle.sp_core.specs.PlainCore.{PlainOp, PlainCore}
use Rattle.sp_core.specs.Scope.{Scope}
use Rattle.sp_core.specs.Step.{Step, went, pure, ◌>>=◌}
use Rattle.sp_core.specs.Store.{Store}
use Rattle.sp_core.specs.Typed.{Given, is_type, given_type, taken_types, give_all}
use Rattle.sp_fitting.specs.Fitting.{StoreFits}
use Rattle.sp_fitting.specs.Laws.{ListsFit}
use Rattle.sp_lanes.specs.Shared.{changes_memory, is_of, does_change}
use Rattle.sp_lanes.specs.Unrolled.{unrolled}
use Rattle.sp_lanes.specs.Within.{Within, ops_in}
use Rattle.sp_lane_rules.specs.UnrolledPlaces.{GoTogether}
use Rattle.sp_lane_groups.specs.LiveStores.{AreCopies, HaveRoom, LeavesOthers, ScopesAgree, ArePlain}
use Rattle.sp_lane_groups.proofs.LiveAlong.{answer_of, store_of}
use Rattle.sp_lane_groups.proofs.LiveOperations.{list_goes}
use Rattle.sp_lane_groups.proofs.Renewed.{bind_known, bind_split}
use Rattle.sp_lane_groups.proofs.RunsWhole.{run_leaves}
use Rattle.sp_lane_groups.specs.InnersAlong.{AgreeAt}

past : (m n r : ℕ) → m < n → m ≡ n + r → ⊥
past m n r lt e = omega (arith, lt, e)

module _ (core : PlainCore) (around : Around) where
  abbrev Names : Option ℕ → Type 0
  Names None = Unit {0}
  Names (Some m) = is_usable core around m ≡ true

  named_right_here : (op : PlainOp) (earlier : Given) → is_operation_right core around earlier op ≡ true → Names op.mem
  named_right_here op earlier e =
      let a = and_parts (is_in_range op.kind op.ty around && names_rightly core around op.kind op.ty op.mem) (give_all earlier op.args (taken_types op.kind op.ty (indices_of core around op.mem)) && is_mask core around earlier op.mask) e in
      by op.mem (and_parts (is_in_range op.kind op.ty around) (names_rightly core around op.kind op.ty op.mem) a.0).1
    where
      by : (m : Option ℕ) → names_rightly core around op.kind op.ty m ≡ true → Names m
      by None n = tt
      by (Some m) n =
          (and_parts (is_access op.kind) (is_usable core around m) (and_parts (is_access op.kind && is_usable core around m) (can op.kind (mem core m).kind (mem core m).start && is_type op.ty (mem core m).ty) n).0).1

  -- a list changes no DRAM
  pub no_change : (ops : List PlainOp) (earlier : Given) (r : ℕ) → are_operations_right_after core around earlier ops ≡ true → does_change ops (dram_number core r) ≡ false
  no_change [] earlier r e = refl
  no_change (op ∷ ops) earlier r e =
      let a = and_parts (is_operation_right core around earlier op) (are_operations_right_after core around (earlier ++ given_type op.kind op.ty ∷ []) ops) e in
      neither (changes_memory op.kind) (is_of op.mem (dram_number core r)) (does_change ops (dram_number core r)) (other op.mem (named_right_here op earlier a.0)) (no_change ops (earlier ++ given_type op.kind op.ty ∷ []) r a.1)
    where
      neither : (a b c : Bool) → b ≡ false → c ≡ false → ((a && b) || c) ≡ false
      neither true b c e f = ap (λ x. x || c) e ∙ f
      neither false b c e f = f

      other : (m : Option ℕ) → Names m → is_of m (dram_number core r) ≡ false
      other None u = refl
      other (Some m) u = ne_eqb m (dram_number core r) (λ i. past m (length core.mems) r (ltb-true m (length core.mems) (and_parts (nat_lt m (length core.mems)) (is_port_kind (mem core m).kind || is_among m around.owned) u).0) i)

  -- a memory that may be used stands for no DRAM
  pub no_copy : (inside : Around) (w : Within) → GoTogether core (unrolled core) around inside w → (m r : ℕ) → is_usable core around m ≡ true → w.number m ≡ dram_number (unrolled core) r → ⊥
  no_copy inside w h m r u i =
      past (w.number m) (length (unrolled core).mems) r
      (ltb-true (w.number m) (length (unrolled core).mems) (and_parts (nat_lt (w.number m) (length (unrolled core).mems)) (is_port_kind (mem (unrolled core) (w.number m)).kind || is_among (w.number m) inside.owned) (h.memories m u).0).0) i

-- by the place, what is said of what lanes leave
module _ (core : PlainCore) (around : Around) (w : Within) (Left : Store → Store → Type 0) (none : (t : Store) → Left t t) (both : (t u v : Store) → Left t u → Left u v → Left t v) where
  pub record Followed {A B : Type 0} (R : A → B → Type 0) (two : Step B) (t : Store) (a : A) (after : Store) : Type 0 where
    pub answer : B
    pub ended : Store
    pub ran : two t ≡ went answer ended
    pub agree : AgreeAt core around w after ended
    pub left : Left t ended
    pub fits : StoreFits core after
    pub related : R a answer

  -- wherever the one goes on, from stores that agree, the other one does
  abbrev pub Follows : {A B : Type 0} (R : A → B → Type 0) → Step A → Step B → Type 0
  Follows {A} {B} R one two = (s t after : Store) (a : A) → StoreFits core s → AgreeAt core around w s t → one s ≡ went a after → Followed R two t a after

  pub pure_follows : {A B : Type 0} (R : A → B → Type 0) (a : A) (b : B) → R a b → Follows R (pure a) (pure b)
  unfolding pure
  pure_follows R a b r s t after c fits agree e = record {
    answer = b;
    ended = t;
    ran = refl;
    agree = subst (λ (u : Store). AgreeAt core around w u t) (ap (store_of s) e) agree;
    left = none t;
    fits = subst (StoreFits core) (ap (store_of s) e) fits;
    related = subst (λ x. R x b) (ap (answer_of a) e) r;
  }

  pub bind_follows : {A B C D : Type 0} (R : A → B → Type 0) (S : C → D → Type 0) (P : Step A) (Q : Step B) (F : A → Step C) (G : B → Step D) → Follows R P Q → ((a : A) (b : B) → R a b → Follows S (F a) (G b)) → Follows S (P >>= F) (Q >>= G)
  bind_follows R S P Q F G f g s t after c fits agree e =
      let r = bind_split P F s after c e in
      let x : Followed R Q t r.0 r.1 = f s t r.1 r.0 fits agree r.2 in
      let y : Followed S (G x.answer) x.ended c after = g r.0 x.answer x.related r.1 x.ended after c x.fits x.agree r.3 in
      record {
        answer = y.answer;
        ended = y.ended;
        ran = bind_known Q G t x.ended x.answer x.ran ∙ y.ran;
        agree = y.agree;
        left = both t x.ended y.ended x.left y.left;
        fits = y.fits;
        related = y.related;
      }

  -- with the same answer
  abbrev pub Same : {A : Type 0} → A → A → Type 0
  Same a b = b ≡ a

  pub bind_same : {A C D : Type 0} (S : C → D → Type 0) (P Q : Step A) (F : A → Step C) (G : A → Step D) → Follows Same P Q → ((a : A) → Follows S (F a) (G a)) → Follows S (P >>= F) (Q >>= G)
  bind_same S P Q F G f g = bind_follows Same S P Q F G f (λ a b e. subst (λ x. Follows S (F a) (G x)) (sym e) (g a))

  -- lists of operations
  module _ (inside : Around) (together : GoTogether core (unrolled core) around inside w) (copies : AreCopies core around w) (rooms : HaveRoom core around w (unrolled core)) (plain in_lanes : Scope) (agree : ScopesAgree w plain in_lanes)
      (from_others : (t ended : Store) → LeavesOthers core around w t ended → Left t ended) (memories : are_memories_right core ≡ true) (lists : ListsFit core) where
    pub list_follows : (ops : List PlainOp) → ArePlain ops → are_operations_right core around ops ≡ true → Follows Same (operations core plain ops) (operations (unrolled core) in_lanes (ops_in w ops))
    list_follows ops p right s t after es fits alike ran =
        let x = list_goes core around inside w together copies rooms plain in_lanes agree ops [] [] p right s t alike.memories es after ran in
        record {
          answer = es;
          ended = x.0;
          ran = x.1;
          agree = record {
            memories = x.2;
            drams = λ r. x.3 (dram_number (unrolled core) r) (λ m u i. no_copy core around inside w together m r u i) ∙ alike.drams r
                ∙ sym (run_leaves core plain ops [] s es after (dram_number core r) (no_change core around ops [] r right) ran);
          };
          left = from_others t x.0 x.3;
          fits = (lists around plain ops s after es memories right fits ran).left;
          related = refl;
        }
